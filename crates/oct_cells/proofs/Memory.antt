-- What the proofs of the functions with pointers share. Assumes `Logic`.
use mathlib.Core.Path.{◌≡◌, refl, ap, ◌∙◌}
use Prim.Native.Nat.{ℕ, zero, suc, ◌+◌, ◌*◌, ◌<◌}
use native.Mathlib.Omega.{arith}
use native.Mathlib.Nat.{zero-mul, suc-mul}
use mathlib.Core.List.{List, [], ◌∷◌, ◌++◌}
use lib.ListN.{length, set, get_or, replicate}
use seplogic.Ra.Ura.{Ura}
use base.Fraction.{full_share}
use mir.Syntax.{ty_array}
use mir.Val.{Val, vstruct, vcons, vnil, of_list}
use base.Logic.{ent, sep, emp, via, snd∗}
use base.Fml.{Fml, Lft, ftrue, fsep, fat, froom}
use types.Logic.{Logic, sem}
use types.Kit.{Item, Goal, Seq, Step, step, ‵, some, ◌⊛◌, ◌$◌, ◌∵◌, !, qed, by, move, keep}
use types.Kit.{drop as skip, use1, use2, pick, split, frame, fsplit, fjoin, fpick, fpack, feq_i}
use types.Kit.{feq_l, rewrite, done}
use denote.RattleType.{RattleType, Valss}
use denote.Laws.{Is, shows}
use denote.RawPtr.{Ptr, RawPtr, ptr_val}
use denote.Shadow.{makes_shadow}
use denote.Steps.{nothing, peeks}
use denote.Struct.Struct.{Shape, Struct, within}
use denote.Struct.Owning.{shape}
use borrow.Table.OneValue.{part_in, part_out}
use Rattle.std.specs.Prelude.{Option, Some, None}
use Rattle.std.specs.Mem.{type_size}
use Rattle.std.proofs.mem.Param.{El, R, el_x, elτ, Good, one, lawful}
use Rattle.std.proofs.RcSteps.{word}
use Rattle.oct_cells.specs.Ownership.{cell_owned, cells_owned, cell_lent, cells_lent}
use Rattle.oct_cells.specs.contracts.cells.Cells as cells
use Rattle.oct_cells.specs.contracts.cells.Address as address

module _ (E : El) where
  abbrev pub CellsRow : RattleType
  CellsRow = cells.the_row (R E)

  abbrev pub AddressRow : RattleType
  AddressRow = address.the_row (R E)

  -- the one field of `Cells`, which takes no bytes
  abbrev pub Mark : RattleType
  Mark = Struct (shape (cells.the_type (R E)))

  abbrev pub bytes : ℕ
  bytes = type_size (R E)

  abbrev pub Cell : Type 0
  Cell = Option (el_x E)

abbrev only_a_pointer : Shape
only_a_pointer = record { name = []; args = []; types = []; fields = RawPtr ∷ [] }

abbrev Word : RattleType
Word = Struct only_a_pointer

abbrev pub mark : Val
mark = vstruct (vcons (vstruct vnil) vnil)

pub mark_made : (E : El) {M : Type 1} {𝓤 : Ura M} (𝓛 : Logic 𝓤)
    → ent 𝓤 (emp 𝓤) (sem 𝓛 ((Mark E).own_val (tt, tt) (mark ∷ [])))
mark_made E 𝓛 =
    makes_shadow 𝓛 ((Mark E).own_val (tt, tt) (mark ∷ [])) (λ vss. (tt, ((λ uss. (tt, tt)), tt)))
    ((vstruct vnil ∷ [], tt), (refl, ((tt, (refl, tt)), tt)))

one_value : (vs us : List Val) (v : Val) → vs ≡ vstruct (of_list (us ++ [])) ∷ [] → us ≡ v ∷ []
    → vs ≡ vstruct (vcons v vnil) ∷ []
one_value vs us v is e = is ∙ ap (λ ws. vstruct (of_list (ws ++ [])) ∷ []) e

-- the machine values of an address and of a mark
module _ {M : Type 1} {𝓤 : Ura M} {𝓛 : Logic 𝓤} {K : Type 0} {Γ : List (Item 𝓤)} {G : Goal 𝓤 𝓛.H}
    (t : K) where
  pub has_word : (p : Ptr) (vs : List Val) → (vs ≡ word p ∷ [] → Seq K 𝓛 Γ G)
      → Seq K 𝓛 (‵ (Word.own_val (p, tt) vs) ∷ Γ) G
  has_word p vs then =
      fpick t
      (λ vss. fsplit t $
      feq_l t
      (λ is. fsplit t $
      feq_l t (λ e. skip t $ then (one_value vs vss.0 (ptr_val p) is e))))

  pub has_mark : (E : El) (vs : List Val) → (vs ≡ mark ∷ [] → Seq K 𝓛 Γ G)
      → Seq K 𝓛 (‵ ((Mark E).own_val (tt, tt) vs) ∷ Γ) G
  has_mark E vs then =
      fpick t
      (λ vss. fsplit t $
      feq_l t
      (λ is. fsplit t $
      fpick t
      (λ uss. fsplit t $
      feq_l t
      (λ e. skip t $ skip t $
      then (one_value vs vss.0 (vstruct vnil) is e)))))

  pub word_made : (p : Ptr) → Step K 𝓛 (‵ (Word.own_val (p, tt) (word p ∷ [])) ∷ Γ) G Γ G
  word_made p = step (λ s.
      nothing t $ feq_i t (List Val) (ptr_val p ∷ []) (ptr_val p ∷ []) refl $ fjoin t $
      feq_i t (List Val) (word p ∷ []) (word p ∷ []) refl $ fjoin t $
      fpack t (Valss (RawPtr ∷ [])) (within only_a_pointer (p, tt) (word p ∷ []))
      (ptr_val p ∷ [], tt) $
      s)

  -- what is owned of a value is one machine value, of its type
  pub has_value : (E : El) (x : el_x E) (vs : List Val)
      → ((v : Val) → vs ≡ v ∷ [] → Good E v → Seq K 𝓛 (‵ ((R E).own_val x (v ∷ [])) ∷ Γ) G)
      → Seq K 𝓛 (‵ ((R E).own_val x vs) ∷ Γ) G
  has_value E x vs then =
      peeks t (R E) (Is (R E)) (shows 𝓛 (R E)) x vs (λ is.
      let v = one E vs ((lawful E 𝓛).typed x vs is) in
      rewrite t 0 (λ (us : List Val). ‵ ((R E).own_val x us)) v.1 refl $ then v.0 v.1 v.2)

pub value_within : {X : Type 0} (cs : List (Option X)) (i : ℕ) (x : X) → get_or cs i None ≡ Some x
    → i < length cs
value_within [] i x e = cc
value_within (c ∷ cs) zero x e = omega arith
value_within (c ∷ cs) (suc i) x e = omega (arith, value_within cs i x e)

module _ (E : El) {M : Type 1} {𝓤 : Ura M} (𝓛 : Logic 𝓤) (b : ℕ) where
  open 𝓛 use {H}

  abbrev s : ℕ
  s = bytes E

  abbrev cell : ℕ → Cell E → Fml
  cell = cell_owned (R E) b

  abbrev row : ℕ → List (Cell E) → Fml
  row = cells_owned (R E) b

  -- the cells but for cell i
  abbrev pub others : ℕ → List (Cell E) → ℕ → Fml
  others o [] i = ftrue
  others o (c ∷ cs) zero = row (o + s) cs
  others o (c ∷ cs) (suc i) = fsep (cell o c) (others (o + s) cs i)

  -- cell i is taken out, and put back with other content
  pub taken_out : (cs : List (Cell E)) (i o at : ℕ) → at ≡ i * s + o → i < length cs
      → ent 𝓤 (sem 𝓛 (row o cs))
      (sep 𝓤 (sem 𝓛 (cell at (get_or cs i None))) (sem 𝓛 (others o cs i)))
  taken_out [] i o at e lt = absurd (omega arith)
  taken_out (c ∷ cs) zero o at e lt =
      let here : o ≡ at = omega (arith, zero-mul s) in
      qed 𝓛 (‵ (row o (c ∷ cs)) ∷ []) ∵ fsplit ! $ rewrite ! 0 (λ (k : ℕ). ‵ (cell k c)) here refl $
      done !
  taken_out (c ∷ cs) (suc i) o at e lt =
      qed 𝓛 (‵ (row o (c ∷ cs)) ∷ []) ∵ fsplit ! $ move ! (1 ∷ []) $
      use1 𝓛 (‵ (cell at (get_or cs i None)) ⊛ ‵ (others (o + s) cs i))
      (taken_out cs i (o + s) at (omega (arith, suc-mul i s)) (omega arith)) $
      split ! $ move ! (2 ∷ 1 ∷ []) $ fjoin ! $ move ! (1 ∷ []) $ done !

  pub put_back : (cs : List (Cell E)) (i o at : ℕ) (c : Cell E) → at ≡ i * s + o → i < length cs
      → ent 𝓤 (sep 𝓤 (sem 𝓛 (cell at c)) (sem 𝓛 (others o cs i))) (sem 𝓛 (row o (set cs i c)))
  put_back [] i o at c e lt = absurd (omega arith)
  put_back (d ∷ cs) zero o at c e lt =
      let here : at ≡ o = omega (arith, zero-mul s) in
      qed 𝓛 (‵ (cell at c) ∷ ‵ (others o (d ∷ cs) zero) ∷ []) ∵
      rewrite ! 0 (λ (k : ℕ). ‵ (cell k c)) here refl $ fjoin ! $ done !
  put_back (d ∷ cs) (suc i) o at c e lt =
      qed 𝓛 (‵ (cell at c) ∷ ‵ (others o (d ∷ cs) (suc i)) ∷ []) ∵ move ! (1 ∷ []) $ fsplit ! $
      move ! (2 ∷ 1 ∷ []) $
      use2 𝓛 (‵ (row (o + s) (set cs i c)))
      (put_back cs i (o + s) at c (omega (arith, suc-mul i s)) (omega arith)) $
      move ! (1 ∷ 0 ∷ []) $ fjoin ! $ done !

  -- a value gets a place in memory, and leaves it
  pub value_in : (x : el_x E) (o : ℕ) (v : Val)
      → ent 𝓤 (sep 𝓤 (H.at full_share (elτ E) b o v) (sem 𝓛 ((R E).own_val x (v ∷ []))))
      (sem 𝓛 (cell o (Some x)))
  value_in x o v = part_in 𝓛 (R E) refl full_share x b o v

  room_of : (o : ℕ) (c : Cell E) → ent 𝓤 (sem 𝓛 (cell o c)) (H.room (elτ E) b o)
  room_of o None = qed 𝓛 (‵ (cell o None) ∷ []) ∵ by ! (𝓛.laws.raw-room (elτ E) b o)
  room_of o (Some x) =
      qed 𝓛 (‵ (cell o (Some x)) ∷ []) ∵
      use1 𝓛 (some (λ (v : Val). ‵ (fat full_share (elτ E) b o v) ⊛ ‵ ((R E).own_val x (v ∷ []))))
      (part_out 𝓛 (R E) refl full_share x b o) $
      pick ! (λ v. split ! $ keep ! (0 ∷ []) $ by ! (𝓛.laws.at_room (elτ E) b o v))

  -- room for an array is a row of empty cells, and a row is room whatever it has
  pub empty_row : (n o : ℕ)
      → ent 𝓤 (H.room (ty_array (elτ E) n) b o) (sem 𝓛 (row o (replicate n None)))
  empty_row zero o = qed 𝓛 (‵ (froom (ty_array (elτ E) 0) b o) ∷ []) ∵ keep ! [] $ done !
  empty_row (suc n) o =
      qed 𝓛 (‵ (froom (ty_array (elτ E) (suc n)) b o) ∷ []) ∵
      use1 𝓛 (‵ (froom (elτ E) b o) ⊛ ‵ (froom (ty_array (elτ E) n) b (o + s)))
      (𝓛.laws.room_uncons (elτ E) n b o) $
      split ! $
      use1 𝓛 (‵ (cell o None)) (𝓛.laws.room-raw (elτ E) b o) $ frame ! $ by ! (empty_row n (o + s))

  pub row_room : (cs : List (Cell E)) (o : ℕ)
      → ent 𝓤 (sem 𝓛 (row o cs)) (H.room (ty_array (elτ E) (length cs)) b o)
  row_room [] o = 𝓛.laws.room_nil (elτ E) b o
  row_room (c ∷ cs) o =
      qed 𝓛 (‵ (cell o c) ∷ ‵ (row (o + s) cs) ∷ []) ∵
      use1 𝓛 (‵ (froom (elτ E) b o)) (room_of o c) $ move ! (1 ∷ []) $
      use1 𝓛 (‵ (froom (ty_array (elτ E) (length cs)) b (o + s))) (row_room cs (o + s)) $
      move ! (1 ∷ []) $ by ! (𝓛.laws.room_cons (elτ E) (length cs) b o)

  -- what is lent of cell i
  pub seen : (κ : Lft) (cs : List (Cell E)) (i o at : ℕ) → at ≡ i * s + o → i < length cs
      → ent 𝓤 (sem 𝓛 (cells_lent (R E) b o cs κ))
      (sem 𝓛 (cell_lent (R E) b at (get_or cs i None) κ))
  seen κ [] i o at e lt = absurd (omega arith)
  seen κ (c ∷ cs) zero o at e lt =
      let here : o ≡ at = omega (arith, zero-mul s) in
      qed 𝓛 (‵ (cells_lent (R E) b o (c ∷ cs) κ) ∷ []) ∵ fsplit ! $
      rewrite ! 0 (λ (k : ℕ). ‵ (cell_lent (R E) b k c κ)) here refl $ keep ! (0 ∷ []) $ done !
  seen κ (c ∷ cs) (suc i) o at e lt =
      via 𝓤 (sem 𝓛 (cells_lent (R E) b (o + s) cs κ))
      (snd∗ 𝓤 (sem 𝓛 (cell_lent (R E) b o c κ)) (sem 𝓛 (cells_lent (R E) b (o + s) cs κ)))
      (seen κ cs i (o + s) at (omega (arith, suc-mul i s)) (omega arith))
