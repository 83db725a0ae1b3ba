-- `allocate` makes empty cells of a new block, and keeps the right to
-- give it back. Assumes `Logic`.
use mathlib.Core.Path.{◌≡◌, refl, sym, ap, subst}
use mathlib.Core.Bool.{true, false}
use Prim.Native.Nat.{ℕ, ◌*◌, ◌<◌, ◌^◌}
use native.Mathlib.Omega.{arith}
use mathlib.Core.List.{List, [], ◌∷◌, ◌++◌}
use lib.Dec.{lit<}
use lib.ListN.{length, replicate, length-replicate}
use seplogic.Ra.Ura.{Ura}
use mir.Syntax.{Fn, Body, named, w64, ty_array}
use mir.MapTy.{inst_fn}
use mir.Val.{Val, vptr, vint, vstruct, vcons, vnil}
use base.Logic.{SProp, ent}
use base.Fml.{Lft, Share, ftrue, flft, Incl-trans}
use prog.Memory.{Memory, align, capped}
use prog.Capped.{capped_fits}
use prog.Routine.{Routine}
use prog.Wp.{Env, Calls, Loops, Wp, WpFn, after_seq, at_return}
use types.Logic.{Logic, sem}
use contract.Monad.{Fun, fact}
use contract.Running.{tables}
use contract.BorrowLft.{◌⊑◌}
use sound.WpLaws.{FmC}
use denote.Triple.Table.{framed}
use types.Kit.{Item, Post as After, any_q, ⋆, ‵, raw, ◌⊛◌, later, await, at_ret, ◌$◌, ◌∵◌, !, qed}
use types.Kit.{by, move, keep, use0, use1, use2, use3, split, join, fsplit, fjoin, feq_i, feq_l}
use types.Kit.{flt_l, flt_i, suffices, frame, done}
use types.Part.{whole, agg}
use types.Match.{live, vrt, in_variant}
use types.Run.{stop, fld, lit, of_opd, bin, size_word, align_word, switches_on, and_then, no_more}
use types.Run.{first, exec, returns, enter}
use types.ByLocal.{alloc_all, pass_all, free_all, look_at, get, get_in, get_tag, sets, sets_last}
use types.ByLocal.{lands_as, is, env}
use denote.Exit.{yes}
use denote.Laws.{Is}
use denote.RattleType.{RattleType, owns}
use denote.Memory.{hidden_shr}
use denote.Param.{layout}
use denote.RawPtr.{Ptr, block_ptr}
use denote.Ref.{ShrRef}
use denote.Builtin.{usize, RefOf}
use denote.Signature.{plain}
use denote.Steps.{nothing, owned, heard}
use denote.Struct.Struct.{Struct, Struct-Makes, within}
use denote.Struct.Declared as Declared
use denote.Struct.Tuple.{Tuple, tuple_type}
use denote.RattleType.{Valss}
use types.Kit.{fpack}
use denote.Triple.Call.{calls_at}
use denote.Triple.Clauses.{Clauses, Ended}
use denote.Triple.Statement.{Triple}
use denote.Triple.Walked.{says, Stays, stay_dropped, walk_of, ends_at, Goes-dropped}
use Rattle.std.specs.Prelude.{None, Ok, Err, IfOk}
use Rattle.std.specs.Vec.Ownership.{FitsInBlock}
use Rattle.std.specs.contracts.result.Result as result
use Rattle.std.specs.contracts.alloc.AllocError as refusal
use Rattle.std.proofs.raw_atomic.Walks.{proved_at}
use Rattle.std.proofs.alloc.Calls.{Al, Answer-typed, takes_key, Takes, at_takes, Answered}
use Rattle.std.proofs.alloc.Calls.{Takes-goes, Takes-gives, answers}
use Rattle.std.proofs.VecSteps.Shapes.{after, head, arm_body}
use Rattle.std.proofs.RcSteps.{word, word-Good, Good, first_Good}
use Rattle.std.proofs.ResultValues.{ok_of, err_of}
use Rattle.std.proofs.RawLayout.{as_written}
use Rattle.std.proofs.mem.Param.{El, R, elτ}
use Rattle.oct_cells.specs.Ownership.{cells_owned}
use Rattle.oct_cells.proofs.Blocks.{whole_size, block, block_size, block_align, both_args, AllocRow}
use Rattle.oct_cells.proofs.Memory.{CellsRow, AddressRow, Mark, bytes, mark, mark_made, word_made}
use Rattle.oct_cells.proofs.Memory.{empty_row}
use Rattle.oct_cells.specs.contracts.cells.Grant as grant
use Rattle.oct_cells.specs.contracts.cells.allocate as f
use Rattle.oct_cells.proofs.cells.allocate.Statement.{statement}
use Rattle.oct_cells.proofs.cells.allocate.Code as code

module _ (E : El) (Z : Al) where
  abbrev function : Fn
  function = inst_fn (both_args E Z) code.function

  abbrev ended : Ended
  ended = f.ended E.row Z.row Z.g Z.d Z.drops

  abbrev stayed : Stays ended.signature.params ended.kept
  stayed = (
    stay_dropped (RefOf (0 ∷ []) tt (plain (λ _. AllocRow E Z)) (λ _. tt)) yes,
    (stay_dropped (plain (λ _. usize)) yes, tt),
  )

  abbrev GrantRow : RattleType
  GrantRow = grant.the_row (R E) (AllocRow E Z) Z.g

  abbrev Three : RattleType
  Three = Tuple (AddressRow E ∷ CellsRow E ∷ GrantRow ∷ [])

  abbrev Out : RattleType
  Out = result.the_row Three refusal.the_row

  -- the answer is what the contract says
  abbrev IsNew : Z.row.Denot → ℕ → Out.Denot → Type 0
  IsNew a n r =
      IfOk r
      (λ t. (t.1.at ≡ t.0.ptr) × (t.1.values ≡ replicate n None) × (t.2.at ≡ t.0.ptr)
      × (t.2.count ≡ n) × (t.2.alloc ≡ a))

-- the value of address, cells and grant
abbrev three_val : Val → Val → Val → Val
three_val u v w = vstruct (vcons u (vcons v (vcons w vnil)))

three_made : {M : Type 1} {𝓤 : Ura M} (𝓛 : Logic 𝓤) (R S T : RattleType) (x : R.Denot) (y : S.Denot)
    (z : T.Denot) (u v w : Val)
    → ent 𝓤
    (⋆ 𝓛 (‵ (R.own_val x (u ∷ [])) ∷ ‵ (S.own_val y (v ∷ [])) ∷ ‵ (T.own_val z (w ∷ [])) ∷ []))
    (sem 𝓛 ((Tuple (R ∷ S ∷ T ∷ [])).own_val (x, y, z) (three_val u v w ∷ [])))
three_made 𝓛 R S T x y z u v w =
    qed 𝓛 (‵ (R.own_val x (u ∷ [])) ∷ ‵ (S.own_val y (v ∷ [])) ∷ ‵ (T.own_val z (w ∷ [])) ∷ []) ∵
    nothing ! $ move ! (3 ∷ 0 ∷ []) $ fjoin ! $ move ! (2 ∷ 0 ∷ []) $ fjoin ! $
    move ! (1 ∷ 0 ∷ []) $ fjoin ! $
    feq_i ! (List Val) (three_val u v w ∷ []) (three_val u v w ∷ []) refl $ fjoin ! $
    fpack ! (Valss (R ∷ S ∷ T ∷ []))
    (within (Declared.shape (tuple_type (R ∷ S ∷ T ∷ []))) (x, (y, (z, tt)))
    (three_val u v w ∷ []))
    (u ∷ [], (v ∷ [], (w ∷ [], tt))) $
    done !

module _ (E : El) (Z : Al) {M : Type 1} {𝓤 : Ura M} (𝓛 : Logic 𝓤) (at_mem : Memory → SProp 𝓤)
    (run : Routine → Fun 𝓤) (C : Calls 𝓤 𝓛.H) (Λ : Loops 𝓤 𝓛.H) (fm : FmC 𝓤 𝓛.H 𝓛.laws C)
    (callee : Triple 𝓤 (C (takes_key Z)) (Takes Z 𝓛 at_mem run)) (Post : Val → SProp 𝓤)
    (κ κ₁ κ₂ : Lft) (q q₁ q₂ : Share) (lives : κ ⊑ Z.row.lives) (rb ro : ℕ) (a : Z.row.Denot)
    (n : ℕ) where
  open 𝓛 use {H}

  abbrev Tokens : List (Item 𝓤)
  Tokens = ‵ (flft κ q) ∷ (‵ (flft κ₁ q₁) ⊛ ‵ (flft κ₂ q₂) ⊛ ‵ ftrue) ∷ []

  abbrev Had : List (Item 𝓤)
  Had = ‵ (hidden_shr (AllocRow E Z) κ a rb ro) ∷ Tokens

  walk : FitsInBlock (R E) n → n < 2 ^ 64
      → ((r : (Out E Z).Denot) (v : Val) → IsNew E Z a n r
      → ent 𝓤 (⋆ 𝓛 (‵ ((Out E Z).own_val r (v ∷ [])) ∷ Tokens)) (Post v))
      → ent 𝓤 (⋆ 𝓛 Had) (WpFn 𝓤 H C Λ (function E Z) (vptr rb ro ∷ vint w64 n ∷ []) Post)
  walk asked fits leaves =
      let s = bytes E in
      let few : n * s < 2 ^ 63 = asked.0 in
      let fit : n * s < 2 ^ 64 = omega arith in
      qed 𝓛 Had ∵ enter ! C Λ (function E Z) (vptr rb ro ∷ vint w64 n ∷ []) _ $
      alloc_all ! (λ l. pass_all ! refl ((tt, tt), ((tt, record { fits = fits }), tt)) $
      let En : Env 𝓤 H = env (function E Z).locals l in
      let both : Body = head (after 2 (function E Z).body) in
      let Then : After 𝓤 H =
      any_q
      (after_seq 𝓤 H (Wp 𝓤 H C Λ En (after 3 (function E Z).body) (at_return 𝓤 H En Post))
      (at_return 𝓤 H En Post)) in
      let al : ℕ = capped (align (elτ E)) in
      let y : (Takes Z 𝓛 at_mem run).Ghost =
      at_takes Z 𝓛 at_mem run κ q (rb, ro) a (n * s) al (block E n) in
      sets ! (is ! (bin ! (get ! refl) (size_word !)
      (record { fits = subst (λ (k : ℕ). k < 2 ^ 64) (sym (whole_size n s fit)) fit }))
      (ap (vint w64) (whole_size n s fit)))
      refl (tt, record { fits = fit }) $
      use2 𝓛 (raw ((Takes Z 𝓛 at_mem run).pre y))
      (Takes-goes Z 𝓛 at_mem run κ q (rb, ro) a lives (n * s) al (block E n)
      (block_size E n fit) (block_align E n) fit (capped_fits (align (elτ E)))) $
      calls_at ! fm (Takes Z 𝓛 at_mem run) callee y
      (and_then ! (get ! refl)
      (and_then ! (get ! refl) (and_then ! (align_word !) (no_more !))))
      (λ v.
      use1 𝓛 (later (raw (Answered Z 𝓛 at_mem run a (block E n) v) ⊛ ‵ (flft κ q)))
      (Takes-gives Z 𝓛 at_mem run κ q (rb, ro) a (n * s) al (block E n) v) $
      await ! tt $ split ! $
      answers Z ! at_mem run a (block E n) v
      -- a new block
      (λ b o e.
      let p : Ptr = block_ptr b o in
      let address : (AddressRow E).Denot = record { ptr = p } in
      let cells : (CellsRow E).Denot = record {
        mark = record {};
        at = p;
        values = replicate n None;
      } in
      let right : (GrantRow E Z).Denot = record {
        mark = record {};
        at = p;
        count = n;
        alloc = a;
      } in
      let made : Val = three_val (word p) mark mark in
      let typed : Good (layout (Three E Z)) made =
      (tt, ((tt, tt), ((tt, tt), ((tt, tt), tt)))) in
      let ok = first_Good (layout (Three E Z)) made typed in
      lands_as ! e refl (Answer-typed true b o) $ first ! $
      switches_on ! (get_tag ! (vrt ! refl (fld ! refl (stop !))) (whole !)) $
      exec ! C Λ En (arm_body 0 both) Then $
      sets ! (of_opd ! (get_in ! (vrt ! refl (fld ! refl (stop !)))
      (in_variant ! 0 0 refl refl (whole !))))
      refl (tt, tt) $
      sets ! (of_opd ! (get ! refl)) refl (tt, tt) $
      sets ! (agg ! (and_then ! (get ! refl) (no_more !))) refl (word-Good [] p) $
      sets ! (agg ! (no_more !)) refl (tt, tt) $
      sets ! (agg ! (and_then ! (get ! refl) (no_more !))) refl (tt, (tt, tt)) $
      sets ! (agg ! (no_more !)) refl (tt, tt) $
      sets ! (agg ! (and_then ! (get ! refl) (no_more !))) refl (tt, (tt, tt)) $
      sets ! (agg ! (and_then ! (get ! refl)
      (and_then ! (get ! refl) (and_then ! (get ! refl) (no_more !)))))
      refl typed $
      sets_last ! (agg ! (and_then ! (lit ! tt) (and_then ! (get ! refl) (no_more !)))) refl
      ok $
      exec ! C Λ En (after 3 (function E Z).body) (at_ret En Post) $
      sets ! (of_opd ! (get ! refl)) refl ok $
      -- [the room; the right to give it back; the tokens]
      move ! (1 ∷ []) $ use0 𝓛 (‵ ((Mark E).own_val (tt, tt) (mark ∷ []))) (mark_made E 𝓛) $
      fjoin ! $ move ! (1 ∷ []) $
      as_written ! (ty_array (elτ E) n) b o $
      use1 𝓛 (‵ (cells_owned (R E) b o cells.values)) (empty_row E 𝓛 b n o) $
      flt_i ! (length cells.values * s) (2 ^ 63)
      (subst (λ k. k * s < 2 ^ 63) (sym (length-replicate n None)) few) $
      fjoin ! $
      use0 𝓛 (‵ ((Mark E).own_val (tt, tt) (mark ∷ []))) (mark_made E 𝓛) $ fjoin ! $
      word_made ! p $
      use3 𝓛 (‵ ((Three E Z).own_val (address, cells, right) (made ∷ [])))
      (three_made 𝓛 (AddressRow E) (CellsRow E) (GrantRow E Z) address cells right
      (word p) mark mark) $
      use1 𝓛
      (‵ ((Out E Z).own_val (Ok (address, cells, right)) (live 0 (vcons made vnil) ∷ [])))
      (ok_of 𝓛 (Three E Z) refusal.the_row (address, cells, right) made) $
      returns ! (look_at ! 0 refl) $ free_all ! refl $
      by ! (leaves (Ok (address, cells, right)) (live 0 (vcons made vnil))
      (refl, refl, refl, refl, refl)))
      -- out of memory
      (λ e.
      let Refusal : RattleType = Struct (Declared.shape refusal.the_type) in
      let none : Val = live 1 (vcons (vstruct vnil) vnil) in
      lands_as ! e refl (Answer-typed false 0 0) $ first ! $
      switches_on ! (get_tag ! (vrt ! refl (fld ! refl (stop !))) (whole !)) $
      exec ! C Λ En (arm_body 1 both) Then $
      sets ! (of_opd ! (get_in ! (vrt ! refl (fld ! refl (stop !)))
      (in_variant ! 1 0 refl refl (whole !))))
      refl (tt, tt) $
      sets_last ! (agg ! (and_then ! (lit ! tt) (and_then ! (get ! refl) (no_more !)))) refl
      (tt, (record { fits = lit< tt }, (tt, tt))) $
      exec ! C Λ En (after 3 (function E Z).body) (at_ret En Post) $
      sets ! (of_opd ! (get ! refl)) refl (tt, (record { fits = lit< tt }, (tt, tt))) $
      owned ! Refusal (Is Refusal) (Struct-Makes 𝓛 (Declared.shape refusal.the_type) tt) tt
      (vstruct vnil ∷ []) (tt, (refl, tt)) $
      use1 𝓛 (‵ ((Out E Z).own_val (Err (record {})) (none ∷ [])))
      (err_of 𝓛 (Three E Z) refusal.the_row (record {}) (vstruct vnil)) $
      returns ! (look_at ! 0 refl) $ free_all ! refl $
      by ! (leaves (Err (record {})) none tt))))

pub allocate_spec : {M : Type 1} → statement M
allocate_spec 𝓤 𝓛 𝓜 𝓡 wired X Y laws alloc_laws g d dd met md =
    let E : El = record { row = X; laws = laws } in
    let Z : Al = record { row = Y; laws = alloc_laws; g = g; d = d; drops = dd } in
    let c : Clauses 𝓤 (ended E Z) = f.clauses X Y g d dd 𝓛 𝓜.mem 𝓡.returns in
    let W = walk_of 𝓛 (ended E Z) (stayed E Z) c in
    let 𝓣 = tables 𝓤 𝓛.H 𝓜 𝓡 𝓡.env in
    proved_at 𝓛 (ended E Z) (stayed E Z) c 𝓜 𝓡 (
      Goes-dropped 𝓛 3 (RefOf (0 ∷ []) tt (plain (λ _. AllocRow E Z)) (λ _. tt)) yes
          (λ κs x f. refl),
      (Goes-dropped 𝓛 3 (plain (λ _. usize)) yes (λ κs x f. refl), tt),
    )
    (f.Key.name (both_args E Z)) (function E Z) (code.unfolded 𝓤 𝓛.H 𝓜 𝓡 wired (X, (Y, tt)) d dd)
    (λ y are.
    let κ = y.0.0.0 in
    let κ₁ = y.0.0.1.0 in
    let κ₂ = y.0.0.1.1.0 in
    let q = y.0.1.0 in
    let q₁ = y.0.1.1.0 in
    let q₂ = y.0.1.1.1.0 in
    let r = y.0.3.0 in
    let n = y.0.3.1.0 in
    let vss = y.0.4 in
    let rb = r.ref_ptr.0 in
    let ro = r.ref_ptr.1 in
    let tokens : List (Item 𝓤) =
    ‵ (flft κ q) ∷ (‵ (flft κ₁ q₁) ⊛ ‵ (flft κ₂ q₂) ⊛ ‵ ftrue) ∷ [] in
    let had : List (Item 𝓤) = ‵ (hidden_shr (AllocRow E Z) κ r.now rb ro) ∷ tokens in
    let leaves : (x : (Out E Z).Denot) (v : Val) → IsNew E Z r.now n x
    → ent 𝓤 (⋆ 𝓛 (‵ ((Out E Z).own_val x (v ∷ [])) ∷ tokens)) (W.post y v) =
    λ x v new.
    qed 𝓛 (‵ ((Out E Z).own_val x (v ∷ [])) ∷ tokens) ∵
    suffices ! _
    (ends_at 𝓛 (ended E Z) (stayed E Z) c y v x (tt, (tt, tt)) (tt, (tt, tt))) $
    says ! new $
    move ! (1 ∷ 2 ∷ []) $ join ! $ frame ! $ nothing ! $ nothing ! $ fjoin ! $ nothing ! $
    fjoin ! $ done ! in
    qed 𝓛
    (((‵ (flft κ q) ⊛ ‵ (flft κ₁ q₁) ⊛ ‵ (flft κ₂ q₂) ⊛ ‵ ftrue)
    ⊛ ‵ (owns (ShrRef (named 0) κ (AllocRow E Z) ∷ usize ∷ []) y.0.3 vss))
    ∷ (raw (fact 𝓤 (κ₁ ⊑ X.lives)) ⊛ raw (fact 𝓤 (κ₂ ⊑ Y.lives)) ⊛ raw
    (fact 𝓤 (FitsInBlock (R E) n))) ∷ []) ∵
    move ! (1 ∷ []) $ split ! $
    heard ! _ (λ value_lives. split ! $
    heard ! _ (λ lives. heard ! _ (λ asked. split ! $ split ! $ move ! (2 ∷ []) $
    fsplit ! $ fsplit ! $
    feq_l ! (λ e0. move ! (1 ∷ []) $ fsplit ! $ fsplit ! $
    feq_l ! (λ e1. flt_l ! (λ fits. keep ! (1 ∷ 2 ∷ 3 ∷ []) $
    by ! (subst (λ (ws : List Val × List Val). ent 𝓤 (⋆ 𝓛 had)
    (WpFn 𝓤 𝓛.H 𝓣.C 𝓣.Λ (function E Z) (ws.0 ++ (ws.1 ++ [])) (W.post y)))
    (λ j. (sym e0 j, sym e1 j))
    (walk E Z 𝓛 𝓜.mem 𝓡.returns 𝓣.C 𝓣.Λ (framed 𝓤 𝓛.H 𝓜 𝓣) (met.allocate dd)
    (W.post y) κ κ₁ κ₂ q q₁ q₂ (Incl-trans y.0.2.0 lives) rb ro r.now n
    asked fits leaves)))))))))
