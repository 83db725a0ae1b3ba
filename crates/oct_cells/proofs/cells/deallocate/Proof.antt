-- `deallocate` gives back the block of its cells, whatever they have. Assumes `Logic`.
use mathlib.Core.Path.{◌≡◌, refl, sym, ap, subst, ◌∙◌}
use Prim.Native.Nat.{ℕ, ◌*◌, ◌<◌, ◌^◌}
use native.Mathlib.Omega.{arith}
use mathlib.Core.List.{List, [], ◌∷◌, ◌++◌}
use lib.Dec.{T}
use lib.ListN.{length}
use seplogic.Ra.Ura.{Ura}
use mir.Syntax.{Fn, named, w64, ty_unit, ty_array}
use mir.MapTy.{inst_fn}
use mir.Val.{Val, vptr, vint, vunit, has_ty, WT}
use base.Logic.{SProp, ent, never, id⊢}
use base.Fml.{Lft, Share, ftrue, froom, flft, Incl-trans}
use prog.Memory.{Memory, align, capped}
use prog.Capped.{capped_fits}
use prog.Routine.{Routine}
use prog.Wp.{Env, Calls, Loops, WpFn}
use types.Logic.{Logic}
use contract.Monad.{Fun, fact}
use contract.Running.{tables}
use contract.BorrowLft.{◌⊑◌}
use sound.WpLaws.{FmC}
use denote.Triple.Table.{framed}
use types.Kit.{Item, ⋆, ‵, raw, ◌⊛◌, given, later, await, learn, at_ret, ◌$◌, ◌∵◌, !, qed, by, move}
use types.Kit.{keep, use1, split, join, group, rewrite, fsplit, fsplit3, fjoin, feq_i, feq_l, flt_l}
use types.Kit.{suffices, done}
use types.Part.{whole, sub}
use types.Run.{stop, fld, unit_lit, of_opd, bin, size_word, align_word, and_then, no_more, first}
use types.Run.{blocks, exec, returns, enter}
use types.ByLocal.{alloc_all, pass_all, free_all, look_at, get, get_in, sets, lands_last, is, env}
use denote.Exit.{yes, no}
use denote.RattleType.{RattleType, owns}
use denote.Memory.{hidden_shr}
use denote.RawPtr.{Ptr, ptr_val, in_a_block}
use denote.Ref.{ShrRef}
use denote.Builtin.{usize, RefOf}
use denote.Signature.{plain}
use denote.Steps.{nothing, heard}
use denote.Triple.Call.{calls_at_last}
use denote.Triple.Clauses.{Clauses, Ended}
use denote.Triple.Statement.{Triple}
use denote.Triple.Walked.{Stays, stay_dropped, walk_of, ends_at, Goes-dropped}
use Rattle.std.proofs.raw_atomic.Walks.{proved_at}
use Rattle.std.proofs.alloc.Calls.{Al, token, gives_key, Gives, at_gives, Gives-goes, Gives-Gives}
use Rattle.std.proofs.alloc.Calls.{Goes-blank}
use Rattle.std.proofs.VecSteps.Shapes.{after}
use Rattle.std.proofs.RcSteps.{word, word-Good}
use Rattle.std.proofs.RawLayout.{as_raw}
use Rattle.std.proofs.mem.Param.{El, R, elτ}
use Rattle.oct_cells.specs.Ownership.{row_owned, grant_owned}
use Rattle.oct_cells.proofs.Blocks.{whole_size, block, block_size, block_align, both_args, AllocRow}
use Rattle.oct_cells.proofs.Memory.{CellsRow, AddressRow, bytes, mark, has_mark, has_word, row_room}
use Rattle.oct_cells.specs.contracts.cells.Grant as grant
use Rattle.oct_cells.specs.contracts.cells.deallocate as f
use Rattle.oct_cells.proofs.cells.deallocate.Statement.{statement}
use Rattle.oct_cells.proofs.cells.deallocate.Code as code

module _ (E : El) (Z : Al) where
  abbrev function : Fn
  function = inst_fn (both_args E Z) code.function

  abbrev ended : Ended
  ended = f.ended E.row Z.row Z.g Z.d Z.drops

  abbrev GrantRow : RattleType
  GrantRow = grant.the_row (R E) (AllocRow E Z) Z.g

  abbrev stayed : Stays ended.signature.params ended.kept
  stayed = (
    stay_dropped (RefOf (0 ∷ []) tt (plain (λ _. AllocRow E Z)) (λ _. tt)) yes,
    (
      stay_dropped (plain (λ _. AddressRow E)) no,
      (
        stay_dropped (plain (λ _. usize)) yes,
        (
          stay_dropped (plain (λ _. CellsRow E)) no,
          (stay_dropped (plain (λ _. GrantRow)) no, tt),
        ),
      ),
    ),
  )

  abbrev Asks : Z.row.Denot → (AddressRow E).Denot → ℕ → (CellsRow E).Denot → GrantRow.Denot
      → Type 0
  Asks a address n cells right =
      (cells.at ≡ address.ptr) × (length cells.values ≡ n) × (right.at ≡ address.ptr)
      × (right.count ≡ n) × (right.alloc ≡ a)

module _ (E : El) (Z : Al) {M : Type 1} {𝓤 : Ura M} (𝓛 : Logic 𝓤) (at_mem : Memory → SProp 𝓤)
    (run : Routine → Fun 𝓤) (C : Calls 𝓤 𝓛.H) (Λ : Loops 𝓤 𝓛.H) (fm : FmC 𝓤 𝓛.H 𝓛.laws C)
    (callee : Triple 𝓤 (C (gives_key Z)) (Gives Z 𝓛 at_mem run)) (Post : Val → SProp 𝓤)
    (κ κ₁ κ₂ : Lft) (q q₁ q₂ : Share) (lives : κ ⊑ Z.row.lives) (rb ro : ℕ) (a : Z.row.Denot)
    (address : (AddressRow E).Denot) (n : ℕ) (cells : (CellsRow E).Denot)
    (right : (GrantRow E Z).Denot) where
  open 𝓛 use {H}

  abbrev Tokens : List (Item 𝓤)
  Tokens = ‵ (flft κ q) ∷ (‵ (flft κ₁ q₁) ⊛ ‵ (flft κ₂ q₂) ⊛ ‵ ftrue) ∷ []

  abbrev Had : List (Item 𝓤)
  Had =
      ‵ (row_owned (R E) cells.at cells.values)
      ∷ ‵ (grant_owned (R E) (token Z right.alloc) right.at right.count)
      ∷ ‵ (hidden_shr (AllocRow E Z) κ a rb ro) ∷ Tokens

  walk : Asks E Z a address n cells right → n < 2 ^ 64 → ent 𝓤 (⋆ 𝓛 Tokens) (Post vunit)
      → ent 𝓤 (⋆ 𝓛 Had)
      (WpFn 𝓤 H C Λ (function E Z)
      (vptr rb ro ∷ word address.ptr ∷ vint w64 n ∷ mark ∷ mark ∷ []) Post)
  walk asked fits leaves =
      qed 𝓛 Had ∵
      enter ! C Λ (function E Z) (vptr rb ro ∷ word address.ptr ∷ vint w64 n ∷ mark ∷ mark ∷ [])
      _ $
      alloc_all ! (λ l. pass_all ! refl (
        (tt, tt),
        (
          word-Good [] address.ptr,
          (
            (tt, record { fits = fits }),
            ((tt, (tt, tt)), ((tt, (tt, tt)), tt)),
          ),
        ),
      ) $
      let En : Env 𝓤 H = env (function E Z).locals l in
      let s = bytes E in let al : ℕ = capped (align (elτ E)) in
      rewrite ! 0 (λ (p : Ptr). ‵ (row_owned (R E) p cells.values)) asked.0 refl $
      in_a_block ! address.ptr (λ p. row_owned (R E) p cells.values) (id⊢ 𝓤 (never 𝓤))
      (λ b o e. fsplit ! $ flt_l ! (λ few.
      let fit : n * s < 2 ^ 64 =
      (let less : n * s < 2 ^ 63 = subst (λ k. k * s < 2 ^ 63) asked.1 few in
      omega arith) in
      let y : (Gives Z 𝓛 at_mem run).Ghost =
      at_gives Z 𝓛 at_mem run κ q (rb, ro) a b o (n * s) al (block E n) in
      rewrite ! 1
      (λ (g : Z.row.Denot × Ptr × ℕ). ‵ (grant_owned (R E) (token Z g.0) g.1 g.2))
      (λ i. (asked.4 i, (asked.2 ∙ e) i, asked.3 i)) refl $
      use1 𝓛 (‵ (froom (ty_array (elτ E) (length cells.values)) b o))
      (row_room E 𝓛 b cells.values o) $
      rewrite ! 0 (λ (k : ℕ). ‵ (froom (ty_array (elτ E) k) b o)) asked.1 refl $
      as_raw ! (ty_array (elτ E) n) b o $ first ! $ blocks ! $
      sets ! (is ! (of_opd ! (get_in ! (fld ! refl (stop !)) (sub ! 0 refl (whole !))))
      (ap ptr_val e))
      refl (tt, tt) $
      sets ! (is ! (bin ! (get ! refl) (size_word !)
      (record {
        fits = subst (λ (k : ℕ). k < 2 ^ 64) (sym (whole_size n s fit)) fit;
      })) (ap (vint w64) (whole_size n s fit)))
      refl (tt, record { fits = fit }) $
      group ! 4 $
      use1 𝓛 (raw ((Gives Z 𝓛 at_mem run).pre y))
      (Gives-goes Z 𝓛 at_mem run κ q (rb, ro) a lives b o (n * s) al (block E n)
      (block_size E n fit) (block_align E n) fit
      (capped_fits (align (elτ E)))) $
      calls_at_last ! fm (Gives Z 𝓛 at_mem run) callee y
      (and_then ! (get ! refl)
      (and_then ! (get ! refl)
      (and_then ! (get ! refl) (and_then ! (align_word !) (no_more !)))))
      (λ v.
      use1 𝓛 (later (given (v ≡ vunit) (‵ (flft κ q))))
      (Gives-Gives Z 𝓛 at_mem run κ q (rb, ro) a b o (n * s) al (block E n) v) $
      await ! tt $ learn ! (λ gone.
      lands_last ! refl
      (subst (λ (z : Val). T (has_ty ty_unit z) × WT z)
      (sym gone) (tt, tt)) $
      exec ! C Λ En (after 1 (function E Z).body) (at_ret En Post) $
      sets ! (of_opd ! (unit_lit !)) refl (tt, tt) $ returns ! (look_at ! 0 refl) $
      free_all ! refl $ by ! leaves)))))

pub deallocate_spec : {M : Type 1} → statement M
deallocate_spec 𝓤 𝓛 𝓜 𝓡 wired X Y laws alloc_laws g d dd met md =
    let E : El = record { row = X; laws = laws } in
    let Z : Al = record { row = Y; laws = alloc_laws; g = g; d = d; drops = dd } in
    let c : Clauses 𝓤 (ended E Z) = f.clauses X Y g d dd 𝓛 𝓜.mem 𝓡.returns in
    let W = walk_of 𝓛 (ended E Z) (stayed E Z) c in
    let 𝓣 = tables 𝓤 𝓛.H 𝓜 𝓡 𝓡.env in
    proved_at 𝓛 (ended E Z) (stayed E Z) c 𝓜 𝓡 (
      Goes-dropped 𝓛 3 (RefOf (0 ∷ []) tt (plain (λ _. AllocRow E Z)) (λ _. tt)) yes
          (λ κs x f. refl),
      (
        Goes-dropped 𝓛 3 (plain (λ _. AddressRow E)) no (λ κs x f. refl),
        (
          Goes-dropped 𝓛 3 (plain (λ _. usize)) yes (λ κs x f. refl),
          (
            Goes-blank 𝓛 3 (plain (λ _. CellsRow E)) no (λ κs x f. tt),
            (Goes-blank 𝓛 3 (plain (λ _. GrantRow E Z)) no (λ κs x f. tt), tt),
          ),
        ),
      ),
    )
    (f.Key.name (both_args E Z)) (function E Z) (code.unfolded 𝓤 𝓛.H 𝓜 𝓡 wired (X, (Y, tt)) d dd)
    (λ y are.
    let κ = y.0.0.0 in
    let κ₁ = y.0.0.1.0 in
    let κ₂ = y.0.0.1.1.0 in
    let q = y.0.1.0 in
    let q₁ = y.0.1.1.0 in
    let q₂ = y.0.1.1.1.0 in
    let r = y.0.3.0 in
    let address = y.0.3.1.0 in
    let n = y.0.3.1.1.0 in
    let cells = y.0.3.1.1.1.0 in
    let right = y.0.3.1.1.1.1.0 in
    let vss = y.0.4 in
    let rb = r.ref_ptr.0 in
    let ro = r.ref_ptr.1 in
    let tokens : List (Item 𝓤) =
    ‵ (flft κ q) ∷ (‵ (flft κ₁ q₁) ⊛ ‵ (flft κ₂ q₂) ⊛ ‵ ftrue) ∷ [] in
    let had : List (Item 𝓤) =
    ‵ (row_owned (R E) cells.at cells.values)
    ∷ ‵ (grant_owned (R E) (token Z right.alloc) right.at right.count)
    ∷ ‵ (hidden_shr (AllocRow E Z) κ r.now rb ro) ∷ tokens in
    let leaves : ent 𝓤 (⋆ 𝓛 tokens) (W.post y vunit) =
    qed 𝓛 tokens ∵
    suffices ! _
    (ends_at 𝓛 (ended E Z) (stayed E Z) c y vunit tt (tt, (tt, (tt, (tt, (tt, tt)))))
    (tt, (tt, (tt, (tt, (tt, tt)))))) $
    join ! $ feq_i ! (List Val) (vunit ∷ []) (vunit ∷ []) refl $ nothing ! $ nothing ! $
    fjoin ! $ nothing ! $ fjoin ! $ nothing ! $ fjoin ! $ nothing ! $ fjoin ! $ nothing ! $
    fjoin ! $ join ! $
    move ! (1 ∷ 0 ∷ []) $ join ! $ nothing ! $ move ! (1 ∷ 0 ∷ []) $ done ! in
    qed 𝓛
    (((‵ (flft κ q) ⊛ ‵ (flft κ₁ q₁) ⊛ ‵ (flft κ₂ q₂) ⊛ ‵ ftrue)
    ⊛ ‵ (owns (ShrRef (named 0) κ (AllocRow E Z) ∷ AddressRow E ∷ usize ∷ CellsRow
    E ∷ GrantRow E Z ∷ []) y.0.3 vss))
    ∷ (raw (fact 𝓤 (κ₁ ⊑ X.lives)) ⊛ raw (fact 𝓤 (κ₂ ⊑ Y.lives)) ⊛ raw
    (fact 𝓤 (Asks E Z r.now address n cells right))) ∷ []) ∵
    move ! (1 ∷ []) $ split ! $
    heard ! _ (λ value_lives. split ! $
    heard ! _ (λ lives. heard ! _ (λ asked. split ! $ split ! $ move ! (2 ∷ []) $
    fsplit3 ! $ fsplit ! $
    feq_l ! (λ e0. move ! (1 ∷ []) $ has_word ! address.ptr vss.1.0
    (λ e1. move ! (1 ∷ []) $ fsplit3 ! $ fsplit ! $
    feq_l ! (λ e2. flt_l ! (λ fits.
    fsplit ! $
    has_mark ! E vss.1.1.1.0
    (λ e3. move ! (1 ∷ []) $ fsplit ! $ fsplit ! $
    has_mark ! E vss.1.1.1.1.0
    (λ e4. keep ! (2 ∷ 0 ∷ 3 ∷ 4 ∷ 5 ∷ []) $
    by ! (subst (λ (ws : List Val × List Val × List Val
    × List Val × List Val). ent 𝓤 (⋆ 𝓛 had)
    (WpFn 𝓤 𝓛.H 𝓣.C 𝓣.Λ (function E Z)
    (ws.0 ++ (ws.1 ++ (ws.2 ++ (ws.3 ++ (ws.4 ++ [])))))
    (W.post y)))
    (λ j.
    (sym e0 j, sym e1 j, sym e2 j, sym e3 j, sym e4 j))
    (walk E Z 𝓛 𝓜.mem 𝓡.returns 𝓣.C 𝓣.Λ (framed 𝓤 𝓛.H 𝓜 𝓣)
    (met.deallocate dd) (W.post y) κ κ₁ κ₂ q q₁ q₂
    (Incl-trans y.0.2.0 lives) rb ro r.now address n
    cells right asked fits leaves))))))))))))
