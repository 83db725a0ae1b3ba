-- `get_mut` lends a value, and the cells follow it. Assumes `Logic`.
use mathlib.Core.Path.{◌≡◌, refl, sym, subst, ◌∙◌}
use Prim.Native.Nat.{ℕ, ◌+◌, ◌*◌, ◌<◌, ◌^◌}
use native.Mathlib.Omega.{arith}
use mathlib.Core.List.{List, [], ◌∷◌, ◌++◌}
use lib.ListN.{length, set, get_or, length-set}
use seplogic.Ra.Ura.{Ura}
use base.Fraction.{full_share}
use mir.Syntax.{Fn, named, w64}
use mir.MapTy.{inst_fn}
use mir.Val.{Val, vptr, vint}
use base.Logic.{SProp, ent, sep, never, id⊢}
use base.Fml.{Lft, GName, Share, Fml, ftrue, fsep, fat, flft, fobs, fbor}
use prog.Wp.{Env, Calls, Loops, WpFn}
use contract.Monad.{fact}
use contract.Running.{tables}
use contract.BorrowLft.{◌⊑◌}
use types.Logic.{Logic, sem}
use types.Kit.{Item, ⋆, ‵, raw, ◌⊛◌, some, later, await, pick, at_ret, ◌$◌, ◌∵◌, !, qed, by, move}
use types.Kit.{keep, use1, use2, split, join, rewrite, group, fsplit, fsplit3, fjoin, fjoin3, fpack}
use types.Kit.{feq_l, flt_l, flt_i, suffices, frame, done}
use types.Part.{whole, sub}
use types.Run.{stop, fld, of_opd, addr, bin, size_lit, first, blocks, exec, returns, enter}
use types.ByLocal.{alloc_all, pass_all, free_all, look_at, get, get_in, through, sets, sets_last}
use types.ByLocal.{take_at, give_at, env}
use types.SemTy.{Body as Borrowed}
use denote.Exit.{yes, no}
use denote.RattleType.{owns}
use denote.Memory.{mem, cell_at, part_of}
use denote.Param.{layout}
use denote.RawPtr.{Ptr, block_ptr, in_a_block}
use denote.Ref.{MutBor, MutRef}
use denote.Builtin.{usize}
use denote.Signature.{plain, mut_ref_to}
use denote.Steps.{nothing, opens, heard}
use denote.Follow.{follows, Part, lends_Part}
use denote.Triple.Walked.{says, Stays, stay_dropped, walk_of, ends_at, Goes-dropped, Goes-spent_ref}
use Rattle.std.specs.Prelude.{Some, None}
use Rattle.std.proofs.raw_atomic.Walks.{proved_at}
use Rattle.std.proofs.VecSteps.Shapes.{after}
use Rattle.std.proofs.RcSteps.{word, word-Good}
use Rattle.std.proofs.mem.Param.{El, R, args, el_x}
use Rattle.std.proofs.ptr.Rows.{times_below, one_below}
use Rattle.oct_cells.specs.Cells.{HasValue}
use Rattle.oct_cells.specs.Lends.{with_values}
use Rattle.oct_cells.specs.Ownership.{cell_owned, cells_owned, row_owned}
use Rattle.oct_cells.proofs.Memory.{CellsRow, AddressRow, Mark, bytes, Cell, has_word, value_within}
use Rattle.oct_cells.proofs.Memory.{others, taken_out, put_back}
use Rattle.oct_cells.specs.contracts.cells.Cells.get_mut as f
use Rattle.oct_cells.proofs.cells.Cells.get_mut.Statement.{statement}
use Rattle.oct_cells.proofs.cells.Cells.get_mut.Code as code

module _ (E : El) where
  abbrev function : Fn
  function = inst_fn (args E) code.function

  abbrev stayed : Stays (f.signature E.row).params (f.ended E.row).kept
  stayed = (
    stay_dropped (mut_ref_to (0 ∷ []) tt (plain (λ _. CellsRow E))) no,
    (
      stay_dropped (plain (λ _. AddressRow E)) no,
      (stay_dropped (plain (λ _. usize)) yes, tt),
    ),
  )

  abbrev Asks : (CellsRow E).Denot → (AddressRow E).Denot → ℕ → Type 0
  Asks d address index = (address.ptr ≡ d.at) × HasValue d.values index

module _ (E : El) {M : Type 1} {𝓤 : Ura M} (𝓛 : Logic 𝓤) (C : Calls 𝓤 𝓛.H) (Λ : Loops 𝓤 𝓛.H)
    (Post : Val → SProp 𝓤)
    (κ κ₁ : Lft) (q q₁ : Share) (rb ro : ℕ) (γ : GName) (d : (CellsRow E).Denot)
    (address : (AddressRow E).Denot) (index : ℕ) where
  open 𝓛 use {H}

  -- the cells with another value there
  abbrev with_one : el_x E → (CellsRow E).Denot
  with_one x = with_values d (set d.values index (Some x))

  -- the `&mut` to the cells, and the tokens of the lifetimes
  abbrev Borrow : List (Item 𝓤)
  Borrow =
      ‵ (fobs γ ((CellsRow E).coded.code d)) ∷ ‵ (fbor κ (Borrowed (mem (CellsRow E)) rb ro γ))
      ∷ ‵ (flft κ q) ∷ (‵ (flft κ₁ q₁) ⊛ ‵ ftrue) ∷ []

  -- the `&mut` to the value, what the cells become with it, and the tokens
  abbrev Lent : MutBor (el_x E) → List (Item 𝓤)
  Lent r =
      ‵ ((MutRef (named 0) κ (R E)).own_val r (vptr r.ref_ptr.0 r.ref_ptr.1 ∷ [])) ∷ ‵ (flft κ q)
      ∷ ‵ (follows (CellsRow E) (R E) γ r.ghost_name with_one)
      ∷ (‵ (flft κ₁ q₁) ⊛ ‵ ftrue) ∷ []

  module _ (vs : List Val) (b o : ℕ) where
    -- the cells but for the value
    abbrev Rest : Fml
    Rest =
        fsep (others E 𝓛 b o d.values index)
        (fsep ((Mark E).own_val (tt, tt) vs) (cell_at full_share (CellsRow E).mir vs rb ro))

    joins : d.at ≡ block_ptr b o → index < length d.values → length d.values * bytes E < 2 ^ 63
        → (x : el_x E)
        → ent 𝓤 (sep 𝓤 (sem 𝓛 ((mem (R E)).own_at x b (index * bytes E + o))) (sem 𝓛 Rest))
        (sem 𝓛 ((mem (CellsRow E)).own_at (with_one x) rb ro))
    unfolding part_of
    joins e within few x =
        let s = bytes E in let at = index * s + o in let values = (with_one x).values in
        qed 𝓛 (‵ (cell_owned (R E) b at (Some x)) ∷ ‵ Rest ∷ []) ∵ move ! (1 ∷ []) $ fsplit3 ! $
        move ! (3 ∷ 0 ∷ []) $
        use2 𝓛 (‵ (cells_owned (R E) b o values))
        (put_back E 𝓛 b d.values index o at (Some x) refl within) $
        flt_i ! (length values * s) (2 ^ 63)
        (subst (λ k. k * s < 2 ^ 63) (sym (length-set d.values index (Some x))) few) $
        fjoin ! $
        rewrite ! 0 (λ (p : Ptr). ‵ (row_owned (R E) p values)) (sym e) refl $ move ! (1 ∷ 0 ∷ []) $
        fjoin ! $ move ! (1 ∷ 0 ∷ []) $ fjoin ! $
        fpack ! (List Val)
        (λ us. fsep (cell_at full_share (CellsRow E).mir us rb ro)
        ((CellsRow E).own_val (with_one x) us))
        vs $
        done !

  walk : index < 2 ^ 64 → Asks E d address index
      → ((r : MutBor (el_x E)) → get_or d.values index None ≡ Some r.now
      → ent 𝓤 (⋆ 𝓛 (Lent r)) (Post (vptr r.ref_ptr.0 r.ref_ptr.1)))
      → ent 𝓤 (⋆ 𝓛 Borrow)
      (WpFn 𝓤 H C Λ (function E) (vptr rb ro ∷ word address.ptr ∷ vint w64 index ∷ []) Post)
  walk fits asked leaves =
      let x = asked.1.0 in
      let within = value_within d.values index x asked.1.1 in
      let code = (CellsRow E).coded.code d in
      qed 𝓛 Borrow ∵
      enter ! C Λ (function E) (vptr rb ro ∷ word address.ptr ∷ vint w64 index ∷ []) _ $
      alloc_all ! (λ l. pass_all ! refl
      ((tt, tt), (word-Good [] address.ptr, ((tt, record { fits = fits }), tt))) $
      let En : Env 𝓤 H = env (function E).locals l in
      opens ! tt (CellsRow E) {h = d} rb ro
      (λ vs. move ! (1 ∷ []) $ fsplit ! $ move ! (1 ∷ []) $
      in_a_block ! d.at (λ p. row_owned (R E) p d.values) (id⊢ 𝓤 (never 𝓤))
      (λ b o e. fsplit ! $ flt_l ! (λ few.
      let s = bytes E in let at = index * s + o in
      let tiny : s < 2 ^ 64 =
      omega (arith, one_below (length d.values) s (2 ^ 63) (omega arith) few) in
      let far : index * s < 2 ^ 64 =
      omega (
        arith,
        times_below index (length d.values) s (2 ^ 63) (omega arith) few,
      ) in
      take_at ! 2 $
      rewrite ! 0
      (λ (p : Ptr). ‵ (fat full_share (layout (AddressRow E)) (l 2) 0 (word p)))
      (asked.0 ∙ e) refl $
      give_at ! 2 $ first ! $ blocks ! $
      sets ! (bin ! (get ! refl) (size_lit ! (record { fits = tiny }))
      (record { fits = far }))
      refl (tt, record { fits = far }) $
      sets ! (bin ! (get_in ! (fld ! refl (stop !)) (sub ! 0 refl (whole !)))
      (get ! refl) tt)
      refl (tt, tt) $
      use1 𝓛
      (‵ (cell_owned (R E) b at (get_or d.values index None))
      ⊛ ‵ (others E 𝓛 b o d.values index))
      (taken_out E 𝓛 b d.values index o at refl within) $
      split ! $
      rewrite ! 0 (λ (c : Cell E). ‵ (cell_owned (R E) b at c)) asked.1.1 refl $
      -- [the value; the others; the mark; where the cells' own value lies; the open
      -- borrow, in three entries; the other token]
      let way = joins vs b o e within few in
      sets_last ! (addr ! (through ! refl (stop !))) refl (tt, tt) $
      exec ! C Λ En (after 1 (function E).body) (at_ret En Post) $
      sets ! (of_opd ! (get ! refl)) refl (tt, tt) $
      move ! (1 ∷ 2 ∷ 3 ∷ []) $ fjoin3 ! $ move ! (2 ∷ 3 ∷ 4 ∷ 1 ∷ 0 ∷ []) $ group ! 5 $
      use1 𝓛
      (later
      (some (λ (δ : GName). raw (Part 𝓛 (CellsRow E) (R E) with_one (named 0) κ
      q rb ro b at γ (sem 𝓛 (Rest vs b o)) way x δ))))
      (lends_Part 𝓛 (CellsRow E) (R E) with_one (named 0) κ q rb ro b at γ
      (sem 𝓛 (Rest vs b o)) way code code x) $
      await ! tt $ pick ! (λ δ.
      let r : MutBor (el_x E) = record {
        ref_ptr = (b, at);
        ghost_name = δ;
        now = x;
      } in
      returns ! (look_at ! 0 refl) $ free_all ! refl $
      use1 𝓛
      (‵ ((MutRef (named 0) κ (R E)).own_val r (vptr b at ∷ [])) ⊛ ‵ (flft κ q)
      ⊛ ‵ (follows (CellsRow E) (R E) γ δ with_one))
      (id⊢ 𝓤 _) $
      split ! $ move ! (1 ∷ []) $ split ! $ move ! (2 ∷ 0 ∷ 1 ∷ []) $
      by ! (leaves r asked.1.1))))))

pub get_mut_spec : {M : Type 1} → statement M
get_mut_spec 𝓤 𝓛 𝓜 𝓡 wired X laws =
    let E : El = record { row = X; laws = laws } in
    let c = f.clauses X 𝓛 𝓜.mem 𝓡.returns in
    let W = walk_of 𝓛 (f.ended X) (stayed E) c in
    let 𝓣 = tables 𝓤 𝓛.H 𝓜 𝓡 𝓡.env in
    proved_at 𝓛 (f.ended X) (stayed E) c 𝓜 𝓡 (
      Goes-spent_ref 𝓛 2 (0 ∷ []) tt (plain (λ _. CellsRow E)),
      (
        Goes-dropped 𝓛 2 (plain (λ _. AddressRow E)) no (λ κs x f. refl),
        (Goes-dropped 𝓛 2 (plain (λ _. usize)) yes (λ κs x f. refl), tt),
      ),
    )
    (f.Key.name (args E)) (function E) (code.unfolded 𝓤 𝓛.H 𝓜 𝓡 wired (X, tt)) (λ y are.
    let κ = y.0.0.0 in
    let κ₁ = y.0.0.1.0 in
    let q = y.0.1.0 in
    let q₁ = y.0.1.1.0 in
    let vss = y.0.4 in
    let r = y.0.3.0 in
    let address = y.0.3.1.0 in
    let index = y.0.3.1.1.0 in
    let rb = r.ref_ptr.0 in
    let ro = r.ref_ptr.1 in
    let had = Borrow E 𝓛 𝓣.C 𝓣.Λ (W.post y) κ κ₁ q q₁ rb ro r.ghost_name r.now address index in
    let lent = Lent E 𝓛 𝓣.C 𝓣.Λ (W.post y) κ κ₁ q q₁ rb ro r.ghost_name r.now address index in
    let leaves : (x : MutBor (el_x E)) → get_or r.now.values index None ≡ Some x.now
    → ent 𝓤 (⋆ 𝓛 (lent x)) (W.post y (vptr x.ref_ptr.0 x.ref_ptr.1)) =
    λ x is.
    qed 𝓛 (lent x) ∵
    suffices ! _
    (ends_at 𝓛 (f.ended X) (stayed E) c y (vptr x.ref_ptr.0 x.ref_ptr.1) x
    (tt, (tt, (tt, tt))) (tt, (tt, (tt, tt)))) $
    nothing ! $ nothing ! $ fjoin ! $ nothing ! $ fjoin ! $ nothing ! $ fjoin ! $ join ! $
    move ! (1 ∷ 3 ∷ []) $ join ! $ join ! $ frame ! $ says ! is $ done ! in
    qed 𝓛
    (((‵ (flft κ q) ⊛ ‵ (flft κ₁ q₁) ⊛ ‵ ftrue)
    ⊛ ‵ (owns (MutRef (named 0) κ (CellsRow E) ∷ AddressRow E ∷ usize ∷ []) y.0.3 vss))
    ∷ (raw (fact 𝓤 (κ₁ ⊑ X.lives)) ⊛ raw (fact 𝓤 (Asks E r.now address index))) ∷ []) ∵
    move ! (1 ∷ []) $ split ! $
    heard ! _ (λ lives. heard ! _ (λ asked. split ! $ split ! $ move ! (2 ∷ []) $
    fsplit ! $ fsplit3 ! $
    feq_l ! (λ e0. move ! (2 ∷ []) $ fsplit ! $ has_word ! address.ptr vss.1.0
    (λ e1. fsplit ! $ fsplit ! $
    feq_l ! (λ e2. flt_l ! (λ fits. keep ! (1 ∷ 2 ∷ 3 ∷ 4 ∷ []) $
    by ! (subst (λ (ws : List Val × List Val × List Val). ent 𝓤 (⋆ 𝓛 had)
    (WpFn 𝓤 𝓛.H 𝓣.C 𝓣.Λ (function E) (ws.0 ++ (ws.1 ++ (ws.2 ++ []))) (W.post y)))
    (λ j. (sym e0 j, sym e1 j, sym e2 j))
    (walk E 𝓛 𝓣.C 𝓣.Λ (W.post y) κ κ₁ q q₁ rb ro r.ghost_name r.now address index
    fits asked leaves)))))))))
