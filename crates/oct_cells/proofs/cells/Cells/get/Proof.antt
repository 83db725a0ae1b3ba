-- `get` shows a value that the cells lend. Assumes `Logic`.
use mathlib.Core.Path.{◌≡◌, refl, sym, subst, ◌∙◌}
use Prim.Native.Nat.{ℕ, ◌+◌, ◌*◌, ◌<◌, ◌^◌}
use native.Mathlib.Omega.{arith}
use mathlib.Core.List.{List, [], ◌∷◌, ◌++◌}
use lib.ListN.{length, get_or}
use seplogic.Ra.Ura.{Ura}
use base.Fraction.{full_share}
use mir.Syntax.{Fn, named, w64}
use mir.MapTy.{inst_fn}
use mir.Val.{Val, vptr, vint}
use base.Logic.{SProp, ent, never, id⊢}
use base.Fml.{Lft, Share, ftrue, fat, flft}
use prog.Wp.{Env, Calls, Loops, WpFn}
use contract.Monad.{fact}
use contract.Running.{tables}
use contract.BorrowLft.{◌⊑◌}
use types.Logic.{Logic}
use types.Kit.{Item, ⋆, ‵, raw, ◌⊛◌, at_ret, ◌$◌, ◌∵◌, !, qed, by, move, keep, drop, use1, split}
use types.Kit.{join, rewrite, fsplit, fjoin, feq_i, feq_l, flt_l, suffices, frame, done}
use types.Part.{whole, sub}
use types.Run.{stop, fld, of_opd, addr, bin, size_lit, first, blocks, exec, returns, enter}
use types.ByLocal.{alloc_all, pass_all, free_all, look_at, get, get_in, through, sets, sets_last}
use types.ByLocal.{take_at, give_at, env}
use denote.Exit.{yes, no}
use denote.RattleType.{owns}
use denote.Memory.{hidden_shr}
use denote.Param.{layout}
use denote.RawPtr.{Ptr, in_a_block}
use denote.Ref.{Bor, ShrRef}
use denote.Builtin.{usize, RefOf}
use denote.Signature.{plain}
use denote.Steps.{nothing, heard}
use denote.Opens.{hide, unhide}
use denote.Triple.Walked.{says, Stays, stay_dropped, walk_of, ends_at, Goes-dropped}
use Rattle.std.specs.Prelude.{Some, None}
use Rattle.std.proofs.raw_atomic.Walks.{proved_at}
use Rattle.std.proofs.VecSteps.Shapes.{after}
use Rattle.std.proofs.RcSteps.{word, word-Good}
use Rattle.std.proofs.mem.Param.{El, R, args, el_x}
use Rattle.std.proofs.ptr.Rows.{times_below, one_below}
use Rattle.oct_cells.specs.Cells.{HasValue}
use Rattle.oct_cells.specs.Ownership.{cell_lent, row_lent}
use Rattle.oct_cells.proofs.Memory.{CellsRow, AddressRow, bytes, Cell, has_word, value_within, seen}
use Rattle.oct_cells.specs.contracts.cells.Cells.get as f
use Rattle.oct_cells.proofs.cells.Cells.get.Statement.{statement}
use Rattle.oct_cells.proofs.cells.Cells.get.Code as code

module _ (E : El) where
  abbrev function : Fn
  function = inst_fn (args E) code.function

  abbrev stayed : Stays (f.signature E.row).params (f.ended E.row).kept
  stayed = (
    stay_dropped (RefOf (0 ∷ []) tt (plain (λ _. CellsRow E)) (λ _. tt)) yes,
    (
      stay_dropped (plain (λ _. AddressRow E)) no,
      (stay_dropped (plain (λ _. usize)) yes, tt),
    ),
  )

  abbrev Asks : (CellsRow E).Denot → (AddressRow E).Denot → ℕ → Type 0
  Asks d address index = (address.ptr ≡ d.at) × HasValue d.values index

module _ (E : El) {M : Type 1} {𝓤 : Ura M} (𝓛 : Logic 𝓤) (C : Calls 𝓤 𝓛.H) (Λ : Loops 𝓤 𝓛.H)
    (Post : Val → SProp 𝓤)
    (κ κ₁ : Lft) (q q₁ : Share) (rb ro : ℕ) (d : (CellsRow E).Denot)
    (address : (AddressRow E).Denot) (index : ℕ) where
  open 𝓛 use {H}

  -- a `&` to the cells, and the tokens of the lifetimes
  abbrev Borrow : List (Item 𝓤)
  Borrow = ‵ (hidden_shr (CellsRow E) κ d rb ro) ∷ ‵ (flft κ q) ∷ (‵ (flft κ₁ q₁) ⊛ ‵ ftrue) ∷ []

  -- a `&` to the value, and the tokens
  abbrev Shown : Bor (el_x E) → List (Item 𝓤)
  Shown r =
      ‵ ((ShrRef (named 0) κ (R E)).own_val r (vptr r.ref_ptr.0 r.ref_ptr.1 ∷ [])) ∷ ‵ (flft κ q)
      ∷ (‵ (flft κ₁ q₁) ⊛ ‵ ftrue) ∷ []

  walk : index < 2 ^ 64 → Asks E d address index
      → ((r : Bor (el_x E)) → get_or d.values index None ≡ Some r.now
      → ent 𝓤 (⋆ 𝓛 (Shown r)) (Post (vptr r.ref_ptr.0 r.ref_ptr.1)))
      → ent 𝓤 (⋆ 𝓛 Borrow)
      (WpFn 𝓤 H C Λ (function E) (vptr rb ro ∷ word address.ptr ∷ vint w64 index ∷ []) Post)
  walk fits asked leaves =
      let x = asked.1.0 in let within = value_within d.values index x asked.1.1 in
      qed 𝓛 Borrow ∵
      enter ! C Λ (function E) (vptr rb ro ∷ word address.ptr ∷ vint w64 index ∷ []) _ $
      alloc_all ! (λ l. pass_all ! refl
      ((tt, tt), (word-Good [] address.ptr, ((tt, record { fits = fits }), tt))) $
      let En : Env 𝓤 H = env (function E).locals l in
      unhide ! $ fsplit ! $ drop ! $
      in_a_block ! d.at (λ p. row_lent (R E) p d.values κ) (id⊢ 𝓤 (never 𝓤))
      (λ b o e. fsplit ! $ flt_l ! (λ few.
      let s = bytes E in let at = index * s + o in
      let tiny : s < 2 ^ 64 =
      omega (arith, one_below (length d.values) s (2 ^ 63) (omega arith) few) in
      let far : index * s < 2 ^ 64 =
      omega (
        arith,
        times_below index (length d.values) s (2 ^ 63) (omega arith) few,
      ) in
      take_at ! 2 $
      rewrite ! 0
      (λ (p : Ptr). ‵ (fat full_share (layout (AddressRow E)) (l 2) 0 (word p)))
      (asked.0 ∙ e) refl $
      give_at ! 2 $ first ! $ blocks ! $
      sets ! (bin ! (get ! refl) (size_lit ! (record { fits = tiny }))
      (record { fits = far }))
      refl (tt, record { fits = far }) $
      sets ! (bin ! (get_in ! (fld ! refl (stop !)) (sub ! 0 refl (whole !)))
      (get ! refl) tt)
      refl (tt, tt) $
      use1 𝓛 (‵ (cell_lent (R E) b at (get_or d.values index None) κ))
      (seen E 𝓛 b κ d.values index o at refl within) $
      rewrite ! 0 (λ (c : Cell E). ‵ (cell_lent (R E) b at c κ)) asked.1.1 refl $
      hide ! $
      -- [what a `&` to the value has; the tokens]
      sets_last ! (addr ! (through ! refl (stop !))) refl (tt, tt) $
      exec ! C Λ En (after 1 (function E).body) (at_ret En Post) $
      sets ! (of_opd ! (get ! refl)) refl (tt, tt) $
      feq_i ! (List Val) (vptr b at ∷ []) (vptr b at ∷ []) refl $ fjoin ! $
      returns ! (look_at ! 0 refl) $ free_all ! refl $
      by ! (leaves (record { ref_ptr = (b, at); now = x }) asked.1.1))))

pub get_spec : {M : Type 1} → statement M
get_spec 𝓤 𝓛 𝓜 𝓡 wired X laws =
    let E : El = record { row = X; laws = laws } in
    let c = f.clauses X 𝓛 𝓜.mem 𝓡.returns in
    let W = walk_of 𝓛 (f.ended X) (stayed E) c in
    let 𝓣 = tables 𝓤 𝓛.H 𝓜 𝓡 𝓡.env in
    proved_at 𝓛 (f.ended X) (stayed E) c 𝓜 𝓡 (
      Goes-dropped 𝓛 2 (RefOf (0 ∷ []) tt (plain (λ _. CellsRow E)) (λ _. tt)) yes (λ κs x f. refl),
      (
        Goes-dropped 𝓛 2 (plain (λ _. AddressRow E)) no (λ κs x f. refl),
        (Goes-dropped 𝓛 2 (plain (λ _. usize)) yes (λ κs x f. refl), tt),
      ),
    )
    (f.Key.name (args E)) (function E) (code.unfolded 𝓤 𝓛.H 𝓜 𝓡 wired (X, tt)) (λ y are.
    let κ = y.0.0.0 in
    let κ₁ = y.0.0.1.0 in
    let q = y.0.1.0 in
    let q₁ = y.0.1.1.0 in
    let vss = y.0.4 in
    let r = y.0.3.0 in
    let address = y.0.3.1.0 in
    let index = y.0.3.1.1.0 in
    let rb = r.ref_ptr.0 in
    let ro = r.ref_ptr.1 in
    let had = Borrow E 𝓛 𝓣.C 𝓣.Λ (W.post y) κ κ₁ q q₁ rb ro r.now address index in
    let shown = Shown E 𝓛 𝓣.C 𝓣.Λ (W.post y) κ κ₁ q q₁ rb ro r.now address index in
    let leaves : (x : Bor (el_x E)) → get_or r.now.values index None ≡ Some x.now
    → ent 𝓤 (⋆ 𝓛 (shown x)) (W.post y (vptr x.ref_ptr.0 x.ref_ptr.1)) =
    λ x is.
    qed 𝓛 (shown x) ∵
    suffices ! _
    (ends_at 𝓛 (f.ended X) (stayed E) c y (vptr x.ref_ptr.0 x.ref_ptr.1) x
    (tt, (tt, (tt, tt))) (tt, (tt, (tt, tt)))) $
    says ! is $
    move ! (1 ∷ 2 ∷ []) $ join ! $ frame ! $ nothing ! $ nothing ! $ fjoin ! $ nothing ! $ fjoin ! $
    nothing ! $ fjoin ! $ done ! in
    qed 𝓛
    (((‵ (flft κ q) ⊛ ‵ (flft κ₁ q₁) ⊛ ‵ ftrue)
    ⊛ ‵ (owns (ShrRef (named 0) κ (CellsRow E) ∷ AddressRow E ∷ usize ∷ []) y.0.3 vss))
    ∷ (raw (fact 𝓤 (κ₁ ⊑ X.lives)) ⊛ raw (fact 𝓤 (Asks E r.now address index))) ∷ []) ∵
    move ! (1 ∷ []) $ split ! $
    heard ! _ (λ lives. heard ! _ (λ asked. split ! $ split ! $ move ! (2 ∷ []) $
    fsplit ! $ fsplit ! $
    feq_l ! (λ e0. move ! (1 ∷ []) $ fsplit ! $ has_word ! address.ptr vss.1.0
    (λ e1. fsplit ! $ fsplit ! $
    feq_l ! (λ e2. flt_l ! (λ fits. keep ! (1 ∷ 2 ∷ 3 ∷ []) $
    by ! (subst (λ (ws : List Val × List Val × List Val). ent 𝓤 (⋆ 𝓛 had)
    (WpFn 𝓤 𝓛.H 𝓣.C 𝓣.Λ (function E) (ws.0 ++ (ws.1 ++ (ws.2 ++ []))) (W.post y)))
    (λ j. (sym e0 j, sym e1 j, sym e2 j))
    (walk E 𝓛 𝓣.C 𝓣.Λ (W.post y) κ κ₁ q q₁ rb ro r.now address index fits asked
    leaves)))))))))
