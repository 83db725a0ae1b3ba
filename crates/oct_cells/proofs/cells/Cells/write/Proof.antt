-- `write` fills a cell that is empty. Assumes `Logic`.
use mathlib.Core.Path.{◌≡◌, refl, sym, subst, ◌∙◌}
use Prim.Native.Nat.{ℕ, ◌+◌, ◌*◌, ◌<◌, ◌^◌}
use native.Mathlib.Omega.{arith}
use mathlib.Core.List.{List, [], ◌∷◌, ◌++◌}
use lib.ListN.{length, set, get_or, length-set}
use seplogic.Ra.Ura.{Ura}
use base.Fraction.{full_share}
use mir.Syntax.{Fn, named, w64}
use mir.MapTy.{inst_fn}
use mir.Val.{Val, vptr, vint, vunit}
use base.Logic.{SProp, ent, never, id⊢}
use base.Fml.{Lft, GName, Share, ftrue, fat, flft, fobs, fbor}
use prog.Wp.{Env, Calls, Loops, WpFn}
use contract.Monad.{fact}
use contract.Running.{tables}
use contract.BorrowLft.{◌⊑◌}
use types.Logic.{Logic}
use types.Kit.{Item, ⋆, ‵, raw, ◌⊛◌, at_ret, ◌$◌, ◌∵◌, !, qed, by, move, keep, use1, use2, split}
use types.Kit.{join, rewrite, fsplit, fsplit3, fjoin, fjoin3, feq_i, feq_l, flt_l, flt_i, suffices}
use types.Kit.{frame, done}
use types.Part.{whole, sub}
use types.Run.{init, stop, fld, unit_lit, of_opd, bin, size_lit, assigns_last, first, blocks, exec}
use types.Run.{returns, enter}
use types.ByLocal.{alloc_all, pass_all, free_all, look_at, get, get_in, through, sets, take_at}
use types.ByLocal.{give_at, env}
use types.SemTy.{Body as Borrowed}
use denote.Exit.{yes, no}
use denote.RattleType.{owns}
use denote.Memory.{mem}
use denote.Param.{layout}
use denote.RawPtr.{Ptr, in_a_block}
use denote.Ref.{MutRef}
use denote.Builtin.{usize}
use denote.Signature.{plain}
use denote.Steps.{nothing, opens, closes, heard}
use denote.Triple.Walked.{says, Stays, stay_dropped, stay_ref, walk_of, ends_at, Goes-dropped}
use denote.Triple.Walked.{Goes-ref}
use Rattle.std.specs.Prelude.{Some, None}
use Rattle.std.proofs.raw_atomic.Walks.{proved_at}
use Rattle.std.proofs.VecSteps.Shapes.{after}
use Rattle.std.proofs.RcSteps.{word, word-Good}
use Rattle.std.proofs.RawLayout.{as_written}
use Rattle.std.proofs.mem.Param.{El, R, args, elτ, el_x, Good}
use Rattle.std.proofs.ptr.Rows.{times_below, one_below}
use Rattle.oct_cells.specs.Ownership.{cell_owned, cells_owned, row_owned}
use Rattle.oct_cells.proofs.Memory.{CellsRow, AddressRow, bytes, Cell, has_word, has_value}
use Rattle.oct_cells.proofs.Memory.{value_in, others, taken_out, put_back}
use Rattle.oct_cells.specs.contracts.cells.Cells.write as f
use Rattle.oct_cells.proofs.cells.Cells.write.Statement.{statement}
use Rattle.oct_cells.proofs.cells.Cells.write.Code as code

module _ (E : El) where
  abbrev function : Fn
  function = inst_fn (args E) code.function

  abbrev stayed : Stays (f.signature E.row).params (f.ended E.row).kept
  stayed = (
    stay_ref (0 ∷ []) tt (plain (λ _. CellsRow E)),
    (
      stay_dropped (plain (λ _. AddressRow E)) no,
      (stay_dropped (plain (λ _. usize)) yes, (stay_dropped (plain (λ _. R E)) no, tt)),
    ),
  )

  abbrev Asks : (CellsRow E).Denot → (AddressRow E).Denot → ℕ → Type 0
  Asks d address index =
      (address.ptr ≡ d.at) × (index < length d.values) × (get_or d.values index None ≡ None)

module _ (E : El) {M : Type 1} {𝓤 : Ura M} (𝓛 : Logic 𝓤) (C : Calls 𝓤 𝓛.H) (Λ : Loops 𝓤 𝓛.H)
    (Post : Val → SProp 𝓤)
    (κ κ₁ : Lft) (q q₁ : Share) (rb ro : ℕ) (γ : GName) (d : (CellsRow E).Denot)
    (address : (AddressRow E).Denot) (index : ℕ) (x : el_x E) where
  open 𝓛 use {H}

  abbrev wrote : (CellsRow E).Denot
  wrote = record { mark = d.mark; at = d.at; values = set d.values index (Some x) }

  -- the `&mut` to the cells, as they are, and the tokens of the lifetimes
  abbrev Borrow : (CellsRow E).Denot → List (Item 𝓤)
  Borrow now =
      ‵ (fobs γ ((CellsRow E).coded.code now)) ∷ ‵ (fbor κ (Borrowed (mem (CellsRow E)) rb ro γ))
      ∷ ‵ (flft κ q) ∷ (‵ (flft κ₁ q₁) ⊛ ‵ ftrue) ∷ []

  walk : (v : Val) → Good E v → index < 2 ^ 64 → Asks E d address index
      → ent 𝓤 (⋆ 𝓛 (Borrow wrote)) (Post vunit)
      → ent 𝓤 (⋆ 𝓛 (‵ ((R E).own_val x (v ∷ [])) ∷ Borrow d))
      (WpFn 𝓤 H C Λ (function E) (vptr rb ro ∷ word address.ptr ∷ vint w64 index ∷ v ∷ []) Post)
  walk v good fits asked leaves =
      let within = asked.1 in
      qed 𝓛 (‵ ((R E).own_val x (v ∷ [])) ∷ Borrow d) ∵
      enter ! C Λ (function E) (vptr rb ro ∷ word address.ptr ∷ vint w64 index ∷ v ∷ []) _ $
      alloc_all ! (λ l. pass_all ! refl
      ((tt, tt), (word-Good [] address.ptr, ((tt, record { fits = fits }), (good, tt)))) $
      let En : Env 𝓤 H = env (function E).locals l in
      move ! (1 ∷ 2 ∷ 3 ∷ []) $
      opens ! tt (CellsRow E) {h = d} rb ro
      (λ vs. move ! (1 ∷ []) $ fsplit ! $ move ! (1 ∷ []) $
      in_a_block ! d.at (λ p. row_owned (R E) p d.values) (id⊢ 𝓤 (never 𝓤))
      (λ b o e. fsplit ! $ flt_l ! (λ few.
      let s = bytes E in let at = index * s + o in
      let tiny : s < 2 ^ 64 =
      omega (arith, one_below (length d.values) s (2 ^ 63) (omega arith) few) in
      let far : index * s < 2 ^ 64 =
      omega (
        arith,
        times_below index (length d.values) s (2 ^ 63) (omega arith) few,
      ) in
      take_at ! 2 $
      rewrite ! 0
      (λ (p : Ptr).
      ‵ (fat full_share (layout (AddressRow E)) (l 2) 0 (word p)))
      (asked.0 ∙ e) refl $
      give_at ! 2 $ first ! $ blocks ! $
      sets ! (bin ! (get ! refl) (size_lit ! (record { fits = tiny }))
      (record { fits = far }))
      refl (tt, record { fits = far }) $
      sets ! (bin ! (get_in ! (fld ! refl (stop !)) (sub ! 0 refl (whole !)))
      (get ! refl) tt)
      refl (tt, tt) $
      use1 𝓛
      (‵ (cell_owned (R E) b at (get_or d.values index None))
      ⊛ ‵ (others E 𝓛 b o d.values index))
      (taken_out E 𝓛 b d.values index o at refl within) $
      split ! $
      rewrite ! 0 (λ (c : Cell E). ‵ (cell_owned (R E) b at c)) asked.2 refl $
      as_written ! (elτ E) b at $
      -- [the empty cell; the others; the mark; where the cells' own value lies; the
      -- open borrow, in three entries; the value; the other token]
      sets ! (of_opd ! (get ! refl)) refl good $
      assigns_last ! (of_opd ! (get ! refl)) (through ! refl (stop !))
      (init ! 0 refl good) $
      exec ! C Λ En (after 1 (function E).body) (at_ret En Post) $
      sets ! (of_opd ! (unit_lit !)) refl (tt, tt) $
      move ! (0 ∷ 7 ∷ []) $
      use2 𝓛 (‵ (cell_owned (R E) b at (Some x))) (value_in E 𝓛 b x at v) $
      use2 𝓛 (‵ (cells_owned (R E) b o wrote.values))
      (put_back E 𝓛 b d.values index o at (Some x) refl within) $
      flt_i ! (length wrote.values * s) (2 ^ 63)
      (subst (λ k. k * s < 2 ^ 63)
      (sym (length-set d.values index (Some x))) few) $
      fjoin ! $
      rewrite ! 0 (λ (p : Ptr). ‵ (row_owned (R E) p wrote.values)) (sym e) refl $
      move ! (1 ∷ 0 ∷ []) $ fjoin ! $ move ! (1 ∷ 0 ∷ []) $
      closes ! tt (CellsRow E) wrote vs rb ro $ returns ! (look_at ! 0 refl) $
      free_all ! refl $ by ! leaves))))

pub write_spec : {M : Type 1} → statement M
write_spec 𝓤 𝓛 𝓜 𝓡 wired X laws =
    let E : El = record { row = X; laws = laws } in
    let c = f.clauses X 𝓛 𝓜.mem 𝓡.returns in
    let W = walk_of 𝓛 (f.ended X) (stayed E) c in
    let 𝓣 = tables 𝓤 𝓛.H 𝓜 𝓡 𝓡.env in
    proved_at 𝓛 (f.ended X) (stayed E) c 𝓜 𝓡 (
      Goes-ref 𝓛 2 0 tt (plain (λ _. CellsRow E)),
      (
        Goes-dropped 𝓛 2 (plain (λ _. AddressRow E)) no (λ κs x f. refl),
        (
          Goes-dropped 𝓛 2 (plain (λ _. usize)) yes (λ κs x f. refl),
          (Goes-dropped 𝓛 2 (plain (λ _. R E)) no (λ κs x f. refl), tt),
        ),
      ),
    )
    (f.Key.name (args E)) (function E) (code.unfolded 𝓤 𝓛.H 𝓜 𝓡 wired (X, tt)) (λ y are.
    let κ = y.0.0.0 in
    let κ₁ = y.0.0.1.0 in
    let q = y.0.1.0 in
    let q₁ = y.0.1.1.0 in
    let vss = y.0.4 in
    let r = y.0.3.0 in
    let address = y.0.3.1.0 in
    let index = y.0.3.1.1.0 in
    let x = y.0.3.1.1.1.0 in
    let rb = r.ref_ptr.0 in
    let ro = r.ref_ptr.1 in
    let new = wrote E 𝓛 𝓣.C 𝓣.Λ (W.post y) κ κ₁ q q₁ rb ro r.ghost_name r.now address index x in
    let had = Borrow E 𝓛 𝓣.C 𝓣.Λ (W.post y) κ κ₁ q q₁ rb ro r.ghost_name r.now address index x in
    let leaves : vss.0 ≡ vptr rb ro ∷ [] → ent 𝓤 (⋆ 𝓛 (had new)) (W.post y vunit) = λ e0.
    qed 𝓛 (had new) ∵
    suffices ! _
    (ends_at 𝓛 (f.ended X) (stayed E) c y vunit tt (new, (tt, (tt, (tt, tt))))
    (tt, (tt, (tt, (tt, tt))))) $
    says ! (refl, refl) $
    move ! (2 ∷ 3 ∷ []) $ join ! $ frame ! $ feq_i ! (List Val) vss.0 (vptr rb ro ∷ []) e0 $
    fjoin3 ! $ nothing ! $ nothing ! $ fjoin ! $ nothing ! $ fjoin ! $ nothing ! $ fjoin ! $
    move ! (1 ∷ 0 ∷ []) $ fjoin ! $ feq_i ! (List Val) (vunit ∷ []) (vunit ∷ []) refl $
    move ! (1 ∷ 0 ∷ []) $ done ! in
    qed 𝓛
    (((‵ (flft κ q) ⊛ ‵ (flft κ₁ q₁) ⊛ ‵ ftrue)
    ⊛ ‵ (owns (MutRef (named 0) κ (CellsRow E) ∷ AddressRow E ∷ usize ∷ R E ∷ []) y.0.3
    vss))
    ∷ (raw (fact 𝓤 (κ₁ ⊑ X.lives)) ⊛ raw (fact 𝓤 (Asks E r.now address index))) ∷ []) ∵
    move ! (1 ∷ []) $ split ! $
    heard ! _ (λ lives. heard ! _ (λ asked. split ! $ split ! $ move ! (2 ∷ []) $
    fsplit ! $ fsplit3 ! $
    feq_l ! (λ e0. move ! (2 ∷ []) $ fsplit ! $ has_word ! address.ptr vss.1.0
    (λ e1. fsplit ! $ fsplit ! $ feq_l ! (λ e2. flt_l ! (λ fits.
    fsplit ! $
    has_value ! E x vss.1.1.1.0 (λ v e3 good. keep ! (0 ∷ 2 ∷ 3 ∷ 4 ∷ 5 ∷ []) $
    by ! (subst (λ (ws : List Val × List Val × List Val × List Val). ent 𝓤
    (⋆ 𝓛 (‵ ((R E).own_val x (v ∷ [])) ∷ had r.now)) (WpFn 𝓤 𝓛.H 𝓣.C 𝓣.Λ
    (function E) (ws.0 ++ (ws.1 ++ (ws.2 ++ (ws.3 ++ [])))) (W.post y)))
    (λ j. (sym e0 j, sym e1 j, sym e2 j, sym e3 j))
    (walk E 𝓛 𝓣.C 𝓣.Λ (W.post y) κ κ₁ q q₁ rb ro r.ghost_name r.now address
    index x v good fits asked (leaves e0)))))))))))
