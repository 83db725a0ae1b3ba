-- `get_mut` lends the map, and the slot follows it.
use mathlib.Core.Path.{◌≡◌, refl}
use Prim.Native.Nat.{ℕ}
use mathlib.Core.List.{List, [], ◌∷◌}
use seplogic.Ra.Ura.{Ura}
use base.Fraction.{full_share}
use mir.Syntax.{named}
use mir.Raw.{raw as bare}
use mir.Val.{Val, vptr}
use base.Logic.{SProp, ent, sep, id⊢}
use base.Fml.{Lft, GName, Share, Fml, ftrue, fsep, flft}
use prog.Wp.{Calls, Loops, WpFn, Tables}
use prog.Memory.{Memory}
use prog.Routine.{Routine}
use types.Logic.{Logic, sem}
use sound.WpLaws.{WpFn-mono}
use types.Kit.{‵, ◌⊛◌, some, at_ret, ◌$◌, ◌∵◌, !, qed, by, move, keep, use1, drop, split, join}
use types.Kit.{pick, rewrite, fsplit, fsplit3, fjoin, suffices, frame, done, raw, later, await}
use types.Kit.{group, fpack}
use types.Part.{whole, sub, look_in}
use types.Run.{stop, fld, load, of_opd, first, blocks, exec, returns, enter, addr}
use types.ByLocal.{alloc_all, pass_all, free_all, look_at, get, through, sets, env, sets_last}
use contract.Monad.{Fun, fact}
use contract.Running.{tables, tables_of}
use denote.Exit.{no}
use denote.RattleType.{RattleType, owns}
use denote.Memory.{part_at, mem, cell_at, part_of}
use denote.RawPtr.{Ptr, block_ptr}
use denote.Ref.{MutBor, MutRef, mut_vals, mut_Tells}
use denote.Signature.{plain, mut_ref_to}
use denote.Steps.{heard, nothing, opens}
use denote.Follow.{follows, Part, lends_Part}
use denote.Triple.Entry.{on_entry}
use denote.Triple.Spec.{Meets, triple_of}
use denote.Triple.Walked.{says, Stays, stay_dropped, walk_of, ends_at, walked, walk_Meets}
use denote.Triple.Walked.{Goes-spent_ref}
use denote.Triple.Table.{entered}
use Rattle.core.proofs.alloc.Calls.{token}
use Rattle.std.proofs.VecSteps.Shapes.{after}
use Rattle.std.proofs.lemmas.Bool.{false≢true}
use Rattle.std.specs.Prelude.{Option, Some, None, IsSome}
use Rattle.std_alloc.proofs.BoxSteps.Form.{D, τ, word, handle}
use Rattle.std_alloc.proofs.BoxSteps.Form.{R as Value, B as Boxed}
use Rattle.std_alloc.proofs.BoxSteps.Steps.{box_out, box_in}
use Rattle.std_heap.specs.contracts.Global as Heap
use Rattle.oct_map.specs.contracts.map.OccMap as Held
use Rattle.octofix.proofs.AsBox.{E}
use Rattle.octofix.specs.Lends.{with_map}
use Rattle.octofix.specs.contracts.slot.Slot as Slotted
use Rattle.octofix.specs.contracts.slot.Slot.get_mut as F
use Rattle.octofix.specs.contracts.slot.Slot.get_mut.Key.{name as #self}
use Rattle.octofix.proofs.slot.Slot.get_mut.Statement as stated
use Rattle.octofix.proofs.slot.Slot.get_mut.Code as code

abbrev B : RattleType
B = Slotted.the_row

abbrev R : RattleType
R = Held.the_row

abbrev stayed : Stays (F.ended).signature.params (F.ended).kept
stayed = (stay_dropped (mut_ref_to (0 ∷ []) tt (plain (λ _. B))) no, tt)

module _ {M : Type 1} {𝓤 : Ura M} (𝓛 : Logic 𝓤) (at_mem : Memory → SProp 𝓤)
    (run : Routine → Fun 𝓤) where
  open 𝓛 use {H, A}

  module _ (κ : Lft) (q : Share) (rb ro : ℕ) (γ : GName) (p : Ptr) (alloc : Heap.the_row.Denot)
    where
      abbrev slot : Option R.Denot → B.Denot
      slot map = record { at = p; alloc = alloc; map = map }

      abbrev as_box : R.Denot → D E
      as_box x = record { ptr = p; alloc = alloc; value = x }

      abbrev self : Option R.Denot → MutBor B.Denot
      self map = record { ref_ptr = (rb, ro); ghost_name = γ; now = slot map }

      abbrev bound : Option R.Denot → (walk_of 𝓛 F.ended stayed (F.clauses 𝓛 at_mem run)).Ghost
      bound map = (((κ, tt), (q, tt), tt, (self map, tt), (vptr rb ro ∷ [], tt)), tt)

      abbrev Post : Option R.Denot → Val → SProp 𝓤
      Post map = (walk_of 𝓛 F.ended stayed (F.clauses 𝓛 at_mem run)).post (bound map)

      abbrev lent : R.Denot → R.Denot → B.Denot
      lent x = with_map (slot (Some x))

      module _ (b o : ℕ) (hv : Val) where
        -- all of the slot but its map
        abbrev Rest : Fml
        Rest =
            fsep (fsep (token E.al alloc (bare (τ E)) (block_ptr b o)) (handle E alloc hv))
            (cell_at full_share B.mir (word E hv b o ∷ []) rb ro)

        back : p ≡ block_ptr b o → (x w : R.Denot)
            → ent 𝓤 (sep 𝓤 (sem 𝓛 ((mem R).own_at w b o)) (sem 𝓛 Rest))
            (sem 𝓛 ((mem B).own_at (lent x w) rb ro))
        unfolding part_of
        back at_b x w =
            qed 𝓛 (‵ (part_at (Value E) full_share w b o) ∷ ‵ Rest ∷ []) ∵
            move ! (1 ∷ []) $ fsplit ! $ fsplit ! $ move ! (3 ∷ []) $
            box_in E ! (as_box w) b o w at_b refl $
            use1 𝓛 (‵ (B.own_val (slot (Some w)) (word E hv b o ∷ []))) (id⊢ 𝓤 _) $
            move ! (1 ∷ 0 ∷ []) $ fjoin ! $
            fpack ! (List Val)
            (λ us. fsep (cell_at full_share B.mir us rb ro) (B.own_val (slot (Some w)) us))
            (word E hv b o ∷ []) $ done !

        exits : (x : R.Denot) (γ' : GName)
            → ent 𝓤 (sep 𝓤 (sem 𝓛 ((MutRef (named 0) κ R).own_val
            (record { ref_ptr = (b, o); ghost_name = γ'; now = x }) (vptr b o ∷ [])))
            (sep 𝓤 (A.lft κ q) (sem 𝓛 (follows B R γ γ' (lent x))))) (Post (Some x) (vptr b o))
        exits x γ' =
            let r : MutBor R.Denot = record { ref_ptr = (b, o); ghost_name = γ'; now = x } in
            qed 𝓛 (‵ ((MutRef (named 0) κ R).own_val r (vptr b o ∷ [])) ∷ ‵ (flft κ q)
            ∷ ‵ (follows B R γ γ' (lent x)) ∷ []) ∵
            suffices ! _ (ends_at 𝓛 F.ended stayed (F.clauses 𝓛 at_mem run) (bound (Some x))
            (vptr b o) r (tt, tt) (tt, tt)) $
            nothing ! $ nothing ! $ fjoin ! $ join ! $ nothing ! $ move ! (2 ∷ 0 ∷ []) $ join ! $
            join ! $ frame ! $ says ! refl $ done !

      module _ (C : Calls 𝓤 H) (Λ : Loops 𝓤 H) where
        walk : (map : Option R.Denot) → ent 𝓤 (sep 𝓤
            (on_entry 𝓛 F.signature (κ, tt) (q, tt) (self map, tt) (vptr rb ro ∷ [], tt))
            (fact 𝓤 (IsSome map))) (WpFn 𝓤 H C Λ code.function (vptr rb ro ∷ []) (Post map))
        walk None =
            qed 𝓛 (((‵ (flft κ q) ⊛ ‵ ftrue)
            ⊛ ‵ (owns (MutRef (named 0) κ B ∷ []) (self None, tt) (vptr rb ro ∷ [], tt)))
            ∷ raw (fact 𝓤 (IsSome (slot None).map)) ∷ []) ∵
            move ! (1 ∷ []) $ heard ! _ (λ some. absurd (false≢true some))
        walk (Some x) =
            qed 𝓛 (((‵ (flft κ q) ⊛ ‵ ftrue)
            ⊛ ‵ (owns (MutRef (named 0) κ B ∷ []) (self (Some x), tt) (vptr rb ro ∷ [], tt)))
            ∷ raw (fact 𝓤 (IsSome (slot (Some x)).map)) ∷ []) ∵
            split ! $ move ! (2 ∷ []) $ drop ! $
            enter ! C Λ code.function (vptr rb ro ∷ []) _ $
            alloc_all ! (λ l. pass_all ! refl ((tt, tt), tt) $
            let En = env code.function.locals l in
            move ! (1 ∷ []) $ fsplit ! $ fsplit3 ! $ drop ! $ move ! (3 ∷ []) $ split ! $
            move ! (2 ∷ 3 ∷ 0 ∷ []) $
            opens ! tt B {h = slot (Some x)} rb ro (λ vs. move ! (1 ∷ []) $
            use1 𝓛 (‵ ((Boxed E).own_val (as_box x) vs)) (id⊢ 𝓤 _) $
            box_out E ! (as_box x) vs (λ b o hv at_b ws fa. move ! (1 ∷ 2 ∷ []) $ fjoin ! $
            move ! (1 ∷ []) $
            rewrite ! 2 (λ (us : List Val). ‵ (cell_at full_share B.mir us rb ro)) ws refl $
            -- [the map; the token with the allocator; the slot's cell; the open borrow, in three]
            first ! $ blocks ! $
            sets ! (of_opd ! (load ! (through ! refl (fld ! refl (stop !)))
            (look_in ! 2 (sub ! 0 refl (whole !))))) refl (tt, tt) $
            sets ! (of_opd ! (get ! refl)) refl (tt, tt) $
            sets_last ! (addr ! (through ! refl (stop !))) refl (tt, tt) $
            exec ! C Λ En (after 1 (code.function).body) (at_ret En (Post (Some x))) $
            sets ! (of_opd ! (get ! refl)) refl (tt, tt) $
            move ! (1 ∷ 2 ∷ []) $ fjoin ! $ move ! (2 ∷ 3 ∷ 4 ∷ 1 ∷ 0 ∷ []) $ group ! 5 $
            use1 𝓛 (later (some (λ (γ' : GName). raw (Part 𝓛 B R (lent x) (named 0) κ q rb ro b o γ
            (sem 𝓛 (Rest b o hv)) (back b o hv at_b x) x γ'))))
            (lends_Part 𝓛 B R (lent x) (named 0) κ q rb ro b o γ (sem 𝓛 (Rest b o hv))
            (back b o hv at_b x) (B.coded.code (slot (Some x))) (B.coded.code (slot (Some x))) x) $
            await ! tt $ pick ! (λ γ'.
            returns ! (look_at ! 0 refl) $ free_all ! refl $ keep ! (0 ∷ []) $
            by ! (exits b o hv x γ')))))

  meets : (𝓣 : Tables 𝓤 H)
      → Meets 𝓛 F.signature (WpFn 𝓤 H 𝓣.C 𝓣.Λ code.function) (F.spec 𝓛 at_mem run)
  meets 𝓣 =
      walk_Meets 𝓛 F.ended stayed
      (Goes-spent_ref 𝓛 1 (0 ∷ []) tt (plain (λ _. B)), tt) (F.clauses 𝓛 at_mem run)
      (WpFn 𝓤 H 𝓣.C 𝓣.Λ code.function) (WpFn-mono 𝓤 H 𝓛.laws 𝓣 code.function)
      (walked 𝓛 F.ended stayed (F.clauses 𝓛 at_mem run) (WpFn 𝓤 H 𝓣.C 𝓣.Λ code.function)
      (λ κs. (mut_vals, tt)) (λ κs. (mut_Tells (named 0) κs.0 B, tt))
      (λ κs qs bounds a g are. walk κs.0 qs.0 a.0.ref_ptr.0 a.0.ref_ptr.1 a.0.ghost_name
      a.0.now.at a.0.now.alloc 𝓣.C 𝓣.Λ a.0.now.map))

pub get_mut_spec : {M : Type 1} → stated.statement M
unfolding tables_of
get_mut_spec 𝓤 𝓛 𝓜 𝓡 wired =
    let 𝓣 : Tables 𝓤 𝓛.H = tables_of 𝓤 𝓛.H 𝓜 (tables 𝓤 𝓛.H 𝓜 𝓡 𝓡.env) in
    entered 𝓤 𝓛.H (triple_of 𝓛 F.signature (F.spec 𝓛 𝓜.mem 𝓡.returns)) 𝓣.C 𝓣.Λ #self
    code.function (code.unfolded 𝓤 𝓛.H 𝓜 𝓡 wired) (meets 𝓛 𝓜.mem 𝓡.returns 𝓣)
