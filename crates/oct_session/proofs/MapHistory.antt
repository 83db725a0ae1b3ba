-- What a map stands for after one more command.
use Rattle.std.proofs.Common.{◌≡◌, ℕ, ℤ, ◌≤ℤ◌, ◌<ℤ◌, List, ◌++◌, ◌||◌, ◌&&◌, not, Bool, true, false}
use Rattle.std.proofs.Common.{cond, IsTrue, Some, None, refl, sym, ap, subst, ◌∙◌, arith, Option}
use Rattle.std.specs.Prelude.{int_lt}
use Rattle.std.proofs.lemmas.Int.{ints}
use Rattle.std.proofs.lemmas.List.Sums.{fold-append}
use Rattle.oct_key.specs.Voxel.{Voxel, IsInMap, key_at}
use Rattle.oct_key.specs.declared.point.Point.{Point}
use Rattle.oct_odds.specs.declared.event.Event.{Event}
use Rattle.oct_odds.specs.declared.event.Event.TheVariants as event
use Rattle.oct_odds.specs.declared.event.Class.{Class}
use Rattle.oct_odds.specs.declared.event.Class.TheVariants.{Unknown, Free, Occupied}
use Rattle.oct_odds.specs.Odds.{Odds}
use Rattle.oct_odds.specs.Update.{Value, IsWithin, class_of}
use Rattle.oct_bt.specs.Classes.{value_for}
use Rattle.oct_bt.specs.DataClasses.{data_classes}
use Rattle.oct_key.specs.Boxes.{Window}
use Rattle.oct_change.specs.Held.{Held}
use Rattle.oct_map.specs.Ground.{Ground}
use Rattle.oct_map.specs.Map.{Map, IsMap, ground_of, values_of}
use Rattle.oct_map.specs.Loads.{IsMapLoaded}
use Rattle.oct_map.specs.Restores.{IsMapRestored, ground_after}
use Rattle.oct_map.specs.Edits.{outcome_in}
use Rattle.oct_map.specs.Marks.{SameMark, KeepsMark, marked_of, classes_in}
use Rattle.oct_map.specs.Notes.{marked_by_notes}
use Rattle.oct_map.proofs.Marks.{same_mark_trans}
use Rattle.oct_map.specs.Outcome.{corner_events, corner_box}
use Rattle.oct_scan.specs.Beam.{Sighting}
use Rattle.oct_snap.specs.Reading.{Snapshot}
use Rattle.oct_snap.specs.Reading as snapshot
use Rattle.oct_key.specs.Values.{SameValues}
use Rattle.oct_tree.specs.Shape.{IsPruned}
use Rattle.oct_tree.proofs.Paths.{value_within}
use Rattle.oct_values.specs.Events.{Events, event_at, after_event, updated}
use Rattle.oct_script.specs.declared.command.Edit.{Edit}
use Rattle.oct_session.specs.History.{History, State, Action, Edited, Scanned, Refreshed, Pruned}
use Rattle.oct_session.specs.History.{Cleared, Likened, Replaced, Restored, class_event}
use Rattle.oct_session.specs.History.{value_event, edit_event, transition}
use Rattle.oct_session.specs.History.{after, after_all, start_state}
use Rattle.oct_session.specs.History.{state_after, Boxed, Tracked, Untracked, Limited, Unlimited}
use Rattle.oct_values.specs.Classes.{classes_of}
use Rattle.oct_session.specs.Leaving.{StandsFor}
use Rattle.oct_session.specs.Setup.{Setup}

-- more commands after a history
pub state_more : (o : Setup) (h more : History)
    → state_after o (h ++ more) ≡ after_all (state_after o h) more
state_more o h more = fold-append after (start_state o) h more

-- what answers read beside the values stays, and the mark
pub record Keeps (m n : Map) : Type 0 where
  pub ground : ground_of n ≡ ground_of m
  pub mark : KeepsMark m n

-- a map with the same values stands for the same
pub stands_same : (m n : Map) (s : State) → SameValues (values_of m) (values_of n)
    → n.is_stale ≡ m.is_stale → (IsPruned m.tree → IsPruned n.tree) → Keeps m n → StandsFor m s
    → StandsFor n s
stands_same m n s values stale pruned setup at = record {
  values = λ k low. at.values k low ∙ values k low;
  base = setup.ground ∙ at.base;
  marked = same_mark_trans s.marked (marked_of m) (marked_of n) at.marked setup.mark;
  is_stale = stale ∙ at.is_stale;
  pruned = λ is. pruned (at.pruned is);
}

-- the map after an action that had these events
stands_done : (m n : Map) (s : State) (a : Action) (events : Events)
    → events ≡ (transition a).events (ground_of m)
    → SameValues (updated m.tree.odds events (values_of m)) (values_of n) →
    n.is_stale ≡ (transition a).is_stale m.is_stale
    → ((was : Bool) → (was ≡ true → IsPruned m.tree) → (transition a).is_pruned was ≡ true
    → IsPruned n.tree)
    →
    ((g : Ground) → ((transition a).base g).odds ≡ g.odds)
    → ground_of n ≡ (transition a).base (ground_of m) →
    SameMark ((transition a).marked (classes_of s.base.odds s.values) s.marked) (marked_of n)
    → StandsFor m s
    → StandsFor n (after s a)
stands_done m n s a events is values stale pruned odds setup mark at = record {
  values = λ k low.
      ap (λ (o : Odds). after_event o ((transition a).events s.base k) (s.values k)) (odds s.base)
      ∙ ap (after_event s.base.odds ((transition a).events s.base k)) (at.values k low)
      ∙ ap (λ (g : Ground). after_event g.odds ((transition a).events g k) (values_of m k))
      (sym at.base)
      ∙ ap (λ (e : Events). after_event m.tree.odds (e k) (values_of m k)) (sym is)
      ∙ values k low;
  base = setup ∙ ap (transition a).base at.base;
  marked = mark;
  is_stale = stale ∙ ap (transition a).is_stale at.is_stale;
  pruned = λ is. pruned s.is_pruned at.pruned is;
}

-- a call that isn't lazy leaves a pruned map pruned
pruned_unless_lazy : (m n : Map) (lazy was : Bool)
    → ((IsTrue lazy → ⊥) → IsPruned m.tree → IsPruned n.tree) → (was ≡ true → IsPruned m.tree)
    → (was && not lazy) ≡ true → IsPruned n.tree
pruned_unless_lazy m n true true keeps pruned is = cc
pruned_unless_lazy m n true false keeps pruned is = cc
pruned_unless_lazy m n false true keeps pruned is = keeps (λ lazy. cc) (pruned is)
pruned_unless_lazy m n false false keeps pruned is = cc

-- the map after an edit
pub stands_edited : (m n : Map) (s : State) (p : Point) (e : Edit) (lazy : Bool) (event : Event)
    → event ≡ edit_event m.tree.odds e →
    SameValues (updated m.tree.odds (event_at (key_at m.tree.res p) event) (values_of m))
    (values_of n) → n.is_stale ≡ (m.is_stale || lazy) →
    ((IsTrue lazy → ⊥) → IsPruned m.tree → IsPruned n.tree) → Keeps m n → StandsFor m s
    → StandsFor n (after s (Edited p e lazy))
stands_edited m n s p e lazy event is values stale pruned setup at =
    stands_done m n s (Edited p e lazy) (event_at (key_at m.tree.res p) event)
    (ap (event_at (key_at m.tree.res p)) is) values stale
    (λ was. pruned_unless_lazy m n lazy was pruned) (λ g. refl) setup.ground
    (same_mark_trans s.marked (marked_of m) (marked_of n) at.marked setup.mark) at

-- the map after an edit of a box
pub stands_boxed : (m n : Map) (s : State) (lo hi : Point) (e : Edit) (event : Event)
    → event ≡ edit_event m.tree.odds e →
    SameValues (updated m.tree.odds
    (corner_events (key_at m.tree.res lo) (key_at m.tree.res hi) event) (values_of m))
    (values_of n) → n.is_stale ≡ m.is_stale →
    (IsPruned m.tree → IsPruned n.tree) → Keeps m n → StandsFor m s
    → StandsFor n (after s (Boxed lo hi e))
stands_boxed m n s lo hi e event is values stale pruned setup at =
    stands_done m n s (Boxed lo hi e)
    (corner_events (key_at m.tree.res lo) (key_at m.tree.res hi) event)
    (ap (corner_events (key_at m.tree.res lo) (key_at m.tree.res hi)) is) values stale
    (λ was before now. pruned (before now)) (λ g. refl) setup.ground
    (same_mark_trans s.marked (marked_of m) (marked_of n) at.marked setup.mark) at

-- the map after a scan
pub stands_scanned : (m n : Map) (s : State) (sighting : Sighting) (lazy : Bool) →
    SameValues (updated m.tree.odds (outcome_in m sighting) (values_of m)) (values_of n)
    → n.is_stale ≡ (m.is_stale || lazy) →
    ((IsTrue lazy → ⊥) → IsPruned m.tree → IsPruned n.tree) → Keeps m n → StandsFor m s
    → StandsFor n (after s (Scanned sighting lazy))
stands_scanned m n s sighting lazy values stale pruned setup at =
    stands_done m n s (Scanned sighting lazy) (outcome_in m sighting) refl values stale
    (λ was. pruned_unless_lazy m n lazy was pruned) (λ g. refl) setup.ground
    (same_mark_trans s.marked (marked_of m) (marked_of n) at.marked setup.mark) at

-- the map after a refresh
pub stands_refreshed : (m n : Map) (s : State) → SameValues (values_of m) (values_of n)
    → n.is_stale ≡ false → (IsPruned m.tree → IsPruned n.tree) → Keeps m n →
    StandsFor m s → StandsFor n (after s Refreshed)
stands_refreshed m n s values fresh pruned setup at =
    stands_done m n s Refreshed ((transition Refreshed).events (ground_of m)) refl values fresh
    (λ was before is. pruned (before is)) (λ g. refl) setup.ground
    (same_mark_trans s.marked (marked_of m) (marked_of n) at.marked setup.mark) at

-- the map after a prune
pub stands_pruned : (m n : Map) (s : State) → SameValues (values_of m) (values_of n)
    → n.is_stale ≡ m.is_stale → IsPruned n.tree → Keeps m n →
    StandsFor m s → StandsFor n (after s Pruned)
stands_pruned m n s values stale pruned setup at =
    stands_done m n s Pruned ((transition Pruned).events (ground_of m)) refl values stale
    (λ was before is. pruned) (λ g. refl) setup.ground
    (same_mark_trans s.marked (marked_of m) (marked_of n) at.marked setup.mark) at

-- the map after a clear
pub stands_cleared : (m n : Map) (s : State) → ((k : Voxel) → values_of n k ≡ None)
    → n.is_stale ≡ false → IsPruned n.tree → ground_of n ≡ ground_of m → n.mark ≡ None
    → StandsFor m s → StandsFor n (after s Cleared)
stands_cleared m n s unknown fresh pruned setup none at =
    stands_done m n s Cleared ((transition Cleared).events (ground_of m)) refl
    (λ k low. forgotten (values_of m k) (values_of n k) (unknown k)) fresh (λ was before is. pruned)
    (λ g. refl) setup
    (subst (λ x. SameMark None (marked_by_notes x (classes_in n))) (sym none) tt) at
  where
    forgotten : (old new : Value) → new ≡ None
        → after_event m.tree.odds (Some event.Forget) old ≡ new
    forgotten None new none = sym none
    forgotten (Some v) new none = sym none

-- the map after maximum likelihood
pub stands_likened : (m n : Map) (s : State)
    → SameValues (updated m.tree.odds (λ k. Some event.Likely) (values_of m)) (values_of n)
    → n.is_stale ≡ false → IsPruned n.tree →
    Keeps m n → StandsFor m s → StandsFor n (after s Likened)
stands_likened m n s values fresh pruned setup at =
    stands_done m n s Likened ((transition Likened).events (ground_of m)) refl values fresh
    (λ was before is. pruned) (λ g. refl) setup.ground
    (same_mark_trans s.marked (marked_of m) (marked_of n) at.marked setup.mark) at

-- what lies within the bounds is its own clamped value
inside : (low high n : ℤ) (a b : Bool) → int_lt n low ≡ a → int_lt high n ≡ b → low ≤ℤ n → n ≤ℤ high
    → cond a low (cond b high n) ≡ n
inside low high n true b f g l h =
    absurd (let no : n <ℤ low = grind (arith, ints) in omega (arith, ints))
inside low high n false true f g l h =
    absurd (let no : high <ℤ n = grind (arith, ints) in omega (arith, ints))
inside low high n false false f g l h = refl

-- the event of a load gives a voxel the value of its class in the file
pub replaced_by : (odds : Odds) (c : Class) (old new : Value) → value_for odds c ≡ new
    → IsWithin odds new → after_event odds (Some (class_event odds c)) old ≡ new
replaced_by odds Unknown old new is within = is
replaced_by odds Free old new is within =
    let bounds : IsWithin odds (Some odds.min) = subst (IsWithin odds) (sym is) within in
    ap Some (inside odds.min odds.max odds.min _ _ refl refl bounds.0 bounds.1) ∙ is
replaced_by odds Occupied old new is within =
    let bounds : IsWithin odds (Some odds.max) = subst (IsWithin odds) (sym is) within in
    ap Some (inside odds.min odds.max odds.max _ _ refl refl bounds.0 bounds.1) ∙ is

-- the map after the load of a file
pub stands_replaced : (m n : Map) (s : State) (records : List ℕ) → IsMapLoaded m n records → IsMap n
    → ground_of n ≡ ground_of m → StandsFor m s
    → StandsFor n (after s (Replaced (data_classes records)))
stands_replaced m n s records loaded is_map ground at =
    stands_done m n s (Replaced (data_classes records))
    ((transition (Replaced (data_classes records))).events (ground_of m)) refl
    (λ k low. replaced_by m.tree.odds (data_classes records k) (values_of m k) (values_of n k)
    (loaded.values k low)
    (subst (λ (g : Ground). IsWithin g.odds (values_of n k)) ground
    (value_within n.tree k is_map.formed.linked)))
    loaded.stale (λ was before is. loaded.pruned) (λ g. refl) ground
    (subst (λ x. SameMark None (marked_by_notes x (classes_in n))) (sym loaded.mark) tt) at

-- the event of a restore gives a voxel its value in the snapshot
restored_by : (odds : Odds) (v old new : Value) → v ≡ new → IsWithin odds new
    → after_event odds (Some (value_event v)) old ≡ new
restored_by odds None old new is within = is
restored_by odds (Some n) old new is within =
    let bounds : IsWithin odds (Some n) = subst (IsWithin odds) (sym is) within in
    ap Some (inside odds.min odds.max n _ _ refl refl bounds.0 bounds.1) ∙ is

-- the map after the restore of a snapshot, by the log-odds that are in force from then on
pub stands_restored : (m n : Map) (s : State) (q : Snapshot) → IsMapRestored m n q → IsMap n
    → StandsFor m s → StandsFor n (after s (Restored q))
stands_restored m n s q restored is_map at = record {
  values = λ k low. restored_by q.head.odds (snapshot.values_of q k) (s.values k) (values_of n k)
      (restored.values k low)
      (subst (λ (g : Ground). IsWithin g.odds (values_of n k)) restored.setup
      (value_within n.tree k is_map.formed.linked));
  base = restored.setup ∙ ap (λ (g : Ground). ground_after g q.head) at.base;
  marked = subst (λ x. SameMark None (marked_by_notes x (classes_in n))) (sym restored.mark) tt;
  is_stale = restored.stale;
  pruned = λ is. restored.pruned;
}

-- the classes of a state are those of a map that stands for it
pub same_classes : (m : Map) (s : State) → StandsFor m s → (k : Voxel) → IsInMap k
    → classes_of s.base.odds s.values k ≡ classes_in m k
same_classes m s at k low = ap (class_of s.base.odds) (at.values k low)
    ∙ ap (λ (g : Ground). class_of g.odds (values_of m k)) (sym at.base)

-- the map after an action that is about its mark alone
stands_marked : (m n : Map) (s : State) (a : Action) (x : Option Held) → n ≡ record m { mark = x }
    → (λ k. None) ≡ (transition a).events (ground_of m)
    → m.is_stale ≡ (transition a).is_stale m.is_stale →
    ((was : Bool) → (transition a).is_pruned was ≡ was)
    → ((g : Ground) → (transition a).base g ≡ g) →
    SameMark ((transition a).marked (classes_of s.base.odds s.values) s.marked) (marked_of n)
    → StandsFor m s
    → StandsFor n (after s a)
stands_marked m n s a x exact nothing stale pruned base mark at =
    stands_done m n s a (λ k. None) nothing (λ k low. ap (λ (t : Map). values_of t k) (sym exact))
    (ap (λ (t : Map). t.is_stale) exact ∙ stale)
    (λ was before is. subst (λ (t : Map). IsPruned t.tree) (sym exact)
    (before (sym (pruned was) ∙ is)))
    (λ g. ap (λ (h : Ground). h.odds) (base g)) (ap ground_of exact ∙ sym (base (ground_of m))) mark
    at

-- the map after a mark was set
pub stands_tracked : (m n : Map) (s : State) (x : Option Held) → n ≡ record m { mark = x }
    → SameMark (Some (classes_in m)) (marked_of n) → StandsFor m s → StandsFor n (after s Tracked)
stands_tracked m n s x exact mark at =
    stands_marked m n s Tracked x exact refl refl (λ was. refl) (λ g. refl)
    (same_mark_trans (Some (classes_of s.base.odds s.values)) (Some (classes_in m)) (marked_of n)
    (same_classes m s at) mark) at

-- the map after its mark was taken away
pub stands_untracked : (m n : Map) (s : State) → n ≡ record m { mark = None } → StandsFor m s
    → StandsFor n (after s Untracked)
stands_untracked m n s exact at =
    stands_marked m n s Untracked None exact refl refl (λ was. refl) (λ g. refl)
    (subst (λ (t : Map). SameMark None (marked_of t)) (sym exact) tt) at

-- the map after an action that is about its update box alone
stands_boxing : (m n : Map) (s : State) (a : Action) (x : Option Window)
    → n ≡ record m { update_box = x } → (λ k. None) ≡ (transition a).events (ground_of m)
    → m.is_stale ≡ (transition a).is_stale m.is_stale →
    ((was : Bool) → (transition a).is_pruned was ≡ was)
    → ((g : Ground) → ((transition a).base g).odds ≡ g.odds)
    → ground_of (record m { update_box = x }) ≡ (transition a).base (ground_of m) →
    SameMark ((transition a).marked (classes_of s.base.odds s.values) s.marked) (marked_of m)
    → StandsFor m s
    → StandsFor n (after s a)
stands_boxing m n s a x exact nothing stale pruned odds base mark at =
    stands_done m n s a (λ k. None) nothing (λ k low. ap (λ (t : Map). values_of t k) (sym exact))
    (ap (λ (t : Map). t.is_stale) exact ∙ stale)
    (λ was before is. subst (λ (t : Map). IsPruned t.tree) (sym exact)
    (before (sym (pruned was) ∙ is)))
    odds (ap ground_of exact ∙ base)
    (subst (λ (t : Map). SameMark ((transition a).marked (classes_of s.base.odds s.values) s.marked)
    (marked_of t)) (sym exact) mark) at

-- the map after a limit
pub stands_limited : (m n : Map) (s : State) (lo hi : Point)
    → n ≡ record m { update_box = corner_box (key_at m.tree.res lo) (key_at m.tree.res hi) }
    → StandsFor m s → StandsFor n (after s (Limited lo hi))
stands_limited m n s lo hi exact at =
    stands_boxing m n s (Limited lo hi)
    (corner_box (key_at m.tree.res lo) (key_at m.tree.res hi)) exact refl refl (λ was. refl)
    (λ g. refl) refl at.marked at

-- the map after the end of a limit
pub stands_unlimited : (m n : Map) (s : State) → n ≡ record m { update_box = None } → StandsFor m s
    → StandsFor n (after s Unlimited)
stands_unlimited m n s exact at =
    stands_boxing m n s Unlimited None exact refl refl (λ was. refl) (λ g. refl) refl at.marked at
