-- What an action leaves of a map within a box, where scans are limited to it.
use Rattle.std.proofs.Common.{◌≡◌, ℕ, [], ◌∷◌, Bool, true, false, cond, Option, Some, None}
use Rattle.std.proofs.Common.{refl, sym, ap, ◌∙◌}
use Rattle.std.specs.Prelude.{⊤}
use Rattle.std.proofs.Math.Bool.{or-false}
use Rattle.oct_key.specs.Boxes.{Window, is_in_box}
use Rattle.oct_key.specs.Voxel.{Voxel}
use Rattle.oct_map.specs.Ground.{Ground}
use Rattle.oct_map.specs.Outcome.{outcome_of, hit_event, miss_event}
use Rattle.oct_odds.specs.Odds.{Odds}
use Rattle.oct_odds.specs.Update.{Value}
use Rattle.oct_odds.specs.declared.event.Event.{Event}
use Rattle.oct_scan.specs.Beam.{Sighting}
use Rattle.oct_scan.specs.Outcome.{scan_outcome}
use Rattle.oct_values.specs.Events.{after_event}
use Rattle.oct_session.specs.History.{State, Action, Edited, Boxed, Scanned, Refreshed, Pruned}
use Rattle.oct_session.specs.History.{Cleared, Likened, Replaced, Restored, Tracked, Untracked}
use Rattle.oct_session.specs.History.{Limited, Unlimited, transition, after}
use Rattle.oct_promise.specs.Regions.{is_in_some, values_within}

-- the second state is what a region has of the first one
pub record IsPart (box : Window) (s t : State) : Type 0 where
  pub base : t.base ≡ record s.base { update_box = Some box }
  pub unlimited : s.base.update_box ≡ None
  pub values : (k : Voxel) → t.values k ≡ values_within (box ∷ []) s.values k

-- what a region and the whole may have done alike
abbrev pub IsCommon : Action → Type 0
IsCommon (Edited p e lazy) = ⊥
IsCommon (Boxed lo hi e) = ⊥
IsCommon (Replaced classes) = ⊥
IsCommon (Restored q) = ⊥
IsCommon (Limited lo hi) = ⊥
IsCommon Unlimited = ⊥
IsCommon _ = ⊤

pub in_one : (box : Window) (k : Voxel)
    → is_in_some (box ∷ []) k ≡ is_in_box box.lo box.hi k
in_one box k = or-false (is_in_box box.lo box.hi k)

-- one voxel: the same event within, and outside one that leaves it unknown
value_part : (odds : Odds) (b : Bool) (e f : Option Event) (v w : Value)
    → w ≡ cond {A = Value} b v None → (b ≡ true → f ≡ e)
    → (b ≡ false → after_event odds f None ≡ None)
    → after_event odds f w ≡ cond {A = Value} b (after_event odds e v) None
value_part odds true e f v w is same none =
    ap (after_event odds f) is ∙ ap (λ x. after_event odds x v) (same refl)
value_part odds false e f v w is same none = ap (after_event odds f) is ∙ none refl

-- after an action that leaves what answers read beside the values
done_part : (box : Window) (s t : State) (a : Action) → ((g : Ground) → (transition a).base g ≡ g)
    → IsPart box s t
    → ((k : Voxel) → is_in_some (box ∷ []) k ≡ true
    → (transition a).events t.base k ≡ (transition a).events s.base k)
    → ((k : Voxel) → is_in_some (box ∷ []) k ≡ false
    → after_event t.base.odds ((transition a).events t.base k) None ≡ None)
    → IsPart box (after s a) (after t a)
done_part box s t a same part within outside =
    let odds : t.base.odds ≡ s.base.odds = ap (λ (g : Ground). g.odds) part.base in record {
      base = same t.base ∙ part.base
          ∙ ap (λ (g : Ground). record g { update_box = Some box }) (sym (same s.base));
      unlimited = ap (λ (g : Ground). g.update_box) (same s.base) ∙ part.unlimited;
      values = λ k.
          (ap (λ (g : Ground). after_event g.odds ((transition a).events t.base k) (t.values k))
          (same t.base)
          ∙ value_part t.base.odds (is_in_some (box ∷ []) k) ((transition a).events s.base k)
          ((transition a).events t.base k) (s.values k) (t.values k) (part.values k) (within k)
          (outside k)
          ∙ ap (λ (o : Odds). cond {A = Value} (is_in_some (box ∷ []) k)
          (after_event o ((transition a).events s.base k) (s.values k)) None)
          (odds ∙ ap (λ (g : Ground). g.odds) (sym (same s.base))));
    }

-- a scan that is limited to a box hits and frees there what it does without one
limited_within : (edge : ℕ) (box : Window) (hit miss : Event) (scan : Sighting) (k : Voxel)
    → is_in_box box.lo box.hi k ≡ true
    → scan_outcome edge (Some box) hit miss scan k ≡ scan_outcome edge None hit miss scan k
limited_within edge box hit miss scan k is = rw is refl

limited_outside : (edge : ℕ) (box : Window) (hit miss : Event) (scan : Sighting) (k : Voxel)
    → is_in_box box.lo box.hi k ≡ false → scan_outcome edge (Some box) hit miss scan k ≡ None
limited_outside edge box hit miss scan k is = rw is refl

scan_part : (box : Window) (s t : State) (scan : Sighting) (lazy : Bool) → IsPart box s t
    → IsPart box (after s (Scanned scan lazy)) (after t (Scanned scan lazy))
scan_part box s t scan lazy part =
    let hit : Event = hit_event s.base.odds scan.odds in
    let miss : Event = miss_event s.base.odds scan.odds in
    let there : (k : Voxel) → outcome_of t.base scan k
    ≡ scan_outcome s.base.res (Some box) hit miss scan k =
    λ k. ap (λ (g : Ground). outcome_of g scan k) part.base in
    let here : (k : Voxel) → scan_outcome s.base.res None hit miss scan k
    ≡ outcome_of s.base scan k =
    λ k. ap (λ (w : Option Window). scan_outcome s.base.res w hit miss scan k)
    (sym part.unlimited) in
    done_part box s t (Scanned scan lazy) (λ g. refl) part
    (λ k is. there k
    ∙ limited_within s.base.res box hit miss scan k (sym (in_one box k) ∙ is) ∙ here k)
    (λ k is. ap (λ (e : Option Event). after_event t.base.odds e None)
    (there k ∙ limited_outside s.base.res box hit miss scan k (sym (in_one box k) ∙ is)))

-- after the same action
pub action_part : (box : Window) (s t : State) (a : Action) → IsCommon a → IsPart box s t
    → IsPart box (after s a) (after t a)
action_part box s t (Scanned scan lazy) common part = scan_part box s t scan lazy part
action_part box s t Refreshed common part =
    done_part box s t Refreshed (λ g. refl) part (λ k is. refl) (λ k is. refl)
action_part box s t Pruned common part =
    done_part box s t Pruned (λ g. refl) part (λ k is. refl) (λ k is. refl)
action_part box s t Cleared common part =
    done_part box s t Cleared (λ g. refl) part (λ k is. refl) (λ k is. refl)
action_part box s t Likened common part =
    done_part box s t Likened (λ g. refl) part (λ k is. refl) (λ k is. refl)
action_part box s t Tracked common part =
    done_part box s t Tracked (λ g. refl) part (λ k is. refl) (λ k is. refl)
action_part box s t Untracked common part =
    done_part box s t Untracked (λ g. refl) part (λ k is. refl) (λ k is. refl)
action_part box s t (Edited p e lazy) common part = absurd common
action_part box s t (Boxed lo hi e) common part = absurd common
action_part box s t (Replaced classes) common part = absurd common
action_part box s t (Restored q) common part = absurd common
action_part box s t (Limited lo hi) common part = absurd common
action_part box s t Unlimited common part = absurd common
