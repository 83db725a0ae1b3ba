-- That what commands do keeps a state sound: log-odds, update box, and values within the bounds.
use Rattle.std.proofs.Common.{◌≡◌, ℤ, ◌≤ℤ◌, ◌<ℤ◌, Bool, true, false, cond, Option, Some, None, refl}
use Rattle.std.proofs.Common.{sym, ap, subst, arith}
use Rattle.std.specs.Prelude.{int_lt, IfSome}
use Rattle.std.proofs.lemmas.Int.{ints}
use Rattle.oct_key.specs.Boxes.{Window}
use Rattle.oct_bt.specs.Classes.{value_for}
use Rattle.oct_map.specs.Ground.{Ground}
use Rattle.oct_odds.specs.Odds.{Odds, IsSound}
use Rattle.oct_odds.specs.Update.{Value, IsWithin, clamped, applied}
use Rattle.oct_odds.specs.declared.event.Class.{Class}
use Rattle.oct_odds.specs.declared.event.Class.TheVariants.{Unknown, Free, Occupied}
use Rattle.oct_odds.specs.declared.event.Event.{Event}
use Rattle.oct_odds.specs.declared.event.Event.TheVariants as event
use Rattle.oct_snap.specs.Reading.{Snapshot}
use Rattle.oct_snap.specs.Reading as snapshot
use Rattle.oct_values.specs.Events.{after_event}
use Rattle.oct_promise.specs.States.{IsMapBox, IsState}
use Rattle.oct_session.specs.History.{State, Action, Restored, value_event, transition}
use Rattle.oct_session.specs.History.{after, start_state}
use Rattle.oct_session.specs.Setup.{Setup}

-- ---- values

at_most_itself : (n : ℤ) → n ≤ℤ n
at_most_itself n = omega (arith, ints)

bounds_in_order : (o : Odds) → IsSound o → o.min ≤ℤ o.max
bounds_in_order o sound =
    (let low = sound.zero_within.0 in let high = sound.zero_within.1 in
    omega (arith, ints, low, high))

clamped_by : (low high n : ℤ) (a b : Bool) → int_lt n low ≡ a → int_lt high n ≡ b → low ≤ℤ high
    → (low ≤ℤ cond a low (cond b high n)) × (cond a low (cond b high n) ≤ℤ high)
clamped_by low high n true b f g order = (at_most_itself low, order)
clamped_by low high n false true f g order = (order, at_most_itself high)
clamped_by low high n false false f g order =
    (let l : low ≤ℤ n = grind (arith, ints) in let h : n ≤ℤ high = grind (arith, ints) in (l, h))

clamped_within : (o : Odds) → IsSound o → (n : ℤ) → IsWithin o (Some (clamped o n))
clamped_within o sound n =
    clamped_by o.min o.max n (int_lt n o.min) (int_lt o.max n) refl refl (bounds_in_order o sound)

either_bound : (o : Odds) → IsSound o → (b : Bool) → IsWithin o (Some (cond b o.min o.max))
either_bound o sound true = (at_most_itself o.min, bounds_in_order o sound)
either_bound o sound false = (bounds_in_order o sound, at_most_itself o.max)

-- and so does the value that a voxel of a class is given
pub bound_within : (o : Odds) → IsSound o → (c : Class) → IsWithin o (value_for o c)
bound_within o sound Unknown = tt
bound_within o sound Free = either_bound o sound true
bound_within o sound Occupied = either_bound o sound false

-- whatever an event finds, it leaves a value within the bounds
applied_within : (o : Odds) → IsSound o → (e : Event) (value : Value)
    → IsWithin o (applied o e value)
applied_within o sound (event.Add u) None = clamped_within o sound u
applied_within o sound (event.Add u) (Some v) = clamped_within o sound _
applied_within o sound (event.Set v) None = clamped_within o sound v
applied_within o sound (event.Set v) (Some w) = clamped_within o sound v
applied_within o sound event.Forget None = tt
applied_within o sound event.Forget (Some v) = tt
applied_within o sound event.Likely None = tt
applied_within o sound event.Likely (Some v) = either_bound o sound (int_lt v o.thr)

event_within : (o : Odds) → IsSound o → (e : Option Event) (value : Value) → IsWithin o value
    → IsWithin o (after_event o e value)
event_within o sound None value within = within
event_within o sound (Some e) value within = applied_within o sound e value

-- a value within the bounds is its own clamped value
itself : (low high n : ℤ) (a b : Bool) → int_lt n low ≡ a → int_lt high n ≡ b → low ≤ℤ n → n ≤ℤ high
    → cond a low (cond b high n) ≡ n
itself low high n true b f g l h =
    absurd (let no : n <ℤ low = grind (arith, ints) in omega (arith, ints))
itself low high n false true f g l h =
    absurd (let no : high <ℤ n = grind (arith, ints) in omega (arith, ints))
itself low high n false false f g l h = refl

-- a restore gives a voxel its value in the snapshot, where that lies within the bounds
pub restored_value : (o : Odds) (value was : Value) → IsWithin o value
    → after_event o (Some (value_event value)) was ≡ value
restored_value o None None within = refl
restored_value o None (Some v) within = refl
restored_value o (Some n) None within =
    ap Some (itself o.min o.max n _ _ refl refl within.0 within.1)
restored_value o (Some n) (Some v) within =
    ap Some (itself o.min o.max n _ _ refl refl within.0 within.1)

-- and else, too, one within the bounds
restored_within : (o : Odds) → IsSound o → (value was : Value)
    → IsWithin o (after_event o (Some (value_event value)) was)
restored_within o sound value was = applied_within o sound (value_event value) was

-- ---- states

pub start_is : (o : Setup) → IsSound o.odds → IsState (start_state o)
start_is o sound = record { odds = sound; update_box = tt; values = λ k low. tt }

-- after an action that leaves log-odds and box
same_ground : (s : State) (a : Action) → ((transition a).base s.base).odds ≡ s.base.odds
    → ((transition a).base s.base).update_box ≡ s.base.update_box → IsState s → IsState (after s a)
same_ground s a odds box is =
    let sound : IsSound ((transition a).base s.base).odds = subst IsSound (sym odds) is.odds in
    record {
      odds = sound;
      update_box = subst (λ (w : Option Window). IfSome w IsMapBox) (sym box) is.update_box;
      values = λ k low. event_within ((transition a).base s.base).odds sound
          ((transition a).events s.base k) (s.values k)
          (subst (λ (o : Odds). IsWithin o (s.values k)) (sym odds) (is.values k low));
    }

-- after an action that sets at most the box, to one of the map
pub limited_is : (s : State) (a : Action) (w : Option Window)
    → (transition a).base s.base ≡ record s.base { update_box = w } → IfSome w IsMapBox → IsState s
    → IsState (after s a)
limited_is s a w base ok is =
    let odds : ((transition a).base s.base).odds ≡ s.base.odds = ap (λ (g : Ground). g.odds) base in
    let sound : IsSound ((transition a).base s.base).odds = subst IsSound (sym odds) is.odds in
    record {
      odds = sound;
      update_box = subst (λ (g : Ground). IfSome g.update_box IsMapBox) (sym base) ok;
      values = λ k low. event_within ((transition a).base s.base).odds sound
          ((transition a).events s.base k) (s.values k)
          (subst (λ (o : Odds). IsWithin o (s.values k)) (sym odds) (is.values k low));
    }

-- after the restore of a snapshot whose log-odds are sound, and whose box lies in the map
pub restored_is : (s : State) (q : Snapshot) → IsSound q.head.odds
    → IfSome ((transition (Restored q)).base s.base).update_box IsMapBox
    → IsState (after s (Restored q))
restored_is s q sound ok = record {
  odds = sound;
  update_box = ok;
  values = λ k low. restored_within q.head.odds sound (snapshot.values_of q k) (s.values k);
}

pub edited_is : (s : State) (a : Action) → ((transition a).base s.base) ≡ s.base → IsState s
    → IsState (after s a)
edited_is s a same is = same_ground s a (ap (λ (g : Ground). g.odds) same)
    (ap (λ (g : Ground). g.update_box) same) is
