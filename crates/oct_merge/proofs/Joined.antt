-- What a merge makes of one voxel, and the event that does it.
use Rattle.std.proofs.Common.{◌≡◌, ℤ, ◌≤ℤ◌, Some, None, Bool, true, false, cond, refl, ap, arith}
use Rattle.std.specs.Prelude.{int_lt, IsSome}
use Rattle.std.proofs.lemmas.Int.{ints, clamps}
use Rattle.oct_odds.specs.Odds.{Odds}
use Rattle.oct_odds.specs.Update.{Value, applied, clamped, IsWithin}
use Rattle.oct_odds.specs.declared.event.Event.TheVariants.{Set}
use Rattle.oct_values.specs.Events.{after_event}
use Rattle.oct_merge.specs.declared.rule.Rule.{Rule}
use Rattle.oct_merge.specs.declared.rule.Rule.TheVariants.{Greatest, Least, First}
use Rattle.oct_merge.specs.Merged.{chosen, merged, merge_event}

clamp_none : (lo hi n : ℤ) (a b : Bool) → int_lt n lo ≡ a → int_lt hi n ≡ b → lo ≤ℤ n → n ≤ℤ hi
    → cond a lo (cond b hi n) ≡ n
clamp_none lo hi n true b f g l m = (let no : n ≤ℤ lo = grind (arith, ints) in omega (arith, ints))
clamp_none lo hi n false true f g l m =
    (let no : hi ≤ℤ n = grind (arith, ints) in omega (arith, ints))
clamp_none lo hi n false false f g l m = refl

-- a number within the bounds isn't clamped
clamped_within : (o : Odds) (n : ℤ) → IsWithin o (Some n) → clamped o n ≡ n
clamped_within o n (low, high) = clamp_none o.min o.max n _ _ refl refl low high

-- of two values within the bounds, so is the chosen one
chosen_within : (o : Odds) (rule : Rule) (v w : ℤ) → IsWithin o (Some v) → IsWithin o (Some w)
    → IsWithin o (Some (chosen rule v w))
chosen_within o Greatest v w (a, b) (c, d) =
    (omega (arith, ints, clamps, a, c), omega (arith, ints, clamps, b, d))
chosen_within o Least v w (a, b) (c, d) =
    (omega (arith, ints, clamps, a, c), omega (arith, ints, clamps, b, d))
chosen_within o First v w h g = h

pub merged_within : (o : Odds) (rule : Rule) (v w : Value) → IsWithin o v → IsWithin o w
    → IsWithin o (merged rule v w)
merged_within o rule None None h g = h
merged_within o rule (Some v) None h g = h
merged_within o rule None (Some w) h g = g
merged_within o rule (Some v) (Some w) h g = chosen_within o rule v w h g

-- the event makes the merged value
pub merge_after : (o : Odds) (rule : Rule) (v w : Value) → IsWithin o v → IsWithin o w
    → after_event o (merge_event rule v w) v ≡ merged rule v w
merge_after o rule None None h g = refl
merge_after o rule (Some v) None h g = refl
merge_after o rule None (Some w) h g = ap Some (clamped_within o w g)
merge_after o rule (Some v) (Some w) h g =
    ap Some (clamped_within o (chosen rule v w) (chosen_within o rule v w h g))

-- there is one exactly where the second map knows the voxel, and it sets the value
pub merge_sets : (rule : Rule) (v w : Value) → IsSome w
    → (m : ℤ) × (merge_event rule v w ≡ Some (Set m)) × (merged rule v w ≡ Some m)
merge_sets rule v None h = cc
merge_sets rule None (Some w) h = (w, refl, refl)
merge_sets rule (Some v) (Some w) h = (chosen rule v w, refl, refl)

pub merge_leaves : (rule : Rule) (v w : Value) → w ≡ None → merge_event rule v w ≡ None
merge_leaves rule None None e = refl
merge_leaves rule (Some v) None e = refl
merge_leaves rule v (Some w) e = cc

-- a set value that is within the bounds is what stands there after
pub set_value : (o : Odds) (m : ℤ) (v : Value) → IsWithin o (Some m) → Some m ≡ applied o (Set m) v
set_value o m None h = ap Some (back h)
  where
    back : IsWithin o (Some m) → m ≡ clamped o m
    back g = (let e = clamped_within o m g in cc)
set_value o m (Some v) h = ap Some (let e = clamped_within o m h in cc)
