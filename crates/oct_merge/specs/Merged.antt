-- What a merge of two maps makes of each voxel.
use Rattle.std.specs.Prelude.{ℤ, Option, Some, None}
use Rattle.std.specs.Int.{int_max, int_min}
use Rattle.oct_key.specs.Values.{Values}
use Rattle.oct_odds.specs.Update.{Value}
use Rattle.oct_odds.specs.declared.event.Event.{Event}
use Rattle.oct_odds.specs.declared.event.Event.TheVariants.{Set}
use Rattle.oct_values.specs.Events.{Events}
use Rattle.oct_merge.specs.declared.rule.Rule.{Rule}
use Rattle.oct_merge.specs.declared.rule.Rule.TheVariants.{Greatest, Least, First}

-- which of two known values a rule takes
abbrev pub chosen : Rule → ℤ → ℤ → ℤ
chosen Greatest v w = int_max v w
chosen Least v w = int_min v w
chosen First v w = v

-- the value of a voxel in the merged map: unknown where it is unknown in both, the known one where
-- it is known in one, and where it is known in both, the one that the rule takes
abbrev pub merged : Rule → Value → Value → Value
merged rule None None = None
merged rule (Some v) None = Some v
merged rule None (Some w) = Some w
merged rule (Some v) (Some w) = Some (chosen rule v w)

-- what a merge does to a voxel of the first map: it sets it where the second one knows it
abbrev pub merge_event : Rule → Value → Value → Option Event
merge_event rule None None = None
merge_event rule (Some v) None = None
merge_event rule None (Some w) = Some (Set w)
merge_event rule (Some v) (Some w) = Some (Set (chosen rule v w))

-- what it does to each voxel
abbrev pub merge_events : Rule → Values → Values → Events
merge_events rule v w k = merge_event rule (v k) (w k)
