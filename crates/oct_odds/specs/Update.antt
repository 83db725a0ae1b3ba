-- What an event makes of the log-odds of a voxel, and what they count as.
use Rattle.std.specs.Prelude.{ℤ, ◌+ℤ◌, ◌≤ℤ◌, int_lt, Option, Some, None, if◌then◌else◌, ⊤}
use Rattle.oct_odds.specs.Odds.{Odds, IsSmall}
use Rattle.oct_odds.specs.declared.event.Event.{Event}
use Rattle.oct_odds.specs.declared.event.Event.TheVariants.{Add, Set, Forget, Likely}
use Rattle.oct_odds.specs.declared.event.Class.{Class}
use Rattle.oct_odds.specs.declared.event.Class.TheVariants.{Unknown, Free, Occupied}

-- the log-odds of a voxel, or none where it is unknown
abbrev pub Value : Type 0
Value = Option ℤ

-- the number, or the bound that it lies beyond
abbrev pub clamped : Odds → ℤ → ℤ
clamped o n = if int_lt n o.min then o.min else if int_lt o.max n then o.max else n

-- the value of a voxel after an event
abbrev pub applied : Odds → Event → Value → Value
applied o (Add u) None = Some (clamped o u)
applied o (Add u) (Some v) = Some (clamped o (v +ℤ u))
applied o (Set v) _ = Some (clamped o v)
applied o Forget _ = None
applied o Likely None = None
applied o Likely (Some v) = Some (if int_lt v o.thr then o.min else o.max)

-- what a voxel of this value counts as
abbrev pub class_of : Odds → Value → Class
class_of o None = Unknown
class_of o (Some v) = if int_lt v o.thr then Free else Occupied

-- a known value lies within the bounds
abbrev pub IsWithin : Odds → Value → Type 0
IsWithin o None = ⊤
IsWithin o (Some v) = (o.min ≤ℤ v) × (v ≤ℤ o.max)

-- the number in the event, if any, has a magnitude of at most a million
abbrev pub IsSmallEvent : Event → Type 0
IsSmallEvent (Add u) = IsSmall u
IsSmallEvent (Set v) = IsSmall v
IsSmallEvent Forget = ⊤
IsSmallEvent Likely = ⊤
