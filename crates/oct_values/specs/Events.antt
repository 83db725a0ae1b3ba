-- What events on voxels do to a value for each voxel.
use Rattle.std.specs.Prelude.{List, map, Bool, Option, Some, None, if◌then◌else◌}
use Rattle.std.specs.List.{list_any}
use Rattle.std.specs.List.Sorted.{IsStrictlyIncreasing}
use Rattle.oct_key.specs.Voxel.{Voxel}
use Rattle.oct_key.specs.Values.{Values, is_same_voxel}
use Rattle.oct_key.specs.Morton.{morton_of}
use Rattle.oct_odds.specs.Odds.{Odds}
use Rattle.oct_odds.specs.Update.{Value, applied}
use Rattle.oct_odds.specs.declared.event.Event.{Event}

-- an event for each voxel, or nothing
abbrev pub Events : Type 0
Events = Voxel → Option Event

-- the event on that one voxel, and nothing elsewhere
abbrev pub event_at : Option Voxel → Event → Events
event_at None event k = None
event_at (Some target) event k = if is_same_voxel target k then Some event else None

-- whether a list has the voxel
abbrev pub is_listed : List Voxel → Voxel → Bool
is_listed voxels k = list_any (is_same_voxel k) voxels

-- each voxel of a list has a greater Morton code than the one before it
abbrev pub IsAscending : List Voxel → Type 0
IsAscending voxels = IsStrictlyIncreasing (map morton_of voxels)

-- the events of a scan: one on the voxels that are hit, another one on those that are freed and not
-- hit, and nothing elsewhere
abbrev pub scan_events : List Voxel → Event → List Voxel → Event → Events
scan_events hits hit frees miss k =
    if is_listed hits k then Some hit else if is_listed frees k then Some miss else None

-- a value after an event, or after nothing
abbrev pub after_event : Odds → Option Event → Value → Value
after_event odds None value = value
after_event odds (Some event) value = applied odds event value

-- the values after each voxel's event
abbrev pub updated : Odds → Events → Values → Values
updated odds events values = λ k. after_event odds (events k) (values k)
