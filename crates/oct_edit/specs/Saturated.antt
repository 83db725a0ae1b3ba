-- What a voxel takes from its event.
use Rattle.std.specs.Prelude.{◌≡◌, pos, ◌≤ℤ◌, ◌⊎◌, Some}
use Rattle.oct_key.specs.Voxel.{Voxel}
use Rattle.oct_key.specs.Values.{Values}
use Rattle.oct_odds.specs.Odds.{Odds}
use Rattle.oct_odds.specs.Update.{Value}
use Rattle.oct_odds.specs.declared.event.Event.{Event}
use Rattle.oct_odds.specs.declared.event.Event.TheVariants.{Add, Set, Forget, Likely}
use Rattle.oct_values.specs.Events.{Events}

-- A voxel of this value is saturated for the event, and takes nothing from it: it is added to,
-- where it is at the upper bound, or taken from, at the lower one.
abbrev pub IsSaturated : Odds → Event → Value → Type 0
IsSaturated o (Add u) value =
    ((pos 0 ≤ℤ u) × (value ≡ Some o.max)) ⊎ ((u ≤ℤ pos 0) × (value ≡ Some o.min))
IsSaturated o (Set v) value = ⊥
IsSaturated o Forget value = ⊥
IsSaturated o Likely value = ⊥

-- a voxel takes something from its event: it has one, and isn't saturated for it
abbrev pub TakesFrom : Odds → Events → Values → Voxel → Type 0
TakesFrom o events values k =
    (event : Event) × (events k ≡ Some event) × (IsSaturated o event (values k) → ⊥)
