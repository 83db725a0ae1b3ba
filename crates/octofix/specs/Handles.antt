-- What contracts see of a handle.
use Rattle.std.specs.Prelude.{Bool}
use Rattle.octofix.specs.declared.slot.Slot.{Slot}

-- its slot, and whether that has a map
pub record Handle : Type 0 where
  pub slot : Slot
  pub is_open : Bool
