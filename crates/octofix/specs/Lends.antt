-- What a slot is once a `&mut` to its map has ended.
use Rattle.std.specs.Prelude.{Some}
use Rattle.std.specs.Borrow.{Fml, MutBor, Lends}
use Rattle.oct_map.specs.contracts.map.OccMap as held
use Rattle.octofix.specs.declared.slot.Slot.{Slot}
use Rattle.octofix.specs.contracts.slot.Slot.{the_row}

-- the same slot with another map
abbrev pub with_map : Slot → held.the_row.Denot → Slot
with_map s map = record { at = s.at; alloc = s.alloc; map = Some map }

-- its map is the last value of the `&mut`
abbrev pub slot_lends : MutBor Slot → MutBor held.the_row.Denot → Fml
slot_lends s r = Lends the_row held.the_row s r (with_map s.now)
