-- What a handle is once a `&mut` to its map has ended.
use Rattle.std.specs.Prelude.{Result}
use Rattle.std.specs.Borrow.{Fml, MutBor, LendsIfOk}
use Rattle.oct_map.specs.contracts.map.OccMap as held
use Rattle.octofix.specs.Handles.{Handle}
use Rattle.octofix.specs.declared.refusal.Refusal.{Refusal}
use Rattle.octofix.specs.contracts.handle.Octofix.{the_row}
use Rattle.octofix.specs.Lends.{with_map}

-- the same handle with another map
abbrev pub open_with : Handle → held.the_row.Denot → Handle
open_with h map = record { slot = with_map h.slot map; is_open = h.is_open }

-- its map is the last value of the `&mut`, where there was one
abbrev pub handle_lends : MutBor Handle → Result (MutBor held.the_row.Denot) Refusal → Fml
handle_lends h r = LendsIfOk the_row held.the_row h r (open_with h.now) h.now
