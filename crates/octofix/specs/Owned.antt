-- What a `Slot` owns: where there is a map, the same as a `Box<OccMap>`.
use base.Fml.{Fml, ftrue}
use base.Stored.{Coded}
use denote.RawPtr.{Ptr}
use Rattle.std.specs.Coded.{coded_option}
use Rattle.std.specs.Prelude.{Option, Some, None}
use Rattle.std.specs.Box.Ownership.{box_owns}
use Rattle.std.specs.Global.{Global}
use Rattle.std_heap.specs.contracts.GlobalAllocator.TheImpl.{ghosts}
use Rattle.oct_map.specs.contracts.map.OccMap.{the_row}

-- the map behind the pointer, with the right to give its memory back, or nothing
abbrev pub slot_owns : Global → Ptr → Option the_row.Denot → Fml
slot_owns alloc at (Some map) = box_owns (ghosts.dealloc_token alloc) the_row at map
slot_owns alloc at None = ftrue

-- how the logic stores it
abbrev pub slot_coded : Coded (Option the_row.Denot)
slot_coded = coded_option the_row.coded
