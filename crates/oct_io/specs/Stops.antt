-- Why a session stops, and the status that it then has.
use Rattle.std.specs.Prelude.{Result, Ok, Err, ⊤}
use Rattle.oct_io.specs.declared.sink.SinkFault.{SinkFault}
use Rattle.oct_io.specs.declared.sink.SinkFault.TheVariants as sink_fault
use Rattle.oct_io.specs.declared.store.StoreFault.{StoreFault}
use Rattle.oct_io.specs.declared.store.StoreFault.TheVariants as store_fault
use Rattle.oct_io.specs.declared.status.Status.{Status}
use Rattle.oct_io.specs.declared.status.Status.TheVariants as status
use Rattle.oct_io.specs.declared.stop.Stop.{Stop}
use Rattle.oct_io.specs.declared.stop.Stop.TheVariants as stop

-- the stop that a fault of the sink leads to
abbrev pub stop_of_sink : SinkFault → Stop
stop_of_sink sink_fault.Failed = stop.WriteFault
stop_of_sink sink_fault.Memory = stop.Memory

-- the stop that a fault of the store leads to
abbrev pub stop_of_store : StoreFault → Stop
stop_of_store store_fault.Failed = stop.StoreFault
stop_of_store store_fault.Memory = stop.Memory

-- the status after a stop
abbrev pub status_of : Stop → Status
status_of stop.TooLong = status.TooLong
status_of stop.ReadFault = status.ReadFault
status_of stop.WriteFault = status.WriteFault
status_of stop.Memory = status.Memory
status_of stop.StoreFault = status.StoreFault

-- the status of a task whose text was written, or else that of the sink's fault
abbrev pub status_written : {T : Type 0} → Status → Result T SinkFault → Status
status_written whole (Ok done) = whole
status_written whole (Err sink_fault.Failed) = status.WriteFault
status_written whole (Err sink_fault.Memory) = status.Memory

-- a stop that a line's own work may lead to
abbrev pub IsHalt : Stop → Type 0
IsHalt stop.TooLong = ⊥
IsHalt stop.ReadFault = ⊥
IsHalt _ = ⊤
