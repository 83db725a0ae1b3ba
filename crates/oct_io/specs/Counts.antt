-- How often a source, a sink and a store failed, a sink ran out of memory, and the end of an input
-- was met, beside the result of a call. Each count is given before and after the call.
use Rattle.std.specs.Prelude.{◌≡◌, ◌⊎◌, ◌<◌, ◌≤◌, ◌+◌, ℕ, Result, IfOk, OnOk, OnErr, IsErrOf}
use Rattle.oct_io.specs.Told.{Rose}
use Rattle.oct_io.specs.declared.sink.SinkFault.{SinkFault}
use Rattle.oct_io.specs.declared.sink.SinkFault.TheVariants as sink_fault
use Rattle.oct_io.specs.declared.store.StoreFault.{StoreFault}
use Rattle.oct_io.specs.declared.store.StoreFault.TheVariants as store_fault

-- of a call that reads
pub record IsReadCounted {T E : Type 0} (result : Result T E) (failures failures_after : ℕ)
    : Type 0 where
  pub stays : OnOk result (failures_after ≡ failures)
  pub failed : OnErr result (Rose failures failures_after)

-- of one read, which meets the end of the input only where it gives nothing
pub record IsEndCounted {E : Type 0} (result : Result ℕ E) (ends ends_after : ℕ) : Type 0 where
  pub few : ends_after ≤ ends + 1
  pub before : IfOk result (λ n. 0 < n → ends_after ≡ ends)
  pub failed : OnErr result (ends_after ≡ ends)

-- of a call that writes to a sink, and takes no memory of its own
pub record IsWriteCounted {T : Type 0} (result : Result T SinkFault)
    (failures failures_after shortages shortages_after : ℕ) : Type 0 where
  pub stays : OnOk result ((failures_after ≡ failures) × (shortages_after ≡ shortages))
  pub failed : IsErrOf result sink_fault.Failed
      → Rose failures failures_after × (shortages_after ≡ shortages)
  pub memory : IsErrOf result sink_fault.Memory
      → (failures_after ≡ failures) × Rose shortages shortages_after

-- of a call that writes to a sink, and may run out of memory of its own
pub record IsMakingCounted {T : Type 0} (result : Result T SinkFault)
    (failures failures_after shortages shortages_after : ℕ) : Type 0 where
  pub stays : OnOk result ((failures_after ≡ failures) × (shortages_after ≡ shortages))
  pub failed : IsErrOf result sink_fault.Failed
      → Rose failures failures_after × (shortages_after ≡ shortages)
  pub memory : IsErrOf result sink_fault.Memory → (failures_after ≡ failures)
      × ((shortages_after ≡ shortages) ⊎ Rose shortages shortages_after)

-- of a call that asks a store, and may run out of memory
pub record IsAskCounted {T : Type 0} (result : Result T StoreFault) (failures failures_after : ℕ)
    : Type 0 where
  pub stays : OnOk result (failures_after ≡ failures)
  pub failed : IsErrOf result store_fault.Failed → Rose failures failures_after
  pub memory : IsErrOf result store_fault.Memory → failures_after ≡ failures
