-- How often a source, a sink and a store failed, a sink ran out of memory, the end of an input was
-- met, and a store was asked, beside how a call ended. Each count is given before and after the
-- call.
use Rattle.std.specs.Prelude.{◌≡◌, ◌≢◌, ◌⊎◌, ◌≤◌, ◌+◌, ℕ, Result, Err, IsErrOf}
use Rattle.oct_io.specs.Told.{Rose}
use Rattle.oct_io.specs.declared.status.Status.{Status}
use Rattle.oct_io.specs.declared.status.Status.TheVariants as status
use Rattle.oct_io.specs.declared.stop.Stop.{Stop}
use Rattle.oct_io.specs.declared.stop.Stop.TheVariants as stop

-- ---- beside a status

-- a read fault is one failure of the source more, and any other status none; the end of the input
-- is met once at most
pub record IsSourceCounted (ended : Status) (failures failures_after ends ends_after : ℕ)
    : Type 0 where
  pub read_fault : ended ≡ status.ReadFault → Rose failures failures_after
  pub no_read_fault : ended ≢ status.ReadFault → failures_after ≡ failures
  pub few_ends : ends_after ≤ ends + 1

-- a write fault is one failure of the sink more, and any other status none; out of memory it may be
-- the sink that wanted memory, once, and on any other status it didn't
pub record IsSinkCounted (ended : Status) (failures failures_after shortages shortages_after : ℕ)
    : Type 0 where
  pub write_fault : ended ≡ status.WriteFault → Rose failures failures_after
  pub no_write_fault : ended ≢ status.WriteFault → failures_after ≡ failures
  pub memory : ended ≡ status.Memory
      → (shortages_after ≡ shortages) ⊎ Rose shortages shortages_after
  pub no_shortage : ended ≢ status.Memory → shortages_after ≡ shortages

-- a store fault is one failure of the store more, and any other status none
pub record IsStoreCounted (ended : Status) (failures failures_after : ℕ) : Type 0 where
  pub store_fault : ended ≡ status.StoreFault → Rose failures failures_after
  pub no_store_fault : ended ≢ status.StoreFault → failures_after ≡ failures

-- ---- beside a result

-- of a call that reads a script, which fails for its source at most once, and meets its end at most
-- once
pub record IsScriptCounted {T : Type 0} (result : Result T Stop)
    (failures failures_after ends ends_after : ℕ) : Type 0 where
  pub read_fault : IsErrOf result stop.ReadFault → Rose failures failures_after
  pub no_read_fault : result ≢ Err stop.ReadFault → failures_after ≡ failures
  pub few_ends : ends_after ≤ ends + 1

-- ---- of a store

-- it was asked this many times at most, and is the same where it wasn't asked
pub record IsAsked (same : Type 0) (calls calls_after asks : ℕ) : Type 0 where
  pub unasked : asks ≡ 0 → same
  pub few : calls_after ≤ calls + asks
