-- How often a source failed and met its end, beside how the reading of a file ended. Each count is
-- given before and after.
use Rattle.std.specs.Prelude.{◌≡◌, ◌≢◌, ◌≤◌, ◌+◌, ℕ, Result, Err}
use Rattle.oct_io.specs.Told.{Rose}
use Rattle.oct_file_tasks.specs.declared.input.NoFile.{NoFile}
use Rattle.oct_file_tasks.specs.declared.input.NoFile.TheVariants as none

-- of the reading of a file: a read fault is one failure of the source more, and any other result
-- none; the end of the input is met at most once, and wasn't yet where memory runs out
pub record IsFileCounted {T : Type 0} (result : Result T NoFile)
    (failures failures_after ends ends_after : ℕ) : Type 0 where
  pub read_fault : result ≡ Err none.ReadFault → Rose failures failures_after
  pub no_read_fault : result ≢ Err none.ReadFault → failures_after ≡ failures
  pub few_ends : ends_after ≤ ends + 1
  pub unended : result ≡ Err none.Memory → ends_after ≡ ends
