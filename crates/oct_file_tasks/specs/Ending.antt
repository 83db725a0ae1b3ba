-- How a task over a file may end.
use Rattle.std.specs.Prelude.{◌≡◌, ◌⊎◌, ◌+◌, ℕ, List, Option, Result, Ok, Err}
use Rattle.oct_io.specs.Answer.{Answer, IsAnswered}
use Rattle.oct_io.specs.declared.status.Status.{Status}
use Rattle.oct_io.specs.declared.status.Status.TheVariants.{Done, Refused, BadFile, TooLong}
use Rattle.oct_io.specs.declared.status.Status.TheVariants.{ReadFault, WriteFault, Memory}
use Rattle.oct_io.specs.declared.sink.SinkFault.{SinkFault}
use Rattle.oct_io.specs.Taken.{HasTaken, IsCutOff}
use Rattle.oct_io.specs.Told.{appended}
use Rattle.oct_file_tasks.specs.Input.{IsReadToEnd, HasTakenAtMost}

-- the input was read to its end, and of the answer a part was written, and not all of it
pub record IsHalted (whole : Answer) (max_bytes : ℕ) (bytes : List ℕ)
    (left old new : Option (List ℕ)) : Type 0 where
  pub cut : IsCutOff old new whole.text
  pub input : IsReadToEnd max_bytes bytes left

-- the input hasn't ended: at most this many bytes of it were taken, and nothing was written
pub record IsStopped (max_bytes : ℕ) (bytes : List ℕ)
    (left old new : Option (List ℕ)) : Type 0 where
  pub unwritten : new ≡ old
  pub input : HasTakenAtMost max_bytes bytes left

-- how a task with this answer to an input of at most this many bytes may end: what is left of the
-- input, and what was written
abbrev pub EndsOverFile : Answer → ℕ → List ℕ → Option (List ℕ) → Option (List ℕ)
    → Option (List ℕ) → Status → Type 0
EndsOverFile whole max_bytes bytes left old new Done =
    IsAnswered whole old new Done × IsReadToEnd max_bytes bytes left
EndsOverFile whole max_bytes bytes left old new Refused =
    IsAnswered whole old new Refused × IsReadToEnd max_bytes bytes left
EndsOverFile whole max_bytes bytes left old new BadFile =
    IsAnswered whole old new BadFile × IsReadToEnd max_bytes bytes left
EndsOverFile whole max_bytes bytes left old new TooLong =
    IsAnswered whole old new TooLong × (new ≡ old) × HasTaken (max_bytes + 1) bytes left
EndsOverFile whole max_bytes bytes left old new ReadFault = IsStopped max_bytes bytes left old new
EndsOverFile whole max_bytes bytes left old new WriteFault =
    IsHalted whole max_bytes bytes left old new
EndsOverFile whole max_bytes bytes left old new Memory =
    IsStopped max_bytes bytes left old new ⊎ IsHalted whole max_bytes bytes left old new
EndsOverFile whole max_bytes bytes left old new _ = ⊥

-- a text was written, or where the result is an error a part of it, and not all
abbrev pub Sends : {T : Type 0} → List ℕ → Option (List ℕ) → Option (List ℕ) → Result T SinkFault
    → Type 0
Sends text old new (Ok done) = new ≡ appended old text
Sends text old new (Err fault) = IsCutOff old new text
