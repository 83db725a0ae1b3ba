-- How the reading of a file from a source may end.
use Rattle.std.specs.Prelude.{◌≡◌, ◌≤◌, ◌+◌, ℕ, List, [], length, Option, Some, Result, Ok, Err, ⊤}
use Rattle.oct_io.specs.Taken.{HasTaken, before}
use Rattle.oct_bt.specs.declared.fault.BtFault.{BtFault}
use Rattle.oct_bt.specs.declared.fault.BtFault.TheVariants as fault
use Rattle.oct_bt.specs.File.{FileRead, reading}
use Rattle.oct_bt.specs.Reading.{FileProgress, StandsFor}
use Rattle.oct_file_tasks.specs.declared.input.NoFile.{NoFile}
use Rattle.oct_file_tasks.specs.declared.input.NoFile.TheVariants.{BadFile, TooLong, ReadFault}
use Rattle.oct_file_tasks.specs.declared.input.NoFile.TheVariants.{Memory}

-- the input was read to its end, and has at most this many bytes
pub record IsReadToEnd (max_bytes : ℕ) (bytes : List ℕ) (left : Option (List ℕ)) : Type 0 where
  pub few : length bytes ≤ max_bytes
  pub end : left ≡ Some []

-- at most this many bytes of the input were taken
pub record HasTakenAtMost (max_bytes : ℕ) (bytes : List ℕ) (left : Option (List ℕ)) : Type 0 where
  pub taken : ℕ
  pub few : taken ≤ max_bytes
  pub input : HasTaken taken bytes left

-- how the reading of an input of at most this many bytes may end, by what it answers: what the
-- input says, and what is left of it
abbrev pub MayRead : ℕ → List ℕ → Option (List ℕ) → Result FileRead NoFile → Type 0
MayRead max_bytes bytes left (Ok file) =
    (reading bytes ≡ Ok file) × IsReadToEnd max_bytes bytes left
MayRead max_bytes bytes left (Err (BadFile fault)) =
    (reading bytes ≡ Err fault) × IsReadToEnd max_bytes bytes left
MayRead max_bytes bytes left (Err TooLong) = HasTaken (max_bytes + 1) bytes left
MayRead max_bytes bytes left (Err ReadFault) = HasTakenAtMost max_bytes bytes left
MayRead max_bytes bytes left (Err Memory) = HasTakenAtMost max_bytes bytes left

-- the input isn't a file of this form
abbrev pub IsBadFile : NoFile → Type 0
IsBadFile (BadFile fault) = ⊤
IsBadFile other = ⊥

-- why there is no file, by the fault of a reader
abbrev pub by_fault : BtFault → NoFile
by_fault fault.Memory = Memory
by_fault other = BadFile other

-- The reader was fed this many bytes, those that were taken of an input: what was to come at first
-- are they and what is left.
pub record HasFed (reader : FileProgress) (taken : ℕ) (old new : Option (List ℕ)) : Type 0 where
  pub bytes : List ℕ
  pub count : length bytes ≡ taken
  pub stands : StandsFor reader bytes
  pub input : old ≡ before bytes new
