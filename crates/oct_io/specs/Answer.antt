-- What a task writes, and how a call may end that only writes it.
use Rattle.std.specs.Prelude.{◌≡◌, ℕ, List, Option}
use Rattle.oct_io.specs.Files.{Files}
use Rattle.oct_io.specs.Taken.{IsCutOff}
use Rattle.oct_io.specs.Told.{appended}
use Rattle.oct_io.specs.declared.status.Status.{Status}
use Rattle.oct_io.specs.declared.status.Status.TheVariants.{Done, Refused, WriteFault, Memory}

-- what a task writes, and its status
pub record Answer : Type 0 where
  pub text : List ℕ
  pub status : Status

-- what a run leaves: the text that it has written, the files, where they are told, and its status
pub record Outcome : Type 0 where
  pub text : List ℕ
  pub files : Option Files
  pub status : Status

-- the answer among it
abbrev pub answer_of : Outcome → Answer
answer_of left = record { text = left.text; status = left.status }

-- what a task leaves that changes no files
abbrev pub with_files : Option Files → Answer → Outcome
with_files files whole = record { text = whole.text; files = files; status = whole.status }

-- the whole answer was written, and its status is this one
pub record IsAnswered (whole : Answer) (old new : Option (List ℕ)) (status : Status) : Type 0 where
  pub written : new ≡ appended old whole.text
  pub same_status : whole.status ≡ status

-- how a call may end that only writes this answer: the whole text is written, or a part of it
-- where the sink fails or memory runs out
abbrev pub EndsUnread : Answer → Option (List ℕ) → Option (List ℕ) → Status → Type 0
EndsUnread whole old new Done = IsAnswered whole old new Done
EndsUnread whole old new Refused = IsAnswered whole old new Refused
EndsUnread whole old new WriteFault = IsCutOff old new whole.text
EndsUnread whole old new Memory = IsCutOff old new whole.text
EndsUnread whole old new _ = ⊥
