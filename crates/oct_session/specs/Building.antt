-- A build: the file of the map that a script leaves, in place of its replies.
use Rattle.std.specs.Prelude.{◌≡◌, ◌⊎◌, ℕ, List, [], Option, None, Bool, true, false}
use Rattle.oct_io.specs.Taken.{IsCutOff}
use Rattle.oct_io.specs.Files.{Files}
use Rattle.oct_io.specs.Told.{appended}
use Rattle.oct_session.specs.Ending as script
use Rattle.oct_session.specs.Ending.{IsReadToEnd}
use Rattle.oct_session.specs.FileCommands.{classes_file}
use Rattle.oct_session.specs.History.{State, state_after}
use Rattle.oct_session.specs.Leaving as context
use Rattle.oct_session.specs.Leaving.{Desk, HasAsked, IsLikeAfter}
use Rattle.oct_io.specs.Whole.{IsWhole}
use Rattle.oct_session.specs.Session.{last_progress, session}
use Rattle.oct_session.specs.Setup.{Setup}
use Rattle.oct_io.specs.Answer.{Outcome, IsAnswered, answer_of}
use Rattle.oct_io.specs.declared.status.Status.{Status}
use Rattle.oct_io.specs.declared.status.Status.TheVariants.{Done, Refused}
use Rattle.oct_io.specs.declared.status.Status.TheVariants.{TooLong, WriteFault}
use Rattle.oct_io.specs.declared.status.Status.TheVariants.{ReadFault, Memory, StoreFault}

-- the state after the last line of a script
abbrev pub last_state : Setup → Option Files → List ℕ → State
last_state o files bytes = state_after o (last_progress o files bytes).history

-- what a build writes, by the status of its script: this file, or nothing where it is too long
abbrev pub text_built : List ℕ → Status → List ℕ
text_built file TooLong = []
text_built file _ = file

-- what a build leaves: the same as the session over its script, with the file of the last state in
-- place of the replies
unfoldable pub build : Setup → Option Files → List ℕ → Outcome
build o files bytes = record {
  text = text_built (classes_file (last_state o files bytes)) (session o files bytes).status;
  files = (session o files bytes).files;
  status = (session o files bytes).status;
}

-- whether a script has ended with this status, so that its map is written
abbrev pub has_ended : Status → Bool
has_ended Done = true
has_ended Refused = true
has_ended _ = false

-- how the writing of a text may end after a script that ended with a status: with that status
-- where all of it was written
abbrev pub EndsWriting : List ℕ → Option (List ℕ) → Option (List ℕ) → Status → Status → Type 0
EndsWriting text old new ended WriteFault = IsCutOff old new text
EndsWriting text old new ended Memory = IsCutOff old new text
EndsWriting text old new ended status = (status ≡ ended) × (new ≡ appended old text)

-- the script was read to its end, and its file is cut off
pub record IsCutFile (o : Setup) (files : Option Files) (bytes : List ℕ)
    (left old new : Option (List ℕ)) : Type 0 where
  pub begun : IsCutOff old new (build o files bytes).text
  pub end : IsReadToEnd o files bytes left

-- the script hasn't ended: nothing was written, and it was stopped as a session is that tells no
-- one what it replies
pub record IsStopped (o : Setup) (files : Option Files) (bytes : List ℕ)
    (left old new : Option (List ℕ)) (status : Status) : Type 0 where
  pub unwritten : new ≡ old
  pub stopped : script.MayEnd o files bytes left None None status

-- how a build over these bytes may end, status by status: what is left of the input, and what was
-- written
abbrev pub MayEnd : Setup → Option Files → List ℕ → Option (List ℕ) → Option (List ℕ)
    → Option (List ℕ) → Status → Type 0
MayEnd o files bytes left old new Done =
    IsAnswered (answer_of (build o files bytes)) old new Done × IsReadToEnd o files bytes left
MayEnd o files bytes left old new Refused =
    IsAnswered (answer_of (build o files bytes)) old new Refused × IsReadToEnd o files bytes left
MayEnd o files bytes left old new TooLong =
    IsAnswered (answer_of (build o files bytes)) old new TooLong
    × IsStopped o files bytes left old new TooLong
MayEnd o files bytes left old new WriteFault = IsCutFile o files bytes left old new
MayEnd o files bytes left old new Memory =
    IsStopped o files bytes left old new Memory ⊎ IsCutFile o files bytes left old new
MayEnd o files bytes left old new status = IsStopped o files bytes left old new status

-- what a build over these bytes and files leaves of map and files: the same as the session, whose
-- replies take no memory, and all of it where the script had ended before the fault
abbrev pub Leaves : Setup → Option Files → List ℕ → Option (List ℕ) → Desk → Status → Type 0
Leaves o files bytes left d WriteFault = IsLikeAfter o (last_progress o files bytes) d
Leaves o files bytes left d Memory = context.Leaves o files bytes left None None d ⊥ Memory
    ⊎ IsLikeAfter o (last_progress o files bytes) d
Leaves o files bytes left d status = context.Leaves o files bytes left None None d ⊥ status

-- where memory runs out, either the script hasn't ended, and the map is as where it was stopped, or
-- all of it was done, and its file is cut off
abbrev pub RunsOut : Setup → Option Files → List ℕ → Option (List ℕ) → Option (List ℕ)
    → Option (List ℕ) → Desk → Type 0
RunsOut o files bytes left old new d =
    (IsStopped o files bytes left old new Memory
    × context.Leaves o files bytes left None None d ⊥ Memory)
    ⊎ (IsCutFile o files bytes left old new × IsLikeAfter o (last_progress o files bytes) d)

-- how a build over these bytes and files may end, with this status: what is left of the input and
-- what was written, what map and files then are, that the store was asked once at most for each
-- line that names a file, and, where the whole answer was given, that the files are those of it
pub record HasBuiltAs (o : Setup) (files : Option Files) (bytes : List ℕ)
    (left old new : Option (List ℕ)) (d : Desk) (status : Status) : Type 0 where
  pub answer : MayEnd o files bytes left old new status
  pub leaves : Leaves o files bytes left d status
  pub ran_out : status ≡ Memory → RunsOut o files bytes left old new d
  pub asked : HasAsked d (last_progress o files bytes).asks
  pub files_told : IsWhole status → d.store.files ≡ (build o files bytes).files

-- a sink stays as it was where the script hasn't ended by its end or its `quit`, for another reason
-- than memory
pub record IsUnasked (status : Status) (same : Type 0) : Type 0 where
  pub too_long : status ≡ TooLong → same
  pub unread : status ≡ ReadFault → same
  pub unstored : status ≡ StoreFault → same
