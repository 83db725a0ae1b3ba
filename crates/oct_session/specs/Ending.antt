-- What a session writes, and how it may end.
--
-- Each word for an end has one meaning. A session has *ended* when it is over, with whatever status
-- (`MayEnd`): it has *finished* where its script was read to its end or to a `quit`, and was
-- *stopped* before that, because the script is *overlong*, because its reading failed, or because
-- the session was *halted*, at a line, by its sink, its store or memory. A line has *failed* that
-- halts it. A text is *cut off* of which a part was written and not all, and files are *torn* that
-- are as they were but for the one that a save has left open.
use Rattle.std.specs.Prelude.{◌≡◌, ◌⊎◌, ℕ, ◌+◌, ◌-◌, ◌≤◌, List, [], ◌++◌, take, Bool}
use Rattle.std.specs.Prelude.{true, false, Option, Some}
use Rattle.oct_io.specs.Files.{Files}
use Rattle.oct_io.specs.Taken.{HasTaken, IsBegun}
use Rattle.oct_io.specs.Told.{appended}
use Rattle.oct_script.specs.Lines.{ended_lines}
use Rattle.oct_session.specs.Session.{progress, session}
use Rattle.oct_session.specs.Setup.{Setup}
use Rattle.oct_io.specs.Answer.{IsAnswered, answer_of}
use Rattle.oct_io.specs.declared.status.Status.{Status}
use Rattle.oct_io.specs.declared.status.Status.TheVariants.{Done, Refused, Usage, BadFile}
use Rattle.oct_io.specs.declared.status.Status.TheVariants.{TooLong, ReadFault}

-- the replies to the lines that end within these bytes
abbrev pub replies_within : Setup → Option Files → List ℕ → List ℕ
replies_within o files bytes = (progress o files (ended_lines bytes)).text

-- whether a `quit` line ends within these bytes
abbrev pub has_quit_within : Setup → Option Files → List ℕ → Bool
has_quit_within o files bytes = (progress o files (ended_lines bytes)).has_quit

-- the replies to the lines that end within these bytes were written, and maybe more after them
pub record HasReplied (o : Setup) (files : Option Files) (bytes : List ℕ)
    (old new : Option (List ℕ)) : Type 0 where
  pub more : List ℕ
  pub written : new ≡ appended old (replies_within o files bytes ++ more)

-- a `quit` line ended within the bytes taken, of which `max_bytes` count, and none had ended within
-- all but the last 16,384 of them, as many as one read asks for
pub record HasQuitIn (o : Setup) (files : Option Files) (bytes : List ℕ) (taken : ℕ) : Type 0 where
  pub quits : has_quit_within o files (take o.max_bytes (take taken bytes)) ≡ true
  pub at_once : has_quit_within o files (take (taken - 16384) bytes) ≡ false

-- the script was read to its end: nothing is left of it, or a `quit` line ended in what was read
-- last
pub record IsReadToEnd (o : Setup) (files : Option Files) (bytes : List ℕ)
    (left : Option (List ℕ)) : Type 0 where
  pub taken : ℕ
  pub few : taken ≤ o.max_bytes + 1
  pub input : HasTaken taken bytes left
  pub end : (left ≡ Some []) ⊎ HasQuitIn o files bytes taken

-- the input failed within the limit and before a `quit` line had ended, and exactly the replies to
-- the lines that end within the bytes taken were written
pub record HasReadFault (o : Setup) (files : Option Files) (bytes : List ℕ)
    (left old new : Option (List ℕ)) : Type 0 where
  pub taken : ℕ
  pub few : taken ≤ o.max_bytes
  pub input : HasTaken taken bytes left
  pub no_quit : has_quit_within o files (take taken bytes) ≡ false
  pub written : new ≡ appended old (replies_within o files (take taken bytes))

-- the session was halted, since writing failed, a file couldn't be read or written, or memory ran
-- out: at most one byte more than
-- the limit was taken, and the lines that end within all but the last 16,384 of the bytes taken, as
-- many as one read asks for, were answered
pub record HasHaltFault (o : Setup) (files : Option Files) (bytes : List ℕ)
    (left old new : Option (List ℕ)) : Type 0 where
  pub taken : ℕ
  pub few : taken ≤ o.max_bytes + 1
  pub input : HasTaken taken bytes left
  pub replied : HasReplied o files (take (taken - 16384) bytes) old new

-- how a session over these bytes may end, status by status: what is left of the input, and what was
-- written
abbrev pub MayEnd : Setup → Option Files → List ℕ → Option (List ℕ) → Option (List ℕ)
    → Option (List ℕ) → Status → Type 0
MayEnd o files bytes left old new Done =
    IsAnswered (answer_of (session o files bytes)) old new Done × IsReadToEnd o files bytes left
MayEnd o files bytes left old new Refused =
    IsAnswered (answer_of (session o files bytes)) old new Refused × IsReadToEnd o files bytes left
MayEnd o files bytes left old new Usage = ⊥
MayEnd o files bytes left old new BadFile = ⊥
MayEnd o files bytes left old new TooLong =
    IsAnswered (answer_of (session o files bytes)) old new TooLong
    × HasTaken (o.max_bytes + 1) bytes left
MayEnd o files bytes left old new ReadFault =
    IsBegun (session o files bytes).text old new × HasReadFault o files bytes left old new
MayEnd o files bytes left old new _ =
    IsBegun (session o files bytes).text old new × HasHaltFault o files bytes left old new
