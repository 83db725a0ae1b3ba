-- What the replies of a session come to, as plain sums over them.
use Rattle.std.specs.Prelude.{◌≡◌, ◌<◌, ◌≤◌, ◌^◌, ℕ, List, [], ◌∷◌, ◌++◌, Option, Some, None}
use Rattle.std.specs.Prelude.{sum_by, if◌then◌else◌}
use Rattle.oct_io.specs.Answer.{Outcome}
use Rattle.oct_gen.specs.Script.{script_of}
use Rattle.oct_io.specs.Files.{Files, no_files}
use Rattle.oct_script.specs.Lines.{Line}
use Rattle.oct_script.specs.declared.reply.Reply.{Reply}
use Rattle.oct_script.specs.declared.reply.Reply.TheVariants.{Scanned, Refused}
use Rattle.oct_session.specs.Drill.{drill_setup}
use Rattle.oct_session.specs.ScanBlock.{end_reply}
use Rattle.oct_session.specs.Session.{Progress, start, effect_of, after_line, progress, lines_of}
use Rattle.oct_session.specs.Session.{session}
use Rattle.oct_session.specs.Setup.{Setup}
use Rattle.oct_session.specs.declared.tally.Tally.{Tally}

-- the reply to the next line, which has none after a `quit`
abbrev pub reply_to : Setup → Progress → Line → Option Reply
reply_to o p line = if p.has_quit then None else (effect_of o p line).reply

-- the replies to these lines, one after another
unfoldable pub replies_to : Setup → Progress → List Line → List (Option Reply)
replies_to o p [] = []
replies_to o p (line ∷ lines) = reply_to o p line ∷ replies_to o (after_line o p line) lines

-- the reply at the end of the script, which has none after a `quit`
abbrev pub reply_at_end : Progress → Option Reply
reply_at_end p = if p.has_quit then None else end_reply p.block

-- the replies to all lines, and the one at the end
abbrev pub all_replies : Setup → Option Files → List Line → List (Option Reply)
all_replies o files lines =
    replies_to o (start files) lines ++ reply_at_end (progress o files lines) ∷ []

-- the replies to the script of a drill
abbrev pub drill_replies : ℕ → ℕ → ℕ → List (Option Reply)
drill_replies seed scans points =
    all_replies drill_setup (Some no_files) (lines_of drill_setup (script_of seed scans points))

-- the session over it, with no files
abbrev pub drill_session : ℕ → ℕ → ℕ → Outcome
drill_session seed scans points =
    session drill_setup (Some no_files) (script_of seed scans points)

-- the numbers of a drill are as its words may have them
pub record IsDrill (seed scans points : ℕ) : Type 0 where
  pub low : seed < 2 ^ 64
  pub few_scans : scans ≤ 1000
  pub few_points : points ≤ 100000

-- the voxels that a scan hit, of which its reply tells
abbrev pub hits_in : Option Reply → ℕ
hits_in (Some (Scanned done)) = done.hits
hits_in _ = 0

-- the voxels that a scan freed, likewise
abbrev pub frees_in : Option Reply → ℕ
frees_in (Some (Scanned done)) = done.frees
frees_in _ = 0

-- a refusal counts once
abbrev pub refusals_in : Option Reply → ℕ
refusals_in (Some (Refused refusal)) = 1
refusals_in _ = 0

-- each number is the sum over these replies
pub record IsSummed (t : Tally) (replies : List (Option Reply)) : Type 0 where
  pub refused : t.refused ≡ sum_by refusals_in replies
  pub hits : t.hits ≡ sum_by hits_in replies
  pub frees : t.frees ≡ sum_by frees_in replies

-- each number is below this one
pub record IsBelow (most : ℕ) (t : Tally) : Type 0 where
  pub refused : t.refused < most
  pub hits : t.hits < most
  pub frees : t.frees < most
