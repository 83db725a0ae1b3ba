-- How a session ends that is read to its end, by its replies.
use Rattle.std.specs.Prelude.{◌≡◌, ◌<◌, ℕ, List, length, Option, Some, false}
use Rattle.std.specs.List.{Contains}
use Rattle.oct_io.specs.Files.{Files}
use Rattle.oct_script.specs.Lines.{Line}
use Rattle.oct_script.specs.declared.reply.Refusal.{Refusal}
use Rattle.oct_script.specs.declared.reply.Reply.TheVariants.{Refused}
use Rattle.oct_session.specs.Session.{last_progress, lines_of, progress, session}
use Rattle.oct_session.specs.Setup.{Setup}
use Rattle.oct_promise.specs.Sums.{all_replies}

-- the script has more bytes than it may have, and none of the lines that end within these is `quit`
pub record IsOverlong (o : Setup) (files : Option Files) (bytes : List ℕ) : Type 0 where
  pub long : o.max_bytes < length bytes
  pub running : (last_progress o files bytes).has_quit ≡ false

-- some reply is a refusal
abbrev pub HasRefusal : Setup → Option Files → List ℕ → Type 0
HasRefusal o files bytes = (refusal : Refusal)
    × Contains (all_replies o files (lines_of o bytes)) (Some (Refused refusal))

-- a session leaves what it had behind these lines: none after them has an effect, or a reply
pub record EndsBehind (o : Setup) (given : Option Files) (bytes : List ℕ) (lines : List Line)
    : Type 0 where
  pub text : (session o given bytes).text ≡ (progress o given lines).text
  pub files : (session o given bytes).files ≡ (progress o given lines).files
