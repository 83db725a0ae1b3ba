-- A line of a script: the state before it and behind it, and its reply. The pages are said in these
-- words.
use Rattle.std.specs.Prelude.{◌≡◌, ◌∷◌, ◌++◌, ℕ, List, [], Option, Some, None, Result, Ok, false}
use Rattle.oct_io.specs.Files.{Files}
use Rattle.oct_script.specs.Lines.{Line}
use Rattle.oct_script.specs.Replies.{reply_text}
use Rattle.oct_script.specs.declared.command.Command.{Command}
use Rattle.oct_script.specs.declared.reply.Refusal.{Refusal}
use Rattle.oct_script.specs.declared.reply.Reply.{Reply}
use Rattle.oct_script.specs.declared.reply.Reply.TheVariants as reply_of
use Rattle.oct_session.specs.History.{State, state_after}
use Rattle.oct_session.specs.Session.{progress, effect_of, next_command, lines_of, session}
use Rattle.oct_session.specs.Setup.{Setup}
use Rattle.oct_session.specs.declared.scan_block.ScanBlock.{ScanBlock}
use Rattle.oct_values.specs.Classes.{Classes, classes_of}

-- the class of each voxel in a state, by the log-odds in force
abbrev pub classes_in : State → Classes
classes_in s = classes_of s.base.odds s.values

module _ (o : Setup) (files : Option Files) where
  -- the state behind these lines: the value of each voxel, the log-odds in force, the box of scans,
  -- the mark, and whether inner values may be out of date
  abbrev pub state_behind : List Line → State
  state_behind lines = state_after o (progress o files lines).history

  -- a script has this line behind these; it is this command or a fault, in a block or in none
  pub record IsLine (bytes : List ℕ) (before : List Line) (line : Line) (block : Option ScanBlock)
      (command : Result Command Refusal) : Type 0 where
    pub behind : List Line
    pub script : lines_of o bytes ≡ before ++ line ∷ behind
    pub running : (progress o files before).has_quit ≡ false
    pub inside : (progress o files before).block ≡ block
    pub reads : next_command (progress o files before) line ≡ command

  -- the answer has this reply right behind the replies to these lines
  abbrev pub Replies : List ℕ → List Line → Reply → Type 0
  Replies bytes before reply = (more : List ℕ) × ((session o files bytes).text
      ≡ (progress o files before).text ++ (reply_text reply ++ more))

-- where the reply to this command, outside the block of a scan, is `ok`, the answer has it, and the
-- command makes such a state of the one before it
abbrev pub WhereDone : Setup → Command → (State → State → Type 0) → Type 0
WhereDone o command Makes = (files : Option Files) (bytes : List ℕ) (before : List Line)
    (line : Line) → IsLine o files bytes before line None (Ok command)
    → (effect_of o (progress o files before) line).reply ≡ Some reply_of.Ok
    → Replies o files bytes before reply_of.Ok
    × Makes (state_behind o files before) (state_behind o files (before ++ line ∷ []))

-- its reply is always `ok`, and it makes such a state
abbrev pub Always : Setup → Command → (State → State → Type 0) → Type 0
Always o command Makes = (files : Option Files) (bytes : List ℕ) (before : List Line)
    (line : Line) → IsLine o files bytes before line None (Ok command)
    → Replies o files bytes before reply_of.Ok
    × Makes (state_behind o files before) (state_behind o files (before ++ line ∷ []))
