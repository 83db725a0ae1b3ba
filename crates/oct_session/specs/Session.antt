-- A session: the replies to a script.
use Rattle.std.specs.Prelude.{◌≡◌, ◌⊎◌, IsSome, ℕ, ◌+◌, List, [], ◌++◌, length, take, fold, nat_lt}
use Rattle.std.specs.Prelude.{Option, Some, None}
use Rattle.std.specs.Prelude.{is_some, Result, if◌then◌else◌, Bool, false, ◌||◌}
use Rattle.oct_io.specs.Files.{Files}
use Rattle.oct_script.specs.declared.command.Command.{Command}
use Rattle.oct_script.specs.declared.reply.Refusal.{Refusal}
use Rattle.oct_script.specs.declared.reply.Reply.{Reply}
use Rattle.oct_script.specs.Lines.{Line, ended_lines, all_lines}
use Rattle.oct_script.specs.Replies.{text_of, is_refusal}
use Rattle.oct_session.specs.Commands.{command_on, is_quit, reply, action_of, accepted, Saving}
use Rattle.oct_session.specs.Commands.{saving_of, kind_reply, kind_action, kind_work, saving_by}
use Rattle.oct_session.specs.Commands.{file_named, asks_for, accepted_saving, stored}
use Rattle.oct_session.specs.History.{History, State, state_after}
use Rattle.oct_session.specs.ScanBlock.{opened, with_line, is_end, block_reply, block_action}
use Rattle.oct_session.specs.ScanBlock.{end_reply}
use Rattle.oct_session.specs.Setup.{Setup}
use Rattle.oct_session.specs.Tally.{counted, no_replies}
use Rattle.oct_session.specs.declared.scan_block.ScanBlock.{ScanBlock}
use Rattle.oct_session.specs.Kinds.{Kind}
use Rattle.oct_io.specs.Answer.{Outcome}
use Rattle.oct_io.specs.declared.status.Status.{Status}
use Rattle.oct_session.specs.declared.tally.Tally.{Tally}
use Rattle.oct_io.specs.declared.status.Status.TheVariants as status

-- what a line does: its reply, what it adds to the history, what it saves, and the block that is
-- open after it
pub record Effect : Type 0 where
  pub reply : Option Reply
  pub added : History
  pub saving : Option Saving
  pub block : Option ScanBlock

-- what a reply, actions and a saving come to, where these are done unless the reply is a refusal
abbrev pub replied : Option Reply → History → Option Saving → Effect
replied answer actions saving = record {
  reply = answer;
  added = accepted answer actions;
  saving = accepted_saving answer saving;
  block = None;
}

-- a line inside a block or before one has no reply of its own
abbrev pub silent : ScanBlock → Effect
silent block = record { reply = None; added = []; saving = None; block = Some block }

-- what something does outside a block that does a command, over these files and in a state
abbrev pub effect_of_kind : Option Files → State → Kind → Effect
effect_of_kind files s kind =
    replied (kind_reply files s kind) (kind_action files s kind) (saving_by s (kind_work kind))

-- what a line's command does outside a block, over these files and in a state
abbrev pub effect_of_command : Option Files → State → Result Command Refusal → Effect
effect_of_command files s command =
    replied (reply files s command) (action_of files s command) (saving_of s command)

-- what a line does that opens a block, or does this
abbrev pub unless_opened : Effect → Option ScanBlock → Effect
unless_opened effect None = effect
unless_opened effect (Some block) = silent block

-- what a line does outside a block, by the block that it opens
abbrev pub effect_opened : Option Files → State → Result Command Refusal → Option ScanBlock → Effect
effect_opened files s command opened = unless_opened (effect_of_command files s command) opened

-- what a line does inside a block, by whether it closes it
abbrev pub effect_inside : State → ℕ → Result Command Refusal → ScanBlock → Effect
effect_inside s number command block =
    if is_end command
    then replied (block_reply s block) (block_action block) None
    else silent (with_line number command block)

-- what the line of this number does over these files and in a state, where a block is open or none
abbrev pub effect : Option Files → State → ℕ → Line → Result Command Refusal → Option ScanBlock
    → Effect
effect files s number line command None =
    effect_opened files s command (opened number line command)
effect files s number line command (Some block) = effect_inside s number command block

-- between two lines: the history, the files, where they are told, how many lines named one, how
-- many lines there were, the block that is open, whether a reply was a refusal and a line was
-- `quit`, what the replies come to, and the replies
pub record Progress : Type 0 where
  pub history : History
  pub files : Option Files
  pub asks : ℕ
  pub line_count : ℕ
  pub block : Option ScanBlock
  pub refused : Bool
  pub has_quit : Bool
  pub tally : Tally
  pub text : List ℕ

-- before the first line: no command, so each voxel is unknown
abbrev pub start : Option Files → Progress
start files = record {
  history = [];
  files = files;
  asks = 0;
  line_count = 0;
  block = None;
  refused = false;
  has_quit = false;
  tally = no_replies;
  text = [];
}

-- the command on the next line, or why there is none
abbrev pub next_command : Progress → Line → Result Command Refusal
next_command p line = command_on (is_some p.block) (p.line_count + 1) line

-- what the next line does
abbrev pub effect_of : Setup → Progress → Line → Effect
effect_of o p line =
    effect p.files (state_after o p.history) (p.line_count + 1) line (next_command p line) p.block

-- after one line more was taken in
abbrev pub answered : Setup → Progress → Line → Progress
answered o p line = record {
  history = p.history ++ (effect_of o p line).added;
  files = stored p.files (effect_of o p line).saving;
  asks = p.asks + asks_for (file_named (next_command p line));
  line_count = p.line_count + 1;
  block = (effect_of o p line).block;
  refused = p.refused || is_refusal (effect_of o p line).reply;
  has_quit = is_quit (next_command p line);
  tally = counted p.tally (effect_of o p line).reply;
  text = p.text ++ text_of (effect_of o p line).reply;
}

-- after one line more, which has no effect after a `quit`
abbrev pub after_line : Setup → Progress → Line → Progress
after_line o p line = if p.has_quit then p else answered o p line

-- after these lines, one after another
abbrev pub after_lines : Setup → Progress → List Line → Progress
after_lines o p lines = fold (after_line o) p lines

-- after these lines, from the first one on
abbrev pub progress : Setup → Option Files → List Line → Progress
progress o files lines = after_lines o (start files) lines

-- after the end of the script: a block that is open there is refused
abbrev pub ended : Progress → Progress
ended p = record p {
  block = None;
  refused = p.refused || is_refusal (end_reply p.block);
  tally = counted p.tally (end_reply p.block);
  text = p.text ++ text_of (end_reply p.block);
}

-- the same, which has no effect after a `quit`
abbrev pub closed : Progress → Progress
closed p = if p.has_quit then p else ended p

-- the status where the script was read to its end, and some reply was a refusal or none
abbrev pub status_at_end : Bool → Status
status_at_end refused = if refused then status.Refused else status.Done

-- what a session leaves that has ended
abbrev pub finished : Progress → Outcome
finished p = record { text = p.text; files = p.files; status = status_at_end p.refused }

-- what it leaves where the script has too many bytes, which doesn't matter after a `quit`
abbrev pub overlong : Progress → Outcome
overlong p =
    if p.has_quit then finished p else record
    { text = p.text; files = p.files; status = status.TooLong }

-- whether a script has more bytes than it may have
abbrev pub is_too_long : Setup → List ℕ → Bool
is_too_long o bytes = nat_lt o.max_bytes (length bytes)

-- the lines that count: all lines of a script, or, where it is too long, those that end within its
-- first `max_bytes` bytes
unfoldable pub lines_of : Setup → List ℕ → List Line
lines_of o bytes =
    if is_too_long o bytes then ended_lines (take o.max_bytes bytes) else all_lines bytes

-- after the last of these lines
abbrev pub last_progress : Setup → Option Files → List ℕ → Progress
last_progress o files bytes = progress o files (lines_of o bytes)

-- what a session over a script and these files leaves
unfoldable pub session : Setup → Option Files → List ℕ → Outcome
session o files bytes =
    if is_too_long o bytes then overlong (last_progress o files bytes) else finished
    (closed (last_progress o files bytes))

-- all files that the session reads are told: the store tells its files, or no line names one
abbrev pub ReadsTold : Setup → Option Files → List ℕ → Type 0
ReadsTold o files bytes =
    IsSome files ⊎ ((last_progress o files bytes).asks ≡ 0)
