-- What was read of a line.
use Rattle.std.specs.Prelude.{◌≡◌, Option, Some, None, Result, Ok, Err}
use Rattle.oct_script.specs.Commands.{IsSmallCommand}
use Rattle.oct_script.specs.Lines.{Line}
use Rattle.oct_script.specs.declared.command.Command.{Command}
use Rattle.oct_script.specs.declared.reply.Refusal.{Refusal}
use Rattle.oct_session.specs.ScanBlock.{opens_block}
use Rattle.oct_session.specs.declared.lines.Parsed.{Parsed}

-- the command, or why there is none
abbrev pub read_as : Command → Option Refusal → Result Command Refusal
read_as command None = Ok command
read_as command (Some refusal) = Err refusal

-- the command that was read of a line, or why it has none
abbrev pub command_in : Parsed → Result Command Refusal
command_in parsed = read_as parsed.command parsed.refusal

-- the numbers in it are as a script may have them
abbrev pub IsSmallLine : Parsed → Type 0
IsSmallLine parsed = parsed.refusal ≡ None → IsSmallCommand parsed.command

-- where it was read of this line and has no command, it is known whether the line opens a block
abbrev pub TellsOpening : Parsed → Line → Type 0
TellsOpening parsed line =
    (refusal : Refusal) → parsed.refusal ≡ Some refusal → parsed.opens ≡ opens_block line
