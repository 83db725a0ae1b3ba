-- Which accepted command of a script each action of the history is.
use Rattle.std.specs.Prelude.{◌≡◌, ◌∷◌, ◌++◌, List, [], ℕ, false, ◌⊎◌, Option, Some, None, Ok}
use Rattle.oct_io.specs.Files.{Files}
use Rattle.oct_script.specs.Lines.{Line}
use Rattle.oct_script.specs.Replies.{is_refusal}
use Rattle.oct_script.specs.declared.command.Command.{Command}
use Rattle.oct_script.specs.declared.command.Command.TheVariants as command
use Rattle.oct_script.specs.declared.reply.Reply.{Reply}
use Rattle.oct_session.specs.History.{Action, Edited, Boxed, Scanned, Refreshed, Pruned, Cleared}
use Rattle.oct_session.specs.History.{Likened, Replaced, Restored, Tracked, Untracked, Limited}
use Rattle.oct_session.specs.History.{Unlimited}
use Rattle.oct_session.specs.ScanSoFar.{ScanSoFar, sighting_so_far}
use Rattle.oct_session.specs.Session.{Progress, progress, effect_of, next_command, after_line}
use Rattle.oct_session.specs.Setup.{Setup}
use Rattle.oct_session.specs.declared.scan_block.ScanBlock.{ScanBlock}
use Rattle.oct_session.specs.declared.scan_block.ScanBlock.TheVariants.{Scanning}
use Rattle.oct_snap.specs.Reading.{Snapshot}
use Rattle.oct_values.specs.Classes.{Classes}
use Rattle.oct_promise.specs.Lines.{IsLine}

-- the action that a command is outside the block of a scan; `counts` prunes first
abbrev pub IsCalled : Command → Action → Type 0
IsCalled (command.Edit p edit lazy) a = a ≡ Edited p edit lazy
IsCalled (command.Box lo hi edit) a = a ≡ Boxed lo hi edit
IsCalled (command.Limit lo hi) a = a ≡ Limited lo hi
IsCalled command.NoLimit a = a ≡ Unlimited
IsCalled command.Refresh a = a ≡ Refreshed
IsCalled command.Prune a = a ≡ Pruned
IsCalled command.Counts a = a ≡ Pruned
IsCalled command.Clear a = a ≡ Cleared
IsCalled command.MaxLik a = a ≡ Likened
IsCalled command.Track a = a ≡ Tracked
IsCalled command.Untrack a = a ≡ Untracked
IsCalled (command.Load name) a = (classes : Classes) × (a ≡ Replaced classes)
IsCalled (command.Restore name) a = (q : Snapshot) × (a ≡ Restored q)
IsCalled _ a = ⊥

-- the line is the command that the action is, or the end of the block of its scan
abbrev pub IsOwn : Progress → Line → Action → Type 0
IsOwn p line a = ((c : Command) × (p.block ≡ None) × (next_command p line ≡ Ok c) × IsCalled c a)
    ⊎ ((scan : ScanSoFar) × (p.block ≡ Some (Scanning scan))
    × (next_command p line ≡ Ok command.End)
    × (a ≡ Scanned (sighting_so_far scan) scan.head.lazy))

-- a line adds nothing to the history, or its own action, and then it isn't refused
abbrev pub AddsOwn : Setup → Progress → Line → Type 0
AddsOwn o p line = ((after_line o p line).history ≡ p.history)
    ⊎ ((a : Action) × IsOwn p line a × (is_refusal (effect_of o p line).reply ≡ false)
    × ((after_line o p line).history ≡ p.history ++ a ∷ []))

-- where a line is this command, in this block or in none, and has this reply, it adds one such
-- action to the history
abbrev pub Adds : Setup → Option ScanBlock → Command → Reply → (Action → Type 0) → Type 0
Adds o block command reply IsSuch = (files : Option Files) (bytes : List ℕ) (before : List Line)
    (line : Line) → IsLine o files bytes before line block (Ok command)
    → (effect_of o (progress o files before) line).reply ≡ Some reply
    → ((action : Action) × IsSuch action × ((progress o files (before ++ line ∷ [])).history
    ≡ (progress o files before).history ++ action ∷ []))
