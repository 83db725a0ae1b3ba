-- The log-odds in force stay a model, whatever numbers the files hold.
use Rattle.std.proofs.Common.{◌≡◌, ℕ, ◌+◌, List, [], ◌∷◌, true, false, cond, Option, Some}
use Rattle.std.proofs.Common.{None, Result, Ok, Err, refl, sym, subst}
use Rattle.std.specs.Prelude.{⊤}
use Rattle.std.specs.List.{fold}
use Rattle.oct_bt.specs.File.{FileRead, reading}
use Rattle.oct_bt.specs.declared.fault.BtFault.{BtFault}
use Rattle.oct_io.specs.Files.{Files}
use Rattle.oct_io.specs.declared.store.Loaded.{Loaded}
use Rattle.oct_io.specs.declared.store.Loaded.TheVariants.{Bytes, Missing, TooLarge}
use Rattle.oct_odds.specs.Odds.{Odds, IsSound}
use Rattle.oct_script.specs.Lines.{Line}
use Rattle.oct_script.specs.Replies.{is_refusal}
use Rattle.oct_script.specs.declared.command.Command.{Command}
use Rattle.oct_script.specs.declared.reply.Refusal.{Refusal}
use Rattle.oct_script.specs.declared.reply.Reply.{Reply}
use Rattle.oct_snap.specs.Reading.{Snapshot, read_snapshot}
use Rattle.oct_snap.specs.declared.fault.SnapFault.{SnapFault}
use Rattle.oct_session.specs.Commands.{reply, action_of, accepted, kind_action, order_action}
use Rattle.oct_session.specs.Commands.{question_action, verb_action}
use Rattle.oct_session.specs.declared.kinds.Order.{Order}
use Rattle.oct_session.specs.declared.kinds.Order.TheVariants as order
use Rattle.oct_session.specs.declared.kinds.Question.{Question}
use Rattle.oct_session.specs.declared.kinds.Question.TheVariants as question
use Rattle.oct_script.specs.declared.verbs.FileVerb.{FileVerb}
use Rattle.oct_script.specs.declared.verbs.FileVerb.TheVariants as verb
use Rattle.oct_session.specs.Kinds.{Kind, kind_of, Nothing, Opens, Adds, Closes, Orders, Asks}
use Rattle.oct_session.specs.Kinds.{Names}
use Rattle.oct_session.specs.FileCommands.{found_in, load_action, reading_action, restore_action}
use Rattle.oct_session.specs.FileCommands.{snapshot_action}
use Rattle.oct_session.specs.History.{History, State, Action, Restored, after, after_all}
use Rattle.oct_session.specs.History.{state_after}
use Rattle.oct_session.specs.ScanBlock.{opened, with_line, is_end, block_reply, block_action}
use Rattle.oct_session.specs.Session.{Progress, Effect, effect, effect_of, effect_opened}
use Rattle.oct_session.specs.Session.{next_command, answered, after_line, start, progress, replied}
use Rattle.oct_session.specs.Session.{silent}
use Rattle.oct_session.specs.Setup.{Setup}
use Rattle.oct_session.specs.declared.scan_block.ScanBlock.{ScanBlock}
use Rattle.oct_session.specs.declared.scan_block.ScanBlock.TheVariants.{Scanning, Spoilt}
use Rattle.oct_session.proofs.MapHistory.{state_more}
use Rattle.oct_promise.proofs.SnapshotFields.{snapshot_fine}

-- the log-odds in force make a model
abbrev IsModel : State → Type 0
IsModel s = IsSound s.base.odds

-- only the restore of a snapshot changes them, which has log-odds of its own
abbrev IsFine : Action → Type 0
IsFine (Restored q) = IsSound q.head.odds
IsFine other = ⊤

abbrev AreFine : History → Type 0
AreFine [] = ⊤
AreFine (a ∷ h) = IsFine a × AreFine h

action_kept : (s : State) (a : Action) → IsFine a → IsModel s → IsModel (after s a)
action_kept s (Restored q) fine is = fine
action_kept s other fine is = is

actions_kept : (s : State) (h : History) → AreFine h → IsModel s → IsModel (after_all s h)
actions_kept s [] fine is = is
actions_kept s (a ∷ h) fine is =
    actions_kept (after s a) h fine.1 (action_kept s a fine.0 is)

-- ---- what a command does

reading_fine : (read : Result FileRead BtFault) → AreFine (reading_action read)
reading_fine (Err fault) = tt
reading_fine (Ok file) = (tt, tt)

load_fine : (found : Option Loaded) → AreFine (load_action found)
load_fine None = tt
load_fine (Some Missing) = tt
load_fine (Some TooLarge) = tt
load_fine (Some (Bytes bytes)) = reading_fine (reading bytes)

snapshot_are_fine : (o : Odds) (bytes : List ℕ) (read : Result Snapshot SnapFault) → IsSound o
    → read_snapshot o bytes ≡ read → AreFine (snapshot_action read)
snapshot_are_fine o bytes (Err fault) sound is = tt
snapshot_are_fine o bytes (Ok q) sound is = ((snapshot_fine o bytes q sound is).0, tt)

restore_fine : (s : State) (found : Option Loaded) → IsModel s
    → AreFine (restore_action s.base found)
restore_fine s None is = tt
restore_fine s (Some Missing) is = tt
restore_fine s (Some TooLarge) is = tt
restore_fine s (Some (Bytes bytes)) is =
    snapshot_are_fine s.base.odds bytes (read_snapshot s.base.odds bytes) is refl

-- no order restores a snapshot; the last line is checked for each order that it covers
order_fine : (o : Order) → IsFine (order_action o)
order_fine (order.Edit p e lazy) = tt
order_fine other = tt

question_fine : (q : Question) → AreFine (question_action q)
question_fine question.Counts = (tt, tt)
question_fine other = tt

verb_fine : (files : Option Files) (s : State) (v : FileVerb) (name : List ℕ) → IsModel s
    → AreFine (verb_action files s v name)
verb_fine files s verb.Save name is = tt
verb_fine files s verb.Load name is = load_fine (found_in files name)
verb_fine files s verb.Snapshot name is = tt
verb_fine files s verb.Restore name is = restore_fine s (found_in files name) is

kind_fine : (files : Option Files) (s : State) (k : Kind) → IsModel s
    → AreFine (kind_action files s k)
kind_fine files s Nothing is = tt
kind_fine files s (Opens head) is = tt
kind_fine files s (Adds p) is = tt
kind_fine files s Closes is = tt
kind_fine files s (Orders o) is = (order_fine o, tt)
kind_fine files s (Asks q) is = question_fine q
kind_fine files s (Names v name) is = verb_fine files s v name is

command_fine : (files : Option Files) (s : State) (c : Result Command Refusal) → IsModel s
    → AreFine (action_of files s c)
command_fine files s (Err refusal) is = tt
command_fine files s (Ok command) is = kind_fine files s (kind_of command) is

accepted_fine : (r : Option Reply) (h : History) → AreFine h → AreFine (accepted r h)
accepted_fine r h fine =
    elim (is_refusal r) as (λ b. AreFine (cond {A = History} b [] h)) [ true ↦ tt | false ↦ fine ]

block_fine : (block : ScanBlock) → AreFine (block_action block)
block_fine (Spoilt refusal) = tt
block_fine (Scanning scan) = (tt, tt)

opened_fine : (files : Option Files) (s : State) (c : Result Command Refusal)
    (block : Option ScanBlock) → IsModel s → AreFine (effect_opened files s c block).added
opened_fine files s c None is =
    accepted_fine (reply files s c) (action_of files s c) (command_fine files s c is)
opened_fine files s c (Some block) is = tt

effect_fine : (files : Option Files) (s : State) (number : ℕ) (line : Line)
    (c : Result Command Refusal) (block : Option ScanBlock) → IsModel s
    → AreFine (effect files s number line c block).added
effect_fine files s number line c None is = opened_fine files s c (opened number line c) is
effect_fine files s number line c (Some block) is =
    elim (is_end c) as (λ b. AreFine
    (cond {A = Effect} b (replied (block_reply s block) (block_action block) None)
    (silent (with_line number c block))).added) [
      | true ↦ accepted_fine (block_reply s block) (block_action block) (block_fine block)
      | false ↦ tt
    ]

-- ---- lines

-- the log-odds in force between two lines make a model
abbrev IsModelAt : Setup → Progress → Type 0
IsModelAt o p = IsModel (state_after o p.history)

answered_kept : (o : Setup) (p : Progress) (line : Line) → IsModelAt o p
    → IsModelAt o (answered o p line)
answered_kept o p line is =
    let s : State = state_after o p.history in
    subst IsModel (sym (state_more o p.history (effect_of o p line).added))
    (actions_kept s (effect_of o p line).added
    (effect_fine p.files s (p.line_count + 1) line (next_command p line) p.block is) is)

line_kept : (o : Setup) (p : Progress) (line : Line) → IsModelAt o p
    → IsModelAt o (after_line o p line)
line_kept o p line is = elim p.has_quit as (λ v. IsModelAt o (cond v p (answered o p line)))
    [ true ↦ is | false ↦ answered_kept o p line is ]

lines_kept : (o : Setup) (p : Progress) (lines : List Line) → IsModelAt o p
    → IsModelAt o (fold (after_line o) p lines)
lines_kept o p [] is = is
lines_kept o p (line ∷ lines) is =
    lines_kept o (after_line o p line) lines (line_kept o p line is)

-- between any two lines of a session
pub odds_stay_sound : (o : Setup) (files : Option Files) (lines : List Line) → IsSound o.odds
    → IsSound (state_after o (progress o files lines).history).base.odds
odds_stay_sound o files lines sound = lines_kept o (start files) lines sound
