-- Every state of a session is sound, by induction over its lines.
use Rattle.std.proofs.Common.{◌≡◌, ℕ, ◌+◌, ◌<◌, ◌^◌, List, [], ◌∷◌, length, Bool, true, false, cond}
use Rattle.std.proofs.Common.{Option, Some, None, Result, Ok, Err, refl, sym, ap, subst, ◌∙◌}
use Rattle.std.specs.Prelude.{IfSome, ⊤, nat_le, nat_eq, is_ok}
use Rattle.std.specs.List.{All, fold}
use Rattle.std.specs.Str.{bytes_eq}
use Rattle.std.proofs.lemmas.Bool.{false≢true}
use Rattle.oct_bt.specs.DataClasses.{data_classes}
use Rattle.oct_bt.specs.File.{FileRead, bt_text, header_text, text_of_lines, reading}
use Rattle.oct_bt.specs.declared.fault.BtFault.{BtFault}
use Rattle.oct_io.specs.Files.{Files, AreBytes, with_file}
use Rattle.oct_io.specs.Loaded.{loaded_of}
use Rattle.oct_io.specs.declared.store.Loaded.{Loaded}
use Rattle.oct_io.specs.declared.store.Loaded.TheVariants.{Bytes, Missing, TooLarge}
use Rattle.oct_key.specs.Boxes.{Window, is_box}
use Rattle.oct_key.specs.Voxel.{Voxel, IsResolution, key_at}
use Rattle.oct_key.specs.declared.point.Point.{Point}
use Rattle.oct_key.proofs.Boxes.{box_exactly}
use Rattle.oct_key.proofs.Faces.{IsInMap-key_at}
use Rattle.oct_map.specs.Answers.{box_answer_by, corner_fault}
use Rattle.oct_map.specs.Outcome.{corner_box}
use Rattle.oct_map.specs.declared.fault.MapFault.{MapFault}
use Rattle.oct_map.specs.declared.fault.MapFault.TheVariants as fault
use Rattle.oct_odds.specs.Odds.{Odds, IsSound}
use Rattle.oct_script.specs.Lines.{Line}
use Rattle.oct_script.specs.Replies.{is_refusal}
use Rattle.oct_script.specs.declared.command.Command.{Command}
use Rattle.oct_script.specs.declared.reply.Refusal.{Refusal}
use Rattle.oct_script.specs.declared.reply.Reply.{Reply}
use Rattle.oct_snap.specs.Reading.{Snapshot, read_fields, read_snapshot}
use Rattle.oct_snap.specs.declared.fault.SnapFault.{SnapFault}
use Rattle.oct_snap.specs.declared.fault.SnapFault.TheVariants.{BadMagic}
use Rattle.oct_snap.proofs.TextsBack.{text_back}
use Rattle.oct_snap.proofs.WholeFills.{same_snapshot}
use Rattle.oct_values.specs.Classes.{Classes, classes_of}
use Rattle.oct_session.specs.Commands.{reply, action_of, accepted, edit_reply, Saving, saving_of}
use Rattle.oct_session.specs.Commands.{accepted_saving, stored, kind_reply, kind_action, kind_work}
use Rattle.oct_session.specs.Commands.{order_reply, order_action, question_reply, question_action}
use Rattle.oct_session.specs.Commands.{verb_reply, verb_action, verb_work, saving_by}
use Rattle.oct_session.specs.declared.kinds.Order.{Order}
use Rattle.oct_session.specs.declared.kinds.Order.TheVariants as order
use Rattle.oct_session.specs.declared.kinds.Question.{Question}
use Rattle.oct_session.specs.declared.kinds.Question.TheVariants as question
use Rattle.oct_script.specs.declared.verbs.FileVerb.{FileVerb}
use Rattle.oct_script.specs.declared.verbs.FileVerb.TheVariants as verb
use Rattle.oct_session.specs.Kinds.{Kind, kind_of, Nothing, Opens, Adds, Closes, Orders, Asks}
use Rattle.oct_session.specs.Kinds.{Names}
use Rattle.oct_session.specs.FileCommands.{found_in, snapshot_file, reading_reply, reading_action}
use Rattle.oct_session.specs.FileCommands.{load_reply, load_action, snapshot_reply, snapshot_action}
use Rattle.oct_session.specs.FileCommands.{restore_reply, restore_action}
use Rattle.oct_promise.specs.States.{IsMapBox, IsState, IsSetUp}
use Rattle.oct_session.specs.History.{History, State, Scanned, Pruned, Replaced, Restored, Limited}
use Rattle.oct_session.specs.History.{after, after_all, state_after, transition}
use Rattle.oct_session.specs.ScanBlock.{opened, with_line, is_end, block_reply, block_action}
use Rattle.oct_session.specs.ScanSoFar.{sighting_so_far}
use Rattle.oct_session.specs.Session.{Progress, Effect, effect, effect_of, effect_opened}
use Rattle.oct_session.specs.Session.{next_command, answered, after_line, start, progress, replied}
use Rattle.oct_session.specs.Session.{silent}
use Rattle.oct_session.specs.Setup.{Setup}
use Rattle.oct_session.specs.declared.scan_block.ScanBlock.{ScanBlock}
use Rattle.oct_session.specs.declared.scan_block.ScanBlock.TheVariants.{Scanning, Spoilt}
use Rattle.oct_session.proofs.MapHistory.{state_more}
use Rattle.oct_session.proofs.SameLimits.{limits_of}
use Rattle.oct_promise.proofs.SnapshotFields.{snapshot_fine}
use Rattle.oct_promise.proofs.StateActions.{start_is, edited_is, limited_is, restored_is}

-- ---- files that a restore may find

-- the box of a snapshot that is accepted lies in the map
abbrev pub IsGoodFile : List ℕ → Type 0
IsGoodFile bytes = (o : Odds) (q : Snapshot) → IsSound o → read_snapshot o bytes ≡ Ok q
    → IfSome q.head.window IsMapBox

abbrev pub AreGood : Option Files → Type 0
AreGood None = ⊤
AreGood (Some files) = (name : List ℕ) → IfSome (files name) IsGoodFile

bytes_good : (file : Option (List ℕ)) → IfSome file (All (λ byte. byte < 256))
    → IfSome file IsGoodFile
bytes_good None small = tt
bytes_good (Some bytes) small = λ o q sound is. (snapshot_fine o bytes q sound is).1 small

pub files_good : (files : Files) → AreBytes files → AreGood (Some files)
files_good files small = λ name. bytes_good (files name) (small name)

not_accepted : (fault : SnapFault) (q : Snapshot)
    → ◌≡◌ {A = Result Snapshot SnapFault} (Err fault) (Ok q) → ⊥
not_accepted fault q e = false≢true (ap is_ok e)

-- a file of classes is no snapshot
classes_good : (res : ℕ) (classes : Classes) → IsGoodFile (bt_text res classes)
unfolding read_snapshot read_fields bt_text header_text text_of_lines
classes_good res classes = λ o q sound is. absurd (not_accepted BadMagic q is)

-- and the snapshot of a sound state has its box
snapshot_good : (s : State) → IsResolution s.base.res → IsState s → IsGoodFile (snapshot_file s)
snapshot_good s ok is = λ o q sound read.
    (let (t, back, res, version, odds, window, same) = text_back o s.base.res s.base.odds
    s.base.update_box s.values ok is.odds is.update_box is.values in
    let one : t ≡ q = same_snapshot t q (sym back ∙ read) in
    subst (λ (w : Option Window). IfSome w IsMapBox)
    (sym window ∙ ap (λ (x : Snapshot). x.head.window) one) is.update_box)

saved_good : (files : Files) (name bytes other : List ℕ) → IsGoodFile bytes
    → IfSome (files other) IsGoodFile → IfSome (with_file files name bytes other) IsGoodFile
saved_good files name bytes other new old =
    elim (bytes_eq name other) as
    (λ b. IfSome (cond {A = Option (List ℕ)} b (Some bytes) (files other)) IsGoodFile)
    [ true ↦ new | false ↦ old ]

stored_good : (files : Option Files) (saving : Option Saving)
    → IfSome saving (λ s. IsGoodFile s.bytes) → AreGood files → AreGood (stored files saving)
stored_good None None new good = tt
stored_good None (Some saving) new good = tt
stored_good (Some files) None new good = good
stored_good (Some files) (Some saving) new good =
    λ name. saved_good files saving.name saving.bytes name new (good name)

-- what a load finds
abbrev IsGoodFind : Option Loaded → Type 0
IsGoodFind (Some (Bytes bytes)) = IsGoodFile bytes
IsGoodFind _ = ⊤

loaded_good : (file : Option (List ℕ)) → IfSome file IsGoodFile → IsGoodFind (Some (loaded_of file))
loaded_good None good = tt
loaded_good (Some bytes) good =
    elim (nat_le (length bytes) (2 ^ 30)) as
    (λ b. IsGoodFind (Some (cond {A = Loaded} b (Bytes bytes) TooLarge)))
    [ true ↦ good | false ↦ tt ]

found_good : (files : Option Files) (name : List ℕ) → AreGood files
    → IsGoodFind (found_in files name)
found_good None name good = tt
found_good (Some files) name good = loaded_good (files name) (good name)

-- ---- what a command leaves

-- something was done or not
either_is : (s : State) (r : Option Reply) (actions : History) → IsState s
    → IsState (after_all s actions) → IsState (after_all s (accepted r actions))
either_is s r actions is done =
    elim (is_refusal r) as (λ b. IsState (after_all s (cond {A = History} b [] actions)))
    [ true ↦ is | false ↦ done ]

-- the box whose corners hold two points
corners_in_map : (res : ℕ) (lo hi : Point) (a b : Voxel) → key_at res lo ≡ Some a
    → key_at res hi ≡ Some b → is_box a b ≡ true → IfSome (corner_box (Some a) (Some b)) IsMapBox
corners_in_map res lo hi a b is_low is_high box =
    (IsInMap-key_at res lo a is_low, IsInMap-key_at res hi b is_high, (box_exactly a b).0 box)

limit_is_at : (s : State) (lo hi : Point) (a b : Option Voxel) → key_at s.base.res lo ≡ a
    → key_at s.base.res hi ≡ b → IsState s →
    IsState (after_all s (accepted (edit_reply (box_answer_by (corner_fault a b) (Ok tt)))
    (Limited lo hi ∷ [])))
limit_is_at s lo hi None b is_low is_high is = is
limit_is_at s lo hi (Some a) None is_low is_high is = is
limit_is_at s lo hi (Some a) (Some b) is_low is_high is = by_box (is_box a b) refl
  where
    limited : is_box a b ≡ true → IsState (after s (Limited lo hi))
    limited box =
        limited_is s (Limited lo hi)
        (corner_box (key_at s.base.res lo) (key_at s.base.res hi)) refl
        (subst (λ (x : Option Voxel). IfSome (corner_box x (key_at s.base.res hi)) IsMapBox)
        (sym is_low)
        (subst (λ (x : Option Voxel). IfSome (corner_box (Some a) x) IsMapBox) (sym is_high)
        (corners_in_map s.base.res lo hi a b is_low is_high box))) is

    by_box : (t : Bool) → is_box a b ≡ t
        → IsState (after_all s (accepted
        (edit_reply (box_answer_by (cond {A = Option MapFault} t None (Some fault.BadBox)) (Ok tt)))
        (Limited lo hi ∷ [])))
    by_box true box = limited box
    by_box false box = is

-- what was read of a file of classes
reading_is : (s : State) (read : Result FileRead BtFault) → IsState s
    → IsState (after_all s (accepted (reading_reply s.base read) (reading_action read)))
reading_is s (Err f) is = either_is s (reading_reply s.base (Err f)) [] is is
reading_is s (Ok file) is =
    either_is s (reading_reply s.base (Ok file)) (reading_action (Ok file)) is
    (edited_is s (Replaced (data_classes file.codes)) refl is)

load_is : (s : State) (found : Option Loaded) → IsState s
    → IsState (after_all s (accepted (load_reply s.base found) (load_action found)))
load_is s None is = is
load_is s (Some Missing) is = is
load_is s (Some TooLarge) is = is
load_is s (Some (Bytes bytes)) is = reading_is s (reading bytes) is

-- the box that stands after a snapshot
box_stands : (standing own : Option Window) (b : Bool) → IfSome standing IsMapBox
    → IfSome own IsMapBox → IfSome (cond {A = Option Window} b standing own) IsMapBox
box_stands standing own true old new = old
box_stands standing own false old new = new

-- what a snapshot was read as
snapshot_is : (s : State) (bytes : List ℕ) (read : Result Snapshot SnapFault) → IsGoodFile bytes
    → read_snapshot s.base.odds bytes ≡ read → IsState s →
    IsState (after_all s (accepted (snapshot_reply s.base read) (snapshot_action read)))
snapshot_is s bytes (Err f) good from is = either_is s (snapshot_reply s.base (Err f)) [] is is
snapshot_is s bytes (Ok q) good from is =
    either_is s (snapshot_reply s.base (Ok q)) (Restored q ∷ []) is
    (restored_is s q (snapshot_fine s.base.odds bytes q is.odds from).0
    (box_stands s.base.update_box q.head.window (nat_eq q.head.version 1) is.update_box
    (good s.base.odds q is.odds from)))

restore_is : (s : State) (found : Option Loaded) → IsGoodFind found → IsState s
    → IsState (after_all s (accepted (restore_reply s.base found) (restore_action s.base found)))
restore_is s None good is = is
restore_is s (Some Missing) good is = is
restore_is s (Some TooLarge) good is = is
restore_is s (Some (Bytes bytes)) good is =
    snapshot_is s bytes (read_snapshot s.base.odds bytes) good refl is

-- the last line is checked for each order that it covers: it leaves the box, or takes it away
order_is : (s : State) (o : Order) → IsState s
    → IsState (after_all s (accepted (order_reply s o) (order_action o ∷ [])))
order_is s (order.Limit lo hi) is =
    limit_is_at s lo hi (key_at s.base.res lo) (key_at s.base.res hi) refl refl is
order_is s other is =
    either_is s (order_reply s other) (order_action other ∷ []) is
    (limited_is s (order_action other)
    ((transition (order_action other)).base s.base).update_box refl (assumption is) is)

question_is : (s : State) (q : Question) → IsState s → IsState (after_all s (question_action q))
question_is s question.Counts is = edited_is s Pruned refl is
question_is s other is = is

verb_is : (files : Option Files) (s : State) (v : FileVerb) (name : List ℕ) → AreGood files
    → IsState s
    → IsState (after_all s (accepted (verb_reply files s v name) (verb_action files s v name)))
verb_is files s verb.Save name good is = is
verb_is files s verb.Load name good is = load_is s (found_in files name) is
verb_is files s verb.Snapshot name good is = is
verb_is files s verb.Restore name good is =
    restore_is s (found_in files name) (found_good files name good) is

kind_is : (files : Option Files) (s : State) (k : Kind) → AreGood files → IsState s
    → IsState (after_all s (accepted (kind_reply files s k) (kind_action files s k)))
kind_is files s Nothing good is = is
kind_is files s (Opens head) good is = is
kind_is files s (Adds p) good is = is
kind_is files s Closes good is = is
kind_is files s (Orders o) good is = order_is s o is
kind_is files s (Asks q) good is =
    either_is s (question_reply s q) (question_action q) is (question_is s q is)
kind_is files s (Names v name) good is = verb_is files s v name good is

command_is : (files : Option Files) (s : State) (c : Result Command Refusal) → AreGood files
    → IsState s → IsState (after_all s (accepted (reply files s c) (action_of files s c)))
command_is files s (Err refusal) good is = is
command_is files s (Ok command) good is = kind_is files s (kind_of command) good is

block_is : (s : State) (block : ScanBlock) → IsState s
    → IsState (after_all s (accepted (block_reply s block) (block_action block)))
block_is s (Spoilt refusal) is = is
block_is s (Scanning scan) is =
    either_is s (block_reply s (Scanning scan)) (block_action (Scanning scan)) is
    (edited_is s (Scanned (sighting_so_far scan) scan.head.lazy) refl is)

opened_is : (files : Option Files) (s : State) (c : Result Command Refusal)
    (block : Option ScanBlock) → AreGood files → IsState s
    → IsState (after_all s (effect_opened files s c block).added)
opened_is files s c None good is = command_is files s c good is
opened_is files s c (Some block) good is = is

effect_is : (files : Option Files) (s : State) (number : ℕ) (line : Line)
    (c : Result Command Refusal) (block : Option ScanBlock) → AreGood files → IsState s
    → IsState (after_all s (effect files s number line c block).added)
effect_is files s number line c None good is = opened_is files s c (opened number line c) good is
effect_is files s number line c (Some block) good is =
    elim (is_end c) as (λ b. IsState
    (after_all s (cond {A = Effect} b (replied (block_reply s block) (block_action block) None)
    (silent (with_line number c block))).added)) [
      | true ↦ block_is s block is
      | false ↦ is
    ]

-- ---- what it writes

abbrev IsGoodSaving : Option Saving → Type 0
IsGoodSaving saving = IfSome saving (λ s. IsGoodFile s.bytes)

kept_saving : (r : Option Reply) (saving : Option Saving) → IsGoodSaving saving
    → IsGoodSaving (accepted_saving r saving)
kept_saving r saving good =
    elim (is_refusal r) as (λ b. IsGoodSaving (cond {A = Option Saving} b None saving))
    [ true ↦ tt | false ↦ good ]

verb_good : (s : State) (v : FileVerb) (name : List ℕ) → IsResolution s.base.res → IsState s
    → IsGoodSaving (saving_by s (Some (verb_work v name)))
verb_good s verb.Save name ok is = classes_good s.base.res (classes_of s.base.odds s.values)
verb_good s verb.Load name ok is = tt
verb_good s verb.Snapshot name ok is = snapshot_good s ok is
verb_good s verb.Restore name ok is = tt

kind_good : (s : State) (k : Kind) → IsResolution s.base.res → IsState s
    → IsGoodSaving (saving_by s (kind_work k))
kind_good s Nothing ok is = tt
kind_good s (Opens head) ok is = tt
kind_good s (Adds p) ok is = tt
kind_good s Closes ok is = tt
kind_good s (Orders o) ok is = tt
kind_good s (Asks q) ok is = tt
kind_good s (Names v name) ok is = verb_good s v name ok is

saving_good : (s : State) (c : Result Command Refusal) → IsResolution s.base.res → IsState s
    → IsGoodSaving (saving_of s c)
saving_good s (Err refusal) ok is = tt
saving_good s (Ok command) ok is = kind_good s (kind_of command) ok is

opened_saving : (files : Option Files) (s : State) (c : Result Command Refusal)
    (block : Option ScanBlock) → IsResolution s.base.res → IsState s
    → IsGoodSaving (effect_opened files s c block).saving
opened_saving files s c None ok is =
    kept_saving (reply files s c) (saving_of s c) (saving_good s c ok is)
opened_saving files s c (Some block) ok is = tt

effect_saving : (files : Option Files) (s : State) (number : ℕ) (line : Line)
    (c : Result Command Refusal) (block : Option ScanBlock) → IsResolution s.base.res → IsState s
    → IsGoodSaving (effect files s number line c block).saving
effect_saving files s number line c None ok is =
    opened_saving files s c (opened number line c) ok is
effect_saving files s number line c (Some block) ok is =
    elim (is_end c) as (λ b. IsGoodSaving
    (cond {A = Effect} b (replied (block_reply s block) (block_action block) None)
    (silent (with_line number c block))).saving) [
      | true ↦ kept_saving (block_reply s block) None tt
      | false ↦ tt
    ]

pub res_of : (o : Setup) (h : History) → (state_after o h).base.res ≡ o.res
res_of o h = (limits_of o h).res

pub most_of : (o : Setup) (h : History) → (state_after o h).base.max_groups ≡ o.max_groups
most_of o h = (limits_of o h).groups

-- ---- lines

-- the state and the files between two lines
pub record IsSoundAt (o : Setup) (p : Progress) : Type 0 where
  pub state : IsState (state_after o p.history)
  pub files : AreGood p.files

answered_is : (o : Setup) (p : Progress) (line : Line) → IsSetUp o → IsSoundAt o p
    → IsSoundAt o (answered o p line)
answered_is o p line set at =
    let s : State = state_after o p.history in
    let ok : IsResolution s.base.res = subst IsResolution (sym (res_of o p.history)) set.res in
    record {
      state = subst IsState (sym (state_more o p.history (effect_of o p line).added))
          (effect_is p.files s (p.line_count + 1) line (next_command p line) p.block at.files
          at.state);
      files = stored_good p.files (effect_of o p line).saving
          (effect_saving p.files s (p.line_count + 1) line (next_command p line) p.block ok
          at.state) at.files;
    }

line_is : (o : Setup) (p : Progress) (line : Line) → IsSetUp o → IsSoundAt o p
    → IsSoundAt o (after_line o p line)
line_is o p line set at =
    elim p.has_quit as (λ v. IsSoundAt o (cond v p (answered o p line)))
    [ true ↦ at | false ↦ answered_is o p line set at ]

lines_are : (o : Setup) (p : Progress) (lines : List Line) → IsSetUp o → IsSoundAt o p
    → IsSoundAt o (fold (after_line o) p lines)
lines_are o p [] set at = at
lines_are o p (line ∷ lines) set at =
    lines_are o (after_line o p line) lines set (line_is o p line set at)

start_good : (files : Option Files) → IfSome files AreBytes → AreGood files
start_good None small = tt
start_good (Some files) small = files_good files small

-- between any two lines of a session
pub session_is : (o : Setup) (files : Option Files) (lines : List Line) → IsSetUp o
    → IfSome files AreBytes → IsSoundAt o (progress o files lines)
session_is o files lines set small =
    lines_are o (start files) lines set
    (record { state = start_is o set.odds; files = start_good files small })
