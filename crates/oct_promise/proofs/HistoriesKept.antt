-- Which action of the history an accepted line is.
use Rattle.std.proofs.Common.{◌≡◌, ℕ, ◌+◌, List, [], ◌∷◌, ◌++◌, Option, Some, None, Result, Ok, Err}
use Rattle.std.proofs.Common.{refl, sym, ap, ◌∙◌, Bool}
use Rattle.std.specs.Prelude.{option_map}
use Rattle.oct_bt.specs.DataClasses.{data_classes}
use Rattle.oct_io.specs.Files.{Files}
use Rattle.oct_io.specs.declared.store.Loaded.{Loaded}
use Rattle.oct_io.specs.declared.store.Loaded.TheVariants.{Bytes, Missing, TooLarge}
use Rattle.oct_key.specs.declared.point.Point.{Point}
use Rattle.oct_map.specs.Ground.{Ground}
use Rattle.oct_map.specs.Faults.{snap_fault}
use Rattle.oct_script.specs.Lines.{Line}
use Rattle.oct_script.specs.declared.command.Command.{Command}
use Rattle.oct_script.specs.declared.command.Command.TheVariants as command
use Rattle.oct_script.specs.declared.command.Edit.{Edit}
use Rattle.oct_script.specs.declared.reply.Refusal.{Refusal}
use Rattle.oct_script.specs.declared.reply.Reply.{Reply}
use Rattle.oct_script.specs.declared.reply.Reply.TheVariants as reply_of
use Rattle.oct_script.specs.declared.reply.ScanDone.{ScanDone}
use Rattle.oct_snap.specs.Reading.{Snapshot, read_snapshot}
use Rattle.oct_snap.specs.declared.fault.SnapFault.{SnapFault}
use Rattle.oct_values.specs.Classes.{Classes}
use Rattle.oct_session.specs.Commands.{Saving, accepted, order_reply, order_action}
use Rattle.oct_session.specs.FileCommands.{found_in, load_reply, load_action}
use Rattle.oct_session.specs.FileCommands.{restore_reply, restore_action}
use Rattle.oct_session.specs.FileCommands.{snapshot_reply, snapshot_action}
use Rattle.oct_session.specs.History.{History, State, Action, Edited, Scanned, Refreshed, Cleared}
use Rattle.oct_session.specs.History.{Likened, Replaced, Restored, Tracked, Untracked, state_after}
use Rattle.oct_session.specs.History.{Boxed, Limited, Unlimited, Pruned}
use Rattle.oct_session.specs.Refusals.{refusal_of}
use Rattle.oct_session.specs.ScanBlock.{block_reply, block_action}
use Rattle.oct_session.specs.ScanSoFar.{ScanSoFar, sighting_so_far}
use Rattle.oct_session.specs.Session.{Progress, Effect, effect_of, replied, progress}
use Rattle.oct_session.specs.Setup.{Setup}
use Rattle.oct_session.specs.declared.kinds.Order.{Order}
use Rattle.oct_session.specs.declared.kinds.Order.TheVariants as order
use Rattle.oct_session.specs.declared.scan_block.ScanBlock.{ScanBlock}
use Rattle.oct_session.specs.declared.scan_block.ScanBlock.TheVariants.{Scanning}
use Rattle.oct_session.proofs.Progresses.{progress_push, after_answered}
use Rattle.oct_promise.specs.Called.{Adds}
use Rattle.oct_promise.specs.Lines.{IsLine}
use Rattle.oct_promise.proofs.EditsDone.{IsOrder}
use Rattle.oct_promise.proofs.FilesLoaded.{found_file, action_found}
use Rattle.oct_promise.proofs.GivenBack.{effect_next}
use Rattle.oct_promise.proofs.ScansDone.{closes}
use Rattle.oct_promise.proofs.Telling.{next_line}

-- a line whose reply isn't a refusal adds what it does
grows : (o : Setup) (files : Option Files) (bytes : List ℕ) (before : List Line) (line : Line)
    (block : Option ScanBlock) (c : Command) (actions : History) (told : Option Reply)
    (saving : Option Saving) (reply : Reply) (a : Action)
    → IsLine o files bytes before line block (Ok c)
    → effect_of o (progress o files before) line ≡ replied told actions saving
    → (effect_of o (progress o files before) line).reply ≡ Some reply
    → actions ≡ a ∷ [] → accepted (Some reply) (a ∷ []) ≡ a ∷ []
    → (progress o files (before ++ line ∷ [])).history
    ≡ (progress o files before).history ++ a ∷ []
grows o files bytes before line block c actions told saving reply a is does answer one fine =
    let p : Progress = progress o files before in
    let told_is : told ≡ Some reply = ap (λ (e : Effect). e.reply) (sym does) ∙ answer in
    ap (λ (x : Progress). x.history)
    (progress_push o files before line ∙ after_answered o p line is.running)
    ∙ ap (λ (h : History). p.history ++ h)
    (ap (λ (e : Effect). e.added) does
    ∙ ap (λ (r : Option Reply). accepted r actions) told_is
    ∙ ap (λ (h : History). accepted (Some reply) h) one
    ∙ fine)

order_adds : (o : Setup) (c : Command) (d : Order) → IsOrder c d
    → Adds o None c reply_of.Ok (λ a. a ≡ order_action d)
order_adds o c d orders files bytes before line is answer =
    let p : Progress = progress o files before in
    let s : State = state_after o p.history in (
      order_action d,
      refl,
      grows o files bytes before line None c (order_action d ∷ []) (order_reply s d) None
          reply_of.Ok (order_action d) is
          (effect_next o p line c (next_line o files bytes before line c is)
          ∙ orders p.files s (p.line_count + 1) line)
          answer refl refl,
    )

pub edit_adds : (o : Setup) (p : Point) (edit : Edit) (lazy : Bool)
    → Adds o None (command.Edit p edit lazy) reply_of.Ok (λ a. a ≡ Edited p edit lazy)
edit_adds o p edit lazy =
    order_adds o (command.Edit p edit lazy) (order.Edit p edit lazy) (λ files s number line. refl)

pub box_adds : (o : Setup) (from to : Point) (edit : Edit)
    → Adds o None (command.Box from to edit) reply_of.Ok (λ a. a ≡ Boxed from to edit)
box_adds o from to edit =
    order_adds o (command.Box from to edit) (order.Box from to edit) (λ files s number line. refl)

pub limit_adds : (o : Setup) (from to : Point)
    → Adds o None (command.Limit from to) reply_of.Ok (λ a. a ≡ Limited from to)
limit_adds o from to =
    order_adds o (command.Limit from to) (order.Limit from to) (λ files s number line. refl)

pub nolimit_adds : (o : Setup) → Adds o None command.NoLimit reply_of.Ok (λ a. a ≡ Unlimited)
nolimit_adds o = order_adds o command.NoLimit order.NoLimit (λ files s number line. refl)

pub prune_adds : (o : Setup) → Adds o None command.Prune reply_of.Ok (λ a. a ≡ Pruned)
prune_adds o = order_adds o command.Prune order.Prune (λ files s number line. refl)

pub refresh_adds : (o : Setup) → Adds o None command.Refresh reply_of.Ok (λ a. a ≡ Refreshed)
refresh_adds o = order_adds o command.Refresh order.Refresh (λ files s number line. refl)

pub maxlik_adds : (o : Setup) → Adds o None command.MaxLik reply_of.Ok (λ a. a ≡ Likened)
maxlik_adds o = order_adds o command.MaxLik order.MaxLik (λ files s number line. refl)

pub clear_adds : (o : Setup) → Adds o None command.Clear reply_of.Ok (λ a. a ≡ Cleared)
clear_adds o = order_adds o command.Clear order.Clear (λ files s number line. refl)

pub track_adds : (o : Setup) → Adds o None command.Track reply_of.Ok (λ a. a ≡ Tracked)
track_adds o = order_adds o command.Track order.Track (λ files s number line. refl)

pub untrack_adds : (o : Setup) → Adds o None command.Untrack reply_of.Ok (λ a. a ≡ Untracked)
untrack_adds o = order_adds o command.Untrack order.Untrack (λ files s number line. refl)

pub scan_adds : (o : Setup) (scan : ScanSoFar) (done : ScanDone)
    → Adds o (Some (Scanning scan)) command.End (reply_of.Scanned done)
    (λ a. a ≡ Scanned (sighting_so_far scan) scan.head.lazy)
scan_adds o scan done files bytes before line is answer =
    let p : Progress = progress o files before in
    let s : State = state_after o p.history in (
      Scanned (sighting_so_far scan) scan.head.lazy,
      refl,
      grows o files bytes before line (Some (Scanning scan)) command.End
          (block_action (Scanning scan)) (block_reply s (Scanning scan)) None
          (reply_of.Scanned done) (Scanned (sighting_so_far scan) scan.head.lazy) is
          (closes o p line scan is.inside is.reads) answer refl refl,
    )

-- ---- files

pub restored_apart : (r : Option Refusal) (groups : ℕ)
    → option_map reply_of.Refused r ≡ Some (reply_of.Restored groups) → ⊥
restored_apart None groups is = cc
restored_apart (Some r) groups is = cc

snapshot_adds : (g : Ground) (read : Result Snapshot SnapFault) (groups : ℕ)
    → snapshot_reply g read ≡ Some (reply_of.Restored groups)
    → (q : Snapshot) × (snapshot_action read ≡ Restored q ∷ [])
snapshot_adds g (Err fault) groups is =
    absurd (restored_apart (refusal_of (snap_fault fault)) groups is)
snapshot_adds g (Ok q) groups is = (q, refl)

restored_adds : (g : Ground) (found : Option Loaded) (groups : ℕ)
    → restore_reply g found ≡ Some (reply_of.Restored groups)
    → (q : Snapshot) × (restore_action g found ≡ Restored q ∷ [])
restored_adds g None groups is = absurd cc
restored_adds g (Some Missing) groups is = absurd cc
restored_adds g (Some TooLarge) groups is = absurd cc
restored_adds g (Some (Bytes bytes)) groups is =
    snapshot_adds g (read_snapshot g.odds bytes) groups is

pub load_adds : (o : Setup) (name : List ℕ) (nodes : ℕ)
    → Adds o None (command.Load name) (reply_of.Loaded nodes)
    (λ a. (classes : Classes) × (a ≡ Replaced classes))
load_adds o name nodes files bytes before line is answer =
    let p : Progress = progress o files before in
    let s : State = state_after o p.history in
    let does = effect_next o p line (command.Load name)
    (next_line o files bytes before line (command.Load name) is) in
    let found = found_file s.base (found_in p.files name) nodes
    (ap (λ (e : Effect). e.reply) (sym does) ∙ answer) in
    let c : Classes = data_classes found.file.codes in (
      Replaced c,
      (c, refl),
      grows o files bytes before line None (command.Load name) (load_action (found_in p.files name))
          (load_reply s.base (found_in p.files name)) None (reply_of.Loaded nodes)
          (Replaced c) is does answer (action_found found) refl,
    )

pub restore_adds : (o : Setup) (name : List ℕ) (groups : ℕ)
    → Adds o None (command.Restore name) (reply_of.Restored groups)
    (λ a. (q : Snapshot) × (a ≡ Restored q))
restore_adds o name groups files bytes before line is answer =
    let p : Progress = progress o files before in
    let s : State = state_after o p.history in
    let does = effect_next o p line (command.Restore name)
    (next_line o files bytes before line (command.Restore name) is) in
    let adds = restored_adds s.base (found_in p.files name) groups
    (ap (λ (e : Effect). e.reply) (sym does) ∙ answer) in (
      Restored adds.0,
      (adds.0, refl),
      grows o files bytes before line None (command.Restore name)
          (restore_action s.base (found_in p.files name))
          (restore_reply s.base (found_in p.files name)) None (reply_of.Restored groups)
          (Restored adds.0) is does answer adds.1 refl,
    )
