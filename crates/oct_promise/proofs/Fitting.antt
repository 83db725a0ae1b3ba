-- That the groups which the values of a session need are within its limit.
use Rattle.std.proofs.Common.{◌≡◌, ◌≢◌, ℕ, ◌+◌, ◌≤◌, List, [], ◌∷◌, Bool, true, false, cond, not}
use Rattle.std.proofs.Common.{◌⊎◌, Option, Some, None, Result, Ok, Err, inl, inr, refl, sym, subst}
use Rattle.std.proofs.Common.{arith, ◌&&◌, nat_lt, is_some, pos}
use Rattle.std.specs.Prelude.{⊤, nat_eq}
use Rattle.std.specs.List.{fold}
use Rattle.std.specs.Option.{option_or}
use Rattle.std.proofs.lemmas.Bool.{cases_lt, lt-ltb, le-ltb, ltb-false}
use Rattle.oct_bt.specs.declared.fault.BtFault.{BtFault}
use Rattle.oct_bt.specs.DataClasses.{data_classes}
use Rattle.oct_bt.specs.File.{FileRead, reading}
use Rattle.oct_bt.specs.Records.{record_total}
use Rattle.oct_io.specs.Files.{Files}
use Rattle.oct_io.specs.declared.store.Loaded.{Loaded}
use Rattle.oct_io.specs.declared.store.Loaded.TheVariants.{Bytes, Missing, TooLarge}
use Rattle.oct_key.specs.Block.{Cube, IsBlock}
use Rattle.oct_key.specs.Voxel.{Voxel, key_at}
use Rattle.oct_key.specs.Values.{Values}
use Rattle.oct_key.specs.declared.point.Point.{Point}
use Rattle.oct_key.proofs.Faces.{IsInMap-key_at}
use Rattle.oct_map.specs.Answers.{edit_answer_at, edit_need, room_answer, scan_answer_by, is_full}
use Rattle.oct_map.specs.Answers.{box_answer_by, box_fault, wide_fault, most_noted}
use Rattle.oct_map.specs.Outcome.{outcome_of, need_of, done_of, corner_need, corner_events}
use Rattle.oct_map.specs.declared.fault.MapFault.{MapFault}
use Rattle.oct_map.specs.declared.fault.MapFault.TheVariants as fault
use Rattle.oct_odds.specs.declared.event.Class.{Class}
use Rattle.oct_odds.specs.declared.event.Class.TheVariants.{Unknown, Free, Occupied}
use Rattle.oct_odds.specs.Odds.{Odds}
use Rattle.oct_odds.specs.Update.{Value}
use Rattle.oct_odds.specs.declared.event.Event.{Event}
use Rattle.oct_odds.specs.declared.event.Event.TheVariants as event
use Rattle.oct_scan.specs.Beam.{Sighting}
use Rattle.oct_scan.specs.Outcome.{scan_fault}
use Rattle.oct_scan.specs.declared.fault.ScanFault.{ScanFault}
use Rattle.oct_scan.specs.declared.fault.ScanFault.TheVariants as scan_fault_of
use Rattle.oct_script.specs.Lines.{Line}
use Rattle.oct_script.specs.Replies.{is_refusal}
use Rattle.oct_script.specs.declared.command.Command.{Command}
use Rattle.oct_script.specs.declared.command.Edit.{Edit}
use Rattle.oct_script.specs.declared.reply.Refusal.{Refusal}
use Rattle.oct_script.specs.declared.reply.Refusal.TheVariants as refusal
use Rattle.oct_script.specs.declared.reply.Reply.{Reply}
use Rattle.oct_script.specs.declared.reply.Reply.TheVariants as reply_of
use Rattle.oct_values.specs.Blocks.{blocks_above_voxels}
use Rattle.oct_key.specs.Boxes.{is_box, box_volume}
use Rattle.oct_values.specs.Boxes.{box_need}
use Rattle.oct_values.specs.Counts.{is_uniform, group_count}
use Rattle.oct_values.specs.Events.{event_at, after_event, updated}
use Rattle.oct_values.proofs.Around.{groups_after_edit}
use Rattle.oct_values.proofs.Kept.{groups_after_events, groups_after_all, groups_after_box}
use Rattle.oct_values.proofs.Listed.{all_above_voxels}
use Rattle.oct_values.proofs.Sums.{All-follows, sum_by-each_le, sum_by-counted, sum_by-none}
use Rattle.oct_values.proofs.Uniform.{uniform_of, same_group_count}
use Rattle.oct_session.specs.Commands.{reply, action_of, accepted, edit_reply, kind_reply}
use Rattle.oct_session.specs.Commands.{kind_action, order_reply, order_action, question_reply}
use Rattle.oct_session.specs.Commands.{question_action, verb_reply, verb_action}
use Rattle.oct_session.specs.declared.kinds.Order.{Order}
use Rattle.oct_session.specs.declared.kinds.Order.TheVariants as order
use Rattle.oct_session.specs.declared.kinds.Question.{Question}
use Rattle.oct_session.specs.declared.kinds.Question.TheVariants as question
use Rattle.oct_script.specs.declared.verbs.FileVerb.{FileVerb}
use Rattle.oct_script.specs.declared.verbs.FileVerb.TheVariants as verb
use Rattle.oct_session.specs.Kinds.{Kind, kind_of, Nothing, Opens, Adds, Closes, Orders, Asks}
use Rattle.oct_session.specs.Kinds.{Names}
use Rattle.oct_session.specs.History.{History, State, Edited, Scanned, Cleared, Likened, Replaced}
use Rattle.oct_session.specs.History.{Restored, class_event, edit_event, after, after_all}
use Rattle.oct_session.specs.History.{start_state, state_after, value_after, Boxed}
use Rattle.oct_session.specs.ScanBlock.{opened, with_line, is_end, is_zero, scan_reply, block_reply}
use Rattle.oct_session.specs.ScanBlock.{block_action}
use Rattle.oct_session.specs.ScanSoFar.{sighting_so_far}
use Rattle.oct_session.specs.Session.{Progress, Effect, effect, effect_of, effect_opened}
use Rattle.oct_session.specs.Session.{next_command, answered, after_line, start, progress, replied}
use Rattle.oct_session.specs.Session.{silent}
use Rattle.oct_session.specs.Setup.{Setup}
use Rattle.oct_session.specs.declared.scan_block.ScanBlock.{ScanBlock}
use Rattle.oct_session.specs.declared.scan_block.ScanBlock.TheVariants.{Scanning, Spoilt}
use Rattle.oct_session.specs.FileCommands.{found_in, nodes_reply, reading_reply, reading_action}
use Rattle.oct_session.specs.FileCommands.{load_reply, load_action, groups_reply, snapshot_reply}
use Rattle.oct_session.specs.FileCommands.{snapshot_action, restore_reply, restore_action}
use Rattle.oct_promise.proofs.LowBytes.{groups_of_file}
use Rattle.oct_promise.proofs.RestoredGroups.{groups_restored}
use Rattle.oct_snap.specs.Nodes.{group_total}
use Rattle.oct_snap.specs.Reading.{Snapshot, read_snapshot}
use Rattle.oct_snap.specs.declared.fault.SnapFault.{SnapFault}
use Rattle.oct_session.proofs.MapHistory.{state_more}
use Rattle.oct_session.proofs.SameLimits.{limits_of}
use Rattle.oct_session.proofs.NonemptyReplies.{fault_known}

-- the groups that the values need are within the limit
abbrev pub Fits : State → Type 0
Fits s = group_count s.values ≤ s.base.max_groups

-- the unknown world needs no group
unknown_needs : group_count (λ k. None) ≡ 0
unfolding group_count
unknown_needs =
    let each = sum_by-each_le (λ b. cond {A = ℕ} (not (is_uniform (λ k. None) b)) 1 0) (λ b. 0)
    blocks_above_voxels
    (All-follows (λ b. IsBlock b × (b.depth ≤ 15))
    (λ b. cond {A = ℕ} (not (is_uniform (λ k. None) b)) 1 0 ≤ 0) blocks_above_voxels
    (λ b ok. (let same : is_uniform (λ k. None) b
    ≡ true = uniform_of (λ k. None) b None ok.0 (λ k held. refl) in rw same (omega arith)))
    all_above_voxels) in
    let all = sum_by-counted (λ b. not (is_uniform (λ k. None) b)) 1 blocks_above_voxels in
    let none = sum_by-none {X = Cube} blocks_above_voxels in
    omega (arith, each, all, none)

forgotten : (odds : Odds) (value : Value) → after_event odds (Some event.Forget) value ≡ None
forgotten odds None = refl
forgotten odds (Some v) = refl

-- nor does a map that was cleared
clear_fits : (s : State) → Fits (after s Cleared)
clear_fits s =
    let none : group_count (updated s.base.odds (λ k. Some event.Forget) s.values)
    ≡ group_count (λ k. None) =
    same_group_count (updated s.base.odds (λ k. Some event.Forget) s.values) (λ k. None)
    (λ k low. forgotten s.base.odds (s.values k)) in
    omega (arith, none, unknown_needs)

-- nor more than before, where each voxel took one event
likely_fits : (s : State) → Fits s → Fits (after s Likened)
likely_fits s fits = let grows = groups_after_all s.base.odds (Some event.Likely) s.values in
    omega (arith, grows, fits)

-- room for this many groups more, or a refusal
room_cases : (most : ℕ) (values : Values) (need : ℕ)
    → ((room_answer most values need ≡ Ok tt) × (group_count values + need ≤ most))
    ⊎ (room_answer most values need ≡ Err (fault.Full (group_count values) need))
room_cases most values need = elim (cases_lt most (group_count values + need)) [
  | inl over ↦ (let test : is_full most values need
      ≡ true = lt-ltb most (group_count values + need) over in inr (rw test refl))
  | inr fits ↦ (let test : is_full most values need
      ≡ false = le-ltb most (group_count values + need) fits in inl (rw test refl, fits))
]

edit_fits_at : (s : State) (p : Point) (e : Edit) (lazy : Bool) (key : Option Voxel)
    → key_at s.base.res p ≡ key → Fits s →
    Fits (after_all s (accepted (edit_reply (edit_answer_at s.base.max_groups s.values key))
    (Edited p e lazy ∷ [])))
edit_fits_at s p e lazy None is fits = fits
edit_fits_at s p e lazy (Some k) is fits = elim (room_cases s.base.max_groups s.values edit_need) [
  | inl (room, few) ↦ (
      let event : Event = edit_event s.base.odds e in
      let grows : group_count (updated s.base.odds (event_at (key_at s.base.res p) event) s.values)
      ≤ group_count s.values + 16 =
      subst (λ x. group_count (updated s.base.odds (event_at x event) s.values)
      ≤ group_count s.values + 16) (sym is)
      (groups_after_edit s.base.odds k event s.values (IsInMap-key_at s.base.res p k is)) in
      let after : Fits (after_all s (Edited p e lazy ∷ [])) = omega (arith, grows, few) in
      subst (λ r. Fits (after_all s (accepted (edit_reply r) (Edited p e lazy ∷ [])))) (sym room)
      after)
  | inr full ↦ subst (λ r. Fits (after_all s (accepted (edit_reply r) (Edited p e lazy ∷ []))))
      (sym full) fits
]

box_room_fits : (s : State) (lo hi : Point) (e : Edit) (a b : Voxel)
    → key_at s.base.res lo ≡ Some a → key_at s.base.res hi ≡ Some b → Fits s →
    Fits (after_all s (accepted (edit_reply (room_answer s.base.max_groups s.values (box_need a b)))
    (Boxed lo hi e ∷ [])))
box_room_fits s lo hi e a b is_low is_high fits =
    elim (room_cases s.base.max_groups s.values (box_need a b)) [
      | inl (room, few) ↦ (
          let event : Event = edit_event s.base.odds e in
          let grows = groups_after_box s.base.odds a b event s.values in
          let here : group_count
          (updated s.base.odds (corner_events (Some a) (Some b) event) s.values)
          ≤ s.base.max_groups = omega (arith, grows, few) in
          let at_low : group_count
          (updated s.base.odds (corner_events (key_at s.base.res lo) (Some b) event) s.values)
          ≤ s.base.max_groups =
          subst (λ x. group_count (updated s.base.odds (corner_events x (Some b) event) s.values)
          ≤ s.base.max_groups) (sym is_low) here in
          let after : Fits (after_all s (Boxed lo hi e ∷ [])) =
          subst (λ x. group_count
          (updated s.base.odds (corner_events (key_at s.base.res lo) x event) s.values)
          ≤ s.base.max_groups) (sym is_high) at_low in
          subst (λ r. Fits (after_all s (accepted (edit_reply r) (Boxed lo hi e ∷ [])))) (sym room)
          after)
      | inr full ↦ subst (λ r. Fits (after_all s (accepted (edit_reply r) (Boxed lo hi e ∷ []))))
          (sym full) fits
    ]

box_fits_at : (s : State) (lo hi : Point) (e : Edit) (a b : Option Voxel)
    → key_at s.base.res lo ≡ a → key_at s.base.res hi ≡ b → Fits s →
    Fits (after_all s (accepted
    (edit_reply (box_answer_by (box_fault (is_some s.marked) a b)
    (room_answer s.base.max_groups s.values (corner_need a b)))) (Boxed lo hi e ∷ [])))
box_fits_at s lo hi e None b is_low is_high fits = fits
box_fits_at s lo hi e (Some a) None is_low is_high fits = fits
box_fits_at s lo hi e (Some a) (Some b) is_low is_high fits = elim (is_box a b)
    as (λ t. Fits (after_all s
    (accepted (edit_reply (box_answer_by
    (option_or (cond {A = Option MapFault} t None (Some fault.BadBox))
    (wide_fault (is_some s.marked) (Some a) (Some b)))
    (room_answer s.base.max_groups s.values (box_need a b)))) (Boxed lo hi e ∷ [])))) [
      | true ↦ elim (is_some s.marked && nat_lt most_noted (box_volume a b))
          as (λ t. Fits (after_all s
          (accepted (edit_reply (box_answer_by
          (cond {A = Option MapFault} t (Some (fault.WideWhileTracked (box_volume a b))) None)
          (room_answer s.base.max_groups s.values (box_need a b)))) (Boxed lo hi e ∷ [])))) [
            | true ↦ fits
            | false ↦ box_room_fits s lo hi e a b is_low is_high fits
          ]
      | false ↦ fits
    ]

-- nothing was to be done
none_fits : (s : State) (r : Option Reply) → Fits s → Fits (after_all s (accepted r []))
none_fits s r fits = elim (is_refusal r) as (λ b. Fits (after_all s (cond {A = History} b [] [])))
    [ true ↦ fits | false ↦ fits ]

-- the value of a voxel of this class after a load
abbrev given : Odds → Class → Value
given odds c = after_event odds (Some (class_event odds c)) None

given_to : (odds : Odds) (c : Class) (old : Value)
    → after_event odds (Some (class_event odds c)) old ≡ given odds c
given_to odds Unknown old = refl
given_to odds Free old = refl
given_to odds Occupied old = refl

-- the values of a file need no more groups than it has records
file_fits : (s : State) (bytes : List ℕ) (file : FileRead) → reading bytes ≡ Ok file
    → record_total file.codes ≤ s.base.max_groups
    → Fits (after s (Replaced (data_classes file.codes)))
file_fits s bytes file is few =
    let same : group_count (updated s.base.odds
    (λ k. Some (class_event s.base.odds (data_classes file.codes k))) s.values)
    ≡ group_count (λ k. given s.base.odds (data_classes file.codes k)) =
    same_group_count (updated s.base.odds
    (λ k. Some (class_event s.base.odds (data_classes file.codes k))) s.values)
    (λ k. given s.base.odds (data_classes file.codes k))
    (λ k low. given_to s.base.odds (data_classes file.codes k) (s.values k)) in
    let needs = groups_of_file bytes file (given s.base.odds) is in
    omega (arith, same, needs, few)

-- by the test of the resolution, and then by that of the room
tested_fits : (s : State) (bytes : List ℕ) (file : FileRead) (same full : Bool)
    → reading bytes ≡ Ok file → nat_lt s.base.max_groups (record_total file.codes) ≡ full → Fits s →
    Fits (after_all s (accepted
    (nodes_reply file.nodes (cond {A = Result ⊤ MapFault} same
    (cond {A = Result ⊤ MapFault} full (Err (fault.Full 0 (record_total file.codes))) (Ok tt))
    (Err (fault.OtherResolution (pos file.res) (pos s.base.res)))))
    (Replaced (data_classes file.codes) ∷ [])))
tested_fits s bytes file false full is room fits = fits
tested_fits s bytes file true true is room fits = fits
tested_fits s bytes file true false is room fits =
    file_fits s bytes file is (ltb-false s.base.max_groups (record_total file.codes) room)

-- what was read of a file
reading_fits : (s : State) (bytes : List ℕ) (read : Result FileRead BtFault) → reading bytes ≡ read
    → Fits s → Fits (after_all s (accepted (reading_reply s.base read) (reading_action read)))
reading_fits s bytes (Err f) is fits = none_fits s (reading_reply s.base (Err f)) fits
reading_fits s bytes (Ok file) is fits =
    tested_fits s bytes file (nat_eq file.res s.base.res)
    (nat_lt s.base.max_groups (record_total file.codes)) is refl fits

load_fits : (s : State) (found : Option Loaded) → Fits s
    → Fits (after_all s (accepted (load_reply s.base found) (load_action found)))
load_fits s None fits = fits
load_fits s (Some Missing) fits = fits
load_fits s (Some TooLarge) fits = fits
load_fits s (Some (Bytes bytes)) fits = reading_fits s bytes (reading bytes) refl fits

-- by the test of a snapshot's resolution, and then by that of the room
restored_fits : (s : State) (bytes : List ℕ) (q : Snapshot) (same full : Bool)
    → read_snapshot s.base.odds bytes ≡ Ok q → nat_lt s.base.max_groups (group_total q.nodes) ≡ full
    → Fits s →
    Fits (after_all s (accepted
    (groups_reply (cond {A = Result ℕ MapFault} same
    (cond {A = Result ℕ MapFault} full (Err (fault.Full 0 (group_total q.nodes)))
    (Ok (group_total q.nodes))) (Err (fault.OtherResolution (pos q.head.res) (pos s.base.res)))))
    (Restored q ∷ [])))
restored_fits s bytes q false full is room fits = fits
restored_fits s bytes q true true is room fits = fits
restored_fits s bytes q true false is room fits =
    let few = ltb-false s.base.max_groups (group_total q.nodes) room in
    let needs = groups_restored q.head.odds s.base.odds bytes q s.values is in
    omega (arith, few, needs)

-- what a snapshot was read as
snapshot_fits : (s : State) (bytes : List ℕ) (read : Result Snapshot SnapFault)
    → read_snapshot s.base.odds bytes ≡ read → Fits s
    → Fits (after_all s (accepted (snapshot_reply s.base read) (snapshot_action read)))
snapshot_fits s bytes (Err f) is fits = none_fits s (snapshot_reply s.base (Err f)) fits
snapshot_fits s bytes (Ok q) is fits =
    restored_fits s bytes q (nat_eq q.head.res s.base.res)
    (nat_lt s.base.max_groups (group_total q.nodes)) is refl fits

restore_fits : (s : State) (found : Option Loaded) → Fits s
    → Fits (after_all s (accepted (restore_reply s.base found) (restore_action s.base found)))
restore_fits s None fits = fits
restore_fits s (Some Missing) fits = fits
restore_fits s (Some TooLarge) fits = fits
restore_fits s (Some (Bytes bytes)) fits =
    snapshot_fits s bytes (read_snapshot s.base.odds bytes) refl fits

-- something was done or not, and both fit
either_fits : (s : State) (r : Option Reply) (actions : History) → Fits s
    → Fits (after_all s actions) → Fits (after_all s (accepted r actions))
either_fits s r actions fits done =
    elim (is_refusal r) as (λ b. Fits (after_all s (cond {A = History} b [] actions)))
    [ true ↦ fits | false ↦ done ]

-- the last line is checked for each order that it covers: it changes no value
order_fits : (s : State) (o : Order) → Fits s
    → Fits (after_all s (accepted (order_reply s o) (order_action o ∷ [])))
order_fits s (order.Edit p e lazy) fits =
    edit_fits_at s p e lazy (key_at s.base.res p) refl fits
order_fits s (order.Box lo hi e) fits =
    box_fits_at s lo hi e (key_at s.base.res lo) (key_at s.base.res hi) refl refl fits
order_fits s order.Clear fits = clear_fits s
order_fits s order.MaxLik fits = likely_fits s fits
order_fits s other fits =
    either_fits s (order_reply s other) (order_action other ∷ []) fits fits

question_fits : (s : State) (q : Question) → Fits s → Fits (after_all s (question_action q))
question_fits s question.Counts fits = fits
question_fits s other fits = fits

verb_fits : (files : Option Files) (s : State) (v : FileVerb) (name : List ℕ) → Fits s
    → Fits (after_all s (accepted (verb_reply files s v name) (verb_action files s v name)))
verb_fits files s verb.Save name fits = fits
verb_fits files s verb.Load name fits = load_fits s (found_in files name) fits
verb_fits files s verb.Snapshot name fits = fits
verb_fits files s verb.Restore name fits = restore_fits s (found_in files name) fits

kind_fits : (files : Option Files) (s : State) (k : Kind) → Fits s
    → Fits (after_all s (accepted (kind_reply files s k) (kind_action files s k)))
kind_fits files s Nothing fits = fits
kind_fits files s (Opens head) fits = fits
kind_fits files s (Adds p) fits = fits
kind_fits files s Closes fits = fits
kind_fits files s (Orders o) fits = order_fits s o fits
kind_fits files s (Asks q) fits =
    either_fits s (question_reply s q) (question_action q) fits (question_fits s q fits)
kind_fits files s (Names v name) fits = verb_fits files s v name fits

command_fits : (files : Option Files) (s : State) (c : Result Command Refusal) → Fits s
    → Fits (after_all s (accepted (reply files s c) (action_of files s c)))
command_fits files s (Err refusal) fits = fits
command_fits files s (Ok command) fits = kind_fits files s (kind_of command) fits

-- the scan's own fault, and room for it
scan_fits_by : (s : State) (seen : Sighting) (lazy : Bool) (own : Option ScanFault)
    → own ≢ Some scan_fault_of.Memory → Fits s →
    Fits (after_all s (accepted
    (scan_reply (scan_answer_by own (room_answer s.base.max_groups s.values (need_of s.base seen))
    (done_of s.base seen))) (Scanned seen lazy ∷ [])))
scan_fits_by s seen lazy (Some scan_fault_of.OriginOutside) known fits = fits
scan_fits_by s seen lazy (Some (scan_fault_of.PointOutside index)) known fits = fits
scan_fits_by s seen lazy (Some (scan_fault_of.TooManyCells index cells)) known fits = fits
scan_fits_by s seen lazy (Some scan_fault_of.Memory) known fits = absurd (known refl)
scan_fits_by s seen lazy None known fits =
    elim (room_cases s.base.max_groups s.values (need_of s.base seen)) [
      | inl (room, few) ↦ (
          let grows = groups_after_events s.base.odds (outcome_of s.base seen) s.values in
          let after : Fits (after_all s (Scanned seen lazy ∷ [])) = omega (arith, grows, few) in
          subst (λ r. Fits (after_all s
          (accepted (scan_reply (scan_answer_by None r (done_of s.base seen)))
          (Scanned seen lazy ∷ [])))) (sym room) after)
      | inr full ↦ subst (λ r. Fits
          (after_all s (accepted (scan_reply (scan_answer_by None r (done_of s.base seen)))
          (Scanned seen lazy ∷ [])))) (sym full) fits
    ]

block_fits : (s : State) (block : ScanBlock) → Fits s
    → Fits (after_all s (accepted (block_reply s block) (block_action block)))
block_fits s (Spoilt refusal) fits = fits
block_fits s (Scanning scan) fits = elim (is_zero scan.head)
    as (λ b. Fits (after_all s
    (accepted (cond b (Some (reply_of.Refused refusal.ZeroQuaternion))
    (scan_reply (scan_answer_by (scan_fault s.base.res (sighting_so_far scan) s.base.max_cells)
    (room_answer s.base.max_groups s.values (need_of s.base (sighting_so_far scan)))
    (done_of s.base (sighting_so_far scan))))) (block_action (Scanning scan))))) [
      | true ↦ fits
      | false ↦ scan_fits_by s (sighting_so_far scan) scan.head.lazy
          (scan_fault s.base.res (sighting_so_far scan) s.base.max_cells)
          (fault_known s.base.res (sighting_so_far scan) s.base.max_cells) fits
    ]

opened_fits : (files : Option Files) (s : State) (c : Result Command Refusal)
    (block : Option ScanBlock) → Fits s
    → Fits (after_all s (effect_opened files s c block).added)
opened_fits files s c None fits = command_fits files s c fits
opened_fits files s c (Some block) fits = fits

effect_fits : (files : Option Files) (s : State) (number : ℕ) (line : Line)
    (c : Result Command Refusal) (block : Option ScanBlock) → Fits s
    → Fits (after_all s (effect files s number line c block).added)
effect_fits files s number line c None fits = opened_fits files s c (opened number line c) fits
effect_fits files s number line c (Some block) fits =
    elim (is_end c) as (λ b. Fits
    (after_all s (cond {A = Effect} b (replied (block_reply s block) (block_action block) None)
    (silent (with_line number c block))).added)) [
      | true ↦ block_fits s block fits
      | false ↦ fits
    ]

line_fits : (o : Setup) (p : Progress) (line : Line) → Fits (state_after o p.history)
    → Fits (state_after o (after_line o p line).history)
line_fits o p line fits =
    elim p.has_quit as (λ v. Fits (state_after o (cond v p (answered o p line)).history)) [
      | true ↦ fits
      | false ↦ subst Fits (sym (state_more o p.history (effect_of o p line).added))
          (effect_fits p.files (state_after o p.history) (p.line_count + 1) line
          (next_command p line) p.block fits)
    ]

-- a session that begins within its limit stays there
pub session_fits : (o : Setup) (p : Progress) (lines : List Line) → Fits (state_after o p.history)
    → Fits (state_after o (fold (after_line o) p lines).history)
session_fits o p [] fits = fits
session_fits o p (line ∷ lines) fits =
    session_fits o (after_line o p line) lines (line_fits o p line fits)

-- the groups that a session's values need never exceed its limit
pub groups_within : (o : Setup) (files : Option Files) (lines : List Line)
    → group_count (value_after o (progress o files lines).history) ≤ o.max_groups
groups_within o files lines =
    let begins : Fits (start_state o) = (let none = unknown_needs in omega (arith, none)) in
    let fits : Fits (state_after o (progress o files lines).history) =
    session_fits o (start files) lines begins in
    let limits = limits_of o (progress o files lines).history in
    let most = limits.groups in
    omega (arith, fits, most)
