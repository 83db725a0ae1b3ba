-- A restore gives back what the snapshot of the same name wrote.
use Rattle.std.proofs.Common.{◌≡◌, ◌≢◌, ℕ, ◌+◌, ◌≤◌, ◌^◌, ◌++◌, List, [], ◌∷◌, length, Bool, true}
use Rattle.std.proofs.Common.{false, cond, Option, Some, None, IsSome, Result, Ok, Err, refl, sym}
use Rattle.std.proofs.Common.{ap, subst, ◌∙◌}
use Rattle.std.specs.Prelude.{IfSome, nat_eq, option_map, pos}
use Rattle.std.specs.List.{fold}
use Rattle.std.specs.Str.{bytes_eq}
use Rattle.std.proofs.lemmas.Bool.{eq-eqb, le-ltb, le-leb}
use Rattle.std.proofs.lemmas.List.Sums.{fold-append}
use Rattle.std.proofs.lemmas.Slice.Eq.{bytes_eq-Decides}
use Rattle.oct_io.specs.Files.{Files, AreBytes}
use Rattle.oct_io.specs.Loaded.{loaded_of}
use Rattle.oct_io.specs.declared.store.Loaded.{Loaded}
use Rattle.oct_io.specs.declared.store.Loaded.TheVariants.{Bytes, TooLarge}
use Rattle.oct_key.specs.Boxes.{Window}
use Rattle.oct_key.specs.Values.{SameValues}
use Rattle.oct_key.specs.Voxel.{IsResolution}
use Rattle.oct_map.specs.Restores.{restore_answer, restored_room}
use Rattle.oct_map.specs.declared.fault.MapFault.{MapFault}
use Rattle.oct_map.specs.declared.fault.MapFault.TheVariants as fault
use Rattle.oct_odds.specs.Odds.{Odds}
use Rattle.oct_odds.specs.Update.{Value}
use Rattle.oct_script.specs.Lines.{Line}
use Rattle.oct_script.specs.declared.command.Command.{Command}
use Rattle.oct_script.specs.declared.command.Command.TheVariants as command
use Rattle.oct_script.specs.declared.reply.Refusal.{Refusal}
use Rattle.oct_script.specs.declared.reply.Reply.{Reply}
use Rattle.oct_script.specs.declared.reply.Reply.TheVariants as reply_of
use Rattle.oct_snap.specs.Nodes.{group_total}
use Rattle.oct_snap.specs.Reading.{Snapshot, read_snapshot}
use Rattle.oct_snap.specs.Reading as snapshot
use Rattle.oct_snap.proofs.TextsBack.{text_back}
use Rattle.oct_values.specs.Counts.{group_count}
use Rattle.oct_values.specs.Events.{after_event}
use Rattle.oct_values.proofs.Uniform.{same_group_count}
use Rattle.oct_session.specs.Commands.{Saving, accepted, stored}
use Rattle.oct_session.specs.FileCommands.{found_in, snapshot_file, restore_reply, restore_action}
use Rattle.oct_session.specs.FileCommands.{snapshot_action, groups_reply}
use Rattle.oct_promise.specs.GivenBack.{name_written, NoneWrites, AreSnapshotAndRestore, GivesBack}
use Rattle.oct_promise.specs.GivenBack.{TwoLines, up_to_second, AreKeptApart}
use Rattle.oct_promise.specs.Promise.{IsGivenBack}
use Rattle.oct_promise.specs.States.{IsState, IsSetUp}
use Rattle.oct_session.specs.History.{State, Restored, value_event, after, after_all, state_after}
use Rattle.oct_session.specs.History.{value_after}
use Rattle.oct_session.specs.Session.{Progress, Effect, effect, effect_of, next_command, answered}
use Rattle.oct_session.specs.Session.{after_line, start, progress}
use Rattle.oct_session.specs.Setup.{Setup}
use Rattle.oct_session.specs.declared.scan_block.ScanBlock.{ScanBlock}
use Rattle.oct_promise.proofs.Fitting.{groups_within}
use Rattle.oct_session.proofs.MapHistory.{state_more}
use Rattle.oct_session.proofs.Progresses.{progress_push, after_answered, told_fold}
use Rattle.oct_promise.proofs.RestoredGroups.{groups_of_snapshot}
use Rattle.oct_promise.proofs.StateActions.{restored_value}
use Rattle.oct_promise.proofs.StateCommands.{session_is, res_of, most_of}
use Rattle.oct_promise.proofs.Telling.{IsNext, next_line, Does, told_and_left}

-- ---- the file that was written

-- the bytes under a name
abbrev pub file_in : Option Files → List ℕ → Option (List ℕ)
file_in None name = None
file_in (Some files) name = files name

equal_names : (a b : List ℕ) → a ≡ b → bytes_eq a b ≡ true
equal_names a b same = (bytes_eq-Decides a b).1 same

by_name : (a b : List ℕ) (t : Bool) → bytes_eq a b ≡ t → a ≢ b → t ≡ false
by_name a b true e other = absurd (other ((bytes_eq-Decides a b).0 e))
by_name a b false e other = refl

pub saved_there : (files : Option Files) (saving : Saving) → IsSome files
    → file_in (stored files (Some saving)) saving.name ≡ Some saving.bytes
saved_there None saving told = cc
saved_there (Some files) saving told =
    ap (λ b. cond {A = Option (List ℕ)} b (Some saving.bytes) (files saving.name))
    (equal_names saving.name saving.name refl)

stored_beside : (files : Option Files) (saving : Option Saving) (name bytes : List ℕ)
    → option_map (λ (s : Saving). s.name) saving ≢ Some name → file_in files name ≡ Some bytes →
    file_in (stored files saving) name ≡ Some bytes
stored_beside files None name bytes other there = there
stored_beside None (Some saving) name bytes other there = there
stored_beside (Some files) (Some saving) name bytes other there =
    ap (λ b. cond {A = Option (List ℕ)} b (Some saving.bytes) (files name))
    (by_name saving.name name (bytes_eq saving.name name) refl (λ same. other (ap Some same)))
    ∙ there

kept_line : (o : Setup) (p : Progress) (line : Line) (name bytes : List ℕ)
    → name_written o p line ≢ Some name → file_in p.files name ≡ Some bytes
    → file_in (after_line o p line).files name ≡ Some bytes
kept_line o p line name bytes other there =
    elim p.has_quit as (λ v. file_in (cond v p (answered o p line)).files name ≡ Some bytes) [
      | true ↦ there
      | false ↦ stored_beside p.files (effect_of o p line).saving name bytes other there
    ]

pub kept_lines : (o : Setup) (p : Progress) (lines : List Line) (name bytes : List ℕ)
    → NoneWrites o name p lines → file_in p.files name ≡ Some bytes
    → file_in (fold (after_line o) p lines).files name ≡ Some bytes
unfolding NoneWrites
kept_lines o p [] name bytes none there = there
kept_lines o p (line ∷ lines) name bytes none there =
    kept_lines o (after_line o p line) lines name bytes none.1
    (kept_line o p line name bytes none.0 there)

-- ---- the two lines

-- what a command does outside a block
pub effect_next : (o : Setup) (p : Progress) (line : Line) (c : Command) → IsNext p line c
    → effect_of o p line ≡ effect p.files (state_after o p.history) (p.line_count + 1) line (Ok c)
    None
effect_next o p line c next =
    ap (λ (b : Option ScanBlock). effect p.files (state_after o p.history) (p.line_count + 1) line
    (next_command p line) b) next.outside
    ∙ ap (λ (r : Result Command Refusal). effect p.files (state_after o p.history)
    (p.line_count + 1) line r None) next.reads

-- the snapshot writes the file of the state
written_there : (o : Setup) (p : Progress) (line : Line) (name : List ℕ)
    → IsNext p line (command.Snapshot name) → IsSome p.files →
    file_in (after_line o p line).files name ≡ Some (snapshot_file (state_after o p.history))
written_there o p line name next told =
    ap (λ (x : Progress). file_in x.files name) (after_answered o p line next.running)
    ∙ ap (λ (e : Effect). file_in (stored p.files e.saving) name)
    (effect_next o p line (command.Snapshot name) next)
    ∙ saved_there p.files (record { name = name; bytes = snapshot_file (state_after o p.history) })
    told

-- the restore finds it
pub found_there : (files : Option Files) (name bytes : List ℕ) → file_in files name ≡ Some bytes
    → length bytes ≤ 2 ^ 30 → found_in files name ≡ Some (Bytes bytes)
found_there None name bytes there few = cc
found_there (Some files) name bytes there few =
    ap (λ (f : Option (List ℕ)). Some (loaded_of f)) there
    ∙ ap (λ b. Some (cond {A = Loaded} b (Bytes bytes) TooLarge))
    (le-leb (length bytes) (2 ^ 30) few)

-- ---- what was read

-- what the snapshot of a state is read as
record IsReadBack (s : State) (o : Odds) (q : Snapshot) : Type 0 where
  read : read_snapshot o (snapshot_file s) ≡ Ok q
  res : q.head.res ≡ s.base.res
  version : q.head.version ≡ 2
  odds : q.head.odds ≡ s.base.odds
  window : q.head.window ≡ s.base.update_box
  values : SameValues (snapshot.values_of q) s.values

read_back : (s : State) (o : Odds) → IsResolution s.base.res → IsState s
    → (q : Snapshot) × IsReadBack s o q
read_back s o ok is =
    let (q, read, res, version, odds, window, values) =
    text_back o s.base.res s.base.odds s.base.update_box s.values ok is.odds is.update_box
    is.values in (
      q,
      record {
        read = read;
        res = res;
        version = version;
        odds = odds;
        window = window;
        values = values;
      },
    )

-- its groups are those that the values need
groups_back : (s : State) (o : Odds) (q : Snapshot) → IsReadBack s o q
    → group_total q.nodes ≡ group_count s.values
groups_back s o q back = groups_of_snapshot o (snapshot_file s) q back.read
    ∙ same_group_count (snapshot.values_of q) s.values back.values

-- so that it is accepted
accepted_back : (s t : State) (q : Snapshot) → IsReadBack s t.base.odds q → s.base.res ≡ t.base.res
    → group_count s.values ≤ t.base.max_groups →
    restore_answer t.base (Ok q) ≡ Ok (group_count s.values)
accepted_back s t q back res room =
    let groups = groups_back s t.base.odds q back in
    ap (λ b. cond {A = Result ℕ MapFault} b (restored_room t.base.max_groups (group_total q.nodes))
    (Err (fault.OtherResolution (pos q.head.res) (pos t.base.res))))
    (eq-eqb q.head.res t.base.res (back.res ∙ res))
    ∙ ap (restored_room t.base.max_groups) groups
    ∙ ap (λ b. cond {A = Result ℕ MapFault} b (Err (fault.Full 0 (group_count s.values)))
    (Ok (group_count s.values))) (le-ltb t.base.max_groups (group_count s.values) room)

-- and the state after it has what the other one had
state_back : (s t : State) (q : Snapshot) → IsState s → IsReadBack s t.base.odds q
    → IsGivenBack s (after t (Restored q))
state_back s t q is back = record {
  values = λ k low.
      ap (λ (o : Odds). after_event o (Some (value_event (snapshot.values_of q k))) (t.values k))
      back.odds
      ∙ ap (λ (v : Value). after_event s.base.odds (Some (value_event v)) (t.values k))
      (back.values k low)
      ∙ restored_value s.base.odds (s.values k) (t.values k) (is.values k low);
  odds = back.odds;
  update_box = ap (λ n. cond {A = Option Window} (nat_eq n 1) t.base.update_box q.head.window)
      back.version ∙ back.window;
  beside = (refl, refl);
}

-- ---- the restore

-- what a restore of these bytes does
record Restores (files : Option Files) (t : State) (line : Line) (number : ℕ) (name : List ℕ)
    (q : Snapshot) (groups : ℕ) : Type 0 where
  reply : (effect files t number line (Ok (command.Restore name)) None).reply
      ≡ Some (reply_of.Restored groups)
  added : (effect files t number line (Ok (command.Restore name)) None).added ≡ Restored q ∷ []

restores : (files : Option Files) (t : State) (line : Line) (number : ℕ) (name bytes : List ℕ)
    (q : Snapshot) (groups : ℕ) →
    found_in files name ≡ Some (Bytes bytes) → read_snapshot t.base.odds bytes ≡ Ok q
    → restore_answer t.base (Ok q) ≡ Ok groups → Restores files t line number name q groups
restores files t line number name bytes q groups found read answer = rw_all
  where
    reply_is : restore_reply t.base (found_in files name) ≡ Some (reply_of.Restored groups)
    reply_is = ap (restore_reply t.base) found
        ∙ ap (λ r. groups_reply (restore_answer t.base r)) read ∙ ap groups_reply answer

    action_is : restore_action t.base (found_in files name) ≡ Restored q ∷ []
    action_is = ap (restore_action t.base) found ∙ ap snapshot_action read

    rw_all : Restores files t line number name q groups
    rw_all = record {
      reply = reply_is;
      added = ap (λ (r : Option Reply). accepted r (restore_action t.base (found_in files name)))
          reply_is ∙ action_is;
    }

given_back : (o : Setup) (p r : Progress) (line : Line) (name : List ℕ) → IsSetUp o
    → IsState (state_after o p.history) → group_count (value_after o p.history) ≤ o.max_groups →
    file_in r.files name ≡ Some (snapshot_file (state_after o p.history))
    → length (snapshot_file (state_after o p.history)) ≤ 2 ^ 30
    → IsNext r line (command.Restore name) →
    Does o r line (reply_of.Restored (group_count (value_after o p.history)))
    (IsGivenBack (state_after o p.history))
given_back o p r line name set is few there short next =
    let s : State = state_after o p.history in
    let t : State = state_after o r.history in
    let ok : IsResolution s.base.res = subst IsResolution (sym (res_of o p.history)) set.res in
    let (q, back) = read_back s t.base.odds ok is in
    let answer = accepted_back s t q back (res_of o p.history ∙ sym (res_of o r.history))
    (subst (λ n. group_count s.values ≤ n) (sym (most_of o r.history)) few) in
    let done = restores r.files t line (r.line_count + 1) name (snapshot_file s) q
    (group_count s.values) (found_there r.files name (snapshot_file s) there short) back.read
    answer in
    let replied : (effect_of o r line).reply ≡ Some (reply_of.Restored (group_count s.values)) =
    ap (λ (e : Effect). e.reply) (effect_next o r line (command.Restore name) next) ∙ done.reply in
    let added : (effect_of o r line).added ≡ Restored q ∷ [] =
    ap (λ (e : Effect). e.added) (effect_next o r line (command.Restore name) next) ∙ done.added in
    let ends : state_after o (after_line o r line).history ≡ after t (Restored q) =
    ap (λ (x : Progress). state_after o x.history) (after_answered o r line next.running)
    ∙ state_more o r.history (effect_of o r line).added
    ∙ ap (after_all t) added in
    record {
      answer = replied;
      state = subst (IsGivenBack s) (sym ends) (state_back s t q is back);
    }

-- the file that was written is there until it is read
pub file_kept : (o : Setup) (files : Files) (bytes name file : List ℕ) (t : TwoLines)
    (first second : Command) → AreKeptApart o files bytes name t first second
    → file_in (after_line o (progress o (Some files) t.before) t.first).files name ≡ Some file
    → file_in (progress o (Some files) (up_to_second t)).files name ≡ Some file
file_kept o files bytes name file t first second given written =
    let p : Progress = progress o (Some files) t.before in
    let pushed : progress o (Some files) (t.before ++ t.first ∷ []) ≡ after_line o p t.first =
    progress_push o (Some files) t.before t.first in
    ap (λ (x : Progress). file_in x.files name)
    (fold-append (after_line o) (start (Some files)) t.before (t.first ∷ t.between))
    ∙ kept_lines o (after_line o p t.first) t.between name file
    (subst (λ (x : Progress). NoneWrites o name x t.between) pushed given.kept) written

-- the law
restore_gives_back : (o : Setup) → IsSetUp o → (files : Files) (bytes name : List ℕ)
    (t : TwoLines) → AreBytes files → AreSnapshotAndRestore o files bytes name t
    → GivesBack o files bytes t
restore_gives_back o set files bytes name t small given =
    let p : Progress = progress o (Some files) t.before in
    let r : Progress = progress o (Some files) (up_to_second t) in
    let lines = given.lines in
    let written = written_there o p t.first name
    (next_line o (Some files) bytes t.before t.first (command.Snapshot name) lines.writes)
    (told_fold o (start (Some files)) t.before refl) in
    let there = file_kept o files bytes name (snapshot_file (state_after o p.history)) t
    (command.Snapshot name) (command.Restore name) lines written in
    let does = given_back o p r t.second name set
    (session_is o (Some files) t.before set small).state (groups_within o (Some files) t.before)
    there given.loadable
    (next_line o (Some files) bytes (up_to_second t) t.second (command.Restore name) lines.reads) in
    let done = told_and_left o (Some files) bytes (up_to_second t) t.second None
    (Ok (command.Restore name)) (reply_of.Restored (group_count (value_after o p.history)))
    (IsGivenBack (state_after o p.history)) lines.reads does in
    record { told = done.0; left = done.1 }

-- for files that a store tells
pub restores_told : (o : Setup) (told : Option Files) → IsSetUp o → IfSome told AreBytes
    → IfSome told (λ files. (bytes name : List ℕ) (t : TwoLines)
    → AreSnapshotAndRestore o files bytes name t → GivesBack o files bytes t)
restores_told o None set small = tt
restores_told o (Some files) set small =
    λ bytes name t given. restore_gives_back o set files bytes name t small given
