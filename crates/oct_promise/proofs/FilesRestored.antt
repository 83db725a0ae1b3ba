-- A restore of any file that isn't refused.
use Rattle.std.proofs.Common.{◌≡◌, ℕ, List, [], ◌∷◌, Bool, true, false, cond, Option, Some, None}
use Rattle.std.proofs.Common.{Result, Ok, Err, ◌⊎◌, inl, inr, refl, sym, ap, subst, ◌∙◌, arith}
use Rattle.std.specs.Prelude.{nat_eq, nat_lt, pos, drop}
use Rattle.oct_io.specs.Files.{Files}
use Rattle.oct_io.specs.declared.store.Loaded.{Loaded}
use Rattle.oct_io.specs.declared.store.Loaded.TheVariants.{Bytes, Missing, TooLarge}
use Rattle.oct_key.specs.Boxes.{Window}
use Rattle.oct_key.specs.Voxel.{Voxel, IsResolution}
use Rattle.oct_map.specs.Faults.{snap_fault}
use Rattle.oct_map.specs.Ground.{Ground}
use Rattle.oct_map.specs.declared.fault.MapFault.{MapFault}
use Rattle.oct_map.specs.declared.fault.MapFault.TheVariants as fault
use Rattle.oct_odds.specs.Odds.{Odds, IsSound}
use Rattle.oct_odds.specs.Update.{IsWithin}
use Rattle.oct_script.specs.Lines.{Line}
use Rattle.oct_script.specs.declared.command.Command.TheVariants as command
use Rattle.oct_script.specs.declared.reply.Reply.{Reply}
use Rattle.oct_script.specs.declared.reply.Reply.TheVariants as reply_of
use Rattle.oct_snap.specs.Nodes.{Nodes, AreNodes, group_total}
use Rattle.oct_snap.specs.Reading.{Snapshot, read_snapshot, values_of}
use Rattle.oct_snap.specs.declared.fault.SnapFault.{SnapFault}
use Rattle.oct_snap.proofs.Again.{IsOldFile, IsNewFile, read_as}
use Rattle.oct_snap.proofs.FoundNodes.{node_one}
use Rattle.oct_snap.proofs.Sound.{snapshot_sound}
use Rattle.oct_snap.proofs.WholeFills.{whole_read}
use Rattle.oct_session.specs.Commands.{accepted}
use Rattle.oct_session.specs.FileCommands.{found_in, restore_reply, restore_action, snapshot_reply}
use Rattle.oct_session.specs.FileCommands.{snapshot_action, groups_reply}
use Rattle.oct_session.specs.History.{State, Restored, after, after_all, state_after}
use Rattle.oct_session.specs.Refusals.{refusal_of}
use Rattle.oct_session.specs.Session.{Progress, Effect, effect_of, after_line, progress}
use Rattle.oct_session.specs.Setup.{Setup}
use Rattle.oct_session.proofs.MapHistory.{state_more}
use Rattle.oct_session.proofs.Progresses.{after_answered}
use Rattle.oct_promise.specs.Edits.{IsRestored}
use Rattle.oct_promise.specs.GivenBack.{RestoresFile}
use Rattle.oct_promise.specs.Lines.{IsLine}
use Rattle.oct_promise.specs.States.{IsSetUp}
use Rattle.oct_promise.proofs.GivenBack.{effect_next}
use Rattle.oct_promise.proofs.HistoriesKept.{restored_apart}
use Rattle.oct_promise.proofs.RestoredGroups.{groups_of_snapshot}
use Rattle.oct_promise.proofs.SnapshotFields.{snapshot_fine}
use Rattle.oct_promise.proofs.SoundOdds.{odds_stay_sound}
use Rattle.oct_promise.proofs.StateActions.{restored_value}
use Rattle.oct_promise.proofs.StateCommands.{res_of}
use Rattle.oct_promise.proofs.Telling.{next_line, told_and_left}

-- ---- what was read

equal_of : (a b : ℕ) → nat_eq a b ≡ true → a ≡ b
equal_of a b e = grind (arith, e)

-- the snapshot is one of this resolution, and its groups were told
record IsTaken (g : Ground) (read : Result Snapshot SnapFault) (groups : ℕ) : Type 0 where
  snapshot : Snapshot
  is : read ≡ Ok snapshot
  res : snapshot.head.res ≡ g.res
  counted : groups ≡ group_total snapshot.nodes

snapshot_taken : (g : Ground) (read : Result Snapshot SnapFault) (groups : ℕ)
    → snapshot_reply g read ≡ Some (reply_of.Restored groups) → IsTaken g read groups
snapshot_taken g (Err f) groups told =
    absurd (restored_apart (refusal_of (snap_fault f)) groups told)
snapshot_taken g (Ok q) groups told =
    (let (res, counted) =
    by_test (nat_eq q.head.res g.res) (nat_lt g.max_groups (group_total q.nodes)) refl told in
    record { snapshot = q; is = refl; res = res; counted = counted })
  where
    by_test : (same full : Bool) → nat_eq q.head.res g.res ≡ same
        → groups_reply (cond {A = Result ℕ MapFault} same
        (cond {A = Result ℕ MapFault} full (Err (fault.Full 0 (group_total q.nodes)))
        (Ok (group_total q.nodes)))
        (Err (fault.OtherResolution (pos q.head.res) (pos g.res))))
        ≡ Some (reply_of.Restored groups)
        → (q.head.res ≡ g.res) × (groups ≡ group_total q.nodes)
    by_test false full e is = absurd cc
    by_test true true e is = absurd cc
    by_test true false e is =
        (equal_of q.head.res g.res e, (let n : groups ≡ group_total q.nodes = cc in n))

-- the file that was found
record IsFound (g : Ground) (found : Option Loaded) (groups : ℕ) : Type 0 where
  bytes : List ℕ
  there : found ≡ Some (Bytes bytes)
  taken : IsTaken g (read_snapshot g.odds bytes) groups

snapshot_found : (g : Ground) (found : Option Loaded) (groups : ℕ)
    → restore_reply g found ≡ Some (reply_of.Restored groups) → IsFound g found groups
snapshot_found g None groups is = absurd cc
snapshot_found g (Some Missing) groups is = absurd cc
snapshot_found g (Some TooLarge) groups is = absurd cc
snapshot_found g (Some (Bytes bytes)) groups is = record {
  bytes = bytes;
  there = refl;
  taken = snapshot_taken g (read_snapshot g.odds bytes) groups is;
}

-- ---- what it leaves

-- each value that was read lies within the bounds, whatever resolution and box stand beside it
read_within : (edge : ℕ) → IsResolution edge → (o : Odds) (bytes : List ℕ) (q : Snapshot)
    → IsSound o → read_snapshot o bytes ≡ Ok q → (k : Voxel)
    → IsWithin q.head.odds (values_of q k)
read_within edge ok o bytes q sound is k =
    let whole = whole_read o bytes q is in
    let are : AreNodes q.head.odds 16 1 q.nodes =
    subst (λ (n : Nodes). AreNodes q.head.odds 16 1 n) whole.nodes
    (node_one q.head.odds 16 q.head.start (drop q.head.start bytes) whole.one whole.node) in
    let plain : Snapshot =
    record { head = record q.head { res = edge; window = None }; nodes = q.nodes } in
    (snapshot_sound plain
    (record { res = ok; odds = (snapshot_fine o bytes q sound is).0; window = tt }) are).within k

-- the older version goes by the log-odds in force
older_odds : (o : Odds) (bytes : List ℕ) (q : Snapshot) → q.head.version ≡ 1
    → IsOldFile o bytes q.head ⊎ IsNewFile bytes q.head → q.head.odds ≡ o
older_odds o bytes q one (inl old) = old.fields.odds
older_odds o bytes q one (inr new) =
    (let two = new.fields.version in absurd (omega (arith, one, two)))

known_version : (o : Odds) (bytes : List ℕ) (q : Snapshot)
    → IsOldFile o bytes q.head ⊎ IsNewFile bytes q.head
    → (q.head.version ≡ 1) ⊎ (q.head.version ≡ 2)
known_version o bytes q (inl old) = inl old.fields.version
known_version o bytes q (inr new) = inr new.fields.version

-- what stands beside the values after a snapshot of this version
abbrev beside_by : Ground → Odds → Option Window → ℕ → Ground
beside_by g odds window version = record g {
  odds = odds;
  update_box = cond {A = Option Window} (nat_eq version 1) g.update_box window;
}

restored : (edge : ℕ) → IsResolution edge → (t : State) (bytes : List ℕ) (q : Snapshot)
    → IsSound t.base.odds → read_snapshot t.base.odds bytes ≡ Ok q
    → IsRestored q t (after t (Restored q))
restored edge ok t bytes q sound is = record {
  values = λ k low. restored_value q.head.odds (values_of q k) (t.values k)
      (read_within edge ok t.base.odds bytes q sound is k);
  older = λ one. ap (beside_by t.base q.head.odds q.head.window) one
      ∙ ap (λ (x : Odds). record t.base { odds = x; update_box = t.base.update_box })
      (older_odds t.base.odds bytes q one (read_as t.base.odds bytes q is));
  newer = λ two. ap (beside_by t.base q.head.odds q.head.window) two;
  beside = (refl, refl);
}

-- ---- the line

pub file_restored : (o : Setup) → IsSetUp o → (files : Option Files) (bytes : List ℕ)
    (before : List Line) (line : Line) (name : List ℕ) (groups : ℕ)
    → IsLine o files bytes before line None (Ok (command.Restore name))
    → (effect_of o (progress o files before) line).reply ≡ Some (reply_of.Restored groups)
    → RestoresFile o files before line name groups
file_restored o set files bytes before line name groups is answer =
    let r : Progress = progress o files before in
    let t : State = state_after o r.history in
    let does = effect_next o r line (command.Restore name)
    (next_line o files bytes before line (command.Restore name) is) in
    let told : restore_reply t.base (found_in r.files name) ≡ Some (reply_of.Restored groups) =
    ap (λ (e : Effect). e.reply) (sym does) ∙ answer in
    let it = snapshot_found t.base (found_in r.files name) groups told in
    let q : Snapshot = it.taken.snapshot in
    let added : (effect_of o r line).added ≡ Restored q ∷ [] =
    ap (λ (e : Effect). e.added) does
    ∙ ap (λ (x : Option Reply). accepted x (restore_action t.base (found_in r.files name))) told
    ∙ ap (restore_action t.base) it.there ∙ ap snapshot_action it.taken.is in
    let leaves : state_after o (after_line o r line).history ≡ after t (Restored q) =
    ap (λ (x : Progress). state_after o x.history) (after_answered o r line is.running)
    ∙ state_more o r.history (effect_of o r line).added ∙ ap (after_all t) added in
    record {
      bytes = it.bytes;
      found = it.there;
      snapshot = q;
      read = it.taken.is;
      version = known_version t.base.odds it.bytes q (read_as t.base.odds it.bytes q it.taken.is);
      res = it.taken.res ∙ res_of o r.history;
      counted = it.taken.counted ∙ groups_of_snapshot t.base.odds it.bytes q it.taken.is;
      left = (told_and_left o files bytes before line None (Ok (command.Restore name))
          (reply_of.Restored groups) (IsRestored q t) is (record {
            answer = answer;
            state = subst (IsRestored q t) (sym leaves)
                (restored o.res set.res t it.bytes q (odds_stay_sound o files before set.odds)
                it.taken.is);
          })).1;
    }
