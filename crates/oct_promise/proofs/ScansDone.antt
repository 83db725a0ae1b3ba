-- What a scan does to the voxels, in the words of its beams.
use Rattle.std.proofs.Common.{◌≡◌, ℕ, ◌+◌, List, [], ◌∷◌, ◌++◌, Bool, true, false, cond, Option}
use Rattle.std.proofs.Common.{Some, None, Result, Ok, Err, inl, inr, refl, sym, ap, subst, ◌∙◌}
use Rattle.std.proofs.Common.{◌↔◌, ◌≢◌, ◌&&◌, length, arith}
use Rattle.std.specs.Prelude.{⊤, IsTrue, option_map, count_by}
use Rattle.std.specs.List.{Contains}
use Rattle.std.proofs.lemmas.Bool.{and_parts}
use Rattle.std.specs.List.{AllPairs, filter}
use Rattle.std.proofs.lemmas.List.Kept.{AllPairs-filter}
use Rattle.oct_brick.proofs.Lists.{all_contained}
use Rattle.oct_io.specs.Files.{Files}
use Rattle.oct_key.specs.Boxes.{Window, IsInWindow, is_in_window}
use Rattle.oct_key.specs.Voxel.{Voxel, IsResolution}
use Rattle.oct_key.specs.Block.{root_block}
use Rattle.oct_key.specs.Values.{is_same_voxel}
use Rattle.oct_key.proofs.Blocks.{root_holds, root_in_map}
use Rattle.oct_key.proofs.Boxes.{in_window_exactly}
use Rattle.oct_key.proofs.Held.{held_in_map}
use Rattle.oct_key.proofs.SameVoxels.{is_same_voxel_exact, is_same_voxel_refl}
use Rattle.oct_map.specs.Answers.{scan_answer_by, room_answer}
use Rattle.oct_map.specs.Outcome.{need_of, done_of, hit_event, miss_event}
use Rattle.oct_map.specs.declared.done.ScanDone as map_done
use Rattle.oct_map.specs.declared.fault.MapFault.{MapFault}
use Rattle.oct_odds.specs.declared.event.Event.{Event}
use Rattle.oct_scan.specs.Answer.{IsInside}
use Rattle.oct_scan.specs.Beam.{Sighting}
use Rattle.oct_scan.specs.Outcome.{is_hit, is_freed, hit_count, free_count}
use Rattle.oct_scan.specs.Outcome.{scan_outcome, scan_fault}
use Rattle.oct_scan.specs.Scanned.{IsHit, IsFreed, IsScanned}
use Rattle.oct_scan.specs.declared.fault.ScanFault.{ScanFault}
use Rattle.oct_scan.specs.declared.fault.ScanFault.TheVariants as scan_fault_of
use Rattle.oct_scan.proofs.Faults.{without_fault}
use Rattle.oct_scan.proofs.Tests.{hit_exactly, freed_exactly}
use Rattle.oct_scan.proofs.Totals.{count_is_length}
use Rattle.oct_script.specs.Lines.{Line}
use Rattle.oct_script.specs.declared.command.Command.{Command}
use Rattle.oct_script.specs.declared.command.Command.TheVariants as command
use Rattle.oct_script.specs.declared.reply.Refusal.{Refusal}
use Rattle.oct_script.specs.declared.reply.Refusal.TheVariants as refusal
use Rattle.oct_script.specs.declared.reply.Reply.{Reply}
use Rattle.oct_script.specs.declared.reply.Reply.TheVariants as reply_of
use Rattle.oct_script.specs.declared.reply.ScanDone.{ScanDone}
use Rattle.oct_values.specs.Blocks.{voxels_of}
use Rattle.oct_values.specs.Events.{after_event}
use Rattle.oct_values.proofs.Held.{listed_exactly, listed_once}
use Rattle.oct_session.specs.Commands.{accepted}
use Rattle.oct_session.specs.Refusals.{refusal_of}
use Rattle.oct_session.specs.History.{State, Scanned, after, after_all, state_after}
use Rattle.oct_session.specs.ScanBlock.{is_zero, scan_reply, block_reply, block_action}
use Rattle.oct_session.specs.ScanSoFar.{ScanSoFar, sighting_so_far}
use Rattle.oct_session.specs.Session.{Progress, Effect, effect, effect_of, next_command, replied}
use Rattle.oct_session.specs.Session.{after_line, progress}
use Rattle.oct_session.specs.Setup.{Setup}
use Rattle.oct_session.specs.declared.scan_block.ScanBlock.{ScanBlock}
use Rattle.oct_session.specs.declared.scan_block.ScanBlock.TheVariants.{Scanning}
use Rattle.oct_session.proofs.MapHistory.{state_more}
use Rattle.oct_session.proofs.Progresses.{after_answered}
use Rattle.oct_promise.specs.Lines.{IsLine, Replies, state_behind}
use Rattle.oct_promise.specs.Promise.{IsScanDone}
use Rattle.oct_promise.specs.ScanCounts.{AreThose, AreHit, AreFreed}
use Rattle.oct_promise.specs.States.{IsSetUp}
use Rattle.oct_promise.specs.Sums.{hits_in, frees_in}
use Rattle.oct_promise.proofs.Passing.{passing_exactly, each_once}
use Rattle.oct_promise.proofs.StateCommands.{res_of}
use Rattle.oct_promise.proofs.Telling.{told_and_left}

-- ---- voxels

not_true : (b : Bool) → (IsTrue b → ⊥) → b ≡ false
not_true true never = absurd (never refl)
not_true false never = refl

module _ (edge : ℕ) (window : Option Window) (hit miss : Event) (scan : Sighting) (k : Voxel) where
  outcome_hit : is_in_window window k ≡ true → is_hit edge scan k ≡ true
      → scan_outcome edge window hit miss scan k ≡ Some hit
  outcome_hit inside is = rw (inside, is) refl

  outcome_freed : is_in_window window k ≡ true → is_hit edge scan k ≡ false
      → is_freed edge scan k ≡ true → scan_outcome edge window hit miss scan k ≡ Some miss
  outcome_freed inside never is = rw (inside, never, is) refl

  outcome_neither : is_in_window window k ≡ true → is_hit edge scan k ≡ false
      → is_freed edge scan k ≡ false → scan_outcome edge window hit miss scan k ≡ None
  outcome_neither inside never missed = rw (inside, never, missed) refl

  outcome_outside : is_in_window window k ≡ false
      → scan_outcome edge window hit miss scan k ≡ None
  outcome_outside outside = rw outside refl

  -- in words
  kept_event : IsResolution edge → IsInside edge scan → ¬ IsScanned edge window scan k
      → scan_outcome edge window hit miss scan k ≡ None
  kept_event range inside never = by_box (is_in_window window k) refl
    where
      by_box : (b : Bool) → is_in_window window k ≡ b
          → scan_outcome edge window hit miss scan k ≡ None
      by_box false is = outcome_outside is
      by_box true is =
          let there = (in_window_exactly window k).0 is in
          outcome_neither is
          (not_true (is_hit edge scan k) (λ h. never (there, inl ((hit_exactly edge scan k).0 h))))
          (not_true (is_freed edge scan k)
          (λ h. never (there, inr ((freed_exactly edge scan k range inside).0 h))))

-- ---- a scan

scan_done : (s : State) (scan : Sighting) (lazy : Bool) → IsResolution s.base.res
    → IsInside s.base.res scan → IsScanDone scan lazy s (after s (Scanned scan lazy))
scan_done s scan lazy range inside =
    let hit : Event = hit_event s.base.odds scan.odds in
    let miss : Event = miss_event s.base.odds scan.odds in
    let edge : ℕ = s.base.res in
    let window : Option Window = s.base.update_box in
    record {
      hit = λ k there is. ap (λ e. after_event s.base.odds e (s.values k))
          (outcome_hit edge window hit miss scan k ((in_window_exactly window k).1 there)
          ((hit_exactly edge scan k).1 is));
      freed = λ k there is. ap (λ e. after_event s.base.odds e (s.values k))
          (outcome_freed edge window hit miss scan k ((in_window_exactly window k).1 there)
          (not_true (is_hit edge scan k) (λ h. is.0 ((hit_exactly edge scan k).0 h)))
          ((freed_exactly edge scan k range inside).1 is));
      kept = λ k never. ap (λ e. after_event s.base.odds e (s.values k))
          (kept_event edge window hit miss scan k range inside never);
      beside = (refl, refl);
      stale = refl;
    }

-- ---- its reply

refused_apart : (r : Refusal) (done : ScanDone)
    → Some (reply_of.Refused r) ≡ Some (reply_of.Scanned done) → ⊥
refused_apart r done is = cc

fault_apart : (r : Option Refusal) (done : ScanDone)
    → option_map reply_of.Refused r ≡ Some (reply_of.Scanned done) → ⊥
fault_apart None done is = cc
fault_apart (Some r) done is = refused_apart r done is

-- a scan that is done has no fault, and its reply has the counts of the map's answer
record IsUnrefused (own : Option ScanFault) (counts : map_done.ScanDone) (done : ScanDone) : Type 0
  where
    none : own ≡ None
    hits : done.hits ≡ counts.hits
    frees : done.frees ≡ counts.frees

unrefused : (null : Bool) (own : Option ScanFault) (room : Result ⊤ MapFault)
    (counts : map_done.ScanDone) (done : ScanDone)
    → cond {A = Option Reply} null (Some (reply_of.Refused refusal.ZeroQuaternion))
    (scan_reply (scan_answer_by own room counts)) ≡ Some (reply_of.Scanned done)
    → IsUnrefused own counts done
unrefused true own room counts done is = absurd (refused_apart refusal.ZeroQuaternion done is)
unrefused false None (Err fault) counts done is =
    absurd (fault_apart (refusal_of fault) done is)
unrefused false None (Ok room) counts done is =
    record { none = refl; hits = sym (ap hits_in is); frees = sym (ap frees_in is) }
unrefused false (Some scan_fault_of.OriginOutside) room counts done is =
    absurd (refused_apart refusal.OriginOutside done is)
unrefused false (Some (scan_fault_of.PointOutside index)) room counts done is =
    absurd (refused_apart (refusal.PointOutside index) done is)
unrefused false (Some (scan_fault_of.TooManyCells index cells)) room counts done is =
    absurd (refused_apart (refusal.TooManyCells index cells) done is)
unrefused false (Some scan_fault_of.Memory) room counts done is =
    absurd (fault_apart None done is)

block_unrefused : (s : State) (scan : ScanSoFar) (done : ScanDone)
    → block_reply s (Scanning scan) ≡ Some (reply_of.Scanned done)
    → IsUnrefused (scan_fault s.base.res (sighting_so_far scan) s.base.max_cells)
    (done_of s.base (sighting_so_far scan)) done
block_unrefused s scan done is =
    let seen : Sighting = sighting_so_far scan in
    unrefused (is_zero scan.head) (scan_fault s.base.res seen s.base.max_cells)
    (room_answer s.base.max_groups s.values (need_of s.base seen)) (done_of s.base seen) done is

-- ---- the line that closes its block

pub closes : (o : Setup) (p : Progress) (line : Line) (scan : ScanSoFar)
    → p.block ≡ Some (Scanning scan) → next_command p line ≡ Ok command.End
    → effect_of o p line
    ≡ replied (block_reply (state_after o p.history) (Scanning scan))
    (block_action (Scanning scan)) None
closes o p line scan open_block reads =
    let s : State = state_after o p.history in
    ap (λ (b : Option ScanBlock). effect p.files s (p.line_count + 1) line (next_command p line) b)
    open_block
    ∙ ap (λ (c : Result Command Refusal). effect p.files s (p.line_count + 1) line c
    (Some (Scanning scan))) reads

replies_done : (o : Setup) (p : Progress) (line : Line) (scan : ScanSoFar) (done : ScanDone)
    → p.block ≡ Some (Scanning scan) → next_command p line ≡ Ok command.End
    → (effect_of o p line).reply ≡ Some (reply_of.Scanned done)
    → block_reply (state_after o p.history) (Scanning scan) ≡ Some (reply_of.Scanned done)
replies_done o p line scan done open_block reads answer =
    sym (ap (λ (e : Effect). e.reply) (closes o p line scan open_block reads)) ∙ answer

-- where a scan is done, its origin and the ends of its beams lie in the map
record IsSeenInside (o : Setup) (s : State) (scan : ScanSoFar) (done : ScanDone) : Type 0 where
  range : IsResolution s.base.res
  inside : IsInside s.base.res (sighting_so_far scan)
  free : IsUnrefused (scan_fault s.base.res (sighting_so_far scan) s.base.max_cells)
      (done_of s.base (sighting_so_far scan)) done

seen_inside : (o : Setup) → IsSetUp o → (files : Option Files) (bytes : List ℕ)
    (before : List Line) (line : Line) (scan : ScanSoFar) (done : ScanDone)
    → IsLine o files bytes before line (Some (Scanning scan)) (Ok command.End)
    → (effect_of o (progress o files before) line).reply ≡ Some (reply_of.Scanned done)
    → IsSeenInside o (state_behind o files before) scan done
seen_inside o set files bytes before line scan done is answer =
    let p : Progress = progress o files before in
    let s : State = state_after o p.history in
    let seen : Sighting = sighting_so_far scan in
    let free = block_unrefused s scan done
    (replies_done o p line scan done is.inside is.reads answer) in
    record {
      range = subst IsResolution (sym (res_of o p.history)) set.res;
      inside = (without_fault s.base.res s.base.max_cells seen free.none).0;
      free = free;
    }

-- it does the scan, where its reply says so
pub scan_ends : (o : Setup) → IsSetUp o → (files : Option Files) (bytes : List ℕ)
    (before : List Line) (line : Line) (scan : ScanSoFar) (done : ScanDone)
    → IsLine o files bytes before line (Some (Scanning scan)) (Ok command.End)
    → (effect_of o (progress o files before) line).reply ≡ Some (reply_of.Scanned done)
    → Replies o files bytes before (reply_of.Scanned done)
    × IsScanDone (sighting_so_far scan) scan.head.lazy (state_behind o files before)
    (state_behind o files (before ++ line ∷ []))
scan_ends o set files bytes before line scan done is answer =
    let p : Progress = progress o files before in
    let s : State = state_after o p.history in
    let seen : Sighting = sighting_so_far scan in
    let is_seen = seen_inside o set files bytes before line scan done is answer in
    let told = replies_done o p line scan done is.inside is.reads answer in
    let added : (effect_of o p line).added ≡ Scanned seen scan.head.lazy ∷ [] =
    ap (λ (e : Effect). e.added) (closes o p line scan is.inside is.reads)
    ∙ ap (λ (r : Option Reply). accepted r (block_action (Scanning scan))) told in
    let leaves : state_after o (after_line o p line).history
    ≡ after s (Scanned seen scan.head.lazy) =
    ap (λ (x : Progress). state_after o x.history) (after_answered o p line is.running)
    ∙ state_more o p.history (effect_of o p line).added ∙ ap (after_all s) added in
    told_and_left o files bytes before line (Some (Scanning scan)) (Ok command.End)
    (reply_of.Scanned done) (IsScanDone seen scan.head.lazy s) is (record {
      answer = answer;
      state =
          subst (IsScanDone seen scan.head.lazy s) (sym leaves)
          (scan_done s seen scan.head.lazy is_seen.range is_seen.inside);
    })

-- ---- counts

-- no voxel of the map is listed twice
listed_apart : AllPairs (λ k l. k ≢ l) (voxels_of root_block)
listed_apart =
    each_once is_same_voxel is_same_voxel_refl (voxels_of root_block) (λ k there.
    let once = listed_once root_block k root_in_map
    ((listed_exactly root_block k root_in_map).1 there) in omega (arith, once))

-- the voxels of the map of which a test tells that something holds
those_passing : (p : Voxel → Bool) (P : Voxel → Type 0) → ((k : Voxel) → (p k ≡ true) ↔ P k)
    → AreThose P (filter p (voxels_of root_block))
those_passing p P exact = record {
  once = AllPairs-filter (λ k l. k ≢ l) p (voxels_of root_block) listed_apart;
  listed = λ k. (
    λ there. (let parts = (passing_exactly p (voxels_of root_block) k).0 there in (
      held_in_map root_block k root_in_map ((listed_exactly root_block k root_in_map).1 parts.0),
      (exact k).0 parts.1,
    )),
    λ those. (passing_exactly p (voxels_of root_block) k).1 (
      (listed_exactly root_block k root_in_map).0 (root_holds k those.0),
      (exact k).1 those.1,
    ),
  );
}

-- the voxels of the map that pass a test are as many as a list has that has each of them once
counted : (p : Voxel → Bool) (P : Voxel → Type 0) (ks : List Voxel)
    → ((k : Voxel) → (p k ≡ true) ↔ P k) → AreThose P ks
    → count_by p (voxels_of root_block) ≡ length ks
counted p P ks exact those =
    count_is_length is_same_voxel p (voxels_of root_block) ks
    (record { exact = is_same_voxel_exact; itself = is_same_voxel_refl }) those.once
    (all_contained (λ k. count_by (is_same_voxel k) (voxels_of root_block) ≡ 1) ks
    (λ k there. listed_once root_block k root_in_map (root_holds k ((those.listed k).0 there).0)))
    (all_contained (λ k. (p k ≡ true) ↔ Contains ks k) (voxels_of root_block) (λ k there. (
      λ passes. (those.listed k).1 (
        held_in_map root_block k root_in_map ((listed_exactly root_block k root_in_map).1 there),
        (exact k).0 passes,
      ),
      λ listed. (exact k).1 ((those.listed k).0 listed).1,
    )))

-- a test within the box, where one stands
within_box : (window : Option Window) (test : Bool) (P : Type 0) (k : Voxel)
    → (test ≡ true) ↔ P
    → ((is_in_window window k && test) ≡ true) ↔ (IsInWindow window k × P)
within_box window test P k exact = (
  λ h. (let parts = and_parts (is_in_window window k) test h in
      ((in_window_exactly window k).0 parts.0, exact.0 parts.1)),
  λ (within, holds). (let a : is_in_window window k
      ≡ true = (in_window_exactly window k).1 within in let b : test ≡ true = exact.1 holds in
      rw (a, b) refl),
)

-- the tests of a hit and of a freed voxel tell what they are to tell
hit_tested : (s : State) (seen : Sighting) (k : Voxel)
    → ((is_in_window s.base.update_box k && is_hit s.base.res seen k) ≡ true)
    ↔ (IsInWindow s.base.update_box k × IsHit s.base.res seen k)
hit_tested s seen k =
    within_box s.base.update_box (is_hit s.base.res seen k) (IsHit s.base.res seen k) k
    (hit_exactly s.base.res seen k)

freed_tested : (s : State) (seen : Sighting) → IsResolution s.base.res → IsInside s.base.res seen
    → (k : Voxel) → ((is_in_window s.base.update_box k && is_freed s.base.res seen k) ≡ true)
    ↔ (IsInWindow s.base.update_box k × IsFreed s.base.res seen k)
freed_tested s seen range inside k =
    within_box s.base.update_box (is_freed s.base.res seen k) (IsFreed s.base.res seen k) k
    (freed_exactly s.base.res seen k range inside)

hits_counted : (s : State) (seen : Sighting) (ks : List Voxel) → AreHit s seen ks
    → hit_count s.base.res s.base.update_box seen ≡ length ks
unfolding hit_count
hits_counted s seen ks those =
    counted (λ k. is_in_window s.base.update_box k && is_hit s.base.res seen k)
    (λ k. IsInWindow s.base.update_box k × IsHit s.base.res seen k) ks (hit_tested s seen) those

frees_counted : (s : State) (seen : Sighting) (ks : List Voxel) → IsResolution s.base.res
    → IsInside s.base.res seen → AreFreed s seen ks
    → free_count s.base.res s.base.update_box seen ≡ length ks
unfolding free_count
frees_counted s seen ks range inside those =
    counted (λ k. is_in_window s.base.update_box k && is_freed s.base.res seen k)
    (λ k. IsInWindow s.base.update_box k × IsFreed s.base.res seen k) ks
    (freed_tested s seen range inside) those

-- the reply has the numbers of voxels that the scan hits and frees
pub scan_counts : (o : Setup) → IsSetUp o → (files : Option Files) (bytes : List ℕ)
    (before : List Line) (line : Line) (scan : ScanSoFar) (done : ScanDone)
    (hits frees : List Voxel)
    → IsLine o files bytes before line (Some (Scanning scan)) (Ok command.End)
    → (effect_of o (progress o files before) line).reply ≡ Some (reply_of.Scanned done)
    → AreHit (state_behind o files before) (sighting_so_far scan) hits
    → AreFreed (state_behind o files before) (sighting_so_far scan) frees
    → (done.hits ≡ length hits) × (done.frees ≡ length frees)
scan_counts o set files bytes before line scan done hits frees is answer are_hit are_freed =
    let s : State = state_behind o files before in
    let seen : Sighting = sighting_so_far scan in
    let is_seen = seen_inside o set files bytes before line scan done is answer in (
      is_seen.free.hits ∙ hits_counted s seen hits are_hit,
      is_seen.free.frees ∙ frees_counted s seen frees is_seen.range is_seen.inside are_freed,
    )

-- and there are such lists
pub scan_lists : (o : Setup) → IsSetUp o → (files : Option Files) (bytes : List ℕ)
    (before : List Line) (line : Line) (scan : ScanSoFar) (done : ScanDone)
    → IsLine o files bytes before line (Some (Scanning scan)) (Ok command.End)
    → (effect_of o (progress o files before) line).reply ≡ Some (reply_of.Scanned done)
    → ((hits : List Voxel) × AreHit (state_behind o files before) (sighting_so_far scan) hits)
    × ((frees : List Voxel) × AreFreed (state_behind o files before) (sighting_so_far scan) frees)
scan_lists o set files bytes before line scan done is answer =
    let s : State = state_behind o files before in
    let seen : Sighting = sighting_so_far scan in
    let is_seen = seen_inside o set files bytes before line scan done is answer in (
      (
        _,
        those_passing (λ k. is_in_window s.base.update_box k && is_hit s.base.res seen k)
            (λ k. IsInWindow s.base.update_box k × IsHit s.base.res seen k) (hit_tested s seen),
      ),
      (
        _,
        those_passing (λ k. is_in_window s.base.update_box k && is_freed s.base.res seen k)
            (λ k. IsInWindow s.base.update_box k × IsFreed s.base.res seen k)
            (freed_tested s seen is_seen.range is_seen.inside),
      ),
    )
