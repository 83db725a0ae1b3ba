-- What a restore answers, and what the map then is; and that a snapshot is that of the state.
use Rattle.std.proofs.Common.{◌≡◌, ℕ, zero, suc, ◌+◌, List, [], ◌++◌, true, false, Bool, cond}
use Rattle.std.proofs.Common.{Option, Some, IsSome, Result, Ok, Err, IfOk, inl, inr, refl, sym, ap}
use Rattle.std.proofs.Common.{subst, ◌∙◌}
use Rattle.std.specs.Prelude.{pos, nat_eq, nat_lt}
use Rattle.std.specs.List.{flat_map}
use Rattle.oct_bt.proofs.Canonicals.{child_height, child_is_block, flat_map-same}
use Rattle.oct_key.specs.Block.{Cube, IsBlock, child_of, lowest_voxel, root_block}
use Rattle.oct_key.specs.Boxes.{Window}
use Rattle.oct_key.specs.Values.{Values, SameValues}
use Rattle.oct_key.proofs.Blocks.{lowest_held, root_in_map}
use Rattle.oct_key.proofs.Held.{held_in_map}
use Rattle.oct_io.specs.declared.store.Loaded.TheVariants.{Bytes, Missing, TooLarge}
use Rattle.oct_map.specs.Answers.{IsAnswerOrMemory}
use Rattle.oct_map.specs.Ground.{Ground}
use Rattle.oct_map.specs.Map.{Map, IsMap, ground_of, values_of}
use Rattle.oct_map.specs.Restores.{IsMapRestored, restore_answer}
use Rattle.oct_map.specs.declared.fault.MapFault.{MapFault}
use Rattle.oct_map.specs.declared.fault.MapFault.TheVariants as fault
use Rattle.oct_odds.specs.Odds.{Odds}
use Rattle.oct_script.specs.declared.reply.Reply.{Reply}
use Rattle.oct_script.specs.declared.reply.Reply.TheVariants as reply_of
use Rattle.oct_session.specs.Commands.{accepted}
use Rattle.oct_session.specs.FileCommands.{groups_reply, snapshot_reply, snapshot_action}
use Rattle.oct_session.specs.FileCommands.{restore_reply, snapshot_file}
use Rattle.oct_session.specs.History.{State, after_all}
use Rattle.oct_session.specs.Leaving.{StandsFor}
use Rattle.oct_session.specs.Moments.{IsFileOf}
use Rattle.oct_session.specs.Refusals.{fault_reply}
use Rattle.oct_session.specs.Standing.{HasAnswered, HasDone}
use Rattle.oct_session.proofs.MapHistory.{stands_restored}
use Rattle.oct_session.proofs.Replying.{refuses, no_reply}
use Rattle.oct_session.proofs.Loading.{AnswersAll}
use Rattle.oct_snap.specs.Nodes.{group_total, whole_text}
use Rattle.oct_snap.specs.Reading.{Snapshot, read_snapshot}
use Rattle.oct_snap.specs.Texts.{common_value, text_with, node_text, snap_text, head_bytes}
use Rattle.oct_snap.specs.declared.fault.SnapFault.{SnapFault}
use Rattle.oct_snap.specs.declared.fault.SnapFault.TheVariants as snap_fault
use Rattle.oct_values.specs.Blocks.{child_numbers}
use Rattle.oct_values.specs.Uniform.{uniform_answer}
use Rattle.oct_values.proofs.Eights.{all_eight}
use Rattle.oct_values.proofs.Uniform.{same_uniform}

-- ---- what a restore answers

-- what a snapshot was read as has a reply
snapshot_some : (g : Ground) (r : Result Snapshot SnapFault) → IsSome (snapshot_reply g r)
snapshot_some g (Err snap_fault.BadMagic) = refl
snapshot_some g (Err (snap_fault.Truncated at)) = refl
snapshot_some g (Err (snap_fault.TrailingBytes at)) = refl
snapshot_some g (Err (snap_fault.BadSnapshot at)) = refl
snapshot_some g (Ok s) =
    by_test (nat_eq s.head.res g.res) (nat_lt g.max_groups (group_total s.nodes))
  where
    by_test : (same full : Bool) →
        IsSome (groups_reply (cond {A = Result ℕ MapFault} same
        (cond {A = Result ℕ MapFault} full (Err (fault.Full 0 (group_total s.nodes)))
        (Ok (group_total s.nodes))) (Err (fault.OtherResolution (pos s.head.res) (pos g.res)))))
    by_test false full = refl
    by_test true true = refl
    by_test true false = refl

-- and so has whatever the store has
pub restore_some : AnswersAll restore_reply
restore_some g Missing = refl
restore_some g TooLarge = refl
restore_some g (Bytes bytes) = snapshot_some g (read_snapshot g.odds bytes)

taken : (m n : Map) (s : State) (groups : ℕ) (r : Result Snapshot SnapFault)
    → IsAnswerOrMemory (restore_answer (ground_of m) r) (Ok groups)
    → ((q : Snapshot) → r ≡ Ok q → IsMapRestored m n q) → IsMap n → StandsFor m s →
    (Some (reply_of.Restored groups) ≡ snapshot_reply s.base r)
    × StandsFor n (after_all s (accepted (Some (reply_of.Restored groups)) (snapshot_action r)))
taken m n s groups (Err f) (inl answer) restored is_map at = cc
taken m n s groups (Err f) (inr memory) restored is_map at = cc
taken m n s groups (Ok q) (inl answer) restored is_map at = (
  ap groups_reply (answer ∙ ap (λ g. restore_answer g (Ok q)) at.base),
  stands_restored m n s q (restored q refl) is_map at,
)
taken m n s groups (Ok q) (inr memory) restored is_map at = cc

-- a snapshot that the map took
pub restore_done : (m n : Map) (bytes : List ℕ) (groups : ℕ)
    → IsAnswerOrMemory (restore_answer (ground_of m) (read_snapshot m.tree.odds bytes)) (Ok groups)
    →
    ((q : Snapshot) → read_snapshot m.tree.odds bytes ≡ Ok q → IsMapRestored m n q) → IsMap n →
    HasAnswered (λ s. snapshot_reply s.base (read_snapshot s.base.odds bytes))
    (λ s. snapshot_action (read_snapshot s.base.odds bytes)) m n (Some (reply_of.Restored groups))
restore_done m n bytes groups answer restored is_map = λ s at.
    subst (λ (g : Ground). (Some (reply_of.Restored groups)
    ≡ snapshot_reply s.base (read_snapshot g.odds bytes))
    × StandsFor n (after_all s
    (accepted (Some (reply_of.Restored groups)) (snapshot_action (read_snapshot g.odds bytes)))))
    at.base (taken m n s groups (read_snapshot m.tree.odds bytes) answer restored is_map at)

-- a snapshot that the map refused
pub restore_refused : {E : Type 0} (r : Result (Option Reply) E) (m n : Map) (bytes : List ℕ)
    (f : MapFault) → IfOk r (λ a. a ≡ fault_reply f) → IfOk r IsSome →
    IsAnswerOrMemory (restore_answer (ground_of m) (read_snapshot m.tree.odds bytes)) (Err f)
    → n ≡ m →
    HasDone (λ s. snapshot_reply s.base (read_snapshot s.base.odds bytes))
    (λ s. snapshot_action (read_snapshot s.base.odds bytes)) m n r
restore_refused (Ok a) m n bytes f is some (inl answer) same = λ s at.
    let actions = snapshot_action (read_snapshot s.base.odds bytes) in (
      is ∙ ap groups_reply (answer
          ∙ ap (λ (g : Ground). restore_answer g (read_snapshot g.odds bytes)) at.base),
      subst (λ (x : Map). StandsFor x (after_all s (accepted a actions))) (sym same)
          (subst (λ more. StandsFor m (after_all s more))
          (sym (ap (λ b. cond b [] actions) (refuses f a some is))) at),
    )
restore_refused (Ok a) m n bytes f is some (inr none) same = absurd (no_reply f a some is cc)
restore_refused (Err x) m n bytes f is some answer same =
    λ s at. (
      snapshot_some s.base (read_snapshot s.base.odds bytes),
      subst (λ (x : Map). StandsFor x s) (sym same) at,
    )

-- ---- what a snapshot has

-- the one value of a block depends on the map's voxels alone
same_common : (v w : Values) (b : Cube) → IsBlock b → SameValues v w
    → common_value v b ≡ common_value w b
unfolding uniform_answer
same_common v w b ok same =
    rw (
      same_uniform v w b ok same,
      same (lowest_voxel b) (held_in_map b (lowest_voxel b) ok (lowest_held b)),
    ) refl

-- and so does its node
same_node : (v w : Values) (h d : ℕ) (b : Cube) → b.depth ≡ d → d + h ≡ 16 → IsBlock b
    → SameValues v w → node_text h v b ≡ node_text h w b
unfolding node_text
same_node v w zero d b is all ok same =
    ap whole_text (same (lowest_voxel b) (held_in_map b (lowest_voxel b) ok (lowest_held b)))
same_node v w (suc h) d b is all ok same =
    let nodes : flat_map (λ i. node_text h v (child_of b i)) child_numbers
    ≡ flat_map (λ i. node_text h w (child_of b i)) child_numbers =
    flat_map-same (λ i. node_text h v (child_of b i)) (λ i. node_text h w (child_of b i))
    child_numbers (all_eight (λ i. node_text h v (child_of b i) ≡ node_text h w (child_of b i))
    (λ i li. same_node v w h (suc d) (child_of b i) (child_height b d h i is all).0
    (child_height b d h i is all).1 (child_is_block b d h i is all ok) same)) in
    ap (λ c. text_with c (flat_map (λ i. node_text h v (child_of b i)) child_numbers))
    (same_common v w b ok same) ∙ ap (text_with (common_value w b)) nodes

same_snapshot : (res : ℕ) (odds : Odds) (window : Option Window) (v w : Values) → SameValues v w
    → snap_text res odds window v ≡ snap_text res odds window w
unfolding snap_text
same_snapshot res odds window v w same =
    ap (λ bytes. head_bytes res odds window ++ bytes)
    (same_node v w 16 0 root_block refl refl root_in_map same)

-- the snapshot of a map is that of the state for which it stands
pub values_saved : (m : Map) (bytes : List ℕ)
    → bytes ≡ snap_text m.tree.res m.tree.odds m.update_box (values_of m)
    → IsFileOf m snapshot_file bytes
values_saved m bytes is s at =
    is ∙ ap (λ (g : Ground). snap_text g.res g.odds g.update_box (values_of m)) at.base
    ∙ sym (same_snapshot s.base.res s.base.odds s.base.update_box s.values (values_of m) at.values)

pub values_made : {V E : Type 0} (m : Map) (made : Result V E) (items : V → List ℕ)
    → IfOk made (λ v. items v ≡ snap_text m.tree.res m.tree.odds m.update_box (values_of m))
    → IfOk made (λ v. IsFileOf m snapshot_file (items v))
values_made m (Ok v) items is = values_saved m (items v) is
values_made m (Err x) items is = tt
