-- What events leave uniform, and how many blocks more they can make not uniform.
use Rattle.std.proofs.Common.{◌≡◌, ℕ, ◌+◌, ◌≤◌, Bool, true, false, cond, Some, None, refl, sym, ◌∙◌}
use Rattle.std.proofs.Common.{ap, arith}
use Rattle.std.specs.Prelude.{not, Option, IsSome, count_by}
use Rattle.std.proofs.lemmas.Bool.{false≢true}
use Rattle.oct_key.specs.Voxel.{Voxel}
use Rattle.oct_key.specs.Values.{Values}
use Rattle.oct_key.specs.Block.{Cube, IsBlock, HoldsVoxel}
use Rattle.oct_odds.specs.Odds.{Odds}
use Rattle.oct_odds.specs.declared.event.Event.{Event}
use Rattle.oct_values.specs.Blocks.{blocks_above_voxels}
use Rattle.oct_values.specs.Events.{Events, after_event, updated}
use Rattle.oct_values.specs.Needs.{is_reached, event_need}
use Rattle.oct_key.specs.Boxes.{is_in_box}
use Rattle.oct_values.specs.Boxes.{box_events, is_cut_by, box_need}
use Rattle.oct_values.specs.Counts.{is_uniform, group_count}
use Rattle.oct_values.proofs.Listed.{all_above_voxels}
use Rattle.oct_values.proofs.Reached.{reached_exactly}
use Rattle.oct_values.proofs.Uniform.{uniform_exactly}
use Rattle.oct_key.proofs.Boxes.{in_box_exactly}
use Rattle.oct_values.proofs.Boxes.{cut_exactly}
use Rattle.oct_values.proofs.Sums.{All-follows, sum_by-each_le, sum_by-plus, sum_by-none}

-- all voxels of a block take one event, or none
abbrev pub IsAlike : Events → Cube → Type 0
IsAlike events b = (j k : Voxel) → HoldsVoxel b j → HoldsVoxel b k → events j ≡ events k

-- then a uniform block stays so
pub uniform_kept : (odds : Odds) (events : Events) (values : Values) (b : Cube) → IsBlock b
    → IsAlike events b → is_uniform values b ≡ true
    → is_uniform (updated odds events values) b ≡ true
uniform_kept odds events values b ok alike uniform =
    let before = (uniform_exactly values b ok).0 uniform in
    (uniform_exactly (updated odds events values) b ok).1
    (λ j k in_j in_k. ap (λ e. after_event odds e (values j)) (alike j k in_j in_k)
    ∙ ap (after_event odds (events k)) (before j k in_j in_k))

-- a block that isn't uniform afterwards wasn't before, or is counted
counted_step : (before after counts : Bool) → (before ≡ true → counts ≡ false → after ≡ true)
    → cond {A = ℕ} (not after) 1 0 ≤ cond {A = ℕ} (not before) 1 0 + cond {A = ℕ} counts 1 0
counted_step before true counts h = omega arith
counted_step false false true h = omega arith
counted_step false false false h = omega arith
counted_step true false true h = omega arith
counted_step true false false h = absurd (false≢true (h refl refl))

-- so no more blocks aren't uniform than before and those that are counted
pub groups_after : (odds : Odds) (events : Events) (values : Values) (counts : Cube → Bool)
    → ((b : Cube) → IsBlock b → b.depth ≤ 15 → counts b ≡ false → IsAlike events b)
    → group_count (updated odds events values)
    ≤ group_count values + count_by counts blocks_above_voxels
unfolding group_count
groups_after odds events values counts alike =
    let after : Cube → ℕ = λ b. cond (not (is_uniform (updated odds events values) b)) 1 0 in
    let each =
    sum_by-each_le (λ b. cond (not (is_uniform (updated odds events values) b)) 1 0)
    (λ b. cond (not (is_uniform values b)) 1 0 + cond (counts b) 1 0) blocks_above_voxels
    (All-follows (λ b. IsBlock b × (b.depth ≤ 15))
    (λ b. cond {A = ℕ} (not (is_uniform (updated odds events values) b)) 1 0
    ≤ cond {A = ℕ} (not (is_uniform values b)) 1 0 + cond {A = ℕ} (counts b) 1 0)
    blocks_above_voxels
    (λ b at. counted_step (is_uniform values b) (is_uniform (updated odds events values) b)
    (counts b) (λ uniform not_counted. uniform_kept odds events values b at.0
    (alike b at.0 at.1 not_counted) uniform)) all_above_voxels) in
    let split =
    sum_by-plus (λ b. cond (not (is_uniform values b)) 1 0) (λ b. cond (counts b) 1 0)
    blocks_above_voxels in
    omega (arith, each, split)

none_of : {A : Type 0} (o : Option A) → (IsSome o → ⊥) → o ≡ None
none_of None h = refl
none_of (Some x) h = absurd (h refl)

-- whatever the events
pub groups_after_events : (odds : Odds) (events : Events) (values : Values)
    → group_count (updated odds events values) ≤ group_count values + event_need events
unfolding event_need
groups_after_events odds events values =
    groups_after odds events values (is_reached events)
    (λ b ok low out j k in_j in_k.
    (let none = λ (q : Voxel) (in_q : HoldsVoxel b q). none_of (events q)
    (λ some. false≢true (sym out ∙ (reached_exactly events b ok).1 (q, in_q, some))) in
    none j in_j ∙ sym (none k in_k)))

-- by an event on each voxel of a box
pub groups_after_box : (odds : Odds) (lo hi : Voxel) (event : Event) (values : Values)
    → group_count (updated odds (box_events lo hi event) values)
    ≤ group_count values + box_need lo hi
unfolding box_need
groups_after_box odds lo hi event values =
    groups_after odds (box_events lo hi event) values (is_cut_by lo hi) alike
  where
    -- where one voxel lies in the box, each does
    both : (b : Cube) → IsBlock b → is_cut_by lo hi b ≡ false → (j k : Voxel) → HoldsVoxel b j
        → HoldsVoxel b k → is_in_box lo hi j ≡ true → (test : Bool) → is_in_box lo hi k ≡ test
        → test ≡ true
    both b ok out j k in_j in_k h true e = refl
    both b ok out j k in_j in_k h false e =
        absurd (false≢true (sym out ∙ (cut_exactly lo hi b ok).1 (
          (j, in_j, (in_box_exactly lo hi j).0 h),
          λ lies. false≢true (sym e ∙ (in_box_exactly lo hi k).1 (lies k in_k)),
        )))

    same : (a b : Bool) → (a ≡ true → b ≡ true) → (b ≡ true → a ≡ true) → a ≡ b
    same true true f g = refl
    same true false f g = sym (f refl)
    same false true f g = g refl
    same false false f g = refl

    alike : (b : Cube) → IsBlock b → b.depth ≤ 15 → is_cut_by lo hi b ≡ false
        → IsAlike (box_events lo hi event) b
    alike b ok low out j k in_j in_k =
        ap (λ test. cond test (Some event) None)
        (same (is_in_box lo hi j) (is_in_box lo hi k)
        (λ h. both b ok out j k in_j in_k h _ refl)
        (λ h. both b ok out k j in_k in_j h _ refl))

-- by one event on each voxel, or none on any
pub groups_after_all : (odds : Odds) (event : Option Event) (values : Values)
    → group_count (updated odds (λ _. event) values) ≤ group_count values
groups_after_all odds event values =
    let grows =
    groups_after odds (λ _. event) values (λ _. false) (λ b ok low out j k in_j in_k. refl) in
    let none = sum_by-none blocks_above_voxels in
    omega (arith, grows, none)
