-- An event on one voxel needs sixteen groups: one for each block of depth 0 to 15 around the voxel.
use Rattle.std.proofs.Common.{◌≡◌, ℕ, zero, suc, ◌+◌, ◌<◌, ◌≤◌, cond, Bool, true, false, List, []}
use Rattle.std.proofs.Common.{◌∷◌, Some, None, inl, inr, refl, sym, subst, ◌∙◌, ap, arith}
use Rattle.std.specs.Prelude.{IsSome, sum_by}
use Rattle.std.proofs.lemmas.Bool.{cases_eq, false≢true}
use Rattle.std.proofs.lemmas.List.Sums.{sum_by-cons}
use Rattle.oct_key.specs.Voxel.{Voxel, IsInMap}
use Rattle.oct_key.specs.Values.{Values, is_same_voxel}
use Rattle.oct_key.specs.Block.{Cube, IsBlock, HoldsVoxel, block_of, is_same_block}
use Rattle.oct_key.proofs.Blocks.{depth_block_of, block_of_held, block_of_in_map}
use Rattle.oct_key.proofs.Blocks.{is_same_block_refl}
use Rattle.oct_key.proofs.SameVoxels.{is_same_voxel_exact}
use Rattle.oct_odds.specs.Odds.{Odds}
use Rattle.oct_odds.specs.declared.event.Event.{Event}
use Rattle.oct_values.specs.Blocks.{blocks_above_voxels}
use Rattle.oct_values.specs.Events.{event_at, updated}
use Rattle.oct_values.specs.Needs.{is_reached, event_need}
use Rattle.oct_values.specs.Counts.{group_count}
use Rattle.oct_values.proofs.Sums.{All-follows, sum_by-each_le, sum_by-turned}
use Rattle.oct_values.proofs.Listed.{all_above_voxels, block_listed_once, counted}
use Rattle.oct_values.proofs.Reached.{reached_exactly}
use Rattle.oct_values.proofs.Kept.{groups_after_events}

-- the depths below this one
depths_below : ℕ → List ℕ
depths_below zero = []
depths_below (suc d) = d ∷ depths_below d

-- one of them counts no more than all
one_of_depths : (f : ℕ → ℕ) (n d : ℕ) → d < n → f d ≤ sum_by f (depths_below n)
unfolding depths_below
one_of_depths f zero d l = absurd (omega arith)
one_of_depths f (suc n) d l =
    let all = sum_by-cons f n (depths_below n) in
    elim (cases_eq d n) [
      | inl level ↦ (let here : f d ≡ f n = ap f level in omega (arith, all, here))
      | inr other ↦ (let rest = one_of_depths f n d (omega arith) in omega (arith, all, rest))
    ]

-- where each counts one
all_of_depths : (f : ℕ → ℕ) (n : ℕ) → ((d : ℕ) → d < n → f d ≡ 1) → sum_by f (depths_below n) ≡ n
unfolding depths_below
all_of_depths f zero h = refl
all_of_depths f (suc n) h =
    let all = sum_by-cons f n (depths_below n) in
    let here = h n (omega arith) in
    let rest = all_of_depths f n (λ d l. h d (omega arith)) in
    omega (arith, all, here, rest)

-- at how many depths the block around the voxel is this one
abbrev times_around : Voxel → Cube → ℕ
times_around k b = sum_by (λ d. cond (is_same_block (block_of d k) b) 1 0) (depths_below 16)

once_around : (k : Voxel) (b : Cube) → b.depth ≤ 15 → HoldsVoxel b k → 1 ≤ times_around k b
once_around k b low held =
    let here : cond {A = ℕ} (is_same_block (block_of b.depth k) b) 1 0 ≡ 1 =
    counted (is_same_block (block_of b.depth k) b)
    (ap (λ c. is_same_block c b) (block_of_held b k held) ∙ is_same_block_refl b) in
    let all : cond {A = ℕ} (is_same_block (block_of b.depth k) b) 1 0 ≤ times_around k b =
    one_of_depths (λ d. cond (is_same_block (block_of d k) b) 1 0) 16 b.depth (omega arith) in
    omega (arith, here, all)

-- sixteen blocks above the voxels are around a voxel
sixteen_around : (k : Voxel) → IsInMap k → sum_by (times_around k) blocks_above_voxels ≡ 16
sixteen_around k v =
    sum_by-turned (λ b d. cond (is_same_block (block_of d k) b) 1 0) blocks_above_voxels
    (depths_below 16)
    ∙ all_of_depths
    (λ d. sum_by (λ b. cond (is_same_block (block_of d k) b) 1 0) blocks_above_voxels) 16
    (λ d l. block_listed_once (block_of d k) (block_of_in_map d k (omega arith) v)
    (let level = depth_block_of d k in
    omega arith))

-- a block that the event reaches is around the voxel
reached_around : (k : Voxel) (event : Event) (b : Cube) → IsBlock b → b.depth ≤ 15
    → cond {A = ℕ} (is_reached (event_at (Some k) event) b) 1 0 ≤ times_around k b
reached_around k event b ok low = by_test (is_reached (event_at (Some k) event) b) refl
  where
    same : (q : Voxel) (test : Bool) → is_same_voxel k q ≡ test
        → IsSome (cond test (Some event) None) → k ≡ q
    same q true e h = is_same_voxel_exact k q e
    same q false e h = absurd (false≢true h)

    by_test : (test : Bool) → is_reached (event_at (Some k) event) b ≡ test
        → cond {A = ℕ} test 1 0 ≤ times_around k b
    by_test false e = omega arith
    by_test true e = (let (q, held, some) = (reached_exactly (event_at (Some k) event) b ok).0 e in
        let once =
        once_around k b low
        (subst (HoldsVoxel b) (sym (same q (is_same_voxel k q) refl some)) held) in
        omega (arith, once))

pub edit_need_few : (k : Voxel) (event : Event) → IsInMap k
    → event_need (event_at (Some k) event) ≤ 16
unfolding event_need
edit_need_few k event v =
    let each =
    sum_by-each_le (λ b. cond (is_reached (event_at (Some k) event) b) 1 0) (times_around k)
    blocks_above_voxels
    (All-follows (λ b. IsBlock b × (b.depth ≤ 15))
    (λ b. cond {A = ℕ} (is_reached (event_at (Some k) event) b) 1 0 ≤ times_around k b)
    blocks_above_voxels (λ b at. reached_around k event b at.0 at.1) all_above_voxels) in
    let around = sixteen_around k v in
    omega (arith, each, around)

-- so an edit of one voxel makes at most sixteen blocks more not uniform
pub groups_after_edit : (odds : Odds) (k : Voxel) (event : Event) (values : Values) → IsInMap k
    → group_count (updated odds (event_at (Some k) event) values) ≤ group_count values + 16
groups_after_edit odds k event values v =
    let grows = groups_after_events odds (event_at (Some k) event) values in
    let few = edit_need_few k event v in
    omega (arith, grows, few)
