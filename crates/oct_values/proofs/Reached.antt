-- Blocks that events reach, in words of voxels, and what events that
-- agree in the map have in common.
use Rattle.std.proofs.Common.{◌≡◌, ◌≤◌, ◌↔◌, ap}
use Rattle.std.specs.Prelude.{IsTrue, is_some}
use Rattle.oct_key.specs.Voxel.{Voxel, IsInMap}
use Rattle.oct_key.specs.Block.{Cube, IsBlock, HoldsVoxel}
use Rattle.oct_values.specs.Blocks.{voxels_of, blocks_above_voxels}
use Rattle.oct_values.specs.Events.{Events}
use Rattle.oct_values.specs.Needs.{IsReached, is_reached, event_need}
use Rattle.oct_values.proofs.Held.{all_held, some_passes, one_passes}
use Rattle.oct_key.proofs.Held.{held_in_map}
use Rattle.oct_values.proofs.Listed.{all_above_voxels}
use Rattle.oct_values.proofs.Sums.{All-follows, list_any-same, count_by-same}

-- the test tells the blocks with an event
pub reached_exactly : (events : Events) (b : Cube) → IsBlock b
    → IsTrue (is_reached events b) ↔ IsReached events b
unfolding is_reached
reached_exactly events b ok =
    let to : IsTrue (is_reached events b) → IsReached events b =
    λ h. one_passes (λ k. is_some (events k)) b ok h in
    let from : IsReached events b → IsTrue (is_reached events b) =
    λ (k, held, event). some_passes (λ k. is_some (events k)) b k ok held event in
    (to, from)

-- events that agree in the map reach the same blocks
pub same_reached : (d e : Events) (b : Cube) → IsBlock b → ((k : Voxel) → IsInMap k → d k ≡ e k)
    → is_reached d b ≡ is_reached e b
unfolding is_reached
same_reached d e b ok same = list_any-same (λ k. is_some (d k)) (λ k. is_some (e k)) (voxels_of b)
    (All-follows (HoldsVoxel b) (λ k. is_some (d k) ≡ is_some (e k)) (voxels_of b)
    (λ k held. ap is_some (same k (held_in_map b k ok held))) (all_held b ok))

-- and need as many groups
pub same_need : (d e : Events) → ((k : Voxel) → IsInMap k → d k ≡ e k) → event_need d ≡ event_need e
unfolding event_need
same_need d e same = count_by-same (is_reached d) (is_reached e) blocks_above_voxels
    (All-follows (λ b. IsBlock b × (b.depth ≤ 15)) (λ b. is_reached d b ≡ is_reached e b)
    blocks_above_voxels
    (λ b at. same_reached d e b at.0 same) all_above_voxels)
