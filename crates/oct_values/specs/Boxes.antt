-- Boxes of voxels: an event on each voxel of one, and how many groups may have to be made for it.
use Rattle.std.specs.Prelude.{ℕ, ◌+◌, ◌-◌, ◌*◌, ◌/◌, Bool, ◌&&◌, not, Some, None}
use Rattle.std.specs.Prelude.{count_by, if◌then◌else◌}
use Rattle.std.specs.List.{list_all, list_any}
use Rattle.oct_key.specs.Voxel.{Voxel}
use Rattle.oct_key.specs.Block.{Cube, side}
use Rattle.oct_key.specs.Boxes.{is_in_box}
use Rattle.oct_odds.specs.declared.event.Event.{Event}
use Rattle.oct_values.specs.Blocks.{voxels_of, blocks_above_voxels}
use Rattle.oct_values.specs.Events.{Events}

-- an event on each voxel of a box, and nothing elsewhere
abbrev pub box_events : Voxel → Voxel → Event → Events
box_events lo hi event k = if is_in_box lo hi k then Some event else None

-- whether a block meets a box
unfoldable pub is_met_by : Voxel → Voxel → Cube → Bool
is_met_by lo hi b = list_any (is_in_box lo hi) (voxels_of b)

-- whether a block meets a box and doesn't lie in it
unfoldable pub is_cut_by : Voxel → Voxel → Cube → Bool
is_cut_by lo hi b = is_met_by lo hi b && not (list_all (is_in_box lo hi) (voxels_of b))

-- the number of blocks of depth 0 to 15 that meet a box and don't lie in it: this many groups at
-- most have to be made for it
unfoldable pub box_need : Voxel → Voxel → ℕ
box_need lo hi = count_by (is_cut_by lo hi) blocks_above_voxels

-- on an axis, how many blocks of a depth have voxels between two numbers
abbrev pub met_on : ℕ → ℕ → ℕ → ℕ
met_on depth low high = high / side depth + 1 - low / side depth

-- on an axis, how many blocks of a depth have all their voxels between them
abbrev pub within_on : ℕ → ℕ → ℕ → ℕ
within_on depth low high = (high + 1) / side depth - (low + (side depth - 1)) / side depth

-- how many blocks of a depth meet a box
abbrev pub met_at : Voxel → Voxel → ℕ → ℕ
met_at lo hi depth = met_on depth lo.x hi.x * met_on depth lo.y hi.y * met_on depth lo.z hi.z

-- how many blocks of a depth meet a box and don't lie in it
unfoldable pub cut_at : Voxel → Voxel → ℕ → ℕ
cut_at lo hi depth = met_at lo hi depth
    - within_on depth lo.x hi.x * within_on depth lo.y hi.y * within_on depth lo.z hi.z
