-- Which blocks events reach, and how many groups may have to be made for them.
use Rattle.std.specs.Prelude.{ℕ, Bool, IsSome, is_some, count_by}
use Rattle.std.specs.List.{list_any}
use Rattle.oct_key.specs.Voxel.{Voxel}
use Rattle.oct_key.specs.Block.{Cube, HoldsVoxel}
use Rattle.oct_values.specs.Blocks.{voxels_of, blocks_above_voxels}
use Rattle.oct_values.specs.Events.{Events}

-- some voxel of the block has an event
abbrev pub IsReached : Events → Cube → Type 0
IsReached events b = (k : Voxel) × HoldsVoxel b k × IsSome (events k)

-- whether some voxel of the block has an event
unfoldable pub is_reached : Events → Cube → Bool
is_reached events b = list_any (λ k. is_some (events k)) (voxels_of b)

-- the number of blocks of depth 0 to 15 that hold a voxel with an event: this many groups at most
-- have to be made for them
unfoldable pub event_need : Events → ℕ
event_need events = count_by (is_reached events) blocks_above_voxels
