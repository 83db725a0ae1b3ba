-- The blocks of a depth in a box of voxels, and those of them that are shown with their values.
use Rattle.std.specs.Prelude.{◌≡◌, ℕ, ◌<◌, ◌≤◌, Option, List, filter, option_map}
use Rattle.std.specs.List.{filter_map}
use Rattle.oct_key.specs.Voxel.{Voxel}
use Rattle.oct_key.specs.Values.{Values}
use Rattle.oct_key.specs.Block.{Cube}
use Rattle.oct_key.specs.Order.{blocks_in_order}
use Rattle.oct_values.specs.Boxes.{is_met_by}
use Rattle.oct_values.specs.Depths.{depth_value}
use Rattle.oct_query.specs.Shown.{Shown}
use Rattle.oct_query.specs.declared.fault.ListFault.{ListFault}
use Rattle.oct_query.specs.declared.fault.ListFault.TheVariants.{TooManyBlocks, Memory}

-- the blocks of a depth that meet a box, by ascending x, y and z
unfoldable pub met_blocks : Voxel → Voxel → ℕ → List Cube
met_blocks lo hi depth = filter (is_met_by lo hi) (blocks_in_order depth)

-- a block with its value, or nothing where it is unknown
abbrev pub shown : Values → Cube → Option Shown
shown values b = option_map (λ value. record { block = b; value = value }) (depth_value values b)

-- those of them that aren't unknown, each with its value
unfoldable pub listed_blocks : Values → Voxel → Voxel → ℕ → List Shown
listed_blocks values lo hi depth = filter_map (shown values) (met_blocks lo hi depth)

-- why a list is refused: too many blocks meet the box, with their number; or not too many do, and
-- memory ran out
abbrev pub IsRefused : ListFault → ℕ → ℕ → Type 0
IsRefused (TooManyBlocks count) met most = (count ≡ met) × (most < met)
IsRefused Memory met most = met ≤ most
