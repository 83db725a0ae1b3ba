-- What a block answers: the largest known value among its voxels.
use Rattle.std.specs.Prelude.{◌≡◌, ℤ, ◌≤ℤ◌, Some, None, fold}
use Rattle.std.specs.Int.{int_max}
use Rattle.oct_key.specs.Voxel.{Voxel}
use Rattle.oct_key.specs.Values.{Values}
use Rattle.oct_key.specs.Block.{Cube, HoldsVoxel}
use Rattle.oct_odds.specs.Update.{Value}
use Rattle.oct_values.specs.Blocks.{voxels_of}

-- some voxel of the block has the value, and no known voxel of the block exceeds it
pub record IsLargestKnown (values : Values) (b : Cube) (largest : ℤ) : Type 0 where
  pub there : (k : Voxel) × HoldsVoxel b k × (values k ≡ Some largest)
  pub most : (k : Voxel) (value : ℤ) → HoldsVoxel b k → values k ≡ Some value → value ≤ℤ largest

-- the answer of a block: none where each of its voxels is unknown, else the largest known value
-- among them
abbrev pub IsLargestIn : Values → Cube → Value → Type 0
IsLargestIn values b None = (k : Voxel) → HoldsVoxel b k → values k ≡ None
IsLargestIn values b (Some largest) = IsLargestKnown values b largest

-- the larger of two values, where a known one counts as larger than unknown
abbrev pub larger : Value → Value → Value
larger None b = b
larger (Some m) None = Some m
larger (Some m) (Some n) = Some (int_max m n)

-- the answer of a block, found by going through its voxels
unfoldable pub depth_value : Values → Cube → Value
depth_value values b = fold (λ best k. larger best (values k)) None (voxels_of b)
