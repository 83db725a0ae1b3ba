-- The block that a map is asked for, for the proofs of the calls that ask.
use Rattle.std.specs.Prelude.{◌≡◌, ℕ, ◌≤◌, ◌⊎◌, false, Some}
use Rattle.oct_key.specs.declared.point.Point.{Point}
use Rattle.oct_key.specs.Voxel.{Voxel, IsInMap, key_at}
use Rattle.oct_key.specs.Block.{Cube, block_of}
use Rattle.oct_map.specs.Map.{Map}

-- the map answers for this block where it is asked at a depth for a point
pub record IsToAsk (m : Map) (p : Point) (depth : ℕ) (b : Cube) : Type 0 where
  pub voxel : Voxel
  pub in_map : IsInMap voxel
  pub key : key_at m.tree.res p ≡ Some voxel
  pub block : b ≡ block_of depth voxel
  pub low : depth ≤ 16
  pub fresh : (m.is_stale ≡ false) ⊎ (16 ≤ depth)
