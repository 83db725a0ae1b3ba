-- How many bricks there may be of the codes that they have, and which places of a table are taken.
use Rattle.std.specs.Prelude.{◌≡◌, ◌≢◌, ℕ, ◌+◌, ◌*◌, ◌^◌, ◌≤◌, ◌⊎◌, ◌↔◌, nat_lt, All, AllPairs}
use Rattle.std.specs.Prelude.{Contains}
use Rattle.std.specs.Prelude.{List, length, map, take}
use Rattle.std.specs.List.{filter}
use Rattle.oct_brick.specs.declared.brick.Brick.{Brick}
use Rattle.oct_brick.specs.Bricks.{scanned_codes, hit_codes, IsBrick}

-- the first n bricks have different codes, and all are at most twice as many and 2 ^ 18
pub record AreFew (n : ℕ) (bricks : List Brick) : Type 0 where
  pub there : n ≤ length bricks
  pub apart : AllPairs (λ a b. a ≢ b) (take n (map (λ b. b.code) bricks))
  pub few : length bricks ≤ 2 * n + 2 ^ 18

-- the bricks of a table's places in which some voxel changes: the others are empty
abbrev pub filled : List Brick → List Brick
filled places = filter (λ b. nat_lt 0 b.scanned) places

-- the voxel of this code has come to those of bricks, and isn't hit
pub record IsVoxelAdded (code : ℕ) (old new : List Brick) : Type 0 where
  pub scanned : (c : ℕ) → Contains (scanned_codes new) c ↔
      (Contains (scanned_codes old) c ⊎ (code ≡ c))
  pub hits : (c : ℕ) → Contains (hit_codes new) c ↔ Contains (hit_codes old) c
  pub bricks : All IsBrick new

-- bricks of the map hold the same voxels as these, and hit the same
pub record HoldSame (old new : List Brick) : Type 0 where
  pub scanned : (c : ℕ) → Contains (scanned_codes old) c ↔ Contains (scanned_codes new) c
  pub hits : (c : ℕ) → Contains (hit_codes old) c ↔ Contains (hit_codes new) c
  pub bricks : All IsBrick new
