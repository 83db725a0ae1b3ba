-- The voxels that a list of bricks stands for, as Morton codes.
use Rattle.std.specs.Prelude.{ℕ, ◌^◌, ◌<◌, List, AllPairs, bit_and}
use Rattle.std.specs.List.{flat_map}
use Rattle.std.specs.Int.{bit_not, w64}
use Rattle.oct_brick.specs.declared.brick.Brick.{Brick}
use Rattle.oct_brick.specs.Masks.{HasCode, codes_of}

-- the codes of the voxels that bricks change, brick by brick
abbrev pub scanned_codes : List Brick → List ℕ
scanned_codes bricks = flat_map (λ b. codes_of b.code b.scanned) bricks

-- the codes of those that they hit
abbrev pub hit_codes : List Brick → List ℕ
hit_codes bricks = flat_map (λ b. codes_of b.code b.hits) bricks

-- the mask of the voxels that a brick changes and doesn't hit
abbrev pub frees_of : Brick → ℕ
frees_of b = bit_and b.scanned (bit_not w64 b.hits)

-- the codes of the voxels that bricks change and don't hit
abbrev pub freed_codes : List Brick → List ℕ
freed_codes bricks = flat_map (λ b. codes_of b.code (frees_of b)) bricks

-- each voxel that a brick hits is one that it changes
abbrev pub HitsAreScanned : Brick → Type 0
HitsAreScanned b = (code : ℕ) → HasCode b.code b.hits code → HasCode b.code b.scanned code

-- a brick of the map: some voxel of it changes, and each voxel that is hit is one that changes
pub record IsBrick (b : Brick) : Type 0 where
  pub code : b.code < 2 ^ 42
  pub fits : b.scanned < 2 ^ 64
  pub hits_fit : b.hits < 2 ^ 64
  pub some : 0 < b.scanned
  pub part : HitsAreScanned b

-- each brick has a greater code than all before it
abbrev pub AreAscending : List Brick → Type 0
AreAscending bricks = AllPairs (λ a b. a.code < b.code) bricks
