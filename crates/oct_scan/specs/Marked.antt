-- What was marked of a walk.
use Rattle.std.specs.Prelude.{◌≡◌, ◌≢◌, ℕ, ◌↔◌, ◌⊎◌, List, [], ◌++◌, map, length, All, Contains}
use Rattle.oct_key.specs.Voxel.{Voxel, IsInMap}
use Rattle.oct_key.specs.Morton.{morton_of}
use Rattle.oct_ray.specs.Given.{HasGiven}
use Rattle.oct_brick.specs.declared.brick.Brick.{Brick}
use Rattle.oct_brick.specs.Bricks.{scanned_codes, hit_codes, IsBrick}
use Rattle.oct_scan.specs.Gathered.{IsCurrent}
use Rattle.oct_scan.specs.Piled.{filled}

-- the voxels of a walk before this rest of it were added to the bricks, and none of them as hit
pub record AreMarked (walk rest : List Voxel) (old new : List Brick) : Type 0 where
  pub front : List Voxel
  pub parted : walk ≡ front ++ rest
  pub some : walk ≢ [] → rest ≢ []
  pub on_map : All IsInMap front
  pub scanned : (c : ℕ) → Contains (scanned_codes new) c
      ↔ (Contains (scanned_codes old) c ⊎ Contains (map morton_of front) c)
  pub hits : (c : ℕ) → Contains (hit_codes new) c ↔ Contains (hit_codes old) c
  pub bricks : All IsBrick new

-- the same of those before a voxel of this code, which the walk has given and wasn't added
pub record AreMarkedTo (code : ℕ) (walk rest : List Voxel) (old new : List Brick) : Type 0 where
  pub left : List Voxel
  pub marked : AreMarked walk left old new
  pub given : HasGiven left rest code
  pub more : rest ≢ []

-- the bricks of a pile, and those of a table beside it
abbrev pub with_table : List Brick → List Brick → List Brick
with_table pile places = pile ++ filled places

-- a table has changed so, whatever pile stands beside it
abbrev pub BesidePiles : (List Brick → List Brick → Type 0) → List Brick → List Brick → Type 0
BesidePiles P places places' = (pile : List Brick) → All IsBrick (with_table pile places)
    → P (with_table pile places) (with_table pile places')

-- the places of a table: one for each brick of a block of 64 by 64 by 32 of them
pub record IsTable (places : List Brick) : Type 0 where
  pub full : length places ≡ 131072
  pub current : All IsCurrent places
