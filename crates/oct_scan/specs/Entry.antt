-- Where the walk along a beam comes to a box.
use Rattle.std.specs.Prelude.{◌≡◌, ◌≢◌, ℕ, ◌+◌, ◌-◌, ◌*◌, ◌/◌, min, max, List, ◌∷◌, Contains}
use Rattle.std.specs.Prelude.{Some}
use Rattle.std.specs.Int.{abs_diff}
use Rattle.oct_key.specs.Voxel.{Voxel, IsInMap}
use Rattle.oct_key.specs.Boxes.{Window, IsInBox}
use Rattle.oct_key.specs.Morton.{morton_of}
use Rattle.oct_scan.specs.Gathered.{EndsAt, GoesTo, IsSpanned, kept}

-- a list of voxels goes on from one voxel to another, where it ends
pub record IsWay (start end : Voxel) (ks : List Voxel) : Type 0 where
  pub ends : EndsAt end ks
  pub between : (k : Voxel) → Contains ks k → IsSpanned start end k
  pub onward : GoesTo end ks

-- a list is that of a way but for voxels outside a box
pub record IsWalkTo (box : Window) (start end : Voxel) (way walk : List Voxel) : Type 0 where
  pub is_way : IsWay start end walk
  pub same : kept (Some box) walk ≡ kept (Some box) way

-- no voxel of a box lies between one and the first of a list
pub record IsBefore (box : Window) (start : Voxel) (ks : List Voxel) : Type 0 where
  pub first : Voxel
  pub rest : List Voxel
  pub begun : ks ≡ first ∷ rest
  pub apart : (k : Voxel) → IsSpanned start first k → IsInBox box.lo box.hi k → ⊥

-- the first voxel of a walk that lies in a box has this code, isn't the end, and the rest of the
-- walk comes after it
pub record HasComeIn (box : Window) (end : Voxel) (walk : List Voxel) (code : ℕ)
    (rest : List Voxel) : Type 0 where
  pub first : Voxel
  pub on_map : IsInMap first
  pub coded : code ≡ morton_of first
  pub inside : IsInBox box.lo box.hi first
  pub other : first ≢ end
  pub same : kept (Some box) walk ≡ first ∷ kept (Some box) rest
  pub is_way : IsWay first end rest

-- no voxel of a list but the end lies in a box
abbrev pub StaysOut : Window → Voxel → List Voxel → Type 0
StaysOut box end ks = (k : Voxel) → Contains (kept (Some box) ks) k → k ≡ end

-- the part of a beam, in 65536ths, at whose end it has at least one crossing to go to the numbers
-- from lo to hi
abbrev pub part_on_axis : ℕ → ℕ → ℕ → ℕ → ℕ
part_on_axis lo hi start end =
    min ((max (lo - start) (start - hi) - 1) * 65536 / (abs_diff start end + 1)) 65535
