-- What a walk gives, and where it ends, as codes.
use Rattle.std.specs.Prelude.{◌≡◌, ◌≢◌, ℕ, ◌-◌, List, [], ◌∷◌, ◌++◌, length, slice_get, Some}
use Rattle.oct_key.specs.Voxel.{Voxel, IsInMap}
use Rattle.oct_key.specs.Morton.{morton_of}

-- the first voxel of the old list is taken off, and this is its code
pub record HasGiven (old new : List Voxel) (code : ℕ) : Type 0 where
  pub voxel : Voxel
  pub on_map : IsInMap voxel
  pub first : old ≡ voxel ∷ new
  pub coded : code ≡ morton_of voxel

-- the last voxel of the list has this code
pub record HasLast (ks : List Voxel) (code : ℕ) : Type 0 where
  pub voxel : Voxel
  pub on_map : IsInMap voxel
  pub last : slice_get ks (length ks - 1) ≡ Some voxel
  pub coded : code ≡ morton_of voxel

-- the next voxel of the list has this code
abbrev pub HasNext : List Voxel → ℕ → Type 0
HasNext ks code = (rest : List Voxel) × HasGiven ks rest code

-- the one list is what is left of the other, at least its last voxel
pub record IsRestOf (all rest : List Voxel) : Type 0 where
  pub before : List Voxel
  pub parted : all ≡ before ++ rest
  pub some : rest ≢ []
