-- How bricks are joined, one after another.
use Rattle.std.specs.Prelude.{◌≡◌, ◌≢◌, ◌⊎◌, ◌↔◌, ℕ, ◌-◌, ◌<◌, List, [], ◌∷◌, ◌++◌}
use Rattle.std.specs.Prelude.{length, slice_index_or, slice_set}
use Rattle.oct_brick.specs.declared.brick.Brick.{Brick}
use Rattle.oct_brick.specs.Masks.{HasCode}
use Rattle.oct_brick.specs.Bricks.{IsBrick}

-- the code of a brick
abbrev pub IsCodeOf : Brick → ℕ → Type 0
IsCodeOf b code = b.code ≡ code

-- a brick has the voxels of two others of its code
pub record IsJoined (last b j : Brick) : Type 0 where
  pub code : j.code ≡ b.code
  pub scanned : (c : ℕ)
      → HasCode j.code j.scanned c ↔ (HasCode last.code last.scanned c ⊎ HasCode b.code b.scanned c)
  pub hits : (c : ℕ)
      → HasCode j.code j.hits c ↔ (HasCode last.code last.hits c ⊎ HasCode b.code b.hits c)
  pub brick : IsBrick last → IsBrick b → IsBrick j

-- a list goes on by a brick of another code than that of its last one
pub record HasPushed (b : Brick) (old new : List Brick) : Type 0 where
  pub other : (d : Brick)
      → 0 < length old → (slice_index_or old (length old - 1) d).code ≢ b.code
  pub is : new ≡ old ++ b ∷ []

-- its last one, which has the code, takes up the brick's voxels
pub record HasJoined (b : Brick) (old new : List Brick) : Type 0 where
  pub last : Brick
  pub joined : Brick
  pub some : 0 < length old
  pub is_last : last ≡ slice_index_or old (length old - 1) last
  pub same : last.code ≡ b.code
  pub both : IsJoined last b joined
  pub is : new ≡ slice_set old (length old - 1) joined

-- a brick is added to a list, by either
abbrev pub HasAdded : Brick → List Brick → List Brick → Type 0
HasAdded b old new = HasPushed b old new ⊎ HasJoined b old new
