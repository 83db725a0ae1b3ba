-- Points that are answered in another order than they stand in.
use Rattle.std.specs.Prelude.{◌≡◌, ◌⊎◌, ℕ, ◌/◌, ◌%◌, ◌^◌, ◌<◌, ◌≤◌, List, length}
use Rattle.std.specs.Prelude.{slice_index_or, Some, false}
use Rattle.oct_key.specs.Morton.{morton_of}
use Rattle.oct_key.specs.Voxel.{Voxel, IsInMap, key_at}
use Rattle.oct_map.specs.Map.{Map}
use Rattle.octofix.specs.Points.{point_of}
use Rattle.octofix.specs.declared.types.PointNm.{PointNm}

-- the map answers at this depth
abbrev pub HasAnswers : ℕ → Map → Type 0
HasAnswers depth m = (depth ≤ 16) × ((m.is_stale ≡ false) ⊎ (16 ≤ depth))

-- a key has the place of a point in its lowest 16 bits, and above them the code of the voxel that
-- holds the point
pub record IsKeyOf (edge : ℕ) (points : List PointNm) (key : ℕ) : Type 0 where
  pub within : key % 2 ^ 16 < length points
  pub voxel : Voxel
  pub in_map : IsInMap voxel
  pub holds : (p : PointNm)
      → key_at edge (point_of (slice_index_or points (key % 2 ^ 16) p)) ≡ Some voxel
  pub coded : morton_of voxel ≡ key / 2 ^ 16
  pub below : key / 2 ^ 16 < 2 ^ 48

-- a key, from an index on, has the place of a point
abbrev pub HasKeyFrom : List ℕ → ℕ → ℕ → Type 0
HasKeyFrom keys from place = (k : ℕ) × (from ≤ k) × (k < length keys)
    × (slice_index_or keys k 0 % 2 ^ 16 ≡ place)

-- of the first points each has its answer in a buffer, or a key from an index on
abbrev pub AreToldOrKeyed : {X A : Type 0} → (X → A) → List X → List ℕ → ℕ → ℕ → List A → Type 0
AreToldOrKeyed {X} {A} told points keys from count answers =
    (i : ℕ) (d : A) (p : X) → i < count
    → (slice_index_or answers i d ≡ told (slice_index_or points i p)) ⊎ HasKeyFrom keys from i
