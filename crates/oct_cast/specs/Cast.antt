-- What a cast along a segment finds.
use Rattle.std.specs.Prelude.{◌≡◌, ◌≢◌, ℕ, Bool, true, false, not, IsTrue, List, Option, Some, None}
use Rattle.std.specs.List.{find}
use Rattle.oct_key.specs.Voxel.{Voxel}
use Rattle.oct_key.specs.declared.point.Point.{Point}
use Rattle.oct_odds.specs.declared.event.Class.{Class}
use Rattle.oct_odds.specs.declared.event.Class.TheVariants as class
use Rattle.oct_values.specs.Classes.{Classes}
use Rattle.oct_ray.specs.Segment.{Meets, Precedes}
use Rattle.oct_ray.specs.Met.{met_by}
use Rattle.oct_cast.specs.declared.outcome.Cast.{Cast}
use Rattle.oct_cast.specs.declared.outcome.Cast.TheVariants.{Hit, Unknown, Clear}

-- whether a voxel of this class stops a cast: an occupied one does, and an unknown one where these
-- aren't ignored
abbrev pub stops : Bool → Class → Bool
stops ignore class.Occupied = true
stops ignore class.Unknown = not ignore
stops ignore class.Free = false

-- what a cast answers where a voxel of this class stops it
abbrev pub stopped_at : Class → Voxel → Cast
stopped_at class.Occupied k = Hit k
stopped_at class.Unknown k = Unknown k
stopped_at class.Free k = Clear

-- what a cast answers that the voxel stops, or that none stops
abbrev pub answer_for : Classes → Option Voxel → Cast
answer_for classes None = Clear
answer_for classes (Some k) = stopped_at (classes k) k

-- what a cast answers that meets these voxels, in this order
abbrev pub cast_through : Bool → Classes → List Voxel → Cast
cast_through ignore classes voxels =
    answer_for classes (find (λ k. stops ignore (classes k)) voxels)

-- what a cast along the segment from o to e answers, with voxels of this edge
abbrev pub cast_along : ℕ → Point → Point → Bool → Classes → Cast
cast_along edge o e ignore classes = cast_through ignore classes (met_by edge o e)

-- the segment meets the voxel, and its class stops the cast
pub record Stops (edge : ℕ) (o e : Point) (ignore : Bool) (classes : Classes) (k : Voxel) : Type 0
  where
    pub met : Meets edge o e k
    pub class : IsTrue (stops ignore (classes k))

-- the voxel stops the cast, and it precedes all others that do
pub record StopsFirst (edge : ℕ) (o e : Point) (ignore : Bool) (classes : Classes) (k : Voxel)
    : Type 0 where
  pub stops : Stops edge o e ignore classes k
  pub first : (l : Voxel) → Stops edge o e ignore classes l → l ≢ k → Precedes edge o e k l

-- the answer is right: it names the voxel that stops the cast first, with its class, and is clear
-- only where none stops it
abbrev pub IsRight : ℕ → Point → Point → Bool → Classes → Cast → Type 0
IsRight edge o e ignore classes (Hit k) =
    StopsFirst edge o e ignore classes k × (classes k ≡ class.Occupied)
IsRight edge o e ignore classes (Unknown k) =
    StopsFirst edge o e ignore classes k × (classes k ≡ class.Unknown)
IsRight edge o e ignore classes Clear = (k : Voxel) → Stops edge o e ignore classes k → ⊥
