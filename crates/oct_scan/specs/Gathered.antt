-- Working words for the codes that are gathered along the beams.
use Rattle.std.specs.Prelude.{◌≡◌, ◌≢◌, ℕ, ◌^◌, ◌<◌, ◌≤◌, ◌↔◌, ◌⊎◌, Bool, false, not, ◌||◌}
use Rattle.std.specs.Prelude.{if◌then◌else◌, Option, Some, None, min, max}
use Rattle.std.specs.List.{filter}
use Rattle.std.specs.Prelude.{List, [], ◌∷◌, ◌++◌, map, length, All, AllPairs, Contains}
use Rattle.oct_key.specs.Voxel.{Voxel, IsInMap}
use Rattle.oct_key.specs.Boxes.{Window, IsInBox, IsInWindow, is_in_box, is_in_window}
use Rattle.oct_key.specs.Morton.{morton_of}
use Rattle.oct_key.specs.declared.point.Point.{Point}
use Rattle.oct_ray.specs.Segment.{Meets, IsWalkAlong}
use Rattle.oct_brick.specs.declared.brick.Brick.{Brick}
use Rattle.oct_brick.specs.Masks.{HasCode}
use Rattle.oct_brick.specs.Bricks.{scanned_codes, hit_codes, IsBrick}
use Rattle.oct_scan.specs.declared.beam.Beam.{Beam}
use Rattle.oct_scan.specs.Scanned.{EndsIn}
use Rattle.oct_scan.specs.Answer.{MeetInAll}

-- a code of a voxel in the box that the beam meets, but not that of a cut end
pub record IsMarked (edge : ℕ) (window : Option Window) (o : Point) (code : ℕ)
    (b : Beam) : Type 0 where
  pub voxel : Voxel
  pub coded : code ≡ morton_of voxel
  pub on_map : IsInMap voxel
  pub within : IsInWindow window voxel
  pub met : Meets edge o b.end voxel
  pub whole : EndsIn edge voxel b → b.is_cut ≡ false

-- the code of a voxel that the beam hits
pub record IsEnd (edge : ℕ) (window : Option Window) (code : ℕ) (b : Beam) : Type 0 where
  pub voxel : Voxel
  pub coded : code ≡ morton_of voxel
  pub on_map : IsInMap voxel
  pub within : IsInWindow window voxel
  pub ended : EndsIn edge voxel b
  pub whole : b.is_cut ≡ false

-- some beam of the list is such
abbrev pub SomeBeam : (Beam → Type 0) → List Beam → Type 0
SomeBeam P bs = (b : Beam) × Contains bs b × P b

-- these are the codes that the beams mark, and those that they hit
pub record AreGathered (edge : ℕ) (window : Option Window) (o : Point) (bs : List Beam)
    (scanned hits : List ℕ) : Type 0 where
  pub marks : (code : ℕ) → Contains scanned code ↔ SomeBeam (IsMarked edge window o code) bs
  pub ends : (code : ℕ) → Contains hits code ↔ SomeBeam (IsEnd edge window code) bs
  pub part : (code : ℕ) → Contains hits code → Contains scanned code
  pub on_map : (b : Beam) → Contains bs b → (k : Voxel) → Meets edge o b.end k → IsInMap k

-- a voxel lies in the box that two others span
abbrev pub IsSpanned : Voxel → Voxel → Voxel → Type 0
IsSpanned a b k = IsInBox
    (record { x = min a.x b.x; y = min a.y b.y; z = min a.z b.z })
    (record { x = max a.x b.x; y = max a.y b.y; z = max a.z b.z }) k

-- each voxel of a list lies in the box that any one before it and the end span
abbrev pub GoesTo : Voxel → List Voxel → Type 0
GoesTo end ks = AllPairs (λ k l. IsSpanned k end l) ks

-- a list of voxels ends at this one, which stands nowhere else in it
abbrev pub EndsAt : Voxel → List Voxel → Type 0
EndsAt end [] = ⊥
EndsAt end (k ∷ []) = k ≡ end
EndsAt end (k ∷ l ∷ ks) = (k ≢ end) × EndsAt end (l ∷ ks)

-- the voxels of a list that lie in the box, where one stands
abbrev pub kept : Option Window → List Voxel → List Voxel
kept None ks = ks
kept (Some box) ks = filter (is_in_box box.lo box.hi) ks

-- the voxels of the walk in the box, but that of the end, were added to the bricks, and none of
-- them as hit
pub record IsWayAdded (window : Option Window) (end : ℕ) (walk : List Voxel)
    (old new : List Brick) : Type 0 where
  pub scanned : (code : ℕ) → Contains (scanned_codes new) code ↔
      (Contains (scanned_codes old) code
      ⊎ (Contains (map morton_of (kept window walk)) code × (end ≢ code)))
  pub hits : (code : ℕ) → Contains (hit_codes new) code ↔ Contains (hit_codes old) code
  pub bricks : All IsBrick new

-- whether a beam says nothing of the voxel where it ends: it is cut there, or that voxel lies
-- outside the box
abbrev pub is_mute : Option Window → Beam → Voxel → Bool
is_mute window b end = b.is_cut || not (is_in_window window end)

-- the code of the last voxel, but not where the beam says nothing of it
abbrev pub end_codes : Option Window → Beam → Voxel → List ℕ
end_codes window b end = if is_mute window b end then [] else morton_of end ∷ []

-- bricks change the voxels of the one list of codes, and hit those of the other
pub record HoldCodes (bricks : List Brick) (scanned hits : List ℕ) : Type 0 where
  pub same_scanned : (code : ℕ) → Contains scanned code ↔ Contains (scanned_codes bricks) code
  pub same_hits : (code : ℕ) → Contains hits code ↔ Contains (hit_codes bricks) code

-- bricks change and hit the voxels that the beams mark and hit, of which there are at most this
-- many
pub record HoldGathered (edge : ℕ) (window : Option Window) (o : Point) (bs : List Beam)
    (bricks : List Brick) (most : ℕ) : Type 0 where
  pub scanned : List ℕ
  pub hits : List ℕ
  pub gathered : AreGathered edge window o bs scanned hits
  pub few : length scanned ≤ most
  pub held : HoldCodes bricks scanned hits

-- the same, where all these beams together meet so many voxels
pub record HoldAllGathered (edge : ℕ) (window : Option Window) (o : Point) (bs : List Beam)
    (bricks : List Brick) : Type 0 where
  pub total : ℕ
  pub met : MeetInAll edge o bs total
  pub all : HoldGathered edge window o bs bricks total

-- the voxels in the box that a beam meets, of this many in all, have come to those of bricks
pub record IsBeamHeld (edge : ℕ) (window : Option Window) (o : Point) (b : Beam) (met : ℕ)
    (bricks bricks' : List Brick) : Type 0 where
  pub front : List Voxel
  pub end : Voxel
  pub walk : IsWalkAlong edge o b.end (front ++ end ∷ [])
  pub on_map : All IsInMap (front ++ end ∷ [])
  pub ended : EndsIn edge end b
  pub counted : length (front ++ end ∷ []) ≡ met
  pub marks : (code : ℕ) → Contains (scanned_codes bricks') code ↔
      (Contains (scanned_codes bricks) code
      ⊎ Contains (map morton_of (kept window front) ++ end_codes window b end) code)
  pub ends : (code : ℕ) → Contains (hit_codes bricks') code ↔
      (Contains (hit_codes bricks) code ⊎ Contains (end_codes window b end) code)

-- the code is one of the bricks or of the current one
abbrev pub IsHeld : List Brick → Brick → ℕ → Type 0
IsHeld bricks current code =
    Contains (scanned_codes bricks) code ⊎ HasCode current.code current.scanned code

-- a brick of the map in which no voxel is hit so far
pub record IsCurrent (b : Brick) : Type 0 where
  pub code : b.code < 2 ^ 42
  pub unhit : b.hits ≡ 0

-- those of the current brick and the voxels of the walk in the box, but that of the end, were added
-- to the bricks, and none of them as hit
pub record IsRestAdded (window : Option Window) (end : ℕ) (walk : List Voxel) (current : Brick)
    (old new : List Brick) : Type 0 where
  pub scanned : (code : ℕ) → Contains (scanned_codes new) code ↔
      (IsHeld old current code
      ⊎ (Contains (map morton_of (kept window walk)) code × (end ≢ code)))
  pub hits : (code : ℕ) → Contains (hit_codes new) code ↔ Contains (hit_codes old) code
  pub bricks : All IsBrick new
