-- What a scan does to the map, as bricks and as lists of voxels.
use Rattle.std.specs.Prelude.{◌≡◌, ◌≢◌, ℕ, ◌↔◌, List, length, map, All, Contains, Option, Some}
use Rattle.std.specs.List.Sorted.{IsStrictlyIncreasing}
use Rattle.oct_key.specs.Voxel.{Voxel, IsInMap}
use Rattle.oct_key.specs.Boxes.{Window, IsInWindow}
use Rattle.oct_odds.specs.declared.event.Event.{Event}
use Rattle.oct_values.specs.Events.{IsAscending, scan_events}
use Rattle.oct_values.specs.Needs.{event_need}
use Rattle.oct_brick.specs.declared.brick.Brick.{Brick}
use Rattle.oct_brick.specs.Bricks.{IsBrick, AreAscending}
use Rattle.oct_brick.specs.Voxels.{coded_voxel, hit_voxels, freed_voxels}
use Rattle.oct_scan.specs.declared.fault.ScanFault.{ScanFault}
use Rattle.oct_scan.specs.declared.fault.ScanFault.TheVariants.{Memory}
use Rattle.oct_scan.specs.Beam.{Sighting, origin_of, beams_of}
use Rattle.oct_scan.specs.Scanned.{IsHit, IsFreed, IsNeed}
use Rattle.oct_scan.specs.Answer.{IsInside, MeetAtMost, IsRefusedFor}
use Rattle.oct_scan.specs.Outcome.{scan_outcome, hit_count, free_count, scan_fault}
use Rattle.oct_scan.specs.Codes.{difference, block_count}

-- the voxels that are hit and those that are freed, and how many blocks hold them
pub record UpdateSet : Type 0 where
  pub hits : List Voxel
  pub frees : List Voxel
  pub need : ℕ

-- the bricks that a scan changes, how many of their voxels are hit and freed, and how many blocks
-- hold them
pub record UpdateBricks : Type 0 where
  pub bricks : List Brick
  pub hit_count : ℕ
  pub free_count : ℕ
  pub need : ℕ

-- the same as lists of voxels
abbrev pub listed : UpdateBricks → UpdateSet
listed u = record { hits = hit_voxels u.bricks; frees = freed_voxels u.bricks; need = u.need }

-- an update is made of bricks of the map in the order of their codes, and as many of their voxels
-- are hit and freed as it says
pub record IsMadeOfBricks (u : UpdateBricks) : Type 0 where
  pub bricks : All IsBrick u.bricks
  pub ascend : AreAscending u.bricks
  pub hits_counted : u.hit_count ≡ length (hit_voxels u.bricks)
  pub frees_counted : u.free_count ≡ length (freed_voxels u.bricks)

-- an update is what the scan does in the box, where one stands, voxel by voxel
pub record IsUpdateOf (edge : ℕ) (window : Option Window) (scan : Sighting) (u : UpdateSet)
    : Type 0 where
  pub hits : (k : Voxel) → Contains u.hits k ↔ (IsInWindow window k × IsHit edge scan k)
  pub frees : (k : Voxel) → Contains u.frees k ↔ (IsInWindow window k × IsFreed edge scan k)
  pub hits_ascend : IsAscending u.hits
  pub frees_ascend : IsAscending u.frees
  pub need : IsNeed edge window scan u.need

-- an update is that of the functions of the scan's numbers
pub record IsOutcomeOf (edge : ℕ) (window : Option Window) (scan : Sighting) (u : UpdateSet)
    : Type 0 where
  pub events : (hit miss : Event) (k : Voxel) → IsInMap k
      → scan_events u.hits hit u.frees miss k ≡ scan_outcome edge window hit miss scan k
  pub hits_counted : length u.hits ≡ hit_count edge window scan
  pub frees_counted : length u.frees ≡ free_count edge window scan
  pub needed : (hit miss : Event) → u.need ≡ event_need (scan_outcome edge window hit miss scan)

-- a scan and its beams lie in the map, and the beams meet no more voxels than this
pub record IsWithinLimit (edge : ℕ) (scan : Sighting) (most : ℕ) : Type 0 where
  pub inside : IsInside edge scan
  pub within : MeetAtMost edge (origin_of scan) (beams_of scan) most

-- a scan is refused for this, in words and as a function of its numbers, or memory ran out
pub record IsRefusal (edge : ℕ) (scan : Sighting) (most : ℕ) (fault : ScanFault) : Type 0 where
  pub refused : IsRefusedFor edge scan most fault
  pub exact : fault ≢ Memory → scan_fault edge scan most ≡ Some fault

-- working word: the update of these codes: its hits and frees ascend by their codes, each once, a
-- code that is scanned and not hit is freed, and the need counts the blocks of the scanned codes
pub record IsSettled (scanned hits : List ℕ) (u : UpdateSet) : Type 0 where
  pub codes : List ℕ
  pub hit_codes : List ℕ
  pub same_codes : (code : ℕ) → Contains scanned code ↔ Contains codes code
  pub same_hits : (code : ℕ) → Contains hits code ↔ Contains hit_codes code
  pub codes_rise : IsStrictlyIncreasing codes
  pub hits_rise : IsStrictlyIncreasing hit_codes
  pub hits_are : u.hits ≡ map coded_voxel hit_codes
  pub frees_are : u.frees ≡ map coded_voxel (difference codes hit_codes)
  pub need_is : u.need ≡ block_count codes
