-- What scans do.
use Rattle.std.specs.Prelude.{◌≡◌, ◌+◌, ◌^◌, ◌⊎◌, Bool, IsTrue, pos, ◌≤ℤ◌, ◌<ℤ◌, IsSome, IfSome}
use Rattle.std.specs.Prelude.{All, map}
use Rattle.oct_key.specs.declared.point.Point.{Point}
use Rattle.std.specs.Prelude.{List, [], Result, Ok, Err, OnOk, IfErr}
use Rattle.oct_edit.specs.Edits.{IsTidyAlong}
use Rattle.oct_key.specs.Voxel.{Voxel, IsInMap}
use Rattle.oct_map.specs.Answers.{scan_answer, IsAnswerOrMemory}
use Rattle.oct_map.specs.Edits.{IsMapEdited, IsMapRefused, ReservesFew, outcome_in, scan_need}
use Rattle.oct_map.specs.Map.{Map, IsMap, ground_of, values_of}
use Rattle.oct_map.specs.Marks.{KeepsMark}
use Rattle.oct_map.specs.Memory.{HasRunOut}
use Rattle.oct_map.specs.Notes.{NotesFew}
use Rattle.oct_map.specs.declared.done.ScanDone.{ScanDone}
use Rattle.oct_map.specs.declared.fault.MapFault.{MapFault}
use Rattle.oct_map.specs.declared.fault.MapFault.TheVariants as fault
use Rattle.oct_pose.specs.Reach.{IsInReach}
use Rattle.oct_scan.specs.Beam.{IsTrust, Sighting, sighting_of}
use Rattle.oct_scan.specs.Outcome.{free_count, hit_count, scan_fault, TakesMemory}
use Rattle.oct_scan.specs.declared.scan.Scan.{Scan}
use Rattle.octofix.specs.Codes.{of_map}
use Rattle.octofix.specs.InMap.{standing, way_from}
use Rattle.octofix.specs.Points.{point_of}
use Rattle.octofix.specs.Sightings.{and_then, origin_from, points_from, sighting_from}
use Rattle.octofix.specs.declared.refusal.Refusal.{Refusal}
use Rattle.octofix.specs.declared.refusal.Refusal.TheVariants as refusal
use Rattle.octofix.specs.declared.types.Counted.{Counted}
use Rattle.octofix.specs.declared.types.PointNm.{PointNm}
use Rattle.octofix.specs.declared.types.PoseNm.{PoseNm}
use Rattle.octofix.specs.declared.types.ScanOptions.{ScanOptions}

-- its points are in reach, its range isn't too long, and its own log-odds may stand in a scan
pub record IsDoable (scan : Scan) : Type 0 where
  pub points : All IsInReach scan.points
  pub range : IfSome scan.range (λ r. (pos 0 ≤ℤ r) × (r <ℤ pos (10 ^ 16)))
  pub odds : IfSome scan.odds IsTrust

-- This was read of what C passes: what was seen, or why it is refused. Memory runs out only where
-- there is a point.
abbrev pub IsRead : Result Sighting Refusal → List PointNm → Result Scan Refusal → Type 0
IsRead seen points (Ok scan) = (seen ≡ Ok (sighting_of scan)) × IsDoable scan
IsRead seen points (Err refused) =
    (seen ≡ Err refused)
    ⊎ ((refused ≡ refusal.Map fault.Memory) × (points ≡ [] → ⊥)
    × (scan : Sighting) × (seen ≡ Ok scan))

-- what a scan makes of a map: all that the map says of it
pub record IsMapScan (s : Sighting) (lazy : Bool) (m n : Map) (done : Result ScanDone MapFault)
    : Type 0 where
  pub answer : IsAnswerOrMemory (scan_answer (ground_of m) (values_of m) s) done
  pub memory : done ≡ Err fault.Memory → TakesMemory m.tree.res s m.max_cells
  pub room : done ≡ Err fault.Memory → HasRunOut m n s
  pub edited : OnOk done (IsMapEdited m n (outcome_in m s) (scan_need m s) lazy)
  pub refused : IfErr done (λ fault. IsMapRefused m n fault (scan_need m s))
  pub reserved : ReservesFew m n (scan_need m s)
  pub faulty : IsSome (scan_fault m.tree.res s m.max_cells) → n ≡ m
  pub path : (IsTrue lazy → ⊥) → (k : Voxel) → IsInMap k → IsSome (outcome_in m s k)
      → OnOk done (IsTidyAlong n.tree k)
  pub mark : KeepsMark m n
  pub noted : NotesFew m.mark n.mark (outcome_in m s)
      (hit_count m.tree.res m.update_box s + free_count m.tree.res m.update_box s)
  pub ground : ground_of n ≡ ground_of m
  pub map : IsMap n

-- how many voxels were hit and freed, as C reads it
abbrev pub counted_told : Result ScanDone Refusal → Result Counted Refusal
counted_told (Ok done) = Ok (record { hits = done.hits; frees = done.frees })
counted_told (Err refused) = Err refused

-- a scan as C passes it, by what was seen: it is refused before the map is looked at, or there is
-- no memory for its points, or it is done
abbrev pub IsScanOf : Result Sighting Refusal → List PointNm → Bool → Map → Map
    → Result Counted Refusal → Type 0
IsScanOf (Err refused) points lazy m n answer = (answer ≡ Err refused) × (n ≡ m)
IsScanOf (Ok s) points lazy m n answer =
    ((answer ≡ Err (refusal.Map fault.Memory)) × (points ≡ [] → ⊥) × (n ≡ m))
    ⊎ ((done : Result ScanDone MapFault) × IsMapScan s lazy m n done
    × (answer ≡ counted_told (of_map done)))

-- the same by what C passes
abbrev pub IsScan : PoseNm → List PointNm → ScanOptions → Map → Map → Result Counted Refusal
    → Type 0
IsScan pose points options =
    IsScanOf (sighting_from pose points options) points options.lazy

-- the points of a scan in the frame of the map, or the first reason to refuse them: the place of
-- the sensor, or a point
abbrev pub seen_in_map : PointNm → List PointNm → Result (List Point) Refusal
seen_in_map origin points = and_then (origin_from (point_of origin)) (λ place. points_from points)

-- a scan of points in the frame of the map, by these: it is refused, or there is no memory for the
-- ways to them, or it is that of a sensor at the origin, which isn't turned, and these ways
abbrev pub IsScanByWays : Result (List Point) Refusal → PointNm → List PointNm → ScanOptions → Map
    → Map → Result Counted Refusal → Type 0
IsScanByWays (Err refused) origin points options m n answer = (answer ≡ Err refused) × (n ≡ m)
IsScanByWays (Ok seen) origin points options m n answer =
    ((answer ≡ Err (refusal.Map fault.Memory)) × (points ≡ [] → ⊥) × (n ≡ m))
    ⊎ IsScan (standing origin) (map (way_from origin) points) options m n answer

-- the same by what C passes
abbrev pub IsScanInMap : PointNm → List PointNm → ScanOptions → Map → Map
    → Result Counted Refusal → Type 0
IsScanInMap origin points options =
    IsScanByWays (seen_in_map origin points) origin points options
