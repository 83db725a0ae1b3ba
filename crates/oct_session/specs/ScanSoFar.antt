-- What has been read of a scan.
use Rattle.std.specs.Prelude.{ℕ, List, [], All, IfSome, option_map}
use Rattle.oct_key.specs.declared.point.Point.{Point}
use Rattle.oct_pose.specs.Reach.{IsInReach}
use Rattle.oct_scan.specs.Beam.{Sighting}
use Rattle.oct_scan.specs.declared.scan.ScanOdds as scan
use Rattle.oct_script.specs.Commands.{IsRange, IsOwnOdds}
use Rattle.oct_script.specs.declared.command.ScanOdds as script
use Rattle.oct_script.specs.declared.command.ScanHead.{ScanHead}

-- a scan that is being read: the number of its head's line, what the head says, and the points so
-- far
pub record ScanSoFar : Type 0 where
  pub line : ℕ
  pub head : ScanHead
  pub points : List Point

-- a scan of which the head was read
abbrev pub begun : ℕ → ScanHead → ScanSoFar
begun line head = record { line = line; head = head; points = [] }

-- its numbers are those of a line: points in reach, a range that isn't below 0, and log-odds that a
-- scan may have of its own
pub record IsReadable (scan : ScanSoFar) : Type 0 where
  pub place : IsInReach scan.head.t
  pub range : IsRange scan.head.range
  pub odds : IfSome scan.head.odds IsOwnOdds
  pub points : All IsInReach scan.points

-- the log-odds of a head, as a scan has them
abbrev pub trust_of : script.ScanOdds → scan.ScanOdds
trust_of own = record { hit = own.hit; miss = own.miss }

-- what the sensor saw, where these are all the points
abbrev pub sighting_so_far : ScanSoFar → Sighting
sighting_so_far scan = record {
  origin = scan.head.t;
  w = scan.head.w;
  x = scan.head.x;
  y = scan.head.y;
  z = scan.head.z;
  points = scan.points;
  range = scan.head.range;
  odds = option_map trust_of scan.head.odds;
}
