-- What a sensor saw, as C passes it.
use Rattle.std.specs.Prelude.{ℕ, suc, ◌^◌, ℤ, pos, neg_ℤ, int_lt, int_le, nat_eq, nat_lt}
use Rattle.std.specs.Prelude.{unsigned_abs}
use Rattle.std.specs.Prelude.{Bool, ◌&&◌, if◌then◌else◌, List, [], ◌∷◌, map, Option, Some, None}
use Rattle.std.specs.Prelude.{Result, Ok, Err}
use Rattle.oct_key.specs.declared.point.Point.{Point}
use Rattle.oct_odds.specs.declared.model.OddsField.TheVariants.{Hit, Miss}
use Rattle.oct_scan.specs.Beam.{Sighting}
use Rattle.oct_scan.specs.declared.scan.ScanOdds.{ScanOdds}
use Rattle.octofix.specs.Points.{point_of}
use Rattle.octofix.specs.declared.refusal.Refusal.{Refusal}
use Rattle.octofix.specs.declared.refusal.Refusal.TheVariants as refusal
use Rattle.octofix.specs.declared.types.PointNm.{PointNm}
use Rattle.octofix.specs.declared.types.PoseNm.{PoseNm}
use Rattle.octofix.specs.declared.types.ScanOptions.{ScanOptions}

-- a coordinate that isn't too far away, or a range that isn't too long
abbrev pub is_near : ℤ → Bool
is_near c = nat_lt (unsigned_abs c) (10 ^ 16)

-- a point none of whose coordinates is too far away
abbrev pub is_in_reach : Point → Bool
is_in_reach p = is_near p.x && (is_near p.y && is_near p.z)

-- the first point from the i-th on that is too far away
abbrev pub first_far : ℕ → List PointNm → Option ℕ
first_far i [] = None
first_far i (p ∷ ps) = if is_in_reach (point_of p) then first_far (suc i) ps else Some i

-- the points, where none is too far away
abbrev pub points_by : Option ℕ → List PointNm → Result (List Point) Refusal
points_by None points = Ok (map point_of points)
points_by (Some index) points = Err (refusal.BadArgument index)

-- the points as C passes them, or the first that is too far away
abbrev pub points_from : List PointNm → Result (List Point) Refusal
points_from points = points_by (first_far 0 points) points

-- the place of the sensor
abbrev pub origin_from : Point → Result Point Refusal
origin_from p = if is_in_reach p then Ok p else Err (refusal.BadArgument 0)

-- a range, or none where it is negative
abbrev pub range_from : ℤ → Result (Option ℤ) Refusal
range_from r =
    if int_lt r (pos 0) then Ok None
    else if is_near r then Ok (Some r) else Err (refusal.BadArgument 0)

-- all four numbers of the quaternion are 0: it stands for no turn
abbrev pub is_zero : PoseNm → Bool
is_zero pose =
    (nat_eq (unsigned_abs pose.w) 0 && nat_eq (unsigned_abs pose.x) 0)
    && (nat_eq (unsigned_abs pose.y) 0 && nat_eq (unsigned_abs pose.z) 0)

-- log-odds of a scan's own, or none where both are 0
abbrev pub trust_from : ℤ → ℤ → Result (Option ScanOdds) Refusal
trust_from hit miss =
    if nat_eq (unsigned_abs hit) 0 && nat_eq (unsigned_abs miss) 0 then Ok None
    else if int_le (pos 1) hit && int_le hit (pos 1000000)
    then (if int_le (neg_ℤ (pos 1000000)) miss && int_le miss (neg_ℤ (pos 1))
    then Ok (Some (record { hit = hit; miss = miss })) else Err (refusal.BadModel Miss))
    else Err (refusal.BadModel Hit)

-- one answer, and what is done with it where it is no refusal
abbrev pub and_then : {X Y : Type 0} → Result X Refusal → (X → Result Y Refusal) → Result Y Refusal
and_then (Ok x) f = f x
and_then (Err refused) f = Err refused

-- what was seen, or the first reason to refuse it: the place of the sensor, a point, the range, the
-- quaternion, the log-odds
abbrev pub sighting_from : PoseNm → List PointNm → ScanOptions → Result Sighting Refusal
sighting_from pose points options =
    and_then (origin_from (point_of pose.at)) (λ origin.
    and_then (points_from points) (λ seen.
    and_then (range_from options.range) (λ range.
    if is_zero pose then Err refusal.ZeroQuaternion
    else and_then (trust_from options.hit options.miss) (λ trust. Ok (record {
      origin = origin;
      w = pose.w;
      x = pose.x;
      y = pose.y;
      z = pose.z;
      points = seen;
      range = range;
      odds = trust;
    })))))
