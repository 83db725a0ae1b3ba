-- Points of a sensor's frame, placed in that of the map.
use Rattle.std.specs.Prelude.{List, map, Result, Ok, Err, if◌then◌else◌}
use Rattle.oct_pose.specs.Posed.{moved, posed}
use Rattle.oct_pose.specs.Rotation.{rotated}
use Rattle.oct_pose.specs.declared.pose.Pose.{Pose}
use Rattle.octofix.specs.Points.{point_of, point_told}
use Rattle.octofix.specs.Sightings.{and_then, is_zero, origin_from, points_from}
use Rattle.octofix.specs.declared.refusal.Refusal.{Refusal}
use Rattle.octofix.specs.declared.refusal.Refusal.TheVariants as refusal
use Rattle.octofix.specs.declared.types.PointNm.{PointNm}
use Rattle.octofix.specs.declared.types.PoseNm.{PoseNm}

-- where a pose takes a point
abbrev pub placed_by : Pose → PointNm → PointNm
placed_by pose p = point_told (posed pose (point_of p))

-- where what C passes as a pose takes a point: turned by the quaternion, and moved
abbrev pub place_by : PoseNm → PointNm → PointNm
place_by pose p =
    point_told (moved (point_of pose.at)
    (rotated (record { w = pose.w; x = pose.x; y = pose.y; z = pose.z }) (point_of p)))

-- where it takes these points, or the first reason to refuse them: the place of the sensor, a
-- point, the quaternion
abbrev pub places_by : PoseNm → List PointNm → Result (List PointNm) Refusal
places_by pose points =
    and_then (origin_from (point_of pose.at)) (λ origin.
    and_then (points_from points) (λ seen.
    if is_zero pose then Err refusal.ZeroQuaternion else Ok (map (place_by pose) points)))
