-- What C passes as a pose, read before points are placed by it.
use Rattle.std.proofs.Common.{◌≡◌, ℤ, List, map, true, false, refl, sym, ap, ◌∙◌, Ok, Err, IfErr}
use Rattle.std.specs.Prelude.{Result, IsErrAnd, if◌then◌else◌}
use Rattle.oct_key.specs.declared.point.Point.{Point}
use Rattle.oct_pose.specs.Posed.{moved}
use Rattle.oct_pose.specs.Rotation.{rotated}
use Rattle.oct_pose.specs.declared.pose.Pose.{Pose}
use Rattle.octofix.specs.Places.{place_by, placed_by, places_by}
use Rattle.octofix.specs.Points.{point_of, point_told}
use Rattle.octofix.specs.Sightings.{is_in_reach, is_zero, points_from}
use Rattle.octofix.specs.declared.refusal.Refusal.{Refusal}
use Rattle.octofix.specs.declared.refusal.Refusal.TheVariants.{ZeroQuaternion}
use Rattle.octofix.specs.declared.types.PointNm.{PointNm}
use Rattle.octofix.specs.declared.types.PoseNm.{PoseNm}

-- the place of the sensor and the points are read
places_begun : (pose : PoseNm) (points : List PointNm) → is_in_reach (point_of pose.at) ≡ true
    → points_from points ≡ Ok (map point_of points)
    → places_by pose points
    ≡ (if is_zero pose then Err ZeroQuaternion else Ok (map (place_by pose) points))
places_begun pose points near all = rw near (rw all refl)

-- then a quaternion that is 0
pub places_zero : (pose : PoseNm) (points : List PointNm) → is_in_reach (point_of pose.at) ≡ true
    → points_from points ≡ Ok (map point_of points) → is_zero pose ≡ true
    → places_by pose points ≡ Err ZeroQuaternion
places_zero pose points near all zero = places_begun pose points near all ∙ rw zero refl

-- a point that is turned and moved by these numbers
abbrev placing : Point → ℤ → ℤ → ℤ → ℤ → PointNm → PointNm
placing t w x y z p =
    point_told (moved t (rotated (record { w = w; x = x; y = y; z = z }) (point_of p)))

-- or all is read
pub places_done : (pose : PoseNm) (by : Pose) (points : List PointNm)
    → is_in_reach (point_of pose.at) ≡ true → points_from points ≡ Ok (map point_of points)
    → is_zero pose ≡ false → by.t ≡ point_of pose.at → by.w ≡ pose.w → by.x ≡ pose.x
    → by.y ≡ pose.y → by.z ≡ pose.z → places_by pose points ≡ Ok (map (placed_by by) points)
places_done pose by points near all turns at w x y z =
    let places : map (place_by pose) points ≡ map (placed_by by) points =
    ap (λ (n : Point). map (placing n pose.w pose.x pose.y pose.z) points) (sym at)
    ∙ ap (λ (n : ℤ). map (placing by.t n pose.x pose.y pose.z) points) (sym w)
    ∙ ap (λ (n : ℤ). map (placing by.t by.w n pose.y pose.z) points) (sym x)
    ∙ ap (λ (n : ℤ). map (placing by.t by.w by.x n pose.z) points) (sym y)
    ∙ ap (λ (n : ℤ). map (placing by.t by.w by.x by.y n) points) (sym z) in
    places_begun pose points near all ∙ rw turns (ap Ok places)

-- it is refused for this reason
pub places_refused : (answer : Result (List PointNm) Refusal) (result : Result Pose Refusal)
    (why : Refusal) → IsErrAnd result (λ e. e ≡ why) → answer ≡ Err why
    → IfErr result (λ refusal. answer ≡ Err refusal)
places_refused answer (Ok by) why is at = absurd is
places_refused answer (Err refusal) why is at = at ∙ ap Err (sym is)
