-- Where a pose takes a point.
use Rattle.std.specs.Prelude.{◌+ℤ◌, ◌-ℤ◌}
use Rattle.oct_key.specs.declared.point.Point.{Point}
use Rattle.oct_num.specs.Rounding.{IsNearest}
use Rattle.oct_pose.specs.declared.pose.Pose.{Pose}
use Rattle.oct_pose.specs.declared.rotation.Quaternion.{Quaternion}
use Rattle.oct_pose.specs.Hamilton.{turned}
use Rattle.oct_pose.specs.Rotation.{norm, rotated}

-- the quaternion of a pose
abbrev pub quaternion_of : Pose → Quaternion
quaternion_of pose = record { w = pose.w; x = pose.x; y = pose.y; z = pose.z }

-- a point moved by a translation
abbrev pub moved : Point → Point → Point
moved t p = record { x = t.x +ℤ p.x; y = t.y +ℤ p.y; z = t.z +ℤ p.z }

-- the point that a pose takes a point to: turned by the quaternion, then moved by the translation
abbrev pub posed : Pose → Point → Point
posed pose p = moved pose.t (rotated (quaternion_of pose) p)

-- on each axis this point lies from the translation the whole number that is nearest to q p q* over
-- the square of q's length
pub record IsNearestTo (pose : Pose) (p r : Point) : Type 0 where
  pub x : IsNearest (turned (quaternion_of pose) p).x (norm (quaternion_of pose)) (r.x -ℤ pose.t.x)
  pub y : IsNearest (turned (quaternion_of pose) p).y (norm (quaternion_of pose)) (r.y -ℤ pose.t.y)
  pub z : IsNearest (turned (quaternion_of pose) p).z (norm (quaternion_of pose)) (r.z -ℤ pose.t.z)
