-- A posed point is the nearest one to where Hamilton's product takes the point.
use Rattle.std.proofs.Common.{◌≡◌, ℤ, ◌+ℤ◌, ◌-ℤ◌, arith}
use Rattle.std.proofs.lemmas.Int.{ints}
use Rattle.oct_key.specs.declared.point.Point.{Point}
use Rattle.oct_num.specs.Rounding.{half_up}
use Rattle.oct_num.proofs.Nearest.{IsNearest-half_up}
use Rattle.oct_pose.specs.declared.pose.Pose.{Pose}
use Rattle.oct_pose.specs.Rotation.{norm, x_row, y_row, z_row, weighted}
use Rattle.oct_pose.specs.Posed.{quaternion_of, posed, IsNearestTo}
use Rattle.oct_pose.proofs.Hamilton.{turned_by_rows}
use Rattle.oct_pose.proofs.Turns.{norm_positive}

-- what was added
back : (a b : ℤ) → ((a +ℤ b) -ℤ a) ≡ b
back a b = omega (arith, ints)

pub IsNearestTo-posed : (pose : Pose) (p : Point) → IsNearestTo pose p (posed pose p)
IsNearestTo-posed pose p =
    let q = quaternion_of pose in
    let positive = norm_positive q pose.turns in
    let rows = turned_by_rows q p in
    record {
      x =
          rw (rows.x, back pose.t.x (half_up (weighted (x_row q) p) (norm q)))
          (IsNearest-half_up _ _ positive);
      y =
          rw (rows.y, back pose.t.y (half_up (weighted (y_row q) p) (norm q)))
          (IsNearest-half_up _ _ positive);
      z =
          rw (rows.z, back pose.t.z (half_up (weighted (z_row q) p) (norm q)))
          (IsNearest-half_up _ _ positive);
    }
