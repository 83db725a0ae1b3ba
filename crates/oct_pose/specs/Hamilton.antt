-- Hamilton's product of quaternions, and the rotation of a point by it.
use Rattle.std.specs.Prelude.{pos, neg_ℤ, ◌+ℤ◌, ◌-ℤ◌, ◌*ℤ◌}
use Rattle.oct_key.specs.declared.point.Point.{Point}
use Rattle.oct_pose.specs.declared.rotation.Quaternion.{Quaternion}

-- Hamilton's product
abbrev pub product : Quaternion → Quaternion → Quaternion
product a b = record {
  w = a.w *ℤ b.w -ℤ a.x *ℤ b.x -ℤ a.y *ℤ b.y -ℤ a.z *ℤ b.z;
  x = a.w *ℤ b.x +ℤ a.x *ℤ b.w +ℤ a.y *ℤ b.z -ℤ a.z *ℤ b.y;
  y = a.w *ℤ b.y -ℤ a.x *ℤ b.z +ℤ a.y *ℤ b.w +ℤ a.z *ℤ b.x;
  z = a.w *ℤ b.z +ℤ a.x *ℤ b.y -ℤ a.y *ℤ b.x +ℤ a.z *ℤ b.w;
}

-- the conjugate q* of a quaternion q
abbrev pub conjugate : Quaternion → Quaternion
conjugate q = record { w = q.w; x = neg_ℤ q.x; y = neg_ℤ q.y; z = neg_ℤ q.z }

-- a point as a quaternion without a real part
abbrev pub imaginary : Point → Quaternion
imaginary p = record { w = pos 0; x = p.x; y = p.y; z = p.z }

-- the product q p q*, the turned point times the square of q's length
abbrev pub turned : Quaternion → Point → Quaternion
turned q p = product (product q (imaginary p)) (conjugate q)
