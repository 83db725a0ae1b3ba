-- Rotation by a quaternion of whole numbers.
use Rattle.std.specs.Prelude.{ℤ, pos, ◌+ℤ◌, ◌-ℤ◌, ◌*ℤ◌, ◌≤ℤ◌, unsigned_abs}
use Rattle.oct_key.specs.declared.point.Point.{Point}
use Rattle.oct_num.specs.Rounding.{half_up}
use Rattle.oct_pose.specs.declared.rotation.Quaternion.{Quaternion}
use Rattle.oct_pose.specs.declared.rotation.Row.{Row}

-- the square of a quaternion's length
abbrev pub norm : Quaternion → ℤ
norm q = q.w *ℤ q.w +ℤ q.x *ℤ q.x +ℤ q.y *ℤ q.y +ℤ q.z *ℤ q.z

-- the factors of a point's coordinates in the x coordinate of the product q p q*
abbrev pub x_row : Quaternion → Row
x_row q = record {
  x = q.w *ℤ q.w +ℤ q.x *ℤ q.x -ℤ q.y *ℤ q.y -ℤ q.z *ℤ q.z;
  y = pos 2 *ℤ (q.x *ℤ q.y -ℤ q.w *ℤ q.z);
  z = pos 2 *ℤ (q.x *ℤ q.z +ℤ q.w *ℤ q.y);
}

-- those in its y coordinate
abbrev pub y_row : Quaternion → Row
y_row q = record {
  x = pos 2 *ℤ (q.x *ℤ q.y +ℤ q.w *ℤ q.z);
  y = q.w *ℤ q.w -ℤ q.x *ℤ q.x +ℤ q.y *ℤ q.y -ℤ q.z *ℤ q.z;
  z = pos 2 *ℤ (q.y *ℤ q.z -ℤ q.w *ℤ q.x);
}

-- those in its z coordinate
abbrev pub z_row : Quaternion → Row
z_row q = record {
  x = pos 2 *ℤ (q.x *ℤ q.z -ℤ q.w *ℤ q.y);
  y = pos 2 *ℤ (q.y *ℤ q.z +ℤ q.w *ℤ q.x);
  z = q.w *ℤ q.w -ℤ q.x *ℤ q.x -ℤ q.y *ℤ q.y +ℤ q.z *ℤ q.z;
}

-- the sum of a point's coordinates, each times its factor
abbrev pub weighted : Row → Point → ℤ
weighted row p = row.x *ℤ p.x +ℤ row.y *ℤ p.y +ℤ row.z *ℤ p.z

-- a point turned by a quaternion: the product q p q* over the square of q's length, rounded half up
-- on each axis
abbrev pub rotated : Quaternion → Point → Point
rotated q p = record {
  x = half_up (weighted (x_row q) p) (norm q);
  y = half_up (weighted (y_row q) p) (norm q);
  z = half_up (weighted (z_row q) p) (norm q);
}

-- no factor has a greater magnitude than this
pub record IsBounded (most : ℤ) (row : Row) : Type 0 where
  pub x : pos (unsigned_abs row.x) ≤ℤ most
  pub y : pos (unsigned_abs row.y) ≤ℤ most
  pub z : pos (unsigned_abs row.z) ≤ℤ most
