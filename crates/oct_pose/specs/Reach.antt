-- Which points and quaternions make a pose.
use Rattle.std.specs.Prelude.{◌≡◌, ℕ, ◌^◌, ◌<◌, ◌≤◌, ℤ, pos, ◌-ℤ◌, unsigned_abs}
use Rattle.oct_key.specs.declared.point.Point.{Point}

-- a point less than ten thousand kilometres from the origin on each axis, in nanometres
pub record IsInReach (p : Point) : Type 0 where
  pub x : unsigned_abs p.x < 10 ^ 16
  pub y : unsigned_abs p.y < 10 ^ 16
  pub z : unsigned_abs p.z < 10 ^ 16

-- two points at most this far from one another on each axis
pub record IsNear (reach : ℕ) (p q : Point) : Type 0 where
  pub x : unsigned_abs (q.x -ℤ p.x) ≤ reach
  pub y : unsigned_abs (q.y -ℤ p.y) ≤ reach
  pub z : unsigned_abs (q.z -ℤ p.z) ≤ reach

-- all four numbers of a quaternion are 0
abbrev pub IsZero : ℤ → ℤ → ℤ → ℤ → Type 0
IsZero w x y z = (w ≡ pos 0) × (x ≡ pos 0) × (y ≡ pos 0) × (z ≡ pos 0)
