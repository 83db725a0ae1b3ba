-- How far points are from one another, and where a beam is cut.
use Rattle.std.specs.Prelude.{◌≡◌, ℕ, ◌+◌, ◌*◌, ◌≤◌, ℤ, pos, ◌+ℤ◌, ◌-ℤ◌, ◌*ℤ◌, unsigned_abs}
use Rattle.std.specs.Int.RustNames.{int_div}
use Rattle.oct_key.specs.declared.point.Point.{Point}

-- the distance of two coordinates
abbrev pub axis_distance : ℤ → ℤ → ℕ
axis_distance o e = unsigned_abs (e -ℤ o)

-- the square of the distance of two points
abbrev pub square_distance : Point → Point → ℕ
square_distance o e =
    axis_distance o.x e.x * axis_distance o.x e.x + axis_distance o.y e.y * axis_distance o.y e.y
    + axis_distance o.z e.z * axis_distance o.z e.z

-- o and r/length of the way from there to e, rounded toward o
abbrev pub cut_coordinate : ℤ → ℤ → ℤ → ℕ → ℤ
cut_coordinate o e r length = o +ℤ int_div ((e -ℤ o) *ℤ r) (pos length)

-- c is where the beam from o to e is cut at the range r: the length of the beam is the least whole
-- number that is not less than the distance of its ends
pub record IsCutEnd (o e : Point) (r : ℤ) (c : Point) : Type 0 where
  pub length : ℕ
  pub enough : square_distance o e ≤ length * length
  pub least : (n : ℕ) → square_distance o e ≤ n * n → length ≤ n
  pub x : c.x ≡ cut_coordinate o.x e.x r length
  pub y : c.y ≡ cut_coordinate o.y e.y r length
  pub z : c.z ≡ cut_coordinate o.z e.z r length
