-- The voxels that a segment meets, found by walking along it.
use Rattle.std.specs.Prelude.{ℕ, ◌+◌, ◌-◌, ◌*◌, ◌/◌, ◌%◌, max, min, true, false, nat_eq, nat_le}
use Rattle.std.specs.Prelude.{if◌then◌else◌, List, ℤ, pos, ◌+ℤ◌, unsigned_abs}
use Rattle.oct_key.specs.Voxel.{Voxel}
use Rattle.oct_key.specs.declared.point.Point.{Point}
use Rattle.oct_ray.specs.declared.axis.Axis.{Axis}
use Rattle.oct_ray.specs.Axis.{axis_keys}

-- how high a coordinate of the map lies above its lower face
abbrev pub height_of : ℕ → ℤ → ℕ
height_of edge c = unsigned_abs (c +ℤ pos (32768 * edge))

-- the axis that rises from a to b above the map's lower face; where both are one number it crosses
-- nothing, and its crossing gets the place 2 / 1, past the end of the segment at 1
abbrev pub rising_axis : ℕ → ℕ → ℕ → Axis
rising_axis edge a b = record {
  key = a / edge;
  rises = true;
  crossings = b / edge - a / edge;
  distance = if nat_eq a b then 2 else edge - a % edge;
  span = max 1 (b - a);
  edge = edge;
}

-- the axis that falls from a to b above the map's lower face
abbrev pub falling_axis : ℕ → ℕ → ℕ → Axis
falling_axis edge a b = record {
  key = a / edge;
  rises = false;
  crossings = a / edge - b / edge;
  distance = a % edge;
  span = a - b;
  edge = edge;
}

-- the axis from a to b above the map's lower face
abbrev pub axis_between : ℕ → ℕ → ℕ → Axis
axis_between edge a b = if nat_le a b then rising_axis edge a b else falling_axis edge a b

-- the axis of the segment between two coordinates of the map
unfoldable pub axis_of : ℕ → ℤ → ℤ → Axis
axis_of edge o e = axis_between edge (height_of edge o) (height_of edge e)

-- the voxels from where three axes stand until none of them has a crossing left
abbrev pub keys_along : Axis → Axis → Axis → List Voxel
keys_along x y z = axis_keys (x.crossings + y.crossings + z.crossings) x y z

-- the voxels that the segment between two points of the map meets, in the order of its way
unfoldable pub met_by : ℕ → Point → Point → List Voxel
met_by edge o e = keys_along (axis_of edge o.x e.x) (axis_of edge o.y e.y) (axis_of edge o.z e.z)

-- how many of an axis's crossings lie at most so far from its origin
unfoldable pub crossings_within : ℕ → Axis → ℕ
crossings_within way a =
    if nat_le a.distance way then min ((way - a.distance) / a.edge + 1) a.crossings else 0

-- an axis after so many crossings
abbrev pub axis_after_crossings : ℕ → Axis → Axis
axis_after_crossings taken a = record {
  key = if a.rises then a.key + taken else a.key - taken;
  rises = a.rises;
  crossings = a.crossings - taken;
  distance = a.distance + taken * a.edge;
  span = a.span;
  edge = a.edge;
}

-- an axis just after this part of its segment, in 65536ths
abbrev pub axis_after_part : ℕ → Axis → Axis
axis_after_part part a = axis_after_crossings (crossings_within (a.span * part / 65536) a) a

-- the voxels that the segment between two points meets just after this part of it and later, in
-- the order of its way
unfoldable pub met_after : ℕ → ℕ → Point → Point → List Voxel
met_after part edge o e =
    keys_along (axis_after_part part (axis_of edge o.x e.x))
    (axis_after_part part (axis_of edge o.y e.y)) (axis_after_part part (axis_of edge o.z e.z))
