-- One axis of a segment, the faces that it crosses, and which of three axes crosses next.
use Rattle.std.specs.Prelude.{◌≡◌, ℕ, zero, suc, ◌+◌, ◌-◌, ◌*◌, ◌/◌, ◌%◌, ◌^◌, ◌<◌, ◌≤◌, max}
use Rattle.std.specs.Prelude.{◌==◌, nat_le, Bool, true, false, not, ◌&&◌, ◌||◌, if◌then◌else◌}
use Rattle.std.specs.Prelude.{List, [], ◌∷◌, ℤ, pos, neg_ℤ, ◌-ℤ◌, ◌≤ℤ◌, ◌<ℤ◌}
use Rattle.oct_key.specs.Voxel.{Voxel}
use Rattle.oct_key.specs.declared.point.Point.{Point}
use Rattle.oct_ray.specs.declared.axis.Axis.{Axis}

-- a coordinate lies on the map, whose faces are 32768 voxels away from the origin
abbrev pub IsOnMap : ℕ → ℤ → Type 0
IsOnMap edge c = (neg_ℤ (pos (32768 * edge)) ≤ℤ c) × (c <ℤ pos (32768 * edge))

-- the numbers of an axis are small enough to compute with, and its crossings stay on the map
pub record HasRoom (a : Axis) : Type 0 where
  pub spans : 0 < a.span
  pub few : a.crossings < 2 ^ 16
  pub small_span : a.span < 2 ^ 62
  pub edges : 0 < a.edge
  pub small_edge : a.edge < 2 ^ 62
  pub small : a.distance + a.crossings * a.edge < 2 ^ 62
  pub rising : a.rises ≡ true → a.key + a.crossings < 2 ^ 16
  pub falling : a.rises ≡ false → a.crossings ≤ a.key

-- a rising axis, from a to b above the map's lower face: its first crossing is the upper face of
-- its origin's voxels, or lies beyond its end if it spans nothing
pub record IsRisingAxis (edge a b : ℕ) (axis : Axis) : Type 0 where
  pub rises : axis.rises ≡ true
  pub first : a < b → axis.distance + a % edge ≡ edge
  pub beyond : a ≡ b → axis.distance ≡ 2
  pub span : axis.span ≡ max 1 (b - a)
  pub last : axis.key + axis.crossings ≡ b / edge

-- a falling axis, from a to b above the map's lower face: its first crossing is the lower face of
-- its origin's voxels
pub record IsFallingAxis (edge a b : ℕ) (axis : Axis) : Type 0 where
  pub falls : axis.rises ≡ false
  pub first : axis.distance ≡ a % edge
  pub span : axis.span ≡ a - b
  pub last : b / edge + axis.crossings ≡ axis.key

-- the axis of a segment whose ends lie a and b above the map's lower face
pub record IsAxisBetween (edge a b : ℕ) (axis : Axis) : Type 0 where
  pub edges : axis.edge ≡ edge
  pub key : axis.key ≡ a / edge
  pub up : a ≤ b → IsRisingAxis edge a b axis
  pub down : b < a → IsFallingAxis edge a b axis

-- the axis of the segment from o to e
pub record IsAxisOf (edge : ℕ) (o e : ℤ) (axis : Axis) : Type 0 where
  pub a : ℕ
  pub b : ℕ
  pub o_is : o ≡ (pos a -ℤ pos (32768 * edge))
  pub e_is : e ≡ (pos b -ℤ pos (32768 * edge))
  pub laid : IsAxisBetween edge a b axis

-- these are the axes of the segment from o to e, and small enough to compute with
pub record AreAxesOf (edge : ℕ) (o e : Point) (a b c : Axis) : Type 0 where
  pub is_a : HasRoom a
  pub is_b : HasRoom b
  pub is_c : HasRoom c
  pub of_a : IsAxisOf edge o.x e.x a
  pub of_b : IsAxisOf edge o.y e.y b
  pub of_c : IsAxisOf edge o.z e.z c

-- 1 where an axis falls: a voxel has its lower face, so that one is left only just beyond the face
abbrev pub lateness : Axis → ℕ
lateness a = if a.rises then 0 else 1

-- an axis after its next crossing
abbrev pub after_crossing : Axis → Axis
after_crossing a = record {
  key = if a.rises then a.key + 1 else a.key - 1;
  rises = a.rises;
  crossings = a.crossings - 1;
  distance = a.distance + a.edge;
  span = a.span;
  edge = a.edge;
}

-- an axis after its next crossing, where that comes now
abbrev pub axis_after : Bool → Axis → Axis
axis_after true a = after_crossing a
axis_after false a = a

-- whether the next crossing of a comes no later than that of b
abbrev pub not_after : Axis → Axis → Bool
not_after a b =
    nat_le (2 * (a.distance * b.span) + lateness a) (2 * (b.distance * a.span) + lateness b)

-- whether a crosses next, alone or beside b and c
abbrev pub crosses : Axis → Axis → Axis → Bool
crosses a b c =
    not (a.crossings == 0) && ((b.crossings == 0 || not_after a b)
    && (c.crossings == 0 || not_after a c))

-- the voxel where three axes stand
abbrev pub axis_voxel : Axis → Axis → Axis → Voxel
axis_voxel x y z = record { x = x.key; y = y.key; z = z.key }

-- the voxels from where three axes stand, at most fuel + 1 of them
unfoldable pub axis_keys : ℕ → Axis → Axis → Axis → List Voxel
axis_keys zero x y z = axis_voxel x y z ∷ []
axis_keys (suc fuel) x y z =
    axis_voxel x y z ∷ elim (x.crossings + y.crossings + z.crossings == 0) [
      | true ↦ []
      | false ↦ axis_keys fuel
          (axis_after (crosses x y z) x) (axis_after (crosses y z x) y)
          (axis_after (crosses z x y) z)
    ]
