-- The voxels that a segment between two voxels of the map meets are voxels of the map.
use Rattle.std.proofs.Common.{◌≡◌, ℕ, zero, suc, ◌+◌, ◌-◌, ◌*◌, ◌/◌, ◌<◌, ◌==◌, [], ◌∷◌, Bool, true}
use Rattle.std.proofs.Common.{false, cond, nat_le, ℤ, IsSome, refl, arith}
use Rattle.std.specs.Prelude.{All}
use Rattle.std.proofs.Math.Nat.{div-zero, div-lt_iff_lt-mul}
use Rattle.std.proofs.lemmas.List.Elements.{All-nil, All-cons}
use Rattle.oct_key.specs.Voxel.{IsInMap, key_at}
use Rattle.oct_key.specs.declared.point.Point.{Point}
use Rattle.oct_ray.specs.Axis.{IsOnMap, axis_after, crosses, axis_voxel, axis_keys}
use Rattle.oct_ray.specs.Met.{height_of, rising_axis, falling_axis, axis_between, axis_of, met_by}
use Rattle.oct_ray.specs.declared.axis.Axis.{Axis}
use Rattle.oct_ray.proofs.ComputedAxes.{height_below}
use Rattle.oct_ray.proofs.Crossings.{crosses-crossings}
use Rattle.oct_ray.proofs.MapFaces.{on_map_with_key}

-- an axis stands on the map, and stays on it with the crossings that are left
record KeepsToMap (a : Axis) : Type 0 where
  here : a.key < 65536
  rising : a.rises ≡ true → a.key + a.crossings < 65536

-- the key after a crossing, by the axis's way
next_key_on_map : (rises : Bool) (key left : ℕ) → 0 < left → key < 65536
    → (rises ≡ true → key + left < 65536)
    → (cond rises (key + 1) (key - 1) < 65536)
    × (rises ≡ true → cond rises (key + 1) (key - 1) + (left - 1) < 65536)
next_key_on_map true key left some here rising = let up = rising refl in
    (omega (arith, up, some), λ is. omega (arith, up, some))
next_key_on_map false key left some here rising =
    (omega (arith, here), λ is. absurd (let h : ⊥ = cc in h))

axis_after-KeepsToMap : (now : Bool) (a : Axis) → (now ≡ true → 0 < a.crossings) → KeepsToMap a
    → KeepsToMap (axis_after now a)
axis_after-KeepsToMap false a some on = on
axis_after-KeepsToMap true a some on = let next =
    next_key_on_map a.rises a.key a.crossings (some refl) on.here on.rising in
    record { here = next.0; rising = next.1 }

-- three axes that stay on the map stand in voxels of the map
axis_voxel-IsInMap : (x y z : Axis) → KeepsToMap x → KeepsToMap y → KeepsToMap z
    → IsInMap (axis_voxel x y z)
axis_voxel-IsInMap x y z on_x on_y on_z = record { x = on_x.here; y = on_y.here; z = on_z.here }

axis_keys-IsInMap : (fuel : ℕ) (x y z : Axis) → KeepsToMap x → KeepsToMap y → KeepsToMap z
    → All IsInMap (axis_keys fuel x y z)
unfolding axis_keys
axis_keys-IsInMap zero x y z on_x on_y on_z =
    All-cons IsInMap (axis_voxel x y z) [] (axis_voxel-IsInMap x y z on_x on_y on_z)
    (All-nil IsInMap)
axis_keys-IsInMap (suc fuel) x y z on_x on_y on_z =
    elim (x.crossings + y.crossings + z.crossings == 0) as (λ b. All IsInMap (axis_voxel x y z
    ∷ elim b [
      | true ↦ []
      | false ↦ axis_keys fuel (axis_after (crosses x y z) x) (axis_after (crosses y z x) y)
          (axis_after (crosses z x y) z)
    ])) [
      | true ↦ All-cons IsInMap (axis_voxel x y z) [] (axis_voxel-IsInMap x y z on_x on_y on_z)
          (All-nil IsInMap)
      | false ↦ All-cons IsInMap (axis_voxel x y z) _ (axis_voxel-IsInMap x y z on_x on_y on_z)
          (axis_keys-IsInMap fuel _ _ _
          (axis_after-KeepsToMap (crosses x y z) x (crosses-crossings x y z) on_x)
          (axis_after-KeepsToMap (crosses y z x) y (crosses-crossings y z x) on_y)
          (axis_after-KeepsToMap (crosses z x y) z (crosses-crossings z x y) on_z))
    ]

-- what lies below the map's upper face has a key of the map
quotient_below : (edge a : ℕ) → (0 < edge → a < 65536 * edge) → a / edge < 65536
quotient_below zero a low = let none = div-zero a in omega (arith, none)
quotient_below (suc n) a low = (div-lt_iff_lt-mul (omega arith)).1 (low (omega arith))

axis_between-KeepsToMap : (edge a b : ℕ) → a / edge < 65536 → b / edge < 65536
    → KeepsToMap (axis_between edge a b)
axis_between-KeepsToMap edge a b from to =
    elim (nat_le a b) as (λ t. KeepsToMap (cond t (rising_axis edge a b) (falling_axis edge a b))) [
      | true ↦ record { here = from; rising = λ is. omega (arith, from, to) }
      | false ↦ record { here = from; rising = λ is. absurd (let h : ⊥ = cc in h) }
    ]

axis_of-KeepsToMap : (edge : ℕ) (o e : ℤ) → (0 < edge → IsOnMap edge o)
    → (0 < edge → IsOnMap edge e) → KeepsToMap (axis_of edge o e)
unfolding axis_of
axis_of-KeepsToMap edge o e on_o on_e =
    axis_between-KeepsToMap edge (height_of edge o) (height_of edge e)
    (quotient_below edge (height_of edge o) (λ some. height_below edge o (on_o some)))
    (quotient_below edge (height_of edge e) (λ some. height_below edge e (on_e some)))

-- the voxels that a segment between voxels of the map meets are voxels of the map
pub met_by-IsInMap : (edge : ℕ) (o e : Point) → IsSome (key_at edge o) → IsSome (key_at edge e)
    → All IsInMap (met_by edge o e)
unfolding met_by
met_by-IsInMap edge o e key_o key_e =
    let on_o = λ (some : 0 < edge). on_map_with_key edge o (omega (arith, some)) key_o in
    let on_e = λ (some : 0 < edge). on_map_with_key edge e (omega (arith, some)) key_e in
    axis_keys-IsInMap _ _ _ _
    (axis_of-KeepsToMap edge o.x e.x (λ some. (on_o some).x) (λ some. (on_e some).x))
    (axis_of-KeepsToMap edge o.y e.y (λ some. (on_o some).y) (λ some. (on_e some).y))
    (axis_of-KeepsToMap edge o.z e.z (λ some. (on_o some).z) (λ some. (on_e some).z))
