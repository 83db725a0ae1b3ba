-- A point with a key lies on the map.
use Rattle.std.proofs.Common.{◌≡◌, ℕ, ◌+◌, ◌*◌, ◌/◌, ◌<◌, ◌≤◌, refl, arith, sym, subst, ℤ, pos}
use Rattle.std.proofs.Common.{◌+ℤ◌}
use Rattle.std.proofs.Common.{◌-ℤ◌, Option, Some, None, IsSome}
use Rattle.std.proofs.lemmas.Int.{ints}
use Rattle.std.proofs.lemmas.Nat.{le-div}
use Rattle.std.proofs.Math.Nat.{div-lt_iff_lt-mul, mul-le-mul_right}
use borrow.Author.Differences.{up, down}
use Rattle.oct_key.specs.Voxel.{Voxel, Holds, HoldsOnAxis, IsResolution, lower_face, key_at}
use Rattle.oct_key.specs.declared.point.Point.{Point}
use Rattle.oct_key.proofs.Faces.{Holds-key_at, IsInMap-key_at}
use Rattle.oct_ray.specs.Axis.{IsOnMap}
use Rattle.oct_num.proofs.Differences.{IsDifference, parts, natural, of_naturals, scaled, plus, le}
use Rattle.oct_num.proofs.Differences.{lt}
use Rattle.oct_ray.proofs.Starts.{height_diff}

-- what a voxel of the map holds on an axis lies on the map
pub on_map : (edge key : ℕ) (c : ℤ) → key < 65536 → HoldsOnAxis edge key c → IsOnMap edge c
on_map edge key c below h =
    let itself : IsDifference c (up c) (down c) = parts c in
    let face : IsDifference (lower_face edge key) (key * edge) (32768 * edge) =
    scaled edge (of_naturals key 32768) in
    let next : IsDifference (lower_face edge key +ℤ pos edge) (key * edge + edge)
    (32768 * edge + 0) =
    plus face (natural edge) in
    let low = le face itself h.0 in
    let high = lt itself next h.1 in
    let room : (key + 1) * edge ≤ 65536 * edge = mul-le-mul_right edge (omega arith) in
    (omega (arith, ints), omega (arith, ints))

-- and the number of the voxels is the quotient of its height
pub number_of_height : (edge key h : ℕ) (c : ℤ) → 1 ≤ edge
    → c ≡ (pos h -ℤ pos (32768 * edge)) → HoldsOnAxis edge key c → key ≡ h / edge
number_of_height edge key h c positive is held =
    let itself : IsDifference c h (32768 * edge) = height_diff edge h c is in
    let face : IsDifference (lower_face edge key) (key * edge) (32768 * edge) =
    scaled edge (of_naturals key 32768) in
    let next : IsDifference (lower_face edge key +ℤ pos edge) (key * edge + edge)
    (32768 * edge + 0) =
    plus face (natural edge) in
    let low = le face itself held.0 in
    let high = lt itself next held.1 in
    let least : key ≤ h / edge = le-div key h edge positive (omega (arith, low)) in
    let below : h / edge < key + 1 = (div-lt_iff_lt-mul positive).1 (omega (arith, high)) in
    omega (arith, least, below)

-- the voxel of a point holds it, for the edge as a number
pub held_at : (res edge : ℕ) (p : Point) (k : Voxel) → edge ≡ res → IsResolution edge
    → key_at res p ≡ Some k → Holds edge k p
held_at res edge p k e range h =
    subst (λ (n : ℕ). Holds n k p) (sym e) (Holds-key_at res p k (omega arith) h)

-- each coordinate of a point lies on the map
pub record AreOnMap (edge : ℕ) (p : Point) : Type 0 where
  pub x : IsOnMap edge p.x
  pub y : IsOnMap edge p.y
  pub z : IsOnMap edge p.z

on_map_of : (edge : ℕ) (p : Point) (k : Voxel) → 1 ≤ edge → key_at edge p ≡ Some k → AreOnMap edge p
on_map_of edge p k positive h =
    let holds = Holds-key_at edge p k positive h in
    let inside = IsInMap-key_at edge p k h in
    record {
      x = on_map edge k.x p.x inside.x holds.x;
      y = on_map edge k.y p.y inside.y holds.y;
      z = on_map edge k.z p.z inside.z holds.z;
    }

on_map_if : (edge : ℕ) (p : Point) (r : Option Voxel) → 1 ≤ edge → key_at edge p ≡ r → IsSome r
    → AreOnMap edge p
on_map_if edge p (Some k) positive h s = on_map_of edge p k positive h
on_map_if edge p None positive h s = cc

-- a point with a key lies on the map
pub on_map_with_key : (edge : ℕ) (p : Point) → 1 ≤ edge → IsSome (key_at edge p) → AreOnMap edge p
on_map_with_key edge p positive s = on_map_if edge p (key_at edge p) positive refl s
