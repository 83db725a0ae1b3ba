-- How many voxels a segment meets at most: one, and one for each face between its ends.
use Rattle.std.proofs.Common.{◌≡◌, ℕ, zero, suc, ◌+◌, ◌-◌, ◌*◌, ◌/◌, ◌≤◌, inl, inr, eqb, length}
use Rattle.std.proofs.Common.{Some, ap, arith, ℤ}
use Rattle.std.specs.Prelude.{nat_le}
use Rattle.std.proofs.lemmas.Bool.{cases_Bool}
use Rattle.std.proofs.lemmas.Int.{ints}
use Rattle.std.proofs.Math.Nat.{div-eq_of_lt-le}
use borrow.Author.Differences.{up, down}
use Rattle.oct_key.specs.Voxel.{Voxel, HoldsOnAxis, key_at}
use Rattle.oct_key.specs.declared.point.Point.{Point}
use Rattle.oct_key.proofs.Faces.{Holds-key_at}
use Rattle.oct_ray.specs.declared.axis.Axis.{Axis}
use Rattle.oct_ray.specs.Axis.{axis_keys, axis_after, crosses}
use Rattle.oct_ray.specs.Met.{height_of, axis_of, met_by}
use Rattle.oct_ray.proofs.Crossings.{crossings_left}
use Rattle.oct_ray.proofs.KeyLists.{keys_suc, keys_end}
use Rattle.oct_scan.proofs.BeamSpans.{held_from}

-- no more voxels come than crossings are counted
keys_few : (f : ℕ) (x y z : Axis) → length (axis_keys f x y z) ≤ f + 1
unfolding axis_keys
keys_few zero x y z = omega arith
keys_few (suc f) x y z = elim (cases_Bool (eqb (crossings_left x y z) 0)) [
  | inl end ↦ (let one = ap length (keys_end (suc f) x y z end) in omega (arith, one))
  | inr more ↦
      let next = ap length (keys_suc f x y z more) in
      let rest = keys_few f (axis_after (crosses x y z) x) (axis_after (crosses y z x) y)
      (axis_after (crosses z x y) z) in
      omega (arith, next, rest)
]

-- the height of a coordinate tells the number of its voxels
height_key : (edge key : ℕ) (c : ℤ) → HoldsOnAxis edge key c → height_of edge c / edge ≡ key
height_key edge key c h =
    let held = held_from edge key c h in
    let low = held.low in
    let high = held.high in
    let height : up c + 32768 * edge ≡ height_of edge c + down c = omega (arith, ints, low) in
    div-eq_of_lt-le edge (omega (arith, low, height)) (omega (arith, high, height))

-- an axis crosses the faces between its ends
crossings_most : (edge : ℕ) (o e : ℤ) (k l : ℕ) → HoldsOnAxis edge k o → HoldsOnAxis edge l e
    → (axis_of edge o e).crossings ≤ (k - l) + (l - k)
unfolding axis_of
crossings_most edge o e k l ho he =
    let a = height_key edge k o ho in
    let b = height_key edge l e he in
    elim (cases_Bool (nat_le (height_of edge o) (height_of edge e))) [
      | inl up ↦ rw up (omega (arith, a, b))
      | inr down ↦ rw down (omega (arith, a, b))
    ]

-- a segment between two voxels meets no more than these
pub segment_few : (edge : ℕ) (o e : Point) (k l : Voxel) → 1 ≤ edge → key_at edge o ≡ Some k
    → key_at edge e ≡ Some l → length (met_by edge o e)
    ≤ 1 + ((k.x - l.x) + (l.x - k.x)) + ((k.y - l.y) + (l.y - k.y)) + ((k.z - l.z) + (l.z - k.z))
unfolding met_by
segment_few edge o e k l positive key_o key_e =
    let ho = Holds-key_at edge o k positive key_o in
    let he = Holds-key_at edge e l positive key_e in
    let x = axis_of edge o.x e.x in
    let y = axis_of edge o.y e.y in
    let z = axis_of edge o.z e.z in
    let few = keys_few (x.crossings + y.crossings + z.crossings) x y z in
    let on_x = crossings_most edge o.x e.x k.x l.x ho.x he.x in
    let on_y = crossings_most edge o.y e.y k.y l.y ho.y he.y in
    let on_z = crossings_most edge o.z e.z k.z l.z ho.z he.z in
    omega (arith, few, on_x, on_y, on_z)
