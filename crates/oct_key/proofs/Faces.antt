-- The voxel that the floor rule gives holds the point, and no other voxel of the map does.
use Rattle.std.proofs.Common.{◌≡◌, ℕ, ◌<◌, ◌≤◌, ℤ, pos, negsuc, ◌+ℤ◌, ◌-ℤ◌, ◌*ℤ◌, ◌≤ℤ◌, ◌<ℤ◌}
use Rattle.std.proofs.Common.{Option, Some, None, IfSome, IfNone, arith, refl, sym, ap, ◌∙◌}
use Rattle.std.proofs.lemmas.Int.{ints, by_lt_z}
use Rattle.std.specs.Int.{int_div_euclid}
use Rattle.oct_num.proofs.Floor.{floor_low, floor_high}
use Rattle.oct_num.proofs.Nearest.{apart}
use Rattle.oct_key.specs.declared.point.Point.{Point}
use Rattle.oct_key.specs.Voxel.{Voxel, IsInMap, Holds, HoldsOnAxis, in_range, axis_key, key_from}
use Rattle.oct_key.specs.Voxel.{key_at}

-- a number in range is given as it is
some_from_range : (z : ℤ) (key : ℕ) → in_range z ≡ Some key → (z ≡ pos key) × (key < 65536)
some_from_range (pos n) key h = grind arith
some_from_range (negsuc n) key h = cc

range_from_below : (key : ℕ) → key < 65536 → in_range (pos key) ≡ Some key
range_from_below key below = grind arith

-- a coordinate lies in the interval of one number alone
same_floor : (q m c : ℤ) (edge : ℕ) → 1 ≤ edge → (q *ℤ pos edge) ≤ℤ c
    → c <ℤ (q *ℤ pos edge +ℤ pos edge) → (m *ℤ pos edge) ≤ℤ c → c <ℤ (m *ℤ pos edge +ℤ pos edge)
    → q ≡ m
same_floor q m c edge positive low high low' high' =
    let some : pos 1 ≤ℤ pos edge = omega (arith, ints) in
    by_lt_z q m (λ below. absurd (omega (arith, ints, apart q m (pos edge) some below)))
    (λ not_below. by_lt_z m q
    (λ above. absurd (omega (arith, ints, apart m q (pos edge) some above)))
    (λ not_above. omega (arith, ints)))

holds_from_key : (edge key : ℕ) (c : ℤ) → 1 ≤ edge → axis_key edge c ≡ Some key
    → HoldsOnAxis edge key c
holds_from_key edge key c positive h =
    let is = some_from_range (int_div_euclid c (pos edge) +ℤ pos 32768) key h in
    let floor : (pos key -ℤ pos 32768) ≡ int_div_euclid c (pos edge) = omega (arith, ints) in
    rw floor (
      floor_low c (pos edge) (omega (arith, ints)),
      floor_high c (pos edge) (omega (arith, ints)),
    )

key_from_holds : (edge key : ℕ) (c : ℤ) → 1 ≤ edge → key < 65536 → HoldsOnAxis edge key c
    → axis_key edge c ≡ Some key
key_from_holds edge key c positive below h =
    let floor : int_div_euclid c (pos edge) ≡ (pos key -ℤ pos 32768) =
    same_floor _ _ c edge positive (floor_low c (pos edge) (omega (arith, ints)))
    (floor_high c (pos edge) (omega (arith, ints))) h.0 h.1 in
    let is : (int_div_euclid c (pos edge) +ℤ pos 32768) ≡ pos key = omega (arith, ints) in
    ap in_range is ∙ range_from_below key below

-- three numbers make the voxel
parts : (x y z : Option ℕ) (k : Voxel) → key_from x y z ≡ Some k
    → (x ≡ Some k.x) × (y ≡ Some k.y) × (z ≡ Some k.z)
parts (Some x) (Some y) (Some z) k h = (cc, cc, cc)
parts None y z k h = cc
parts (Some x) None z k h = cc
parts (Some x) (Some y) None k h = cc

-- the voxel that the rule gives holds the point
pub Holds-key_at : (edge : ℕ) (p : Point) (k : Voxel) → 1 ≤ edge → key_at edge p ≡ Some k
    → Holds edge k p
Holds-key_at edge p k positive h =
    let is = parts _ _ _ k h in
    record {
      x = holds_from_key edge k.x p.x positive is.0;
      y = holds_from_key edge k.y p.y positive is.1;
      z = holds_from_key edge k.z p.z positive is.2;
    }

-- the voxel that the rule gives is one of the map
pub IsInMap-key_at : (edge : ℕ) (p : Point) (k : Voxel) → key_at edge p ≡ Some k → IsInMap k
IsInMap-key_at edge p k h =
    let is = parts _ _ _ k h in
    record {
      x = (some_from_range (int_div_euclid p.x (pos edge) +ℤ pos 32768) _ is.0).1;
      y = (some_from_range (int_div_euclid p.y (pos edge) +ℤ pos 32768) _ is.1).1;
      z = (some_from_range (int_div_euclid p.z (pos edge) +ℤ pos 32768) _ is.2).1;
    }

-- a voxel of the map that holds the point is the one that the rule gives
pub key_at-Holds : (edge : ℕ) (p : Point) (k : Voxel) → 1 ≤ edge → IsInMap k → Holds edge k p
    → key_at edge p ≡ Some k
key_at-Holds edge p k positive in_map h =
    let x = key_from_holds edge k.x p.x positive in_map.x h.x in
    let y = key_from_holds edge k.y p.y positive in_map.y h.y in
    let z = key_from_holds edge k.z p.z positive in_map.z h.z in
    rw (x, y, z) refl

-- where the rule gives a voxel, that one holds the point
pub holds_if_some : (edge : ℕ) (p : Point) (r : Option Voxel) → 1 ≤ edge → r ≡ key_at edge p
    → IfSome r (λ k. Holds edge k p)
holds_if_some edge p (Some k) positive is = Holds-key_at edge p k positive (sym is)
holds_if_some edge p None positive is = tt

-- where the rule gives none, no voxel of the map holds the point
pub outside_if_none : (edge : ℕ) (p : Point) (r : Option Voxel) → 1 ≤ edge → r ≡ key_at edge p
    → IfNone r ((k : Voxel) → IsInMap k → Holds edge k p → ⊥)
outside_if_none edge p (Some k) positive is = tt
outside_if_none edge p None positive is =
    λ k in_map h. let some = is ∙ key_at-Holds edge p k positive in_map h in cc
