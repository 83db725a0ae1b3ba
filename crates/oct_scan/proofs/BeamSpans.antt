-- The voxels that a beam meets lie in the box that those of its ends span.
use Rattle.std.proofs.Common.{◌≡◌, ℕ, ◌+◌, ◌-◌, ◌*◌, ◌<◌, ◌≤◌, Some, arith, sym, subst, ℤ, ◌-ℤ◌}
use Rattle.std.proofs.Common.{List, All}
use Rattle.std.proofs.lemmas.List.Elements.{All-weaker}
use Rattle.std.specs.Prelude.{min, max}
use Rattle.std.proofs.Math.Nat.{mul-le-mul_right, lt_of_mul-lt-mul_right}
use borrow.Author.Differences.{up, down}
use Rattle.oct_key.specs.Voxel.{Voxel, HoldsOnAxis, IsInMap, lower_face, key_at}
use Rattle.oct_key.specs.Boxes.{IsBetween}
use Rattle.oct_key.specs.declared.point.Point.{Point}
use Rattle.oct_key.proofs.Faces.{Holds-key_at, IsInMap-key_at}
use Rattle.oct_num.proofs.Differences.{IsDifference, parts, natural, of_naturals, scaled}
use Rattle.oct_num.proofs.Differences.{scaled_left, plus, minus, le, lt}
use Rattle.oct_ray.specs.Segment.{IsBetweenFaces, IsWalkAlong, Meets}
use Rattle.oct_scan.specs.Gathered.{IsSpanned}

-- a coordinate in the voxels of a number, with the map's lower face as 0
pub record IsHeldFrom (edge key a b : ℕ) : Type 0 where
  pub low : key * edge + b ≤ a + 32768 * edge
  pub high : a + 32768 * edge < key * edge + edge + b

face : (edge key : ℕ) → IsDifference (lower_face edge key) (key * edge) (32768 * edge)
face edge key = scaled edge (of_naturals key 32768)

pub held_from : (edge key : ℕ) (c : ℤ) → HoldsOnAxis edge key c
    → IsHeldFrom edge key (up c) (down c)
held_from edge key c h =
    let itself : IsDifference c (up c) (down c) = parts c in
    let low = le (face edge key) itself h.0 in
    let high = lt itself (plus (face edge key) (natural edge)) h.1 in
    record { low = omega (arith, low); high = omega (arith, high) }

-- a place of the segment in whole numbers
pub record IsPlaced (edge k p q a b c d : ℕ) : Type 0 where
  pub lower : k * edge * q + (b * q + p * (d + a)) ≤ a * q + p * (c + b) + 32768 * edge * q
  pub upper : a * q + p * (c + b) + 32768 * edge * q < (k * edge + edge) * q + (b * q + p * (d + a))

pub placed_from : (edge k p q : ℕ) (o e : ℤ) → IsBetweenFaces edge o e k p q
    → IsPlaced edge k p q (up o) (down o) (up e) (down e)
placed_from edge k p q o e h =
    let start : IsDifference o (up o) (down o) = parts o in
    let way : IsDifference (e -ℤ o) (up e + down o) (down e + up o) = minus (parts e) start in
    let line = plus (scaled q start) (scaled_left p way) in
    let low = le (scaled q (face edge k)) line h.lower in
    let high = lt line (scaled q (plus (face edge k) (natural edge))) h.upper in
    record { lower = omega (arith, low); upper = omega (arith, high) }

-- where both ends lie below a face, so does the place
below_top : (edge k p q s top a b c d : ℕ) → q ≡ p + s → 0 < q → IsPlaced edge k p q a b c d
    → a + 32768 * edge + 1 ≤ top * edge + b → c + 32768 * edge + 1 ≤ top * edge + d → k < top
below_top edge k p q s top a b c d split some at first last =
    let one : (a + 32768 * edge + 1) * s ≤ (top * edge + b) * s = mul-le-mul_right s first in
    let two : (c + 32768 * edge + 1) * p ≤ (top * edge + d) * p = mul-le-mul_right p last in
    let low = at.lower in
    let all : (k * edge) * q < (top * edge) * q =
    by_parts edge k p s top a b c d q split some low one two in
    let faces : k * edge < top * edge = lt_of_mul-lt-mul_right q all in
    lt_of_mul-lt-mul_right edge faces
  where
    by_parts : (edge k p s top a b c d q : ℕ) → q ≡ p + s → 0 < q
        → k * edge * q + (b * q + p * (d + a)) ≤ a * q + p * (c + b) + 32768 * edge * q
        → (a + 32768 * edge + 1) * s ≤ (top * edge + b) * s
        → (c + 32768 * edge + 1) * p ≤ (top * edge + d) * p → (k * edge) * q < (top * edge) * q
    by_parts edge k p s top a b c d q split some low one two =
        subst (λ q. 0 < q → k * edge * q + (b * q + p * (d + a))
        ≤ a * q + p * (c + b) + 32768 * edge * q → (k * edge) * q < (top * edge) * q) (sym split)
        (λ some low. omega (arith, some, low, one, two)) some low

-- where both lie above one, so does the place
above_bottom : (edge k p q s bottom a b c d : ℕ) → q ≡ p + s → 0 < q → IsPlaced edge k p q a b c d
    → bottom * edge + b ≤ a + 32768 * edge → bottom * edge + d ≤ c + 32768 * edge → bottom < k + 1
above_bottom edge k p q s bottom a b c d split some at first last =
    let one : (bottom * edge + b) * s ≤ (a + 32768 * edge) * s = mul-le-mul_right s first in
    let two : (bottom * edge + d) * p ≤ (c + 32768 * edge) * p = mul-le-mul_right p last in
    let high = at.upper in
    let all : (bottom * edge) * q < ((k + 1) * edge) * q =
    by_parts edge k p s bottom a b c d q split high one two in
    let faces : bottom * edge < (k + 1) * edge = lt_of_mul-lt-mul_right q all in
    lt_of_mul-lt-mul_right edge faces
  where
    by_parts : (edge k p s bottom a b c d q : ℕ) → q ≡ p + s
        → a * q + p * (c + b) + 32768 * edge * q < (k * edge + edge) * q + (b * q + p * (d + a))
        → (bottom * edge + b) * s ≤ (a + 32768 * edge) * s
        → (bottom * edge + d) * p ≤ (c + 32768 * edge) * p
        → (bottom * edge) * q < ((k + 1) * edge) * q
    by_parts edge k p s bottom a b c d q split high one two =
        subst (λ q. a * q + p * (c + b) + 32768 * edge * q < (k * edge + edge) * q
        + (b * q + p * (d + a)) → (bottom * edge) * q < ((k + 1) * edge) * q) (sym split)
        (λ high. omega (arith, high, one, two)) high

-- a row of faces from a lower number is lower
pub rows : (m n edge : ℕ) → m ≤ n → m * edge ≤ n * edge
rows m n edge h = mul-le-mul_right edge h

on_axis : (edge k p q i j : ℕ) (o e : ℤ) → 0 < q → p ≤ q → HoldsOnAxis edge i o
    → HoldsOnAxis edge j e → IsBetweenFaces edge o e k p q → IsBetween (min i j) (max i j) k
on_axis edge k p q i j o e some within start end at =
    let a = held_from edge i o start in
    let b = held_from edge j e end in
    let place = placed_from edge k p q o e at in
    let split : q ≡ p + (q - p) = omega (arith, within) in
    let top = below_top edge k p q (q - p) (max i j + 1) (up o) (down o) (up e) (down e) split some
    place
    (let h = a.high in let r = rows (i + 1) (max i j + 1) edge (omega arith) in omega (arith, h, r))
    (let h = b.high in let r = rows (j + 1) (max i j + 1) edge (omega arith) in
    omega (arith, h, r)) in
    let bottom = above_bottom edge k p q (q - p) (min i j) (up o) (down o) (up e) (down e) split
    some place
    (let h = a.low in let r = rows (min i j) i edge (omega arith) in omega (arith, h, r))
    (let h = b.low in let r = rows (min i j) j edge (omega arith) in omega (arith, h, r)) in
    (omega (arith, bottom), omega (arith, top))

-- the voxels that the segment meets
pub met_spanned : (edge : ℕ) (o e : Point) (a b k : Voxel) → 1 ≤ edge → key_at edge o ≡ Some a
    → key_at edge e ≡ Some b → Meets edge o e k → IsSpanned a b k
met_spanned edge o e a b k positive first last m =
    let start = Holds-key_at edge o a positive first in
    let end = Holds-key_at edge e b positive last in
    let at = m.place in
    record {
      x = on_axis edge k.x m.p m.q a.x b.x o.x e.x at.positive at.within start.x end.x at.x;
      y = on_axis edge k.y m.p m.q a.y b.y o.y e.y at.positive at.within start.y end.y at.y;
      z = on_axis edge k.z m.p m.q a.z b.z o.z e.z at.positive at.within start.z end.z at.z;
    }

in_map : (a b k : Voxel) → IsInMap a → IsInMap b → IsSpanned a b k → IsInMap k
in_map a b k in_a in_b s = record {
  x = (let l = in_a.x in let m = in_b.x in let h = s.x.1 in omega (arith, l, m, h));
  y = (let l = in_a.y in let m = in_b.y in let h = s.y.1 in omega (arith, l, m, h));
  z = (let l = in_a.z in let m = in_b.z in let h = s.z.1 in omega (arith, l, m, h));
}

-- so that a walk between two points of the map lies in it
pub walk_on_map : (edge : ℕ) (o e : Point) (a b : Voxel) (ks : List Voxel) → 1 ≤ edge
    → key_at edge o ≡ Some a → key_at edge e ≡ Some b → IsWalkAlong edge o e ks → All IsInMap ks
walk_on_map edge o e a b ks positive first last walk =
    All-weaker (Meets edge o e) IsInMap (λ k m.
    in_map a b k (IsInMap-key_at edge o a first) (IsInMap-key_at edge e b last)
    (met_spanned edge o e a b k positive first last m)) ks walk.met
