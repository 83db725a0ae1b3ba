-- Where a beam is cut.
use Rattle.std.proofs.Common.{◌≡◌, ℕ, ◌+◌, ◌*◌, ◌/◌, ◌^◌, ◌<◌, ◌≤◌, refl, arith, ◌∙◌, ap, ℤ, pos}
use Rattle.std.proofs.Common.{negsuc, neg_ℤ, ◌+ℤ◌, ◌-ℤ◌, ◌*ℤ◌, ◌≤ℤ◌, unsigned_abs}
use Rattle.std.proofs.lemmas.Int.{ints, by_lt_z}
use Rattle.std.proofs.lemmas.Nat.{mul-le}
use Rattle.std.proofs.Math.Nat.{mul-le-mul_right, le_of_mul-le-mul_right, mul-pos}
use Rattle.std.specs.Int.RustNames.{int_div}
use borrow.Author.Differences.{up, down, product_is, quot_is}
use Rattle.oct_num.proofs.Roots.{root_lt, root_le}
use Rattle.oct_key.specs.declared.point.Point.{Point}
use Rattle.oct_ray.specs.Range.{IsCutEnd, axis_distance, cut_coordinate, square_distance}

-- a range below the distance is below the length
pub range_lt : (range r square s l : ℕ) → range ≡ r → square ≡ s → r * r < s → square ≤ l * l
    → range < l
range_lt range r square s l e f h k = rw e (root_lt r l (omega arith))

-- a distance on an axis is at most the length
pub distance_le : (d s : ℕ) → d * d ≤ s → s ≤ 2 ^ 112 → d ≤ 2 ^ 56
distance_le d s h k = root_le d (2 ^ 56) (omega arith)

-- a quotient that is rounded toward 0, from its parts above and below 0
quotient_parts : (d : ℤ) (r l : ℕ)
    → (up (int_div (d *ℤ pos r) (pos l)) ≡ (up d * r) / l)
    × (down (int_div (d *ℤ pos r) (pos l)) ≡ (down d * r) / l)
quotient_parts d r l =
    let q = quot_is (d *ℤ pos r) l in
    let u : up (d *ℤ pos r) ≡ up d * r = omega (arith, product_is d (pos r)) in
    let v : down (d *ℤ pos r) ≡ down d * r = omega (arith, product_is d (pos r)) in
    (q.0 ∙ ap (λ (n : ℕ). n / l) u, q.1 ∙ ap (λ (n : ℕ). n / l) v)

-- the parts of a number that isn't negative, and of one that isn't positive
parts_rising : (d : ℤ) → pos 0 ≤ℤ d → (up d ≡ unsigned_abs d) × (down d ≡ 0)
parts_rising (pos n) h = (refl, refl)
parts_rising (negsuc n) h = absurd (omega (arith, ints))

parts_falling : (d : ℤ) → d ≤ℤ pos 0 → (down d ≡ unsigned_abs d) × (up d ≡ 0)
parts_falling (pos n) h = let zero : n ≡ 0 = omega (arith, ints) in rw zero (refl, refl)
parts_falling (negsuc n) h = (refl, refl)

part_of_equal : (n d d' r l : ℕ) → n ≡ (d * r) / l → d ≡ d' → n ≡ (d' * r) / l
part_of_equal n d d' r l h e = h ∙ ap (λ (m : ℕ). (m * r) / l) e

-- nothing of 0
part_of_zero : (n d r l : ℕ) → n ≡ (d * r) / l → d ≡ 0 → n ≡ 0
part_of_zero n d r l h e = part_of_equal n d 0 r l h e ∙ omega arith

-- a quotient that is rounded toward 0, where the number isn't negative, and where it isn't positive
quotient_rising : (d : ℤ) (r l : ℕ) → pos 0 ≤ℤ d
    → int_div (d *ℤ pos r) (pos l) ≡ pos ((unsigned_abs d * r) / l)
quotient_rising d r l h =
    let q = quotient_parts d r l in
    let p = parts_rising d h in
    let u = part_of_equal _ (up d) (unsigned_abs d) r l q.0 p.0 in
    let v = part_of_zero _ (down d) r l q.1 p.1 in
    omega (arith, ints, u, v)

quotient_falling : (d : ℤ) (r l : ℕ) → d ≤ℤ pos 0
    → int_div (d *ℤ pos r) (pos l) ≡ neg_ℤ (pos ((unsigned_abs d * r) / l))
quotient_falling d r l h =
    let q = quotient_parts d r l in
    let p = parts_falling d h in
    let u = part_of_zero _ (up d) r l q.0 p.1 in
    let v = part_of_equal _ (down d) (unsigned_abs d) r l q.1 p.0 in
    omega (arith, ints, u, v)

-- a cut coordinate, where the beam rises
pub cut_up : (o e : ℤ) (r l : ℕ) → o ≤ℤ e
    → cut_coordinate o e (pos r) l ≡ o +ℤ pos ((axis_distance o e * r) / l)
cut_up o e r l h = ap (λ (z : ℤ). o +ℤ z) (quotient_rising (e -ℤ o) r l (omega (arith, ints)))

-- a cut coordinate, where the beam falls
pub cut_down : (o e : ℤ) (r l : ℕ) → e ≤ℤ o
    → cut_coordinate o e (pos r) l ≡ o -ℤ pos ((axis_distance o e * r) / l)
cut_down o e r l h =
    let q = quotient_falling (e -ℤ o) r l (omega (arith, ints)) in
    ap (λ (z : ℤ). o +ℤ z) q ∙ omega (arith, ints)

moved_up : (o c : ℤ) (n : ℕ) → c ≡ o +ℤ pos n → axis_distance o c ≡ n
moved_up o c n h = omega (arith, ints)

moved_down : (o c : ℤ) (n : ℕ) → c ≡ o -ℤ pos n → axis_distance o c ≡ n
moved_down o c n h = omega (arith, ints)

-- how far a cut coordinate lies from the origin
distance_cut : (o e c : ℤ) (r l : ℕ) → c ≡ cut_coordinate o e (pos r) l
    → axis_distance o c ≡ (axis_distance o e * r) / l
distance_cut o e c r l h =
    by_lt_z e o
    (λ falls. moved_down o c _ (h ∙ cut_down o e r l (omega (arith, ints))))
    (λ rises. moved_up o c _ (h ∙ cut_up o e r l (omega (arith, ints))))

-- the product of what a quotient gives with its divisor is no greater than what is divided
product_le : (n l : ℕ) → 0 < l → (n / l) * l ≤ n
product_le n l h = omega arith

-- the square of a cut distance, times that of the length
square_part : (d r l t : ℕ) → 0 < l → t ≡ (d * r) / l → (t * t) * (l * l) ≤ (d * d) * (r * r)
square_part d r l t h e =
    let p : t * l ≤ d * r = rw e (product_le (d * r) l h) in
    let q : (t * l) * (t * l) ≤ (d * r) * (d * r) = mul-le _ _ _ _ p p in
    omega arith

-- parts of three distances are together no longer than the range
within_range : (a b c x y z r l : ℕ) → 0 < l → x * x + y * y + z * z ≤ l * l → a ≡ (x * r) / l
    → b ≡ (y * r) / l → c ≡ (z * r) / l → a * a + b * b + c * c ≤ r * r
within_range a b c x y z r l h k ea eb ec =
    let pa = square_part x r l a h ea in
    let pb = square_part y r l b h eb in
    let pc = square_part z r l c h ec in
    let whole : (x * x + y * y + z * z) * (r * r) ≤ (l * l) * (r * r) =
    mul-le-mul_right (r * r) k in
    let all : (a * a + b * b + c * c) * (l * l) ≤ (r * r) * (l * l) = omega arith in
    le_of_mul-le-mul_right all (mul-pos h h)

-- what `cut` computes is the cut end
pub cut_is : (o e c : Point) (r : ℤ) (range length : ℕ) → pos 0 ≤ℤ r → range ≡ unsigned_abs r
    → square_distance o e ≤ length * length → ((n : ℕ) → square_distance o e ≤ n * n → length ≤ n) →
    c.x ≡ cut_coordinate o.x e.x (pos range) length
    → c.y ≡ cut_coordinate o.y e.y (pos range) length
    → c.z ≡ cut_coordinate o.z e.z (pos range) length → IsCutEnd o e r c
cut_is o e c r range length positive is enough least x y z =
    let same : pos range ≡ r = omega (arith, ints) in
    record {
      length = length;
      enough = enough;
      least = least;
      x = rw same at x;
      y = rw same at y;
      z = rw same at z;
    }

-- and it lies within the range
pub cut_within : (o e c : Point) (r : ℤ) (range length : ℕ) → range ≡ unsigned_abs r
    → unsigned_abs r * unsigned_abs r < square_distance o e → square_distance o e ≤ length * length
    →
    c.x ≡ cut_coordinate o.x e.x (pos range) length
    → c.y ≡ cut_coordinate o.y e.y (pos range) length
    → c.z ≡ cut_coordinate o.z e.z (pos range) length
    → square_distance o c ≤ unsigned_abs r * unsigned_abs r
cut_within o e c r range length is beyond enough x y z =
    let less =
    range_lt range (unsigned_abs r) (square_distance o e) (square_distance o e) length is refl
    beyond enough in
    rw is at
    (within_range (axis_distance o.x c.x) (axis_distance o.y c.y) (axis_distance o.z c.z)
    (axis_distance o.x e.x) (axis_distance o.y e.y) (axis_distance o.z e.z) range length
    (omega arith) enough (distance_cut o.x e.x c.x range length x)
    (distance_cut o.y e.y c.y range length y) (distance_cut o.z e.z c.z range length z))

-- the distance on each axis is in reach
pub record AreInReach (o e : Point) : Type 0 where
  pub x : axis_distance o.x e.x ≤ 2 ^ 56
  pub y : axis_distance o.y e.y ≤ 2 ^ 56
  pub z : axis_distance o.z e.z ≤ 2 ^ 56

pub in_reach : (o e : Point) → square_distance o e ≤ 2 ^ 112 → AreInReach o e
in_reach o e h = record {
  x = distance_le _ _ (omega arith) h;
  y = distance_le _ _ (omega arith) h;
  z = distance_le _ _ (omega arith) h;
}
