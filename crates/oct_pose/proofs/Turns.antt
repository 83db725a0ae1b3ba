-- No factor of a rotation exceeds the square of the quaternion's length, so that a
-- turned point is near the origin.
use Rattle.std.proofs.Common.{◌≡◌, ℕ, ◌+◌, ◌*◌, ◌^◌, ◌<◌, ◌≤◌, ℤ, pos, negsuc, inl, inr, ap, zero}
use Rattle.std.proofs.Common.{suc, sym, ◌∙◌, ◌+ℤ◌, ◌-ℤ◌, ◌*ℤ◌, ◌≤ℤ◌, neg_ℤ, arith, refl}
use Rattle.std.specs.Prelude.{unsigned_abs}
use Rattle.std.proofs.lemmas.Int.{ints}
use Rattle.std.proofs.lemmas.Bool.{cases_lt}
use Rattle.std.proofs.Math.Nat.{mul-pos, zero-mul}
use Rattle.oct_key.specs.declared.point.Point.{Point}
use Rattle.oct_num.specs.Rounding.{half_up}
use Rattle.oct_pose.specs.Reach.{IsInReach, IsZero}
use Rattle.oct_pose.specs.Rotation.{norm, x_row, y_row, z_row, weighted, IsBounded}
use Rattle.oct_pose.specs.declared.rotation.Quaternion.{Quaternion}
use Rattle.oct_pose.specs.declared.rotation.Row.{Row}
use Rattle.oct_pose.proofs.Bounds.{square, square_is, product_within, sum_within, twice_sum_within}
use Rattle.oct_pose.proofs.Bounds.{twice_difference_within, diagonal_within, half_up_within}

abbrev pub row : ℤ → ℤ → ℤ → Row
row x y z = record { x = x; y = y; z = z }

-- the square of the length as a natural number
abbrev squares : Quaternion → ℕ
squares q = square q.w + square q.x + square q.y + square q.z

norm_is : (q : Quaternion) → norm q ≡ pos (squares q)
norm_is q = rw (square_is q.w, square_is q.x, square_is q.y, square_is q.z) refl

-- a number within the squares is within the square of the length
in_norm : (q : Quaternion) (z : ℤ) → unsigned_abs z ≤ squares q → pos (unsigned_abs z) ≤ℤ norm q
in_norm q z h = rw (norm_is q) (omega (arith, ints))

pub IsBounded-x_row : (q : Quaternion) → IsBounded (norm q) (x_row q)
IsBounded-x_row q = record {
  x = in_norm q (x_row q).x (diagonal_within q.w q.x q.y q.z);
  y = in_norm q (x_row q).y (let h = twice_difference_within q.x q.y q.w q.z in omega arith);
  z = in_norm q (x_row q).z (let h = twice_sum_within q.x q.z q.w q.y in omega arith);
}

-- the same sum in another order
reordered : (a b c d : ℤ) → (a -ℤ b +ℤ c -ℤ d) ≡ (a +ℤ c -ℤ b -ℤ d)
reordered a b c d = omega (arith, ints)

reordered_last : (a b c d : ℤ) → (a -ℤ b -ℤ c +ℤ d) ≡ (a +ℤ d -ℤ b -ℤ c)
reordered_last a b c d = omega (arith, ints)

-- the diagonal factors of y and z, with the axis's own number first
pub y_diagonal : (q : Quaternion)
    → (y_row q).y ≡ (q.w *ℤ q.w +ℤ q.y *ℤ q.y -ℤ q.x *ℤ q.x -ℤ q.z *ℤ q.z)
y_diagonal q = reordered (q.w *ℤ q.w) (q.x *ℤ q.x) (q.y *ℤ q.y) (q.z *ℤ q.z)

pub z_diagonal : (q : Quaternion)
    → (z_row q).z ≡ (q.w *ℤ q.w +ℤ q.z *ℤ q.z -ℤ q.x *ℤ q.x -ℤ q.y *ℤ q.y)
z_diagonal q = reordered_last (q.w *ℤ q.w) (q.x *ℤ q.x) (q.y *ℤ q.y) (q.z *ℤ q.z)

-- rows of these factors
pub y_row_is : (q : Quaternion) (x y z : ℤ) → x ≡ (y_row q).x
    → y ≡ (q.w *ℤ q.w +ℤ q.y *ℤ q.y -ℤ q.x *ℤ q.x -ℤ q.z *ℤ q.z) → z ≡ (y_row q).z
    → row x y z ≡ y_row q
y_row_is q x y z h k l = rw (h, k ∙ sym (y_diagonal q), l) refl

pub z_row_is : (q : Quaternion) (x y z : ℤ) → x ≡ (z_row q).x → y ≡ (z_row q).y
    → z ≡ (q.w *ℤ q.w +ℤ q.z *ℤ q.z -ℤ q.x *ℤ q.x -ℤ q.y *ℤ q.y) → row x y z ≡ z_row q
z_row_is q x y z h k l = rw (h, k, l ∙ sym (z_diagonal q)) refl

pub IsBounded-y_row : (q : Quaternion) → IsBounded (norm q) (y_row q)
IsBounded-y_row q = record {
  x = in_norm q (y_row q).x (let h = twice_sum_within q.x q.y q.w q.z in omega arith);
  y =
      in_norm q (y_row q).y (rw (y_diagonal q) (let h = diagonal_within q.w q.y q.x q.z in
      omega arith));
  z = in_norm q (y_row q).z (let h = twice_difference_within q.y q.z q.w q.x in omega arith);
}

pub IsBounded-z_row : (q : Quaternion) → IsBounded (norm q) (z_row q)
IsBounded-z_row q = record {
  x = in_norm q (z_row q).x (let h = twice_difference_within q.x q.z q.w q.y in omega arith);
  y = in_norm q (z_row q).y (let h = twice_sum_within q.y q.z q.w q.x in omega arith);
  z =
      in_norm q (z_row q).z (rw (z_diagonal q) (let h = diagonal_within q.w q.z q.x q.y in
      omega arith));
}

-- a number is 0, or has a positive square
by_zero : {P : Type 0} (z : ℤ) → (z ≡ pos 0 → P) → (0 < square z → P) → P
by_zero (pos n) nought some = elim (cases_lt 0 n) [
  | inl h ↦ some (mul-pos h h)
  | inr h ↦ nought (ap pos (omega arith))
]
by_zero (negsuc n) nought some = some (mul-pos (omega arith) (omega arith))

-- a quaternion that isn't 0 has a positive length
pub norm_positive : (q : Quaternion) → (IsZero q.w q.x q.y q.z → ⊥) → pos 1 ≤ℤ norm q
norm_positive q turns =
    rw (norm_is q)
    (by_zero q.w
    (λ w. by_zero q.x (λ x. by_zero q.y (λ y. by_zero q.z (λ z. absurd (turns (w, x, y, z)))
    (λ h. omega (arith, ints))) (λ h. omega (arith, ints))) (λ h. omega (arith, ints)))
    (λ h. omega (arith, ints)))

-- the weighted sum of a point in reach, within three times the reach and the square of the length
weighted_within : (n : ℕ) (row : Row) (p : Point) → IsBounded (pos n) row → IsInReach p
    → unsigned_abs (weighted row p) ≤ 3 * (n * 10 ^ 16)
weighted_within n row p bounded reach =
    let x =
    product_within row.x p.x n (10 ^ 16) (omega (arith, ints, bounded.x))
    (omega (arith, reach.x)) in
    let y =
    product_within row.y p.y n (10 ^ 16) (omega (arith, ints, bounded.y))
    (omega (arith, reach.y)) in
    let z =
    product_within row.z p.z n (10 ^ 16) (omega (arith, ints, bounded.z))
    (omega (arith, reach.z)) in
    sum_within (row.x *ℤ p.x) (row.y *ℤ p.y) (row.z *ℤ p.z) (n * 10 ^ 16) x y z

-- the product of a negated number
neg_product : (m n : ℕ) → (neg_ℤ (pos m) *ℤ pos n) ≡ neg_ℤ (pos (m * n))
neg_product zero n = rw (zero-mul n) refl
neg_product (suc m) n = refl

-- the edges of a bound, times a natural number
edges : (z : ℤ) (n m : ℕ) → unsigned_abs z ≤ 3 * (n * m)
    → (z ≤ℤ (pos (3 * m) *ℤ pos n)) × ((neg_ℤ (pos (3 * m)) *ℤ pos n) ≤ℤ z)
edges z n m h = (omega (arith, ints), rw (neg_product (3 * m) n) (omega (arith, ints)))

-- a coordinate of a turned point is within three times the reach
pub coordinate_within : (norm : ℤ) (row : Row) (p : Point) → pos 1 ≤ℤ norm → IsBounded norm row
    → IsInReach p → unsigned_abs (half_up (weighted row p) norm) ≤ 3 * 10 ^ 16
coordinate_within (pos n) row p positive bounded reach =
    let both = edges (weighted row p) n (10 ^ 16) (weighted_within n row p bounded reach) in
    half_up_within (weighted row p) (pos n) (3 * 10 ^ 16) positive both.0 both.1
coordinate_within (negsuc n) row p positive bounded reach = absurd (omega (arith, ints))
