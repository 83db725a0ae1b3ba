-- Whole numbers as differences of natural ones, so that sums and products are
-- reckoned and compared without signs.
use Rattle.std.proofs.Common.{◌≡◌, ℕ, ◌+◌, ◌*◌, ◌<◌, ◌≤◌, ℤ, pos, neg_ℤ, ◌+ℤ◌, ◌-ℤ◌, ◌*ℤ◌, ◌≤ℤ◌}
use Rattle.std.proofs.Common.{◌<ℤ◌, arith, ap}
use Rattle.std.proofs.lemmas.Int.{ints}
use borrow.Author.Differences.{up, down, product_is}

-- z is a - b
pub record IsDifference (z : ℤ) (a b : ℕ) : Type 0 where
  pub same : up z + b ≡ down z + a

pub parts : (z : ℤ) → IsDifference z (up z) (down z)
parts z = record { same = omega arith }

pub natural : (n : ℕ) → IsDifference (pos n) n 0
natural n = record { same = omega (arith, ints) }

pub of_naturals : (a b : ℕ) → IsDifference (pos a -ℤ pos b) a b
of_naturals a b = record { same = omega (arith, ints) }

pub plus : {y z : ℤ} {a b c d : ℕ} → IsDifference y a b → IsDifference z c d
    → IsDifference (y +ℤ z) (a + c) (b + d)
plus h k = record { same = omega (arith, ints, h.same, k.same) }

pub minus : {y z : ℤ} {a b c d : ℕ} → IsDifference y a b → IsDifference z c d
    → IsDifference (y -ℤ z) (a + d) (b + c)
minus h k = record { same = omega (arith, ints, h.same, k.same) }

pub negated : {z : ℤ} {a b : ℕ} → IsDifference z a b → IsDifference (neg_ℤ z) b a
negated h = record { same = omega (arith, ints, h.same) }

-- products of differences
cross : (p q a b r s c d : ℕ) → p + b ≡ q + a → r + d ≡ s + c
    → (p * r + q * s) + (a * d + b * c) ≡ (p * s + q * r) + (a * c + b * d)
cross p q a b r s c d h k =
    omega (arith, ap (λ n. n * r) h, ap (λ n. n * s) h, ap (λ n. n * a) k, ap (λ n. n * b) k)

pub times : {y z : ℤ} {a b c d : ℕ} → IsDifference y a b → IsDifference z c d
    → IsDifference (y *ℤ z) (a * c + b * d) (a * d + b * c)
times {y = y} {z = z} {a = a} {b = b} {c = c} {d = d} h k =
    let is = product_is y z in
    let e = cross (up y) (down y) a b (up z) (down z) c d h.same k.same in
    record { same = omega (arith, is.0, is.1, e) }

-- the product with a natural number, which may stand on either side
pub scaled : {z : ℤ} {a b : ℕ} → (n : ℕ) → IsDifference z a b
    → IsDifference (z *ℤ pos n) (a * n) (b * n)
scaled {z = z} n h = record { same = omega (arith, product_is z (pos n), ap (λ m. m * n) h.same) }

pub scaled_left : {z : ℤ} {a b : ℕ} → (n : ℕ) → IsDifference z a b
    → IsDifference (pos n *ℤ z) (n * a) (n * b)
scaled_left {z = z} n h = record {
  same = omega (arith, product_is (pos n) z, ap (λ m. n * m) h.same);
}

-- equal differences are one number
pub equal : {y z : ℤ} {a b c d : ℕ} → IsDifference y a b → IsDifference z c d → a + d ≡ b + c
    → y ≡ z
equal h k e = omega (arith, ints, h.same, k.same, e)

-- numbers compare as their differences do
pub le : {y z : ℤ} {a b c d : ℕ} → IsDifference y a b → IsDifference z c d → y ≤ℤ z → a + d ≤ c + b
le h k l = omega (arith, ints, h.same, k.same, l)

pub lt : {y z : ℤ} {a b c d : ℕ} → IsDifference y a b → IsDifference z c d → y <ℤ z → a + d < c + b
lt h k l = omega (arith, ints, h.same, k.same, l)

pub from_le : {y z : ℤ} {a b c d : ℕ} → IsDifference y a b → IsDifference z c d → a + d ≤ c + b
    → y ≤ℤ z
from_le h k l = omega (arith, ints, h.same, k.same, l)

pub from_lt : {y z : ℤ} {a b c d : ℕ} → IsDifference y a b → IsDifference z c d → a + d < c + b
    → y <ℤ z
from_lt h k l = omega (arith, ints, h.same, k.same, l)
