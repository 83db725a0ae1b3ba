-- How large sums, products and rounded quotients get.
use Rattle.std.proofs.Common.{◌≡◌, ℕ, ◌+◌, ◌-◌, ◌*◌, ◌≤◌, ℤ, pos, negsuc, ◌+ℤ◌, ◌-ℤ◌, ◌*ℤ◌, ◌≤ℤ◌}
use Rattle.std.proofs.Common.{neg_ℤ, inl, inr, arith, refl}
use Rattle.std.specs.Prelude.{unsigned_abs}
use Rattle.std.proofs.lemmas.Bool.{cases_lt}
use Rattle.std.proofs.lemmas.Int.{ints, by_lt_z, unsigned_abs-mul}
use Rattle.std.proofs.lemmas.Nat.{mul-le}
use Rattle.oct_num.specs.Rounding.{half_up}
use Rattle.oct_num.proofs.Nearest.{apart, half_up_low, half_up_high}

-- a product of bounded numbers
pub product_within : (a b : ℤ) (m n : ℕ) → unsigned_abs a ≤ m → unsigned_abs b ≤ n
    → unsigned_abs (a *ℤ b) ≤ m * n
product_within a b m n h k = rw (unsigned_abs-mul a b) (mul-le _ _ _ _ h k)

-- a sum of three bounded numbers
pub sum_within : (a b c : ℤ) (m : ℕ) → unsigned_abs a ≤ m → unsigned_abs b ≤ m → unsigned_abs c ≤ m
    → unsigned_abs (a +ℤ b +ℤ c) ≤ 3 * m
sum_within a b c m h k l = omega (arith, ints)

-- a square is the square of the magnitude
pub square_is : (z : ℤ) → z *ℤ z ≡ pos (unsigned_abs z * unsigned_abs z)
square_is (pos n) = refl
square_is (negsuc n) = refl

-- twice a product is at most the sum of the squares
pub two_products : (m n : ℕ) → 2 * (m * n) ≤ m * m + n * n
two_products m n = elim (cases_lt m n) [
  | inl h ↦ let e : n ≡ m + (n - m) = omega arith in rw e (omega arith)
  | inr h ↦ let e : m ≡ n + (m - n) = omega arith in rw e (omega arith)
]

twice_sum : (y z : ℤ) → unsigned_abs (pos 2 *ℤ (y +ℤ z)) ≤ 2 * unsigned_abs y + 2 * unsigned_abs z
twice_sum y z = omega (arith, ints)

twice_difference : (y z : ℤ)
    → unsigned_abs (pos 2 *ℤ (y -ℤ z)) ≤ 2 * unsigned_abs y + 2 * unsigned_abs z
twice_difference y z = omega (arith, ints)

-- the square of a number's magnitude
abbrev pub square : ℤ → ℕ
square z = unsigned_abs z * unsigned_abs z

-- twice a sum of two products is at most the sum of the squares
pub twice_sum_within : (a b c d : ℤ)
    → unsigned_abs (pos 2 *ℤ (a *ℤ b +ℤ c *ℤ d)) ≤ square a + square b + square c + square d
twice_sum_within a b c d =
    let most = twice_sum (a *ℤ b) (c *ℤ d) in
    let one = unsigned_abs-mul a b in
    let other = unsigned_abs-mul c d in
    let ab = two_products (unsigned_abs a) (unsigned_abs b) in
    let cd = two_products (unsigned_abs c) (unsigned_abs d) in
    omega arith

pub twice_difference_within : (a b c d : ℤ)
    → unsigned_abs (pos 2 *ℤ (a *ℤ b -ℤ c *ℤ d)) ≤ square a + square b + square c + square d
twice_difference_within a b c d =
    let most = twice_difference (a *ℤ b) (c *ℤ d) in
    let one = unsigned_abs-mul a b in
    let other = unsigned_abs-mul c d in
    let ab = two_products (unsigned_abs a) (unsigned_abs b) in
    let cd = two_products (unsigned_abs c) (unsigned_abs d) in
    omega arith

-- a signed sum of natural numbers is at most their sum
pub signed_sum_within : (a b c d : ℕ)
    → unsigned_abs (pos a +ℤ pos b -ℤ pos c -ℤ pos d) ≤ a + b + c + d
signed_sum_within a b c d = omega (arith, ints)

pub diagonal_within : (a b c d : ℤ)
    → unsigned_abs (a *ℤ a +ℤ b *ℤ b -ℤ c *ℤ c -ℤ d *ℤ d)
    ≤ square a + square b + square c + square d
diagonal_within a b c d =
    rw (square_is a, square_is b, square_is c, square_is d)
    (signed_sum_within (square a) (square b) (square c) (square d))

-- a quotient that is rounded half up is at most what the number is times the divisor
pub half_up_within : (n d : ℤ) (m : ℕ) → pos 1 ≤ℤ d → n ≤ℤ (pos m *ℤ d) → (neg_ℤ (pos m) *ℤ d) ≤ℤ n
    → unsigned_abs (half_up n d) ≤ m
half_up_within n d m positive high low =
    let k = half_up n d in
    by_lt_z (pos m) k
    (λ above. absurd (omega (
      arith,
      ints,
      apart (pos m) k d positive above,
      half_up_low n d positive,
    )))
    (λ not_above. by_lt_z k (neg_ℤ (pos m))
    (λ below. absurd (omega (
      arith,
      ints,
      apart k (neg_ℤ (pos m)) d positive below,
      half_up_high n d positive,
    )))
    (λ not_below. omega (arith, ints)))
