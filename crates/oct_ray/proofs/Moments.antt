-- Moments on the way along a segment, and their order: it is transitive and total, and between two
-- moments lies a place.
use Rattle.std.proofs.Common.{◌≡◌, ℕ, ◌+◌, ◌*◌, ◌<◌, ◌≤◌, arith, inl, inr, ◌⊎◌}
use Rattle.std.proofs.lemmas.Bool.{cases_lt}
use Rattle.std.proofs.Math.Nat.{mul-le-mul_right, le_of_mul-le-mul_right}

-- a moment on the way along a segment: at the place numerator / denominator, or, where late is 1,
-- just after it
pub record Moment : Type 0 where
  pub numerator : ℕ
  pub denominator : ℕ
  pub late : ℕ

-- a has a divisor, and is at a place or just after it
abbrev pub IsMoment : Moment → Type 0
IsMoment a = (0 < a.denominator) × (a.late ≤ 1)

-- a comes no later than b
abbrev pub NotAfter : Moment → Moment → Type 0
NotAfter a b =
    2 * (a.numerator * b.denominator) + a.late ≤ 2 * (b.numerator * a.denominator) + b.late

-- a comes before b
abbrev pub Before : Moment → Moment → Type 0
Before a b =
    2 * (a.numerator * b.denominator) + a.late < 2 * (b.numerator * a.denominator) + b.late

-- the products that a chain a ≤ b ≤ c of fractions gives
pub fraction_trans : (x a y b z c : ℕ) → 0 < b → x * b ≤ y * a → y * c ≤ z * b → x * c ≤ z * a
fraction_trans x a y b z c pb h k =
    let u : (x * b) * c ≤ (y * a) * c = mul-le-mul_right c h in
    let v : (y * c) * a ≤ (z * b) * a = mul-le-mul_right a k in
    let w : (x * c) * b ≤ (z * a) * b = omega arith in
    le_of_mul-le-mul_right w pb

-- where the ends are equal, so are the steps
pub fraction_squeeze : (x a y b z c : ℕ) → 0 < a → 0 < c → x * b ≤ y * a → y * c ≤ z * b
    → z * a ≤ x * c → (x * b ≡ y * a) × (y * c ≡ z * b)
fraction_squeeze x a y b z c pa pc h k r =
    let s : y * a ≤ x * b = fraction_trans y b z c x a pc k r in
    let t : z * b ≤ y * c = fraction_trans z c x a y b pa r h in
    (omega arith, omega arith)

pub moment_trans : (a b c : Moment) → IsMoment a → IsMoment b → IsMoment c → NotAfter a b
    → NotAfter b c → NotAfter a c
moment_trans a b c ia ib ic h k =
    let h0 : a.numerator * b.denominator ≤ b.numerator * a.denominator = omega arith in
    let k0 : b.numerator * c.denominator ≤ c.numerator * b.denominator = omega arith in
    let u : a.numerator * c.denominator ≤ c.numerator * a.denominator =
    fraction_trans a.numerator a.denominator b.numerator b.denominator c.numerator c.denominator
    ib.0 h0 k0 in
    elim (cases_lt (a.numerator * c.denominator) (c.numerator * a.denominator)) [
      | inl l ↦ omega arith
      | inr l ↦ let e = fraction_squeeze a.numerator a.denominator b.numerator b.denominator
          c.numerator c.denominator ia.0 ic.0 h0 k0 l in
          omega arith
    ]

pub moment_total : (a b : Moment) → NotAfter a b ⊎ Before b a
moment_total a b =
    elim (cases_lt (2 * (b.numerator * a.denominator) + b.late)
    (2 * (a.numerator * b.denominator) + a.late)) [
      | inl l ↦ inr l
      | inr l ↦ inl l
    ]

-- the mediant: a place between two moments
abbrev pub between : Moment → Moment → Moment
between a b = record {
  numerator = a.numerator + b.numerator;
  denominator = a.denominator + b.denominator;
  late = 0;
}

pub between_from : (a b : Moment) → IsMoment a → IsMoment b → Before a b → NotAfter a (between a b)
between_from a b ia ib h = omega arith

pub between_to : (a b : Moment) → IsMoment a → IsMoment b → Before a b → Before (between a b) b
between_to a b ia ib h = omega arith

pub moment_le_lt : (a b c : Moment) → IsMoment a → IsMoment b → IsMoment c → NotAfter a b
    → Before b c → Before a c
moment_le_lt a b c ia ib ic h k = elim (moment_total c a) [
  | inl n ↦ let r = moment_trans c a b ic ia ib n h in absurd (omega arith)
  | inr l ↦ l
]

pub moment_lt_le : (a b c : Moment) → IsMoment a → IsMoment b → IsMoment c → Before a b
    → NotAfter b c → Before a c
moment_lt_le a b c ia ib ic h k = elim (moment_total c a) [
  | inl n ↦ let r = moment_trans b c a ib ic ia k n in absurd (omega arith)
  | inr l ↦ l
]
