-- Rounding half up finds the nearest whole number, and the upper one at a tie.
use Rattle.std.proofs.Common.{◌≡◌, suc, ◌*◌, ◌≤◌, ◌<◌, ℤ, pos, negsuc, ◌+ℤ◌, ◌-ℤ◌, ◌*ℤ◌, ◌≤ℤ◌, ◌<ℤ◌}
use Rattle.std.proofs.Common.{arith}
use Rattle.std.specs.Prelude.{unsigned_abs}
use Rattle.std.proofs.lemmas.Int.{ints, by_lt_z}
use Rattle.std.proofs.Math.Nat.{mul-le-mul_right}
use Rattle.oct_num.specs.Rounding.{half_up, distance, IsNearest}
use Rattle.oct_num.proofs.Floor.{floor_low, floor_high}

-- twice the divisor in a product
times_double : (k d : ℤ) → pos 1 ≤ℤ d → (k *ℤ (pos 2 *ℤ d)) ≡ pos 2 *ℤ (k *ℤ d)
times_double (pos a) (pos b) h = omega (arith, ints)
times_double (negsuc a) (pos b) h = omega (arith, ints)
times_double (pos a) (negsuc b) h = absurd (omega (arith, ints))
times_double (negsuc a) (negsuc b) h = absurd (omega (arith, ints))

-- the products of two numbers are at least the divisor apart
pub apart : (k m d : ℤ) → pos 1 ≤ℤ d → k <ℤ m → (k *ℤ d +ℤ d) ≤ℤ (m *ℤ d)
apart (pos a) (pos b) (pos d) p h =
    let more : suc a * d ≤ b * d = mul-le-mul_right d (omega (arith, ints)) in
    omega (arith, ints)
apart (negsuc a) (pos b) (pos d) p h = omega (arith, ints)
apart (negsuc a) (negsuc b) (pos d) p h =
    let more : suc b * d ≤ a * d = mul-le-mul_right d (omega (arith, ints)) in
    omega (arith, ints)
apart (pos a) (negsuc b) (pos d) p h = absurd (omega (arith, ints))
apart k m (negsuc d) p h = absurd (omega (arith, ints))

-- the product with what is rounded half up lies within half the divisor, from half of it
-- below to less than half of it above
pub half_up_low : (n d : ℤ) → pos 1 ≤ℤ d → (pos 2 *ℤ (half_up n d *ℤ d)) ≤ℤ (pos 2 *ℤ n +ℤ d)
half_up_low n d h =
    rw (times_double (half_up n d) d h) at
    (floor_low (pos 2 *ℤ n +ℤ d) (pos 2 *ℤ d) (omega (arith, ints)))

pub half_up_high : (n d : ℤ) → pos 1 ≤ℤ d
    → (pos 2 *ℤ n +ℤ d) <ℤ (pos 2 *ℤ (half_up n d *ℤ d) +ℤ pos 2 *ℤ d)
half_up_high n d h =
    rw (times_double (half_up n d) d h) at
    (floor_high (pos 2 *ℤ n +ℤ d) (pos 2 *ℤ d) (omega (arith, ints)))

-- the size of the difference from one product is at most that from another one,
-- where the second lies further off
nearer : (n a b d : ℤ) → (pos 2 *ℤ a) ≤ℤ (pos 2 *ℤ n +ℤ d)
    → (pos 2 *ℤ n +ℤ d) <ℤ (pos 2 *ℤ a +ℤ pos 2 *ℤ d) → (b +ℤ d) ≤ℤ a
    → unsigned_abs (n -ℤ a) ≤ unsigned_abs (n -ℤ b)
nearer n a b d low high below = omega (arith, ints)

farther : (n a b d : ℤ) → (pos 2 *ℤ a) ≤ℤ (pos 2 *ℤ n +ℤ d)
    → (pos 2 *ℤ n +ℤ d) <ℤ (pos 2 *ℤ a +ℤ pos 2 *ℤ d) → (a +ℤ d) ≤ℤ b
    → unsigned_abs (n -ℤ a) < unsigned_abs (n -ℤ b)
farther n a b d low high above = omega (arith, ints)

-- what is rounded half up is the nearest whole number
half_up_nearest : (n d m : ℤ) → pos 1 ≤ℤ d → distance n d (half_up n d) ≤ distance n d m
half_up_nearest n d m h =
    let k = half_up n d in
    by_lt_z m k
    (λ below. nearer n (k *ℤ d) (m *ℤ d) d (half_up_low n d h) (half_up_high n d h)
    (apart m k d h below))
    (λ not_below. by_lt_z k m
    (λ above. let far = farther n (k *ℤ d) (m *ℤ d) d (half_up_low n d h) (half_up_high n d h)
    (apart k m d h above) in omega (arith, far))
    (λ not_above. let same : m ≡ k = omega (arith, ints) in rw same (omega arith)))

-- no upper one is as near
half_up_upper : (n d m : ℤ) → pos 1 ≤ℤ d → distance n d (half_up n d) ≡ distance n d m
    → m ≤ℤ half_up n d
half_up_upper n d m h same =
    let k = half_up n d in
    by_lt_z k m
    (λ above. let far = farther n (k *ℤ d) (m *ℤ d) d (half_up_low n d h) (half_up_high n d h)
    (apart k m d h above) in absurd (omega (arith, far, same)))
    (λ not_above. not_above)

pub IsNearest-half_up : (n d : ℤ) → pos 1 ≤ℤ d → IsNearest n d (half_up n d)
IsNearest-half_up n d h = record {
  nearest = λ m. half_up_nearest n d m h;
  upper = λ m. half_up_upper n d m h;
}
