-- Bits of a number spread to every third place, and gathered again, by
-- groups that are halved or doubled.
use Rattle.std.proofs.Common.{◌≡◌, ℕ, zero, suc, ◌+◌, ◌-◌, ◌*◌, ◌/◌, ◌%◌, ◌^◌, ◌<◌, ◌≤◌, refl, sym}
use Rattle.std.proofs.Common.{subst, ◌∙◌, ap, arith, bit_and, bit_or}
use Rattle.std.proofs.Math.Nat.{div-div-eq-div-mul, mul-le-mul_right, le-mul_of_pos_right}
use Rattle.std.proofs.Math.Nat.{mod-eq_of_lt, pow-suc, pow-zero}
use Rattle.std.proofs.Math.Arith.{mod-mul}
use Rattle.std.proofs.lemmas.Nat.{and_mask, and_block, or_block, or_shifted, or_mod, or_lt, or_comm}
use Rattle.std.proofs.lemmas.Nat.{mod-mul-add, div-add-mod', div-mul-add}
use Rattle.std.specs.Int.Bits.{and_zero_r}
use Rattle.oct_key.specs.Morton.{gathered}

-- a radix is a power of two, with its powers
pub record IsRadix (w p : ℕ) : Type 0 where
  pub one : 2 ^ w ≡ p
  pub two : 2 ^ (2 * w) ≡ p * p
  pub three : 2 ^ (3 * w) ≡ p * p * p
  pub six : 2 ^ (6 * w) ≡ p * p * p * (p * p * p)
  pub some : 0 < p

-- the digits of a number to a radix, each followed by two digits of 0
unfoldable pub spread : ℕ → ℕ → ℕ → ℕ
spread p zero n = 0
spread p (suc digits) n = spread p digits (n / p) * (p * p * p) + n % p

-- ones in each place where the digits stand
unfoldable pub mask : ℕ → ℕ → ℕ
mask p zero = 0
mask p (suc digits) = mask p digits * (p * p * p) + (p - 1)

unfoldable pub double : ℕ → ℕ
double zero = zero
double (suc n) = suc (suc (double n))

-- the laws of bits for a power of two that is known by its value
and_blocks : (k m a b r s : ℕ) → 2 ^ k ≡ m → r < m → s < m
    → bit_and (a * m + r) (b * m + s) ≡ bit_and a b * m + bit_and r s
and_blocks k m a b r s e =
    subst (λ (m : ℕ). r < m → s < m → bit_and (a * m + r) (b * m + s) ≡ bit_and a b * m
    + bit_and r s)
    e (and_block k a b r s)

or_blocks : (k m a b r s : ℕ) → 2 ^ k ≡ m → r < m → s < m
    → bit_or (a * m + r) (b * m + s) ≡ bit_or a b * m + bit_or r s
or_blocks k m a b r s e =
    subst (λ (m : ℕ). r < m → s < m → bit_or (a * m + r) (b * m + s) ≡ bit_or a b * m + bit_or r s)
    e (or_block k a b r s)

and_low : (k m n : ℕ) → 2 ^ k ≡ m → bit_and n (m - 1) ≡ n % m
and_low k m n e = subst (λ (m : ℕ). bit_and n (m - 1) ≡ n % m) e (and_mask n k)

or_beside : (k m a b : ℕ) → 2 ^ k ≡ m → b < m → bit_or b (a * m) ≡ a * m + b
or_beside k m a b e =
    subst (λ (m : ℕ). b < m → bit_or b (a * m) ≡ a * m + b) e
    (λ l. or_comm b (a * 2 ^ k) ∙ or_shifted a k b l)

or_low : (k m a b : ℕ) → 2 ^ k ≡ m → bit_or a b % m ≡ bit_or (a % m) (b % m)
or_low k m a b e = subst (λ (m : ℕ). bit_or a b % m ≡ bit_or (a % m) (b % m)) e (or_mod a b k)

-- two digits of a radix are below its square
two_below : (p h l : ℕ) → h < p → l < p → h * p + l < p * p
two_below p h l lh ll =
    let most : (h + 1) * p ≤ p * p = mul-le-mul_right p (omega arith) in
    omega (arith, most)

-- the same with a number below q after the digit
digit_below : (p q h l : ℕ) → h < p → l < q → h * q + l < p * q
digit_below p q h l lh ll =
    let most : (h + 1) * q ≤ p * q = mul-le-mul_right q (omega arith) in
    omega (arith, most)

-- a digit to the square of a radix is two digits to the radix
two_digits : (p n : ℕ) → 0 < p → n % (p * p) ≡ (n / p % p) * p + n % p
two_digits p n some = mod-mul n some some

below_mod : (n p : ℕ) → 0 < p → n % p < p
below_mod n p some = omega arith

-- a power isn't below its root
root_below : (p : ℕ) → 0 < p → p - 1 < p * p * p
root_below p some =
    let square : p ≤ p * p = le-mul_of_pos_right p some in
    let cube : p * p ≤ p * p * p = le-mul_of_pos_right (p * p) some in
    omega arith

-- two digits side by side, in the place of one
low_group : (w p h l : ℕ) → IsRadix w p → h < p → l < p
    → bit_and (bit_or (h * p + l) ((h * p + l) * (p * p))) ((p - 1) * (p * p * p) + (p - 1))
    ≡ h * (p * p * p) + l
low_group w p h l r lh ll =
    let d_below : h * p + l < p * p = two_below p h l lh ll in
    let rest_below : l * (p * p) + (h * p + l) < p * (p * p) =
    digit_below p (p * p) l (h * p + l) ll d_below in
    let both : bit_or (h * p + l) ((h * p + l) * (p * p))
    ≡ h * (p * p * p) + (l * (p * p) + (h * p + l)) =
    or_beside (2 * w) (p * p) (h * p + l) (h * p + l) r.two d_below ∙ omega arith in
    let rest_below' : l * (p * p) + (h * p + l) < p * p * p = omega (arith, rest_below) in
    let lowest : (l * (p * p) + (h * p + l)) % p ≡ l =
    ap (λ (n : ℕ). n % p)
    (let e : l * (p * p) + (h * p + l) ≡ (l * p + h) * p + l = omega arith in
    e)
    ∙ mod-mul-add (l * p + h) p l ll in
    let high : h % p ≡ h = mod-eq_of_lt lh in
    ap (λ (n : ℕ). bit_and n ((p - 1) * (p * p * p) + (p - 1))) both
    ∙ and_blocks (3 * w) (p * p * p) h (p - 1) (l * (p * p) + (h * p + l)) (p - 1) r.three
    rest_below' (root_below p r.some)
    ∙ rw (and_low w p h r.one, and_low w p (l * (p * p) + (h * p + l)) r.one, lowest, high) refl

-- one digit to the square of a radix is cut in two, in front of those that are cut already
halved_step : (w p g m h l : ℕ) → IsRadix w p → h < p → l < p
    → bit_and
    (bit_or (g * (p * p * (p * p) * (p * p)) + (h * p + l))
    ((g * (p * p * (p * p) * (p * p)) + (h * p + l)) * (p * p)))
    ((m * (p * p * p) + (p - 1)) * (p * p * p) + (p - 1))
    ≡ (bit_and (bit_or g (g * (p * p))) m * (p * p * p) + h) * (p * p * p) + l
halved_step w p g m h l r lh ll =
    let q : ℕ = p * p * p * (p * p * p) in
    let d : ℕ = h * p + l in
    let d_below : d < p * p = two_below p h l lh ll in
    let both : bit_or d (d * (p * p)) ≡ d * (p * p) + d =
    or_beside (2 * w) (p * p) d d r.two d_below in
    let both_below : d * (p * p) + d < p * p * (p * p) = two_below (p * p) d d d_below d_below in
    let square : p * p * (p * p) ≤ p * p * (p * p) * (p * p) =
    le-mul_of_pos_right (p * p * (p * p)) (omega (arith, d_below)) in
    let group_below : d * (p * p) + d < q = omega (arith, both_below, square) in
    let d_small : d < q = omega (arith, group_below) in
    let shifted_small : d * (p * p) < q = omega (arith, group_below) in
    let ones_small : (p - 1) * (p * p * p) + (p - 1) < q =
    two_below (p * p * p) (p - 1) (p - 1) (root_below p r.some) (root_below p r.some) in
    let left : g * (p * p * (p * p) * (p * p)) + d ≡ g * q + d = omega arith in
    let right : (g * (p * p * (p * p) * (p * p)) + d) * (p * p) ≡ g * (p * p) * q + d * (p * p) =
    omega arith in
    let ones : (m * (p * p * p) + (p - 1)) * (p * p * p) + (p - 1)
    ≡ m * q + ((p - 1) * (p * p * p) + (p - 1)) =
    omega arith in
    let joined : bit_or (g * (p * p * (p * p) * (p * p)) + d)
    ((g * (p * p * (p * p) * (p * p)) + d) * (p * p))
    ≡ bit_or g (g * (p * p)) * q + bit_or d (d * (p * p)) =
    ap (λ (n : ℕ). bit_or n ((g * (p * p * (p * p) * (p * p)) + d) * (p * p))) left
    ∙ ap (bit_or (g * q + d)) right
    ∙ or_blocks (6 * w) q g (g * (p * p)) d (d * (p * p)) r.six d_small shifted_small in
    ap (λ (n : ℕ). bit_and n ((m * (p * p * p) + (p - 1)) * (p * p * p) + (p - 1))) joined
    ∙ ap (bit_and (bit_or g (g * (p * p)) * q + bit_or d (d * (p * p)))) ones
    ∙ and_blocks (6 * w) q (bit_or g (g * (p * p))) m (bit_or d (d * (p * p)))
    ((p - 1) * (p * p * p) + (p - 1)) r.six (rw both group_below) ones_small
    ∙ ap (λ (n : ℕ). bit_and (bit_or g (g * (p * p))) m * q + n) (low_group w p h l r lh ll)
    ∙ omega arith

-- each digit to the square of a radix is cut in two
pub spread_halved : (w p n v : ℕ) → IsRadix w p
    → bit_and (bit_or (spread (p * p) n v) (spread (p * p) n v * (p * p))) (mask p (double n))
    ≡ spread p (double n) v
unfolding spread mask double
spread_halved w p zero v r = and_zero_r _
spread_halved w p (suc n) v r =
    let twice : v / p / p ≡ v / (p * p) = div-div-eq-div-mul v p p in
    rw (two_digits p v r.some, twice)
    (halved_step w p (spread (p * p) n (v / (p * p))) (mask p (double n)) (v / p % p) (v % p) r
    (below_mod (v / p) p r.some) (below_mod v p r.some)
    ∙ ap (λ (n : ℕ). (n * (p * p * p) + v / p % p) * (p * p * p) + v % p)
    (spread_halved w p n (v / (p * p)) r))

or_below : (k m a b : ℕ) → 2 ^ k ≡ m → a < m → b < m → bit_or a b < m
or_below k m a b e = subst (λ (m : ℕ). a < m → b < m → bit_or a b < m) e (or_lt k a b)

-- two digits beside themselves shifted, at the lowest place
joined_group : (w p a h l : ℕ) → IsRadix w p → h < p → l < p
    → bit_or (h * (p * p * p) + l) (a * (p * p * (p * p)) + h * p) % (p * p) ≡ h * p + l
joined_group w p a h l r lh ll =
    let wide : l < p * p = omega (arith, two_below p h l lh ll) in
    let shifted : h * p < p * p = omega (arith, two_below p h l lh ll) in
    let low : (h * (p * p * p) + l) % (p * p) ≡ l =
    ap (λ (n : ℕ). n % (p * p))
    (let e : h * (p * p * p) + l ≡ h * p * (p * p) + l = omega arith in
    e)
    ∙ mod-mul-add (h * p) (p * p) l wide in
    let high : (a * (p * p * (p * p)) + h * p) % (p * p) ≡ h * p =
    ap (λ (n : ℕ). n % (p * p))
    (let e : a * (p * p * (p * p)) + h * p
    ≡ a * (p * p) * (p * p) + h * p = omega arith in
    e)
    ∙ mod-mul-add (a * (p * p)) (p * p) (h * p) shifted in
    or_low (2 * w) (p * p) (h * (p * p * p) + l) (a * (p * p * (p * p)) + h * p) r.two
    ∙ rw (low, high) (or_beside w p h l r.one ll)

-- two digits are joined to one, in front of those that are joined already
doubled_step : (w p g m h l : ℕ) → IsRadix w p → h < p → l < p
    → bit_and
    (bit_or ((g * (p * p * p) + h) * (p * p * p) + l)
    (((g * (p * p * p) + h) * (p * p * p) + l) / (p * p)))
    (m * (p * p * (p * p) * (p * p)) + (p * p - 1))
    ≡ bit_and (bit_or g (g / (p * p))) m * (p * p * (p * p) * (p * p)) + (h * p + l)
doubled_step w p g m h l r lh ll =
    let q : ℕ = p * p * p * (p * p * p) in
    let low : ℕ = h * (p * p * p) + l in
    let over : ℕ = g % (p * p) * (p * p * (p * p)) + h * p in
    let square_some : 0 < p * p = omega (arith, two_below p h l lh ll) in
    let shifted : h * p < p * p = omega (arith, two_below p h l lh ll) in
    let wide : l < p * p = omega (arith, two_below p h l lh ll) in
    let square : p * p ≤ p * p * (p * p) = le-mul_of_pos_right (p * p) square_some in
    let q_again : p * p * (p * p) * (p * p) ≡ q = omega arith in
    let l_small : l < p * p * p = omega (arith, root_below p r.some) in
    let h_small : h < p * p * p = omega (arith, root_below p r.some) in
    let low_below : low < q = two_below (p * p * p) h l h_small l_small in
    let over_below : over < q =
    omega (
      arith,
      digit_below (p * p) (p * p * (p * p)) (g % (p * p)) (h * p)
          (below_mod g (p * p) square_some) (omega arith),
    ) in
    let left : (g * (p * p * p) + h) * (p * p * p) + l ≡ g * q + low = omega arith in
    let cut : (g * q + low) / (p * p) ≡ g * (p * p * (p * p)) + h * p =
    ap (λ (n : ℕ). n / (p * p))
    (let e : g * q + low
    ≡ (g * (p * p * (p * p)) + h * p) * (p * p) + l = omega arith in
    e)
    ∙ div-mul-add (g * (p * p * (p * p)) + h * p) (p * p) l wide in
    let split : g / (p * p) * (p * p) + g % (p * p) ≡ g = div-add-mod' g (p * p) in
    let right : g * (p * p * (p * p)) + h * p ≡ g / (p * p) * q + over =
    ap (λ (n : ℕ). n * (p * p * (p * p)) + h * p) (sym split) ∙ omega arith in
    let fourth : p * p * (p * p) ≤ p * p * (p * p) * (p * p) =
    le-mul_of_pos_right (p * p * (p * p)) square_some in
    let square_below : p * p - 1 < q = omega (arith, square, fourth) in
    rw (left, cut, right, q_again)
    (rw (or_blocks (6 * w) q g (g / (p * p)) low over r.six low_below over_below)
    (and_blocks (6 * w) q (bit_or g (g / (p * p))) m (bit_or low over) (p * p - 1) r.six
    (or_below (6 * w) q low over r.six low_below over_below) square_below
    ∙ ap (λ (n : ℕ). bit_and (bit_or g (g / (p * p))) m * q + n)
    (and_low (2 * w) (p * p) (bit_or low over) r.two
    ∙ joined_group w p (g % (p * p)) h l r lh ll)))

-- two digits to a radix are joined to one to its square
pub spread_doubled : (w p n v : ℕ) → IsRadix w p
    → bit_and (bit_or (spread p (double n) v) (spread p (double n) v / (p * p))) (mask (p * p) n)
    ≡ spread (p * p) n v
unfolding spread mask double
spread_doubled w p zero v r = and_zero_r _
spread_doubled w p (suc n) v r =
    let twice : v / p / p ≡ v / (p * p) = div-div-eq-div-mul v p p in
    rw (two_digits p v r.some, twice)
    (doubled_step w p (spread p (double n) (v / (p * p))) (mask (p * p) n) (v / p % p) (v % p) r
    (below_mod (v / p) p r.some) (below_mod v p r.some)
    ∙ ap (λ (n : ℕ). n * (p * p * (p * p) * (p * p)) + (v / p % p * p + v % p))
    (spread_doubled w p n (v / (p * p)) r))

-- every third bit of a number, in its place
pub third_bits : (n m : ℕ) → bit_and m (mask 2 n) ≡ spread 2 n (gathered n m)
unfolding spread mask gathered
third_bits zero m = and_zero_r m
third_bits (suc n) m =
    let whole : m ≡ m / 8 * 8 + m % 8 = omega arith in
    let low : bit_and (m % 8) 1 ≡ m % 2 = and_mask (m % 8) 1 ∙ omega arith in
    let half : (m % 2 + 2 * gathered n (m / 8)) / 2 ≡ gathered n (m / 8) = omega arith in
    let odd : (m % 2 + 2 * gathered n (m / 8)) % 2 ≡ m % 2 = omega arith in
    rw (half, odd)
    (ap (λ (k : ℕ). bit_and k (mask 2 n * 8 + 1)) whole
    ∙ and_blocks 3 8 (m / 8) (mask 2 n) (m % 8) 1 refl (omega arith) (omega arith)
    ∙ rw (third_bits n (m / 8), low) refl)

-- spread digits stay in their places
pub spread_below : (p n v : ℕ) → 0 < p → spread p n v < (p * p * p) ^ n
unfolding spread
spread_below p zero v some = omega (arith, pow-zero (p * p * p))
spread_below p (suc n) v some =
    let small : v % p < p * p * p = omega (arith, root_below p some, below_mod v p some) in
    omega (
      arith,
      digit_below ((p * p * p) ^ n) (p * p * p) (spread p n (v / p)) (v % p)
          (spread_below p n (v / p) some) small,
      pow-suc (p * p * p) n,
    )

-- one digit is the number
spread_whole : (n : ℕ) → n < 65536 → spread 65536 1 n ≡ n
unfolding spread
spread_whole n below = omega arith

-- the bytes of a number of 16 bits, each followed by two bytes of 0
pub bytes_spread : (n : ℕ) → n < 65536
    → bit_and (bit_or n (n * 65536 % 2 ^ 64)) 4278190335 ≡ spread 256 2 n
unfolding spread mask double
bytes_spread n below =
    let short : n * 65536 % 2 ^ 64 ≡ n * 65536 = omega arith in
    rw short
    (subst (λ (m : ℕ). bit_and (bit_or m (m * 65536)) 4278190335 ≡ spread 256 2 n)
    (spread_whole n below)
    (spread_halved 8 256 1 n
    (record { one = refl; two = refl; three = refl; six = refl; some = omega arith })))

pub nibbles_spread : (n : ℕ)
    → bit_and (bit_or (spread 256 2 n) (spread 256 2 n * 256 % 2 ^ 64)) 1031043870735
    ≡ spread 16 4 n
unfolding mask double
nibbles_spread n =
    let short : spread 256 2 n * 256 % 2 ^ 64 ≡ spread 256 2 n * 256 =
    mod-eq_of_lt (omega (arith, spread_below 256 2 n (omega arith))) in
    rw short (spread_halved 4 16 2 n (record {
      one = refl;
      two = refl;
      three = refl;
      six = refl;
      some = omega arith;
    }))

pub pairs_spread : (n : ℕ)
    → bit_and (bit_or (spread 16 4 n) (spread 16 4 n * 16 % 2 ^ 64)) 13403570319555 ≡ spread 4 8 n
unfolding mask double
pairs_spread n =
    let short : spread 16 4 n * 16 % 2 ^ 64 ≡ spread 16 4 n * 16 =
    mod-eq_of_lt (omega (arith, spread_below 16 4 n (omega arith))) in
    rw short (spread_halved 2 4 4 n (record {
      one = refl;
      two = refl;
      three = refl;
      six = refl;
      some = omega arith;
    }))

pub bits_spread : (n : ℕ)
    → bit_and (bit_or (spread 4 8 n) (spread 4 8 n * 4 % 2 ^ 64)) 40210710958665 ≡ spread 2 16 n
unfolding mask double
bits_spread n =
    let short : spread 4 8 n * 4 % 2 ^ 64 ≡ spread 4 8 n * 4 =
    mod-eq_of_lt (omega (arith, spread_below 4 8 n (omega arith))) in
    rw short (spread_halved 1 2 8 n (record {
      one = refl;
      two = refl;
      three = refl;
      six = refl;
      some = omega arith;
    }))

-- the bits of every third place, in their places
pub third_bits_masked : (m : ℕ) → bit_and m 40210710958665 ≡ spread 2 16 (gathered 16 m)
unfolding mask
third_bits_masked m = third_bits 16 m

pub pairs_joined : (n : ℕ)
    → bit_and (bit_or (spread 2 16 n) (spread 2 16 n / 4)) 13403570319555 ≡ spread 4 8 n
unfolding mask double
pairs_joined n = spread_doubled 1 2 8 n (record {
  one = refl;
  two = refl;
  three = refl;
  six = refl;
  some = omega arith;
})

pub nibbles_joined : (n : ℕ)
    → bit_and (bit_or (spread 4 8 n) (spread 4 8 n / 16)) 1031043870735 ≡ spread 16 4 n
unfolding mask double
nibbles_joined n = spread_doubled 2 4 4 n (record {
  one = refl;
  two = refl;
  three = refl;
  six = refl;
  some = omega arith;
})

pub bytes_joined : (n : ℕ)
    → bit_and (bit_or (spread 16 4 n) (spread 16 4 n / 256)) 4278190335 ≡ spread 256 2 n
unfolding mask double
bytes_joined n = spread_doubled 4 16 2 n (record {
  one = refl;
  two = refl;
  three = refl;
  six = refl;
  some = omega arith;
})

pub whole_joined : (n : ℕ) → n < 65536
    → bit_and (bit_or (spread 256 2 n) (spread 256 2 n / 65536)) 65535 ≡ n
unfolding mask double
whole_joined n below =
    spread_doubled 8 256 1 n (record {
      one = refl;
      two = refl;
      three = refl;
      six = refl;
      some = omega arith;
    })
    ∙ spread_whole n below
