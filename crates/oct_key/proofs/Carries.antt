-- A number whose bits stand at every third place is counted up and down as it stands.
use Rattle.std.proofs.Common.{◌≡◌, ℕ, zero, suc, ◌+◌, ◌-◌, ◌*◌, ◌/◌, ◌%◌, ◌^◌, ◌<◌, ◌≤◌, inl, inr}
use Rattle.std.proofs.Common.{refl, sym, ◌∙◌, ap, arith, bit_and, Bool, true, false, if◌then◌else◌}
use Rattle.std.proofs.Math.Nat.{pow-suc}
use Rattle.std.proofs.lemmas.Nat.{and_block, and_le_r}
use Rattle.std.proofs.lemmas.Bool.{cases_eq}
use Rattle.std.specs.Int.Bits.{and_zero_r}
use Rattle.oct_key.specs.Voxel.{IsInMap}
use Rattle.oct_key.specs.Morton.{interleaved, gathered, morton_of}
use Rattle.oct_key.specs.Dilated.{dilated, IsDilated}
use Rattle.oct_key.proofs.Spreads.{mask}
use Rattle.oct_key.proofs.Interleavings.{interleaved_gathered, interleaved_injective}
use Rattle.oct_key.proofs.Interleavings.{gathered_below, morton_of_sum}

-- this many bits of a number, each at three times its place
abbrev bits_of : ℕ → ℕ → ℕ
bits_of n v = interleaved n v 0 0

-- ones in the places between
unfoldable pub filler : ℕ → ℕ
filler zero = 0
filler (suc n) = 8 * filler n + 6

and_eight : (a b r s : ℕ) → r < 8 → s < 8
    → bit_and (8 * a + r) (8 * b + s) ≡ 8 * bit_and a b + bit_and r s
and_eight a b r s lr ls =
    (let e = and_block 3 a b r s lr ls in
    let f : 8 * a ≡ a * 8 = omega arith in
    let g : 8 * b ≡ b * 8 = omega arith in
    rw (f, g) (e ∙ omega arith))

dilated_step : (n v : ℕ) → bits_of (suc n) v ≡ 8 * bits_of n (v / 2) + v % 2
unfolding interleaved
dilated_step n v = omega arith

mask_step : (n : ℕ) → mask 2 (suc n) ≡ 8 * mask 2 n + 1
unfolding mask
mask_step n = omega arith

filler_step : (n : ℕ) → filler (suc n) ≡ 8 * filler n + 6
unfolding filler
filler_step n = refl

-- the lowest bit of a digit
digit_one : (d : ℕ) → d < 8 → bit_and d 1 ≡ d % 2
digit_one zero l = refl
digit_one (suc zero) l = refl
digit_one (suc (suc zero)) l = refl
digit_one (suc (suc (suc zero))) l = refl
digit_one (suc (suc (suc (suc zero)))) l = refl
digit_one (suc (suc (suc (suc (suc zero))))) l = refl
digit_one (suc (suc (suc (suc (suc (suc zero)))))) l = refl
digit_one (suc (suc (suc (suc (suc (suc (suc zero))))))) l = refl
digit_one (suc (suc (suc (suc (suc (suc (suc (suc d)))))))) l = absurd (omega (arith, l))

carry_none : (v c : ℕ) → bit_and (bits_of 0 v + filler 0 + c) (mask 2 0) ≡ bits_of 0 (v + c)
unfolding interleaved mask filler
carry_none v c =
    (let e : 0 + 0 + c ≡ c = omega arith in ap (λ (a : ℕ). bit_and a 0) e ∙ and_zero_r c)

masked_none : (v : ℕ) → bit_and (bits_of 0 v) (mask 2 0) ≡ bits_of 0 v
unfolding interleaved mask
masked_none v = and_zero_r 0

-- an addition of one goes through the ones between
pub carry_up : (n v c : ℕ) → c ≤ 1
    → bit_and (bits_of n v + filler n + c) (mask 2 n) ≡ bits_of n (v + c)
carry_up zero v c l = carry_none v c
carry_up (suc n) v c l =
    let d : ℕ = (6 + v % 2 + c) % 8 in
    let k : ℕ = (6 + v % 2 + c) / 8 in
    let sum : bits_of (suc n) v + filler (suc n) + c ≡ 8 * (bits_of n (v / 2) + filler n + k) + d =
    omega (arith, dilated_step n v, filler_step n) in
    let carried : (v + c) / 2 ≡ v / 2 + k = omega (arith, l) in
    let odd : d % 2 ≡ (v + c) % 2 = omega (arith, l) in
    let rest = carry_up n (v / 2) k (omega (arith, l)) in
    let small : d < 8 = omega arith in
    ap (λ (a : ℕ). bit_and a (mask 2 (suc n))) sum
    ∙ ap (bit_and (8 * (bits_of n (v / 2) + filler n + k) + d)) (mask_step n)
    ∙ and_eight (bits_of n (v / 2) + filler n + k) (mask 2 n) d 1 small (omega arith)
    ∙ omega (arith, rest, digit_one d small, odd, dilated_step n (v + c), ap (bits_of n) carried)

-- the bits stand in their places
pub dilated_masked : (n v : ℕ) → bit_and (bits_of n v) (mask 2 n) ≡ bits_of n v
dilated_masked zero v = masked_none v
dilated_masked (suc n) v =
    let small : v % 2 < 8 = omega arith in
    ap (λ (a : ℕ). bit_and a (mask 2 (suc n))) (dilated_step n v)
    ∙ ap (bit_and (8 * bits_of n (v / 2) + v % 2)) (mask_step n)
    ∙ and_eight (bits_of n (v / 2)) (mask 2 n) (v % 2) 1 small (omega arith)
    ∙ omega (arith, dilated_masked n (v / 2), digit_one (v % 2) small, dilated_step n v)

-- a number that isn't 0 has a bit
pub dilated_some : (n v : ℕ) → 0 < v → v < 2 ^ n → 0 < bits_of n v
dilated_some zero v some l = absurd (omega (arith, some, l))
dilated_some (suc n) v some l = elim (cases_eq (v % 2) 0) [
  | inl even ↦ omega (
    arith,
    dilated_step n v,
    dilated_some n (v / 2) (omega (arith, some, even)) (omega (arith, l, pow-suc 2 n)),
  )
  | inr odd ↦ omega (arith, dilated_step n v, odd)
]

-- a subtraction of one goes through the zeros between
pub borrow_down : (n v : ℕ) → 0 < v → v < 2 ^ n
    → bit_and (bits_of n v - 1) (mask 2 n) ≡ bits_of n (v - 1)
borrow_down zero v some l = absurd (omega (arith, some, l))
borrow_down (suc n) v some l = elim (cases_eq (v % 2) 0) [
  | inl even ↦
      let more : 0 < v / 2 = omega (arith, some, even) in
      let less : v / 2 < 2 ^ n = omega (arith, l, pow-suc 2 n) in
      let bits = dilated_some n (v / 2) more less in
      let sum : bits_of (suc n) v - 1 ≡ 8 * (bits_of n (v / 2) - 1) + 7 =
      omega (arith, dilated_step n v, even, bits) in
      let half : (v - 1) / 2 ≡ v / 2 - 1 = omega (arith, some, even) in
      let odd : (v - 1) % 2 ≡ 1 = omega (arith, some, even) in
      ap (λ (a : ℕ). bit_and a (mask 2 (suc n))) sum
      ∙ ap (bit_and (8 * (bits_of n (v / 2) - 1) + 7)) (mask_step n)
      ∙ and_eight (bits_of n (v / 2) - 1) (mask 2 n) 7 1 (omega arith) (omega arith)
      ∙ omega (
        arith,
        borrow_down n (v / 2) more less,
        digit_one 7 (omega arith),
        dilated_step n (v - 1),
        ap (bits_of n) half,
        odd,
      )
  | inr odd ↦
      let sum : bits_of (suc n) v - 1 ≡ 8 * bits_of n (v / 2) + 0 =
      omega (arith, dilated_step n v, odd) in
      let half : (v - 1) / 2 ≡ v / 2 = omega (arith, odd) in
      let even : (v - 1) % 2 ≡ 0 = omega (arith, odd) in
      ap (λ (a : ℕ). bit_and a (mask 2 (suc n))) sum
      ∙ ap (bit_and (8 * bits_of n (v / 2) + 0)) (mask_step n)
      ∙ and_eight (bits_of n (v / 2)) (mask 2 n) 0 1 (omega arith) (omega arith)
      ∙ omega (
        arith,
        dilated_masked n (v / 2),
        digit_one 0 (omega arith),
        dilated_step n (v - 1),
        ap (bits_of n) half,
        even,
      )
]

-- the places of 16 bits, and ones between them with one more
places_are : mask 2 16 ≡ 40210710958665
unfolding mask
places_are = refl

filler_is : filler 16 ≡ 241264265751990
unfolding filler
filler_is = refl

-- bits at every third place are no more than those places
pub dilated_below : (v : ℕ) → dilated v < 2 ^ 46
dilated_below v =
    (let e = dilated_masked 16 v in
    let l = and_le_r (dilated v) (mask 2 16) in
    let m = places_are in
    omega (arith, e, l, m))

-- the bits are those of the number
pub gathered_dilated : (v : ℕ) → v < 65536 → gathered 16 (dilated v) ≡ v
gathered_dilated v l =
    let m : ℕ = dilated v in
    let whole = interleaved_gathered 16 m (let b = dilated_below v in omega (arith, b)) in
    (interleaved_injective 16 (gathered 16 m) (gathered 16 (m / 2)) (gathered 16 (m / 4)) v 0 0
    (gathered_below 16 m) (gathered_below 16 (m / 2)) (gathered_below 16 (m / 4)) l (omega arith)
    (omega arith) whole).0

pub dilated_is : (bits v : ℕ) → bits ≡ dilated v → v < 65536 → gathered 16 bits ≡ v
dilated_is bits v e l = ap (gathered 16) e ∙ gathered_dilated v l

pub is_dilated : (bits v : ℕ) → bits ≡ dilated v → v < 65536 → IsDilated bits
is_dilated bits v e l = e ∙ ap dilated (sym (dilated_is bits v e l))

pub dilated_fits : (bits : ℕ) → IsDilated bits → bits < 2 ^ 46
dilated_fits bits h = (let l = dilated_below (gathered 16 bits) in omega (arith, h, l))

-- the bits of the next number
pub bits_after_is : (bits : ℕ) → IsDilated bits
    → bit_and (bits + 241264265751991) 40210710958665 ≡ dilated (gathered 16 bits + 1)
bits_after_is bits h =
    let v : ℕ = gathered 16 bits in
    let sum : bits + 241264265751991 ≡ dilated v + filler 16 + 1 = omega (arith, h, filler_is) in
    ap (λ (n : ℕ). bit_and n 40210710958665) sum
    ∙ ap (bit_and (dilated v + filler 16 + 1)) (sym places_are) ∙ carry_up 16 v 1 (omega arith)

-- the number isn't 0 where it has a bit
pub dilated_some_bit : (bits : ℕ) → IsDilated bits → 0 < gathered 16 bits → 0 < bits
dilated_some_bit bits h some =
    (let l = dilated_some 16 (gathered 16 bits) some (gathered_below 16 bits) in
    omega (arith, h, l))

-- the bits of the number before
pub bits_before_is : (bits : ℕ) → IsDilated bits → 0 < gathered 16 bits
    → bit_and (bits - 1) 40210710958665 ≡ dilated (gathered 16 bits - 1)
bits_before_is bits h some =
    let v : ℕ = gathered 16 bits in
    ap (λ (n : ℕ). bit_and (n - 1) 40210710958665) h ∙ ap (bit_and (dilated v - 1)) (sym places_are)
    ∙ borrow_down 16 v some (gathered_below 16 bits)

-- the bits of a number stand in those places
bits_kept : (bits : ℕ) → IsDilated bits
    → bit_and bits 40210710958665 ≡ dilated (gathered 16 bits)
bits_kept bits h =
    ap (λ (n : ℕ). bit_and n 40210710958665) h
    ∙ ap (bit_and (dilated (gathered 16 bits))) (sym places_are)
    ∙ dilated_masked 16 (gathered 16 bits)

-- the bits of the next number, or of the one itself
stepped_up : (bits now : ℕ) → IsDilated bits → now ≤ 1
    → bit_and ((bits + now * 241264265751991) % 18446744073709551616) 40210710958665
    ≡ dilated (gathered 16 bits + now)
stepped_up bits zero h l =
    let small = dilated_fits bits h in
    let sum : (bits + 0 * 241264265751991) % 18446744073709551616 ≡ bits = omega (arith, small) in
    let same : gathered 16 bits + 0 ≡ gathered 16 bits = omega arith in
    rw (sum, same) (bits_kept bits h)
stepped_up bits (suc zero) h l =
    let small = dilated_fits bits h in
    let sum : (bits + 1 * 241264265751991) % 18446744073709551616 ≡ bits + 241264265751991 =
    omega (arith, small) in
    rw sum (bits_after_is bits h)
stepped_up bits (suc (suc n)) h l = absurd (omega (arith, l))

-- the bits of the number before, or of the one itself
stepped_down : (bits now : ℕ) → IsDilated bits → now ≤ 1 → now ≤ gathered 16 bits
    → bit_and ((bits + now * 18446744073709551615) % 18446744073709551616) 40210710958665
    ≡ dilated (gathered 16 bits - now)
stepped_down bits zero h l some =
    let small = dilated_fits bits h in
    let sum : (bits + 0 * 18446744073709551615) % 18446744073709551616 ≡ bits =
    omega (arith, small) in
    let same : gathered 16 bits - 0 ≡ gathered 16 bits = omega arith in
    rw (sum, same) (bits_kept bits h)
stepped_down bits (suc zero) h l some =
    let small = dilated_fits bits h in
    let bit = dilated_some_bit bits h some in
    let sum : (bits + 1 * 18446744073709551615) % 18446744073709551616 ≡ bits - 1 =
    omega (arith, small, bit) in
    rw sum (bits_before_is bits h some)
stepped_down bits (suc (suc n)) h l some = absurd (omega (arith, l))

-- the bits where the number is counted on, up or down, or stays
pub bits_stepped_is : (rises : Bool) (bits now by : ℕ) → IsDilated bits → now ≤ 1
    → (rises ≡ false → now ≤ gathered 16 bits)
    → by ≡ (if rises then 241264265751991 else 18446744073709551615)
    → bit_and ((bits + now * by) % 18446744073709551616) 40210710958665
    ≡ dilated (if rises then gathered 16 bits + now else gathered 16 bits - now)
bits_stepped_is true bits now by h l some e = rw e (stepped_up bits now h l)
bits_stepped_is false bits now by h l some e = rw e (stepped_down bits now h l (some refl))

-- a step stays on the map
pub stepped_below : (rises : Bool) (n now : ℕ) → n < 65536 → (rises ≡ true → n + now < 65536)
    → (if rises then n + now else n - now) < 65536
stepped_below true n now l up = up refl
stepped_below false n now l up = omega (arith, l)

-- three such numbers side by side are a code
pub code_of_bits : (x y z : ℕ) → IsDilated x → IsDilated y → IsDilated z
    → x + y * 2 % 2 ^ 64 + z * 4 % 2 ^ 64 ≡ morton_of (record {
      x = gathered 16 x;
      y = gathered 16 y;
      z = gathered 16 z;
    })
code_of_bits x y z hx hy hz =
    morton_of_sum (record { x = gathered 16 x; y = gathered 16 y; z = gathered 16 z }) x y z hx hy
    hz (dilated_fits x hx) (dilated_fits y hy) (dilated_fits z hz)

pub gathered_on_map : (x y z : ℕ) → IsInMap (record {
  x = gathered 16 x;
  y = gathered 16 y;
  z = gathered 16 z;
})
gathered_on_map x y z = record {
  x = gathered_below 16 x;
  y = gathered_below 16 y;
  z = gathered_below 16 z;
}
