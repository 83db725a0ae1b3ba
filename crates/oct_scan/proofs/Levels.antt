-- On which levels two Morton codes differ.
use Rattle.std.proofs.Common.{◌≡◌, ◌≢◌, ℕ, zero, suc, ◌+◌, ◌*◌, ◌/◌, ◌%◌, ◌^◌, ◌<◌, ◌≤◌, ◌⊎◌, inl}
use Rattle.std.proofs.Common.{inr, refl, sym, ◌∙◌, ap, arith, bit_xor}
use Rattle.std.proofs.Math.Nat.{div-div-eq-div-mul, pow-succ'}
use Rattle.std.proofs.lemmas.Nat.{xor_shr, pow_pos}
use Rattle.std.proofs.lemmas.Nat.Bits.{bit_at_xor, bit_at-zero, bit_at-lt, same_from_bits}
use Rattle.std.specs.Int.{bit_at}
use Rattle.std.proofs.lemmas.Bool.Decides.{eqb_tells}
use Rattle.std.specs.Int.Bits.{xor_self}
use Rattle.oct_scan.specs.Codes.{levels_apart}

-- one level more is one more division
deeper : (n j : ℕ) → n / 8 ^ suc j ≡ n / 8 / 8 ^ j
deeper n j = ap (λ (m : ℕ). n / m) (pow-succ' 8 j) ∙ sym (div-div-eq-div-mul n 8 (8 ^ j))

pub levels_same_top : (n a b : ℕ) → a / 8 ≡ b / 8 → levels_apart (suc n) a b ≡ 0
unfolding levels_apart
levels_same_top n a b e =
    elim (eqb_tells (a / 8) (b / 8)) [ inl p ↦ rw p.0 refl | inr p ↦ absurd (p.1 e) ]

pub levels_other_top : (n a b : ℕ) → a / 8 ≢ b / 8
    → levels_apart (suc n) a b ≡ 1 + levels_apart n (a / 8) (b / 8)
unfolding levels_apart
levels_other_top n a b e =
    elim (eqb_tells (a / 8) (b / 8)) [ inl p ↦ absurd (e p.1) | inr p ↦ rw p.0 refl ]

top_tells : (a b : ℕ) → (a / 8 ≡ b / 8) ⊎ (a / 8 ≢ b / 8)
top_tells a b = elim (eqb_tells (a / 8) (b / 8)) [ inl p ↦ inl p.1 | inr p ↦ inr p.1 ]

-- above the levels on which they differ, two codes are the same
pub same_above : (n a b j : ℕ) → levels_apart n a b < j → j ≤ n → a / 8 ^ j ≡ b / 8 ^ j
same_above n a b zero l h = absurd (omega arith)
same_above zero a b (suc j) l h = absurd (omega arith)
same_above (suc n) a b (suc j) l h =
    rw (deeper a j, deeper b j)
    (elim (top_tells a b) [
      | inl e ↦ ap (λ (m : ℕ). m / 8 ^ j) e
      | inr e ↦ same_above n (a / 8) (b / 8) j (omega (arith, levels_other_top n a b e))
          (omega arith)
    ])

levels_none : (a b : ℕ) → levels_apart zero a b ≡ 0
unfolding levels_apart
levels_none a b = refl

-- on the levels on which they differ, they aren't
pub apart_below : (n a b j : ℕ) → 0 < j → j ≤ levels_apart n a b → a / 8 ^ j ≢ b / 8 ^ j
apart_below n a b zero some l = absurd (omega arith)
apart_below zero a b (suc j) some l = absurd (omega (arith, levels_none a b))
apart_below (suc n) a b (suc zero) some l = λ e. omega (arith, levels_same_top n a b e)
apart_below (suc n) a b (suc (suc j)) some l = λ e. elim (top_tells a b) [
  | inl t ↦ absurd (omega (arith, levels_same_top n a b t))
  | inr t ↦ apart_below n (a / 8) (b / 8) (suc j) (omega arith)
      (omega (arith, levels_other_top n a b t)) (sym (deeper a (suc j)) ∙ e ∙ deeper b (suc j))
]

-- numbers without a bit in which they differ are one
xor_none : (a b : ℕ) → bit_xor a b ≡ 0 → a ≡ b
xor_none a b e = same_from_bits a b (λ i.
    let differ : (bit_at a i + bit_at b i) % 2 ≡ 0 = sym (bit_at_xor a b i)
    ∙ ap (λ (n : ℕ). bit_at n i) e ∙ bit_at-zero i in
    omega (arith, bit_at-lt a i, bit_at-lt b i, differ))

xor_top : (a b : ℕ) → bit_xor a b / 8 ≡ bit_xor (a / 8) (b / 8)
xor_top a b = xor_shr a b 3

-- codes whose highest different bit is one of the last three differ on no level but the last
no_level : (n a b : ℕ) → bit_xor a b < 8 → levels_apart (suc n) a b ≡ 0
no_level n a b low = levels_same_top n a b
    (xor_none (a / 8) (b / 8) (sym (xor_top a b) ∙ omega arith))

-- other codes differ on a level more than those without the last three bits
one_level : (n a b : ℕ) → 8 ≤ bit_xor a b
    → levels_apart (suc n) a b ≡ 1 + levels_apart n (a / 8) (b / 8)
one_level n a b high = levels_other_top n a b (λ e.
    let none : bit_xor (a / 8) (b / 8) ≡ 0 = ap (bit_xor (a / 8)) (sym e) ∙ xor_self (a / 8) in
    omega (arith, none, xor_top a b))

eight_times : (r : ℕ) → 2 ^ suc (suc (suc r)) ≡ 8 * 2 ^ r
eight_times r = omega (arith, pow-succ' 2 (suc (suc r)), pow-succ' 2 (suc r), pow-succ' 2 r)

-- the levels on which two codes differ, by the highest bit in which they differ
pub levels_by_bit : (n a b r : ℕ) → 2 ^ r ≤ bit_xor a b → bit_xor a b < 2 * 2 ^ r → r < 3 * n + 3
    → levels_apart n a b ≡ r / 3
levels_by_bit zero a b r low high few = omega (arith, levels_none a b)
levels_by_bit (suc n) a b zero low high few = no_level n a b (omega arith)
levels_by_bit (suc n) a b (suc zero) low high few = no_level n a b (omega arith)
levels_by_bit (suc n) a b (suc (suc zero)) low high few = no_level n a b (omega arith)
levels_by_bit (suc n) a b (suc (suc (suc r))) low high few =
    let some : 0 < 2 ^ r = pow_pos r in
    let e = eight_times r in
    let top = xor_top a b in
    let rest : levels_apart n (a / 8) (b / 8) ≡ r / 3 =
    levels_by_bit n (a / 8) (b / 8) r (omega (arith, e, top)) (omega (arith, e, top))
    (omega arith) in
    one_level n a b (omega (arith, e)) ∙ omega (arith, rest)

-- two codes differ on at most this many levels
pub levels_few : (n a b : ℕ) → levels_apart n a b ≤ n
levels_few zero a b = omega (arith, levels_none a b)
levels_few (suc n) a b = elim (top_tells a b) [
  | inl e ↦ omega (arith, levels_same_top n a b e)
  | inr e ↦ omega (arith, levels_other_top n a b e, levels_few n (a / 8) (b / 8))
]
