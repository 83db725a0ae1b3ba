-- What is carried where two numbers of blocks are added, on one axis.
use Rattle.std.proofs.Common.{◌≡◌, ℕ, suc, ◌+◌, ◌-◌, ◌*◌, ◌/◌, ◌%◌, ◌^◌, ◌<◌, ◌≤◌, Some, None}
use Rattle.std.proofs.Common.{refl, sym, ◌∙◌, ap, arith, add-one, pow_pos, cond, Bool, true}
use Rattle.std.proofs.Common.{false}
use Rattle.std.specs.Prelude.{Option, nat_lt}
use Rattle.std.proofs.Math.Nat.{div-div-eq-div-mul, pow-suc, mod-lt, mul-add-div, div-add-mod}
use Rattle.std.proofs.Math.Nat.{add-mul-div_right, div-eq_of_lt, div-lt_iff_lt-mul}
use Rattle.std.proofs.lemmas.Nat.{pow-add}
use Rattle.std.proofs.lemmas.Bool.{lt-ltb, le-ltb, ltb-true, ltb-false}
use Rattle.oct_key.specs.Block.{side}
use Rattle.oct_shift.specs.Moving.{carry, lifted}

half_quotient : (n h : ℕ) → n / 2 ^ suc h ≡ n / 2 ^ h / 2
half_quotient n h = ap (λ (m : ℕ). n / m) (pow-suc 2 h) ∙ sym (div-div-eq-div-mul n (2 ^ h) 2)

-- the side of a block is twice that of its children
half_side : (n d : ℕ) → d ≤ 15 → n / side d ≡ n / side (d + 1) / 2
half_side n d low =
    let level : 16 - d ≡ suc (16 - (d + 1)) = omega arith in
    ap (λ (h : ℕ). n / 2 ^ h) level ∙ half_quotient n (16 - (d + 1))

-- a sum of quotients, and what is carried
carried : (s v a : ℕ) → 0 < s → (v + a) / s ≡ v / s + a / s + (v % s + a % s) / s
carried s v a some =
    let one = div-add-mod v s in
    let two = div-add-mod a s in
    let split : v + a ≡ s * (v / s + a / s) + (v % s + a % s) = omega (arith, one, two) in
    ap (λ (n : ℕ). n / s) split ∙ mul-add-div some (v / s + a / s) (v % s + a % s)

pub carry_is : (d v a : ℕ) → (v + a) / side d ≡ v / side d + a / side d + carry d a v
carry_is d v a = carried (side d) v a (pow_pos (16 - d))

pub carry_few : (d a v : ℕ) → carry d a v ≤ 1
carry_few d a v =
    let some : 0 < side d = pow_pos (16 - d) in
    let one : v % side d < side d = mod-lt v some in
    let two : a % side d < side d = mod-lt a some in
    let less : carry d a v < 2 = (div-lt_iff_lt-mul some).1 (omega (arith, one, two)) in
    omega (arith, less)

-- nothing is carried where the offset goes by whole blocks
pub carry_whole : (d a v : ℕ) → a % side d ≡ 0 → carry d a v ≡ 0
carry_whole d a v none =
    let some : 0 < side d = pow_pos (16 - d) in
    let one : v % side d < side d = mod-lt v some in
    div-eq_of_lt (omega (arith, one, none))

-- the place of a child's voxels, in halves, says which of the two blocks they come from, and which
-- half of it
pub record IsPlaced (d a v : ℕ) (place : ℕ) : Type 0 where
  pub block : place / 2 ≡ carry d a v
  pub half : place % 2 ≡ (v + a) / side (d + 1) % 2

pub placed : (d a v : ℕ) → d ≤ 15
    → IsPlaced d a v (v / side (d + 1) % 2 + a / side (d + 1) % 2 + carry (d + 1) a v)
placed d a v low =
    let fine = carry_is (d + 1) v a in
    let coarse = carry_is d v a in
    let hv = half_side v d low in
    let ha = half_side a d low in
    let hs = half_side (v + a) d low in
    let few = carry_few (d + 1) a v in
    let more = carry_few d a v in
    let both = by (v / side (d + 1)) (a / side (d + 1)) ((v + a) / side (d + 1)) (carry (d + 1) a v)
    (carry d a v) fine (sym hs ∙ coarse ∙ ap (λ (n : ℕ). n + a / side d + carry d a v) hv
    ∙ ap (λ (n : ℕ). v / side (d + 1) / 2 + n + carry d a v) ha) few more in
    record { block = both.0; half = both.1 }
  where
    by : (q p w c e : ℕ) → w ≡ q + p + c → w / 2 ≡ q / 2 + p / 2 + e → c ≤ 1 → e ≤ 1
        → ((q % 2 + p % 2 + c) / 2 ≡ e) × ((q % 2 + p % 2 + c) % 2 ≡ w % 2)
    by q p w c e sum half few more = (omega (arith, sum, half, few, more), omega (arith, sum, half))

-- the number that a sum is on an axis of the map
pub lifted_is : (m n : ℕ) → lifted m ≡ Some n → (m ≡ n + 65536) × (n < 65536)
lifted_is m n is = by_low (nat_lt m 65536) refl is
  where
    some_is : Option ℕ → ℕ
    some_is None = 0
    some_is (Some x) = x

    by_high : (high : Bool) → nat_lt m 65536 ≡ false → nat_lt m 131072 ≡ high
        → cond {A = Option ℕ} high (Some (m - 65536)) None ≡ Some n
        → (m ≡ n + 65536) × (n < 65536)
    by_high true low high e =
        (let value : m - 65536 ≡ n = ap some_is e in
        let above : 65536 ≤ m = ltb-false m 65536 low in
        let below : m < 131072 = ltb-true m 131072 high in
        (omega (arith, value, above), omega (arith, value, above, below)))
    by_high false low high e = cc

    by_low : (low : Bool) → nat_lt m 65536 ≡ low
        → cond {A = Option ℕ} low None
        (cond {A = Option ℕ} (nat_lt m 131072) (Some (m - 65536)) None) ≡ Some n
        → (m ≡ n + 65536) × (n < 65536)
    by_low true low e = cc
    by_low false low e = by_high (nat_lt m 131072) low refl e

-- it is one where the sum is that of the second 65,536 numbers
pub lifted_one : (m : ℕ) → m / 65536 ≡ 1 → lifted m ≡ Some (m - 65536)
lifted_one m one =
    let low : nat_lt m 65536 ≡ false = le-ltb m 65536 (omega (arith, one)) in
    let high : nat_lt m 131072 ≡ true = lt-ltb m 131072 (omega (arith, one)) in
    rw (low, high) refl

pub lifted_other : (m : ℕ) → (m / 65536 ≡ 1 → ⊥) → lifted m ≡ None
lifted_other m other = by_low (nat_lt m 65536) refl
  where
    by_high : (high : Bool) → nat_lt m 65536 ≡ false → nat_lt m 131072 ≡ high
        → cond {A = Option ℕ} high (Some (m - 65536)) None ≡ None
    by_high true low high =
        (let above : 65536 ≤ m = ltb-false m 65536 low in
        let below : m < 131072 = ltb-true m 131072 high in
        absurd (other (omega (arith, above, below))))
    by_high false low high = refl

    by_low : (low : Bool) → nat_lt m 65536 ≡ low → lifted m ≡ None
    by_low true low = rw low refl
    by_low false low = rw low (by_high (nat_lt m 131072) low refl)

-- the bit of a number that a sum is, is the sum's
pub lifted_bit : (d m n : ℕ) → d ≤ 15 → lifted m ≡ Some n
    → n / 2 ^ (15 - d) % 2 ≡ m / side (d + 1) % 2
lifted_bit d m n low is =
    let (sum, below) = lifted_is m n is in
    let level : 15 - d ≡ 16 - (d + 1) = omega arith in
    let all : (d + 1) + (16 - (d + 1)) ≡ 16 = omega (arith, low) in
    let whole : 2 ^ (d + 1) * 2 ^ (16 - (d + 1)) ≡ 65536 =
    sym (pow-add 2 (d + 1) (16 - (d + 1))) ∙ ap (λ (h : ℕ). 2 ^ h) all in
    let double : 2 ^ (d + 1) ≡ 2 ^ d * 2 =
    ap (λ (n : ℕ). 2 ^ n) (add-one d) ∙ pow-suc 2 d in
    let above : m ≡ n + 2 ^ (d + 1) * side (d + 1) = omega (arith, sum, whole) in
    let quotient : m / side (d + 1) ≡ n / side (d + 1) + 2 ^ (d + 1) =
    ap (λ (q : ℕ). q / side (d + 1)) above
    ∙ add-mul-div_right n (2 ^ (d + 1)) (pow_pos (16 - (d + 1))) in
    let same : n / 2 ^ (15 - d) ≡ n / side (d + 1) = ap (λ (h : ℕ). n / 2 ^ h) level in
    omega (arith, same, quotient, double)
