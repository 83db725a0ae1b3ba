-- The codes of a record at once, by masks.
use Rattle.std.proofs.Common.{◌≡◌, ℕ, zero, suc, ◌+◌, ◌*◌, ◌/◌, ◌%◌, ◌<◌, ◌≤◌, refl}
use Rattle.std.proofs.Common.{[], ◌∷◌, ◌∙◌, ap, arith, bit_and, bit_or, cond}
use Rattle.std.specs.Prelude.{nat_eq, not, count_ones}
use Rattle.std.proofs.lemmas.Nat.{and_block, or_block, or_lt, and_le_l, and_le_r, ones_cat}
use Rattle.std.proofs.lemmas.Nat.{ones_le_self, zero_from_ones}
use Rattle.oct_bt.specs.Canonical.{known_codes}
use Rattle.oct_bt.specs.Masks.{nonzero, ones, threes}
use Rattle.oct_bt.specs.NodeData.{records_in}

-- ---- the lowest code apart

pub and_four : (x y a b : ℕ) → x < 4 → y < 4
    → bit_and (x + 4 * a) (y + 4 * b) ≡ bit_and x y + 4 * bit_and a b
and_four x y a b lx ly =
    let one : x + 4 * a ≡ a * 4 + x = omega arith in
    let two : y + 4 * b ≡ b * 4 + y = omega arith in
    let turned : bit_and a b * 4 + bit_and x y ≡ bit_and x y + 4 * bit_and a b = omega arith in
    ap (λ (n : ℕ). bit_and n (y + 4 * b)) one ∙ ap (λ (n : ℕ). bit_and (a * 4 + x) n) two
    ∙ and_block 2 a b x y lx ly ∙ turned

pub or_four : (x y a b : ℕ) → x < 4 → y < 4
    → bit_or (x + 4 * a) (y + 4 * b) ≡ bit_or x y + 4 * bit_or a b
or_four x y a b lx ly =
    let one : x + 4 * a ≡ a * 4 + x = omega arith in
    let two : y + 4 * b ≡ b * 4 + y = omega arith in
    let turned : bit_or a b * 4 + bit_or x y ≡ bit_or x y + 4 * bit_or a b = omega arith in
    ap (λ (n : ℕ). bit_or n (y + 4 * b)) one ∙ ap (λ (n : ℕ). bit_or (a * 4 + x) n) two
    ∙ or_block 2 a b x y lx ly ∙ turned

-- whether a code is 3, as a number
abbrev pub three : ℕ → ℕ
three x = cond {A = ℕ} (nat_eq x 3) 1 0

lowest_three : (x d : ℕ) → x < 4 → d < 2
    → bit_and (bit_and x (x / 2 + 2 * d)) 1 ≡ three x
lowest_three zero zero l e = refl
lowest_three zero (suc zero) l e = refl
lowest_three (suc zero) zero l e = refl
lowest_three (suc zero) (suc zero) l e = refl
lowest_three (suc (suc zero)) zero l e = refl
lowest_three (suc (suc zero)) (suc zero) l e = refl
lowest_three (suc (suc (suc zero))) zero l e = refl
lowest_three (suc (suc (suc zero))) (suc zero) l e = refl
lowest_three (suc (suc (suc (suc x)))) d l e = absurd (omega (arith, l))
lowest_three x (suc (suc d)) l e = absurd (omega (arith, e))

pub threes_next : (n x a : ℕ) → x < 4 → threes (suc n) (x + 4 * a) ≡ three x + 4 * threes n a
unfolding threes ones
threes_next n x a l =
    let half : (x + 4 * a) / 2 ≡ x / 2 + 2 * (a % 2) + 4 * (a / 2) = omega arith in
    let digit : x / 2 + 2 * (a % 2) < 4 = omega (arith, l) in
    let less = and_le_l x (x / 2 + 2 * (a % 2)) in
    let small : bit_and x (x / 2 + 2 * (a % 2)) < 4 = omega (arith, l, less) in
    ap (λ (h : ℕ). bit_and (bit_and (x + 4 * a) h) (1 + 4 * ones n)) half
    ∙ ap (λ (h : ℕ). bit_and h (1 + 4 * ones n))
    (and_four x (x / 2 + 2 * (a % 2)) a (a / 2) l digit)
    ∙ and_four (bit_and x (x / 2 + 2 * (a % 2))) 1 (bit_and a (a / 2)) (ones n) small
    (omega arith)
    ∙ ap (λ (t : ℕ). t + 4 * bit_and (bit_and a (a / 2)) (ones n))
    (lowest_three x (a % 2) l (omega arith))

-- as the code has them
pub threes_is : (codes : ℕ) → bit_and (bit_and codes (codes / 2)) 21845 ≡ threes 8 codes
unfolding threes ones
threes_is codes = refl

-- twice the threes are in the codes
pub threes_few : (n a : ℕ) → 2 * threes n a ≤ a
unfolding threes
threes_few n a =
    let one = and_le_l (bit_and a (a / 2)) (ones n) in
    let two = and_le_r a (a / 2) in
    omega (arith, one, two)

-- as the code has them
pub nonzero_is : (codes : ℕ) → bit_and (bit_or codes (codes / 2)) 21845 ≡ nonzero 8 codes
unfolding nonzero ones
nonzero_is codes = refl

-- whether a code isn't 0, as a number
abbrev pub known : ℕ → ℕ
known x = cond {A = ℕ} (not (nat_eq x 0)) 1 0

lowest_known : (x d : ℕ) → x < 4 → d < 2
    → bit_and (bit_or x (x / 2 + 2 * d)) 1 ≡ known x
lowest_known zero zero l e = refl
lowest_known zero (suc zero) l e = refl
lowest_known (suc zero) zero l e = refl
lowest_known (suc zero) (suc zero) l e = refl
lowest_known (suc (suc zero)) zero l e = refl
lowest_known (suc (suc zero)) (suc zero) l e = refl
lowest_known (suc (suc (suc zero))) zero l e = refl
lowest_known (suc (suc (suc zero))) (suc zero) l e = refl
lowest_known (suc (suc (suc (suc x)))) d l e = absurd (omega (arith, l))
lowest_known x (suc (suc d)) l e = absurd (omega (arith, e))

known_next : (n x a : ℕ) → x < 4 → nonzero (suc n) (x + 4 * a) ≡ known x + 4 * nonzero n a
unfolding nonzero ones
known_next n x a l =
    let half : (x + 4 * a) / 2 ≡ x / 2 + 2 * (a % 2) + 4 * (a / 2) = omega arith in
    let digit : x / 2 + 2 * (a % 2) < 4 = omega (arith, l) in
    ap (λ (h : ℕ). bit_and (bit_or (x + 4 * a) h) (1 + 4 * ones n)) half
    ∙ ap (λ (h : ℕ). bit_and h (1 + 4 * ones n))
    (or_four x (x / 2 + 2 * (a % 2)) a (a / 2) l digit)
    ∙ and_four (bit_or x (x / 2 + 2 * (a % 2))) 1 (bit_or a (a / 2)) (ones n)
    (or_lt 2 x (x / 2 + 2 * (a % 2)) l digit) (omega arith)
    ∙ ap (λ (t : ℕ). t + 4 * bit_and (bit_or a (a / 2)) (ones n))
    (lowest_known x (a % 2) l (omega arith))

-- ---- counted

one_bit : (b : ℕ) → b < 2 → count_ones b ≡ b
one_bit zero l = (let few = ones_le_self 0 in omega (arith, few))
one_bit (suc zero) l = by_count (count_ones 1) refl
  where
    by_count : (k : ℕ) → count_ones 1 ≡ k → k ≡ 1
    by_count zero is = (let none = zero_from_ones 1 is in absurd (omega (arith, none)))
    by_count (suc zero) is = refl
    by_count (suc (suc k)) is = (let few = ones_le_self 1 in absurd (omega (arith, few, is)))
one_bit (suc (suc b)) l = absurd (omega (arith, l))

-- the ones of a mask, and the lowest one apart
bit_counted : (b m : ℕ) → b < 2 → count_ones (b + 4 * m) ≡ b + count_ones m
bit_counted b m l =
    let turned : b + 4 * m ≡ m * 4 + b = omega arith in
    let swapped : count_ones m + b ≡ b + count_ones m = omega arith in
    ap count_ones turned ∙ ones_cat 2 m b (omega (arith, l))
    ∙ ap (λ (k : ℕ). count_ones m + k) (one_bit b l) ∙ swapped

three_below : (x : ℕ) → x < 4 → three x < 2
three_below zero l = omega arith
three_below (suc zero) l = omega arith
three_below (suc (suc zero)) l = omega arith
three_below (suc (suc (suc zero))) l = omega arith
three_below (suc (suc (suc (suc x)))) l = absurd (omega (arith, l))

known_below : (x : ℕ) → x < 4 → known x < 2
known_below zero l = omega arith
known_below (suc zero) l = omega arith
known_below (suc (suc zero)) l = omega arith
known_below (suc (suc (suc zero))) l = omega arith
known_below (suc (suc (suc (suc x)))) l = absurd (omega (arith, l))

threes_counted : (n x a : ℕ) → x < 4
    → count_ones (threes (suc n) (x + 4 * a)) ≡ three x + count_ones (threes n a)
threes_counted n x a l =
    ap count_ones (threes_next n x a l) ∙ bit_counted (three x) (threes n a) (three_below x l)

known_counted : (n x a : ℕ) → x < 4
    → count_ones (nonzero (suc n) (x + 4 * a)) ≡ known x + count_ones (nonzero n a)
known_counted n x a l =
    ap count_ones (known_next n x a l) ∙ bit_counted (known x) (nonzero n a) (known_below x l)

-- the four codes of a byte before others
abbrev four : ℕ → ℕ → ℕ
four byte a = byte % 4 + 4 * (byte / 4 % 4 + 4 * (byte / 16 % 4 + 4 * (byte / 64 % 4 + 4 * a)))

four_is : (byte a : ℕ) → byte < 256 → byte + 256 * a ≡ four byte a
four_is byte a l = omega (arith, l)

below_four : (n : ℕ) → n % 4 < 4
below_four n = omega arith

four_threes : (n byte a : ℕ) → count_ones (threes (suc (suc (suc (suc n)))) (four byte a))
    ≡ three (byte % 4) + (three (byte / 4 % 4) + (three (byte / 16 % 4)
    + (three (byte / 64 % 4) + count_ones (threes n a))))
four_threes n byte a =
    let w : ℕ = byte / 64 % 4 + 4 * a in
    let v : ℕ = byte / 16 % 4 + 4 * w in
    let u : ℕ = byte / 4 % 4 + 4 * v in
    threes_counted (suc (suc (suc n))) (byte % 4) u (below_four byte)
    ∙ ap (λ (k : ℕ). three (byte % 4) + k)
    (threes_counted (suc (suc n)) (byte / 4 % 4) v (below_four (byte / 4))
    ∙ ap (λ (k : ℕ). three (byte / 4 % 4) + k)
    (threes_counted (suc n) (byte / 16 % 4) w (below_four (byte / 16))
    ∙ ap (λ (k : ℕ). three (byte / 16 % 4) + k)
    (threes_counted n (byte / 64 % 4) a (below_four (byte / 64)))))

four_known : (n byte a : ℕ) → count_ones (nonzero (suc (suc (suc (suc n)))) (four byte a))
    ≡ known (byte % 4) + (known (byte / 4 % 4) + (known (byte / 16 % 4)
    + (known (byte / 64 % 4) + count_ones (nonzero n a))))
four_known n byte a =
    let w : ℕ = byte / 64 % 4 + 4 * a in
    let v : ℕ = byte / 16 % 4 + 4 * w in
    let u : ℕ = byte / 4 % 4 + 4 * v in
    known_counted (suc (suc (suc n))) (byte % 4) u (below_four byte)
    ∙ ap (λ (k : ℕ). known (byte % 4) + k)
    (known_counted (suc (suc n)) (byte / 4 % 4) v (below_four (byte / 4))
    ∙ ap (λ (k : ℕ). known (byte / 4 % 4) + k)
    (known_counted (suc n) (byte / 16 % 4) w (below_four (byte / 16))
    ∙ ap (λ (k : ℕ). known (byte / 16 % 4) + k)
    (known_counted n (byte / 64 % 4) a (below_four (byte / 64)))))

-- no code counts for nothing
no_threes : count_ones (threes 0 0) ≡ 0
unfolding threes ones
no_threes = one_bit 0 (omega arith)

none_known : count_ones (nonzero 4 0) ≡ 0
unfolding nonzero ones
none_known = one_bit 0 (omega arith)

-- a sum from its other end
left_four : (p q r s : ℕ) → p + (q + (r + (s + 0))) ≡ 0 + p + q + r + s
left_four p q r s = omega arith

left_eight : (p q r s t u v w : ℕ)
    → p + (q + (r + (s + (t + (u + (v + (w + 0))))))) ≡ 0 + p + q + r + s + t + u + v + w
left_eight p q r s t u v w = omega arith

-- a mask of the codes of a record's two bytes has as many ones as there are records
pub records_counted : (first second mask : ℕ) → first < 256 → second < 256
    → mask ≡ threes 8 (first + 256 * second) → count_ones mask ≡ records_in first second
records_counted first second mask l m is =
    let second_is : second ≡ four second 0 =
    (let whole : second ≡ second + 256 * 0 = omega arith in whole ∙ four_is second 0 m) in
    ap count_ones is ∙ ap (λ (k : ℕ). count_ones (threes 8 k)) (four_is first second l)
    ∙ four_threes 4 first second
    ∙ ap (λ (k : ℕ). three (first % 4) + (three (first / 4 % 4) + (three (first / 16 % 4)
    + (three (first / 64 % 4) + k))))
    (ap (λ (k : ℕ). count_ones (threes 4 k)) second_is ∙ four_threes 0 second 0
    ∙ ap (λ (k : ℕ). three (second % 4) + (three (second / 4 % 4) + (three (second / 16 % 4)
    + (three (second / 64 % 4) + k)))) no_threes)
    ∙ left_eight (three (first % 4)) (three (first / 4 % 4)) (three (first / 16 % 4))
    (three (first / 64 % 4)) (three (second % 4)) (three (second / 4 % 4))
    (three (second / 16 % 4)) (three (second / 64 % 4))

pub records_few : (first second : ℕ) → records_in first second < 9
records_few first second =
    let p = three_below (first % 4) (below_four first) in
    let q = three_below (first / 4 % 4) (below_four (first / 4)) in
    let r = three_below (first / 16 % 4) (below_four (first / 16)) in
    let s = three_below (first / 64 % 4) (below_four (first / 64)) in
    let t = three_below (second % 4) (below_four second) in
    let u = three_below (second / 4 % 4) (below_four (second / 4)) in
    let v = three_below (second / 16 % 4) (below_four (second / 16)) in
    let w = three_below (second / 64 % 4) (below_four (second / 64)) in
    sum_few (three (first % 4)) (three (first / 4 % 4)) (three (first / 16 % 4))
    (three (first / 64 % 4)) (three (second % 4)) (three (second / 4 % 4))
    (three (second / 16 % 4)) (three (second / 64 % 4)) p q r s t u v w
  where
    sum_few : (p q r s t u v w : ℕ) → p < 2 → q < 2 → r < 2 → s < 2 → t < 2 → u < 2 → v < 2
        → w < 2 → 0 + p + q + r + s + t + u + v + w < 9
    sum_few p q r s t u v w lp lq lr ls lt lu lv lw = omega (arith, lp, lq, lr, ls, lt, lu, lv, lw)

-- and one of the codes of a byte as many as aren't 0
pub codes_counted : (byte mask : ℕ) → byte < 256 → mask ≡ nonzero 8 byte
    → count_ones mask ≡ known_codes (byte ∷ [])
codes_counted byte mask l is =
    let byte_is : byte ≡ four byte 0 =
    (let whole : byte ≡ byte + 256 * 0 = omega arith in whole ∙ four_is byte 0 l) in
    ap count_ones is ∙ ap (λ (k : ℕ). count_ones (nonzero 8 k)) byte_is ∙ four_known 4 byte 0
    ∙ ap (λ (k : ℕ). known (byte % 4) + (known (byte / 4 % 4) + (known (byte / 16 % 4)
    + (known (byte / 64 % 4) + k)))) none_known
    ∙ left_four (known (byte % 4)) (known (byte / 4 % 4)) (known (byte / 16 % 4))
    (known (byte / 64 % 4))

pub codes_few : (byte : ℕ) → known_codes (byte ∷ []) < 5
codes_few byte =
    let p = known_below (byte % 4) (below_four byte) in
    let q = known_below (byte / 4 % 4) (below_four (byte / 4)) in
    let r = known_below (byte / 16 % 4) (below_four (byte / 16)) in
    let s = known_below (byte / 64 % 4) (below_four (byte / 64)) in
    sum_few (known (byte % 4)) (known (byte / 4 % 4)) (known (byte / 16 % 4))
    (known (byte / 64 % 4)) p q r s
  where
    sum_few : (p q r s : ℕ) → p < 2 → q < 2 → r < 2 → s < 2 → 0 + p + q + r + s < 5
    sum_few p q r s lp lq lr ls = omega (arith, lp, lq, lr, ls)
