-- Runs of digits: how large their number is, and where they end.
use Rattle.std.proofs.Common.{◌≡◌, ℕ, ◌+◌, ◌-◌, ◌*◌, ◌^◌, ◌<◌, ◌≤◌, List, true, length, get_or}
use Rattle.std.proofs.Common.{drop, inl, inr, ap, arith, add-one, ◌∙◌}
use Rattle.std.proofs.Math.Nat.{pow-suc, pow-le-pow_right, one-le-pow, mul-le-mul_right}
use Rattle.std.proofs.lemmas.Nat.{pow-add}
use Rattle.std.proofs.lemmas.Bool.{and_parts, leb-true, cases_lt}
use Rattle.std.proofs.lemmas.List.{get_or-take}
use Rattle.std.proofs.lemmas.List.Folds.{length-prefix_len}
use Rattle.std.proofs.lemmas.List.Elements.{All-from_get_or}
use Rattle.std.proofs.lemmas.List.Sums.{prefix_len_passes, prefix_len_stops, prefix_len-drop_no}
use Rattle.std.proofs.lemmas.List.Sums.{prefix_len-drop_all}
use Rattle.std.specs.List.{AllPass, prefix_len, take_while}
use Rattle.oct_num.specs.Decimal.{is_digit}

-- a byte among digits
pub digit_at : (digits : List ℕ) (i : ℕ) → AllPass is_digit digits → i < length digits
    → (48 ≤ get_or digits i 0) × (get_or digits i 0 ≤ 57)
digit_at digits i all h =
    let p = and_parts _ _ (all i 0 h) in
    (leb-true _ _ p.0, leb-true _ _ p.1)

-- one digit more fits, and so do the numbers on the way
pub step_fits : (i n value digit : ℕ) → value < 10 ^ i → i < n → n ≤ 18 → 48 ≤ digit → digit ≤ 57
    → (value * 10 < 10 ^ 18) × (value * 10 + (digit - 48) < 10 ^ 18)
    × (value * 10 + (digit - 48) < 10 ^ (i + 1))
step_fits i n value digit small below few low high =
    let power : 10 ^ (i + 1) ≡ 10 ^ i * 10 = ap (λ k. 10 ^ k) (add-one i) ∙ pow-suc 10 i in
    let within : i + 1 ≤ 18 = omega arith in
    let some : 0 < 10 = omega arith in
    let largest : 10 ^ (i + 1) ≤ 10 ^ 18 = pow-le-pow_right some within in
    (omega arith, omega arith, omega arith)

-- what a turn of the loop over digits needs
pub turn_fits : (digits : List ℕ) (i value : ℕ) → AllPass is_digit digits → length digits ≤ 18
    → i < length digits → value < 10 ^ i
    → (48 ≤ get_or digits i 0) × (value * 10 < 10 ^ 18)
    × (value * 10 + (get_or digits i 0 - 48) < 10 ^ 18)
    × (value * 10 + (get_or digits i 0 - 48) < 10 ^ (i + 1))
turn_fits digits i value all few below small =
    let digit = digit_at digits i all below in
    let fits =
    step_fits i (length digits) value (get_or digits i 0) small below few digit.0 digit.1 in
    (digit.0, fits.0, fits.1, fits.2)

-- the digits after a point, as nanometres
pub fraction_small : (value count scale : ℕ) → value < 10 ^ count → count ≤ 9
    → scale ≡ 10 ^ (9 - count) → value * scale < 10 ^ 9
fraction_small value count scale small few same =
    let nine : 9 ≡ count + (9 - count) = omega arith in
    let split : 10 ^ 9 ≡ 10 ^ count * 10 ^ (9 - count) =
    ap (λ k. 10 ^ k) nine ∙ pow-add 10 count (9 - count) in
    let next : (value + 1) * 10 ^ (9 - count) ≤ 10 ^ count * 10 ^ (9 - count) =
    mul-le-mul_right (10 ^ (9 - count)) (omega arith) in
    let some : 1 ≤ 10 ^ (9 - count) = one-le-pow (9 - count) 10 (omega arith) in
    rw same (omega arith)

-- this many digits at most, so large a number at most
pub digits_small : (value count most : ℕ) → value < 10 ^ count → count ≤ most → value < 10 ^ most
digits_small value count most small few =
    let some : 0 < 10 = omega arith in
    let larger : 10 ^ count ≤ 10 ^ most = pow-le-pow_right some few in
    omega arith

-- at most seven digits before the point and nine after it
pub metres_small : (whole fraction scale before behind : ℕ) → whole < 10 ^ before → before ≤ 7
    → fraction < 10 ^ behind → behind ≤ 9 → scale ≡ 10 ^ (9 - behind)
    → (fraction * scale < 10 ^ 9) × (whole * 10 ^ 9 + fraction * scale < 10 ^ 16)
metres_small whole fraction scale before behind p few q few' same =
    let a : whole < 10 ^ 7 = digits_small whole before 7 p few in
    let b : fraction * scale < 10 ^ 9 = fraction_small fraction behind scale q few' same in
    (b, omega arith)

-- the digits that a text begins with are as many
pub front_count : (text : List ℕ) → length (take_while is_digit text) ≡ prefix_len is_digit text
front_count text = length-prefix_len is_digit text

-- the digits that a text begins with are digits
pub front_digits : (text : List ℕ) → AllPass is_digit (take_while is_digit text)
front_digits text = All-from_get_or (λ digit. is_digit digit ≡ true) (take_while is_digit text) 0
    (λ i h. let within : i < prefix_len is_digit text = omega (arith, front_count text) in
    rw (get_or-take (prefix_len is_digit text) text i 0 within)
    (prefix_len_passes is_digit text i 0 within))

-- no digit follows the digits that a text begins with
pub rest_begins : (text : List ℕ) → prefix_len is_digit (drop (prefix_len is_digit text) text) ≡ 0
rest_begins text = elim (cases_lt (prefix_len is_digit text) (length text)) [
  | inl more ↦ prefix_len-drop_no is_digit text (prefix_len is_digit text) 0 more
      (prefix_len_stops is_digit text 0 more)
  | inr all ↦ prefix_len-drop_all is_digit text (prefix_len is_digit text) all
]

-- what the split of a text after its digits gives
pub ruleset fronts = (front_count, front_digits)
