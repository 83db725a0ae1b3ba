-- The leading digit of a way by a Morton code, and the digits behind it.
use Rattle.std.proofs.Common.{◌≡◌, ℕ, ◌+◌, ◌-◌, ◌*◌, ◌/◌, ◌%◌, ◌^◌, ◌≤◌, sym, ◌∙◌, ap, arith}
use Rattle.std.proofs.Math.Nat.{mul-div-mul_right, mul_assoc}
use Rattle.std.proofs.lemmas.Nat.{pow-add, pow_pos, mul-mod_first}
use Rattle.oct_tree.specs.Descents.{digits_from}

-- the leading digit of 64 bits
leading : (n rest : ℕ) → n / 2 ^ 61 ≡ rest → n % 2 ^ 64 / 2 ^ 61 ≡ rest % 8
leading n rest e = omega (arith, e)

-- the leading digit is that of the depth
pub leading_digit : (depth code : ℕ) → depth ≤ 15
    → digits_from depth code / 2 ^ 61 ≡ code / 2 ^ (3 * (15 - depth)) % 8
unfolding digits_from
leading_digit depth code low =
    let whole : 61 ≡ 3 * (15 - depth) + (16 + 3 * depth) = omega arith in
    leading (code * 2 ^ (16 + 3 * depth)) (code / 2 ^ (3 * (15 - depth)))
    (ap (λ (n : ℕ). code * 2 ^ (16 + 3 * depth) / n)
    (ap (λ (n : ℕ). 2 ^ n) whole ∙ pow-add 2 (3 * (15 - depth)) (16 + 3 * depth))
    ∙ mul-div-mul_right code (2 ^ (3 * (15 - depth))) (pow_pos (16 + 3 * depth)))

-- without it, those below come first
pub digits_onward : (depth code : ℕ)
    → digits_from depth code * 2 ^ 3 % 2 ^ 64 ≡ digits_from (depth + 1) code
unfolding digits_from
digits_onward depth code =
    let next : 16 + 3 * depth + 3 ≡ 16 + 3 * (depth + 1) = omega arith in
    mul-mod_first (code * 2 ^ (16 + 3 * depth)) (2 ^ 3) (2 ^ 64)
    ∙ ap (λ (n : ℕ). n % 2 ^ 64)
    (mul_assoc code (2 ^ (16 + 3 * depth)) (2 ^ 3)
    ∙ ap (λ (n : ℕ). code * n)
    (sym (pow-add 2 (16 + 3 * depth) 3) ∙ ap (λ (n : ℕ). 2 ^ n) next))
