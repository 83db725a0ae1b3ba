-- How a text of the form is read.
use Rattle.std.proofs.Common.{◌≡◌, ℕ, suc, ◌+◌, ◌≤◌, ℤ, Bool, true, false, cond, List, [], ◌∷◌}
use Rattle.std.proofs.Common.{◌++◌, length, nat_lt, nat_le, Ok, Err, refl, sym, ap, ◌∙◌, inl, inr}
use Rattle.std.proofs.Common.{arith, add-zero}
use Rattle.std.proofs.Math.Seq.{take-append_seam, drop-append_seam}
use Rattle.std.proofs.lemmas.List.Folds.{prefix_len-append}
use Rattle.std.proofs.lemmas.List.Elements.{All-head}
use Rattle.std.proofs.lemmas.List.Sums.{prefix_len_is}
use Rattle.std.proofs.lemmas.Bool.{lt-ltb, le-ltb, ne_eqb, eq-eqb, and_parts, leb-true}
use Rattle.std.specs.List.{AllPass, prefix_len}
use Rattle.oct_num.specs.declared.metres.NumFault.TheVariants.{Syntax, Digits}
use Rattle.oct_num.specs.Decimal.{is_digit, AreDigits}
use Rattle.oct_num.specs.Sign.{sign_text, has_minus, without_minus}
use Rattle.oct_num.specs.Metres.{fraction_of, limited_nanometres, magnitude_of, signed_answer}
use Rattle.oct_num.specs.Metres.{metres_of}
use Rattle.oct_num.specs.Form.{nanometres, fraction_text, IsForm, IsMetres, HasExcess, IsExcessAt}

-- a run of digits is as long as its digits
pub run_all : (digits : List ℕ) → AllPass is_digit digits
    → prefix_len is_digit digits ≡ length digits
run_all digits all =
    prefix_len_is is_digit digits (length digits) 0 (omega arith) (λ k h. all k 0 h)
    (λ h. absurd (omega arith))

-- a run of digits ends where none follows
pub run_ends : (digits rest : List ℕ) → AllPass is_digit digits → prefix_len is_digit rest ≡ 0
    → prefix_len is_digit (digits ++ rest) ≡ length digits
run_ends digits rest all none =
    prefix_len-append is_digit digits rest
    ∙ rw (run_all digits all, eq-eqb (length digits) (length digits) refl, none)
    (add-zero (length digits))

-- no digit is a minus
pub plain_digits : (whole rest : List ℕ) → AreDigits whole → has_minus (whole ++ rest) ≡ false
plain_digits [] rest are = absurd (omega (arith, are.some))
plain_digits (digit ∷ whole) rest are =
    let first : is_digit digit ≡ true = All-head (λ b. is_digit b ≡ true) digit whole are.all in
    let test = and_parts (nat_le 48 digit) (nat_le digit 57) first in
    ne_eqb digit 45 (λ e. omega (arith, e, leb-true 48 digit test.0))

-- a text that doesn't begin with a minus keeps all its bytes
pub without_minus_plain : (body : List ℕ) → has_minus body ≡ false → without_minus body ≡ body
without_minus_plain [] plain = refl
without_minus_plain (byte ∷ rest) plain = rw plain refl

-- what stands after a sign, so that the sign is found
abbrev pub IsBody : Bool → List ℕ → Type 0
IsBody true body = Unit {0}
IsBody false body = has_minus body ≡ false

-- the sign is taken off, and what stands after it is read
pub metres_signed : (minus : Bool) (body : List ℕ) → IsBody minus body
    → metres_of (sign_text minus ++ body)
    ≡ signed_answer minus (magnitude_of (length (sign_text minus)) body)
unfolding metres_of
metres_signed true body plain = refl
metres_signed false body plain = rw (plain, without_minus_plain body plain) refl

-- the digits after a point, or none
pub fraction_read : (point : ℕ) (fraction : List ℕ) → AllPass is_digit fraction
    → fraction_of point (fraction_text fraction) ≡ Ok fraction
unfolding fraction_of
fraction_read point [] all = refl
fraction_read point (digit ∷ digits) all =
    let some : suc (length digits) ≡ 0 → ⊥ = λ e. omega (arith, e) in
    rw (
      run_all (digit ∷ digits) all,
      ne_eqb (suc (length digits)) 0 some,
      le-ltb (suc (length digits)) (suc (length digits)) (omega arith),
    )
    refl

-- no digit follows a text's digits
pub fraction_begins : (fraction : List ℕ) → prefix_len is_digit (fraction_text fraction) ≡ 0
fraction_begins [] = refl
fraction_begins (digit ∷ digits) = refl

-- digits and what follows them
pub magnitude_behind : (start : ℕ) (whole rest : List ℕ) → AreDigits whole
    → prefix_len is_digit rest ≡ 0
    → magnitude_of start (whole ++ rest)
    ≡ limited_nanometres start whole (fraction_of (start + length whole) rest)
unfolding magnitude_of
magnitude_behind start whole rest are none =
    let some : length whole ≡ 0 → ⊥ = λ e. omega (arith, e, are.some) in
    rw (
      run_ends whole rest are.all none,
      ne_eqb (length whole) 0 some,
      take-append_seam whole rest,
      drop-append_seam whole rest,
    )
    refl

-- a text of the form is read, but for too many digits
pub form_read : (text : List ℕ) (form : IsForm text)
    → metres_of text
    ≡ signed_answer form.minus
    (limited_nanometres (length (sign_text form.minus)) form.whole (Ok form.fraction))
form_read text form =
    let body : IsBody form.minus (form.whole ++ fraction_text form.fraction) =
    elim form.minus as (λ m. IsBody m (form.whole ++ fraction_text form.fraction)) [
      | true ↦ tt
      | false ↦ plain_digits form.whole (fraction_text form.fraction) form.before
    ] in
    ap metres_of form.spelled
    ∙ metres_signed form.minus (form.whole ++ fraction_text form.fraction) body
    ∙ rw (
      magnitude_behind (length (sign_text form.minus)) form.whole (fraction_text form.fraction)
          form.before (fraction_begins form.fraction),
      fraction_read (length (sign_text form.minus) + length form.whole) form.fraction form.behind,
    )
    refl

-- few enough digits
pub limited_ok : (start : ℕ) (whole fraction : List ℕ) → length whole ≤ 7 → length fraction ≤ 9
    → limited_nanometres start whole (Ok fraction) ≡ Ok (nanometres whole fraction)
unfolding limited_nanometres
limited_ok start whole fraction few few' =
    rw (le-ltb 7 (length whole) few, le-ltb 9 (length fraction) few') refl

-- too many digits
pub limited_excess : (start : ℕ) (whole fraction : List ℕ) (at : ℕ)
    → IsExcessAt start whole fraction at
    → limited_nanometres start whole (Ok fraction) ≡ Err (Digits at)
unfolding limited_nanometres
limited_excess start whole fraction at excess = elim excess [
  | inl many ↦ rw (lt-ltb 7 (length whole) many.0, many.1) refl
  | inr many ↦ rw (le-ltb 7 (length whole) many.0, lt-ltb 9 (length fraction) many.1, many.2)
      (ap (λ n. Err (Digits n)) (omega arith))
]

-- a text of the form with few enough digits is read as its nanometres
pub metres_read : (text : List ℕ) (nm : ℤ) → IsMetres text nm → metres_of text ≡ Ok nm
metres_read text nm h =
    form_read text h.form
    ∙ rw (
      limited_ok (length (sign_text h.form.minus)) h.form.whole h.form.fraction h.before h.behind,
      h.value,
    )
    refl

-- a text of the form with too many digits is refused at the first of these
pub excess_read : (text : List ℕ) (at : ℕ) → HasExcess text at → metres_of text ≡ Err (Digits at)
excess_read text at h =
    form_read text h.form
    ∙ rw (limited_excess (length (sign_text h.form.minus)) h.form.whole
    h.form.fraction at h.place)
    refl

-- a text of the form is never refused for its form
pub form_unbroken : (text : List ℕ) → IsForm text → (at : ℕ) → metres_of text ≡ Err (Syntax at) → ⊥
unfolding limited_nanometres
form_unbroken text form at wrong =
    let same : signed_answer form.minus
    (limited_nanometres (length (sign_text form.minus)) form.whole (Ok form.fraction))
    ≡ Err (Syntax at) =
    sym (form_read text form) ∙ wrong in
    elim (nat_lt 7 (length form.whole)) as
    (λ t. signed_answer form.minus
    (cond t (Err (Digits (length (sign_text form.minus) + 7)))
    (cond (nat_lt 9 (length form.fraction))
    (Err (Digits (length (sign_text form.minus) + length form.whole + 1
    + 9)))
    (Ok (nanometres form.whole form.fraction))))
    ≡ Err (Syntax at)
    → ⊥) [
      | true ↦ λ e. cc
      | false ↦ λ e. elim (nat_lt 9 (length form.fraction)) as
          (λ t. signed_answer form.minus
          (cond t
          (Err (Digits (length (sign_text form.minus) + length form.whole + 1
          + 9)))
          (Ok (nanometres form.whole form.fraction)))
          ≡ Err (Syntax at)
          → ⊥)
          [ true ↦ λ e. cc | false ↦ λ e. cc ] e
    ] same
