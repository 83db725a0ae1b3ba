-- The answer to a text is right by the form alone.
use Rattle.std.proofs.Common.{◌≡◌, ◌↔◌, ℕ, ◌+◌, ◌<◌, ℤ, Bool, true, List, [], ◌∷◌, ◌++◌, length}
use Rattle.std.proofs.Common.{take, drop, take_while, nat_lt, nat_eq, ◌||◌, Result, Ok, Err, refl}
use Rattle.std.proofs.Common.{sym, ap, ◌∙◌, subst, inl, inr, arith}
use Rattle.std.proofs.lemmas.List.{append-nil, append_assoc, length-append, take-append-drop}
use Rattle.std.proofs.lemmas.Bool.{lt-ltb, ne_eqb, cases_eq, cases_lt, or_right}
use Rattle.std.specs.List.{AllPass, prefix_len}
use Rattle.oct_num.specs.declared.metres.NumFault.{NumFault}
use Rattle.oct_num.specs.declared.metres.NumFault.TheVariants.{Syntax, Digits}
use Rattle.oct_num.specs.Decimal.{is_digit, AreDigits}
use Rattle.oct_num.specs.Sign.{sign_text, has_minus, without_minus}
use Rattle.oct_num.specs.Metres.{metres_of}
use Rattle.oct_num.specs.Form.{IsForm, IsMetres, HasExcess, CanGoOn, BreaksAt}
use Rattle.oct_num.proofs.DigitRuns.{front_digits, rest_begins}
use Rattle.oct_num.proofs.FormReading.{IsBody, form_read, limited_ok, limited_excess, metres_read}
use Rattle.oct_num.proofs.FormReading.{excess_read}
use Rattle.oct_num.proofs.FormBreaks.{BeginAlike, breaks_from, breaks_once, broken_unformed}
use Rattle.oct_num.proofs.FormBreaks.{none_alike, body_alike, no_digit, sign_goes_on, no_point}
use Rattle.oct_num.proofs.FormBreaks.{whole_goes_on, no_fraction, point_goes_on}

-- what the form says of an answer
abbrev pub IsRight : List ℕ → Result ℤ NumFault → Type 0
IsRight text (Ok nm) = IsMetres text nm
IsRight text (Err (Syntax at)) = BreaksAt text at
IsRight text (Err (Digits at)) = HasExcess text at

-- a text begins as itself
alike_self : (rest : List ℕ) → BeginAlike rest rest
alike_self [] = refl
alike_self (byte ∷ rest) = (rest, refl)

-- a text that breaks
broken_right : (front rest : List ℕ) (at : ℕ) → at ≡ length front → CanGoOn front
    → ((tail : List ℕ) → BeginAlike rest tail → metres_of (front ++ tail) ≡ Err (Syntax at))
    → IsRight (front ++ rest) (metres_of (front ++ rest))
broken_right front rest at place begins wrong =
    rw (wrong rest (alike_self rest)) (breaks_from front rest at place begins wrong)

-- a text of the form
formed_right : (text : List ℕ) → IsForm text → IsRight text (metres_of text)
formed_right text form =
    elim (cases_lt 7 (length form.whole)) [
      | inl many ↦ rw (
        form_read text form,
        limited_excess (length (sign_text form.minus))
            form.whole form.fraction (length (sign_text form.minus) + 7) (inl (many, refl)),
      ) (record { form = form; place = inl (many, refl) })
      | inr few ↦ elim (cases_lt 9 (length form.fraction)) [
        | inl many ↦ rw (
          form_read text form,
          limited_excess (length (sign_text form.minus))
              form.whole form.fraction (length (sign_text form.minus) + length form.whole + 1 + 9)
              (inr (few, many, refl)),
        ) (record { form = form; place = inr (few, many, refl) })
        | inr few' ↦ rw (
          form_read text form,
          limited_ok (length (sign_text form.minus)) form.whole form.fraction few few',
        ) (record { form = form; before = few; behind = few'; value = refl })
      ]
    ]

-- the same text, spelled otherwise
respelled : (text text' : List ℕ) → text' ≡ text → IsRight text' (metres_of text')
    → IsRight text (metres_of text)
respelled text text' same right = subst (λ t. IsRight t (metres_of t)) same right

-- no digit after the sign
unstarted_right : (minus : Bool) (rest : List ℕ) → IsBody minus rest → prefix_len is_digit rest ≡ 0
    → IsRight (sign_text minus ++ rest) (metres_of (sign_text minus ++ rest))
unstarted_right minus rest body none =
    broken_right (sign_text minus) rest (length (sign_text minus)) refl (sign_goes_on minus)
    (λ tail alike. no_digit minus tail (body_alike minus rest tail alike body)
    (none_alike rest tail alike none))

-- a byte after the digits that is no point
unpointed_right : (minus : Bool) (whole : List ℕ) (byte : ℕ) (more : List ℕ) → AreDigits whole
    → prefix_len is_digit (byte ∷ more) ≡ 0 → (byte ≡ 46 → ⊥)
    → IsRight (sign_text minus ++ (whole ++ byte ∷ more))
    (metres_of (sign_text minus ++ (whole ++ byte ∷ more)))
unpointed_right minus whole byte more are none other =
    respelled (sign_text minus ++ (whole ++ byte ∷ more))
    ((sign_text minus ++ whole) ++ byte ∷ more)
    (append_assoc (sign_text minus) whole (byte ∷ more))
    (broken_right (sign_text minus ++ whole) (byte ∷ more) (length (sign_text minus) + length whole)
    (sym (length-append (sign_text minus) whole)) (whole_goes_on minus whole are)
    (λ tail alike. rw alike.1
    (no_point minus whole byte alike.0 are
    (none_alike (byte ∷ more) (byte ∷ alike.0) (alike.0, refl) none) other)))

-- too few digits after the point, or a byte after them
unended_right : (minus : Bool) (whole digits rest : List ℕ) → AreDigits whole
    → AllPass is_digit digits → prefix_len is_digit rest ≡ 0
    → ((tail : List ℕ) → BeginAlike rest tail
    → (nat_eq (length digits) 0 || nat_lt (length digits) (length (digits ++ tail))) ≡ true)
    → IsRight (sign_text minus ++ (whole ++ 46 ∷ (digits ++ rest)))
    (metres_of (sign_text minus ++ (whole ++ 46 ∷ (digits ++ rest))))
unended_right minus whole digits rest are all none test =
    let place : length (sign_text minus) + length whole + 1 + length digits
    ≡ length (sign_text minus ++ (whole ++ 46 ∷ digits)) =
    simp length-append (omega arith) in
    respelled (sign_text minus ++ (whole ++ 46 ∷ (digits ++ rest)))
    ((sign_text minus ++ (whole ++ 46 ∷ digits)) ++ rest) (simp append_assoc)
    (broken_right (sign_text minus ++ (whole ++ 46 ∷ digits)) rest
    (length (sign_text minus) + length whole + 1 + length digits) place
    (point_goes_on minus whole digits are all)
    (λ tail alike. no_fraction minus whole digits tail are all (none_alike rest tail alike none)
    (test tail alike)))

-- more than the digits
more_behind : (digits tail : List ℕ) (byte : ℕ) (more : List ℕ) → tail ≡ byte ∷ more
    → (nat_eq (length digits) 0 || nat_lt (length digits) (length (digits ++ tail))) ≡ true
more_behind digits tail byte more same =
    let longer : length digits < length (digits ++ tail) =
    rw same (simp length-append (omega arith)) in
    or_right (nat_eq (length digits) 0) (nat_lt (length digits) (length (digits ++ tail)))
    (lt-ltb (length digits) (length (digits ++ tail)) longer)

-- what follows a point
pointed_right : (minus : Bool) (whole digits rest : List ℕ) → AreDigits whole
    → AllPass is_digit digits → prefix_len is_digit rest ≡ 0
    → IsRight (sign_text minus ++ (whole ++ 46 ∷ (digits ++ rest)))
    (metres_of (sign_text minus ++ (whole ++ 46 ∷ (digits ++ rest))))
pointed_right minus whole [] rest are all none =
    unended_right minus whole [] rest are all none (λ tail alike. refl)
pointed_right minus whole (digit ∷ digits) [] are all none =
    respelled (sign_text minus ++ (whole ++ 46 ∷ ((digit ∷ digits) ++ [])))
    (sign_text minus ++ (whole ++ 46 ∷ (digit ∷ digits))) (simp append-nil)
    (formed_right (sign_text minus ++ (whole ++ 46 ∷ (digit ∷ digits))) (record {
      minus = minus;
      whole = whole;
      fraction = digit ∷ digits;
      spelled = refl;
      before = are;
      behind = all;
    }))
pointed_right minus whole (digit ∷ digits) (byte ∷ rest) are all none =
    unended_right minus whole (digit ∷ digits) (byte ∷ rest) are all none
    (λ tail alike. more_behind (digit ∷ digits) tail byte alike.0 alike.1)

-- what follows a sign and digits
started_right : (minus : Bool) (whole rest : List ℕ) → AreDigits whole
    → prefix_len is_digit rest ≡ 0
    → IsRight (sign_text minus ++ (whole ++ rest)) (metres_of (sign_text minus ++ (whole ++ rest)))
started_right minus whole [] are none =
    formed_right (sign_text minus ++ (whole ++ [])) (record {
      minus = minus;
      whole = whole;
      fraction = [];
      spelled = refl;
      before = are;
      behind = λ k d h. absurd (omega arith);
    })
started_right minus whole (byte ∷ more) are none =
    elim (cases_eq byte 46) [
      | inl point ↦
          respelled (sign_text minus ++ (whole ++ byte ∷ more))
          (sign_text minus
          ++ (whole ++ 46 ∷ (take_while is_digit more
          ++ drop (prefix_len is_digit more) more)))
          (rw (point, take-append-drop (prefix_len is_digit more) more) refl)
          (pointed_right minus whole (take_while is_digit more)
          (drop (prefix_len is_digit more) more) are (front_digits more) (rest_begins more))
      | inr other ↦ unpointed_right minus whole byte more are none other
    ]

-- what follows a sign
signed_right : (minus : Bool) (whole rest : List ℕ) → IsBody minus (whole ++ rest)
    → AllPass is_digit whole → prefix_len is_digit rest ≡ 0
    → IsRight (sign_text minus ++ (whole ++ rest)) (metres_of (sign_text minus ++ (whole ++ rest)))
signed_right minus [] rest body all none = unstarted_right minus rest body none
signed_right minus (digit ∷ whole) rest body all none =
    started_right minus (digit ∷ whole) rest (record { all = all; some = omega arith }) none

-- a text is its sign and what follows it
pub sign_split : (text : List ℕ) → sign_text (has_minus text) ++ without_minus text ≡ text
sign_split [] = refl
sign_split (byte ∷ rest) = elim (cases_eq byte 45) [
  | inl minus ↦ rw minus refl
  | inr other ↦ rw (ne_eqb byte 45 other) refl
]

-- after the sign of a text its sign is found
body_split : (text : List ℕ) → IsBody (has_minus text) (without_minus text)
body_split [] = refl
body_split (byte ∷ rest) = elim (cases_eq byte 45) [
  | inl minus ↦ rw minus tt
  | inr other ↦ rw (ne_eqb byte 45 other) (ne_eqb byte 45 other)
]

-- every answer is right
pub metres_right : (text : List ℕ) → IsRight text (metres_of text)
metres_right text =
    let body : List ℕ = without_minus text in
    let count : ℕ = prefix_len is_digit (without_minus text) in
    let split : take count body ++ drop count body ≡ body = take-append-drop count body in
    respelled text (sign_text (has_minus text) ++ (take count body ++ drop count body))
    (rw split (sign_split text))
    (signed_right (has_minus text) (take count body) (drop count body) (rw split (body_split text))
    (front_digits body) (rest_begins body))

-- a text that breaks is refused there
pub breaks_read : (text : List ℕ) (at : ℕ) → BreaksAt text at → metres_of text ≡ Err (Syntax at)
breaks_read text at h = only_break (metres_of text) (metres_right text)
  where
    only_break : (r : Result ℤ NumFault) → IsRight text r → r ≡ Err (Syntax at)
    only_break (Ok nm) right =
        absurd (broken_unformed text h.front h.rest h.spelled h.stuck right.form)
    only_break (Err (Syntax at')) right = ap (λ n. Err (Syntax n)) (breaks_once text at' at right h)
    only_break (Err (Digits at')) right =
        absurd (broken_unformed text h.front h.rest h.spelled h.stuck right.form)

-- ---- what the reader's clauses say

-- a number is answered exactly to the text of these nanometres
pub value_law : (text : List ℕ) (r : Result ℤ NumFault) → r ≡ metres_of text → (nm : ℤ)
    → (r ≡ Ok nm) ↔ IsMetres text nm
value_law text r same nm = (
  λ e. subst (IsRight text) (sym same ∙ e) (metres_right text),
  λ h. same ∙ metres_read text nm h,
)

-- a fault of form is answered exactly where the text breaks
pub syntax_law : (text : List ℕ) (r : Result ℤ NumFault) → r ≡ metres_of text → (at : ℕ)
    → (r ≡ Err (Syntax at)) ↔ BreaksAt text at
syntax_law text r same at = (
  λ e. subst (IsRight text) (sym same ∙ e) (metres_right text),
  λ h. same ∙ breaks_read text at h,
)

-- a digit too many is answered exactly where it stands
pub digits_law : (text : List ℕ) (r : Result ℤ NumFault) → r ≡ metres_of text → (at : ℕ)
    → (r ≡ Err (Digits at)) ↔ HasExcess text at
digits_law text r same at = (
  λ e. subst (IsRight text) (sym same ∙ e) (metres_right text),
  λ h. same ∙ excess_read text at h,
)
