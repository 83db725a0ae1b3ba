-- The reading of a whole number is right by the form alone.
use Rattle.std.proofs.Common.{◌≡◌, ◌↔◌, ℕ, ◌≤◌, ℤ, Bool, true, false, not, ◌||◌, List, [], ◌++◌}
use Rattle.std.proofs.Common.{length, nat_lt, nat_eq, Option, Some, None, refl, sym, ap, ◌∙◌, inl}
use Rattle.std.proofs.Common.{inr, arith}
use Rattle.std.proofs.lemmas.Bool.{ne_eqb, le-ltb, eqb-false, ltb-false, or_parts, not-false}
use Rattle.std.proofs.lemmas.Bool.{cases_Bool}
use Rattle.std.proofs.lemmas.List.{append-nil}
use Rattle.std.proofs.lemmas.List.Sums.{list_all-from_AllPass, AllPass-from_list_all}
use Rattle.std.specs.List.{list_all}
use Rattle.oct_num.specs.Decimal.{is_digit, decimal_value, AreDigits}
use Rattle.oct_num.specs.Sign.{sign_text, signed_number, has_minus, without_minus}
use Rattle.oct_num.specs.Whole.{natural_of, whole_of, IsWholeNumber}
use Rattle.oct_num.proofs.FormReading.{plain_digits, without_minus_plain}
use Rattle.oct_num.proofs.FormLaw.{sign_split}

-- one to eighteen digits are read
pub natural_read : (digits : List ℕ) → AreDigits digits → length digits ≤ 18
    → natural_of digits ≡ Some (decimal_value digits)
unfolding natural_of
natural_read digits are few =
    let some : length digits ≡ 0 → ⊥ = λ e. omega (arith, e, are.some) in
    rw (
      ne_eqb (length digits) 0 some,
      le-ltb 18 (length digits) few,
      list_all-from_AllPass is_digit digits are.all,
    )
    refl

-- one to eighteen digits, for this number
pub record IsNatural (text : List ℕ) (n : ℕ) : Type 0 where
  pub are_digits : AreDigits text
  pub few : length text ≤ 18
  pub value : n ≡ decimal_value text

-- what is read is such digits
pub natural_is : (text : List ℕ) (n : ℕ) → natural_of text ≡ Some n → IsNatural text n
unfolding natural_of
natural_is text n read =
    elim (cases_Bool (nat_eq (length text) 0 || nat_lt 18 (length text)
    || not (list_all is_digit text))) [
      | inl wrong ↦ let no : None ≡ Some n = rw wrong at read in absurd (cc)
      | inr right ↦
          let value : Some (decimal_value text) ≡ Some n = rw right at read in
          let parts =
          or_parts (nat_eq (length text) 0 || nat_lt 18 (length text))
          (not (list_all is_digit text)) right in
          let sizes = or_parts (nat_eq (length text) 0) (nat_lt 18 (length text)) parts.0 in
          let some : length text ≡ 0 → ⊥ = eqb-false (length text) 0 sizes.0 in
          record {
            are_digits = record {
              all =
                  AllPass-from_list_all is_digit text
                  (not-false (list_all is_digit text) parts.1);
              some = omega arith;
            };
            few = ltb-false 18 (length text) sizes.1;
            value = cc;
          }
    ]

-- a sign and such digits are read
whole_signed : (minus : Bool) (digits : List ℕ) → AreDigits digits → length digits ≤ 18
    → whole_of (sign_text minus ++ digits) ≡ Some (signed_number minus (decimal_value digits))
unfolding whole_of
whole_signed true digits are few = rw (natural_read digits are few) refl
whole_signed false digits are few =
    let plain : has_minus digits ≡ false = rw append-nil at (plain_digits digits [] are) in
    rw (plain, without_minus_plain digits plain, natural_read digits are few) refl

-- the text of a whole number is read as that number
whole_read : (text : List ℕ) (n : ℤ) → IsWholeNumber text n → whole_of text ≡ Some n
whole_read text n h =
    ap whole_of h.spelled ∙ whole_signed h.minus h.digits h.are_digits h.few ∙ ap Some (sym h.value)

-- what is read as a number is its text
whole_is : (text : List ℕ) (n : ℤ) → whole_of text ≡ Some n → IsWholeNumber text n
unfolding whole_of
whole_is text n read = of_digits (natural_of (without_minus text)) refl
  where
    of_digits : (r : Option ℕ) → natural_of (without_minus text) ≡ r → IsWholeNumber text n
    of_digits None same = let no : None ≡ Some n = rw same at read in absurd (cc)
    of_digits (Some m) same =
        let value : Some (signed_number (has_minus text) m) ≡ Some n = rw same at read in
        let natural = natural_is (without_minus text) m same in
        record {
          minus = has_minus text;
          digits = without_minus text;
          spelled = sym (sign_split text);
          are_digits = natural.are_digits;
          few = natural.few;
          value = cc (natural.value);
        }

-- ---- what the reader's clause says

-- a number is answered exactly to its texts
pub number_law : (text : List ℕ) (r : Option ℤ) → r ≡ whole_of text → (n : ℤ)
    → (r ≡ Some n) ↔ IsWholeNumber text n
number_law text r same n = (λ e. whole_is text n (sym same ∙ e), λ h. same ∙ whole_read text n h)
