-- The length that a text begins with.
use Rattle.std.proofs.Common.{◌≡◌, ℕ, ◌^◌, ◌<◌, ◌≤◌, ℤ, unsigned_abs, Bool, List, []}
use Rattle.std.proofs.Common.{◌∷◌, ◌++◌, length, drop, nat_eq, nat_lt, refl, sym, ap, ◌∙◌, subst}
use Rattle.std.proofs.Common.{append_assoc, arith, inl, inr, Option, Some, None, take_while}
use Rattle.std.proofs.lemmas.Bool.{cases_Bool, eqb-true, eqb-false, ltb-false}
use Rattle.std.proofs.lemmas.List.{take-append-drop}
use Rattle.std.proofs.lemmas.Int.{ints, to_z-of_z}
use mir.Val.{SFits, to_z, of_z}
use mir.Syntax.{w64}
use Rattle.std.specs.List.{AllPass, prefix_len}
use Rattle.oct_num.specs.Decimal.{is_digit}
use Rattle.oct_num.specs.Sign.{sign_text, signed_number, has_minus, without_minus}
use Rattle.oct_num.specs.Form.{nanometres, fraction_text, BeginsWith}
use Rattle.oct_num.specs.Metres.{fraction_front, fraction_rest, metres_front}
use Rattle.oct_num.proofs.DigitRuns.{front_count, front_digits}
use Rattle.oct_num.proofs.FormLaw.{sign_split}

-- a number that is small enough is kept as it is
pub kept : (z : ℤ) (n : ℕ) → unsigned_abs z ≡ n → n < 10 ^ 16 → to_z w64 (of_z w64 z) ≡ z
kept z n same small =
    let fits : SFits w64 z = omega (arith, ints, same, small) in
    to_z-of_z w64 z fits

-- what stands before the rest of a text that begins with a point, where these are the digits after
-- the point
spelled_by : (byte : ℕ) (behind digits : List ℕ) → byte ≡ 46
    → digits ++ drop (length digits) behind ≡ behind →
    byte ∷ behind ≡ fraction_text digits ++ drop (length (fraction_text digits)) (byte ∷ behind)
spelled_by byte behind [] point joined = refl
spelled_by byte behind (digit ∷ digits) point joined =
    ap (λ b. b ∷ behind) point ∙ ap (λ (rest : List ℕ). 46 ∷ rest) (sym joined)

-- a text is its fraction and the rest
pub fraction_spelled : (text : List ℕ)
    → text ≡ fraction_text (fraction_front text) ++ fraction_rest text
fraction_spelled [] = refl
fraction_spelled (byte ∷ behind) = elim (cases_Bool (nat_eq byte 46)) [
  | inl point ↦ (
      let joined : take_while is_digit behind ++ drop (length (take_while is_digit behind)) behind
      ≡ behind =
      ap (λ n. take_while is_digit behind ++ drop n behind) (front_count behind)
      ∙ take-append-drop (prefix_len is_digit behind) behind in
      rw point
      (spelled_by byte behind (take_while is_digit behind) (eqb-true byte 46 point) joined))
  | inr other ↦ rw other refl
]

-- the digits after the point are digits
fraction_digits : (text : List ℕ) → AllPass is_digit (fraction_front text)
fraction_digits [] = λ i d h. absurd (omega arith)
fraction_digits (byte ∷ behind) = elim (cases_Bool (nat_eq byte 46)) [
  | inl point ↦ rw point (front_digits behind)
  | inr other ↦ rw other (λ i d h. absurd (omega arith))
]

-- a sign, digits and a fraction, and what stands after them
begins_with : (text magnitude whole behind fraction rest : List ℕ) (minus : Bool) (n : ℕ) (nm : ℤ) →
    minus ≡ has_minus text → magnitude ≡ without_minus text → whole ≡ take_while is_digit magnitude
    → behind ≡ drop (prefix_len is_digit magnitude) magnitude →
    AllPass is_digit whole → 0 < length whole → behind ≡ fraction_text fraction ++ rest
    → AllPass is_digit fraction →
    length whole ≤ 7 → length fraction ≤ 9 → n ≡ nanometres whole fraction
    → nm ≡ signed_number minus n → BeginsWith text nm rest
begins_with text magnitude whole behind fraction rest minus n nm sign body first left all some
    further digits before behind_few same value =
    let joined : whole ++ behind ≡ magnitude =
    rw (first, left) (take-append-drop (prefix_len is_digit magnitude) magnitude) in
    let spelled : text ≡ (sign_text minus ++ (whole ++ fraction_text fraction)) ++ rest =
    sym (sign_split text)
    ∙ ap (λ m. sign_text m ++ without_minus text) (sym sign)
    ∙ ap (λ b. sign_text minus ++ b)
    (sym body ∙ sym joined ∙ ap (λ b. whole ++ b) further
    ∙ sym (append_assoc whole (fraction_text fraction) rest))
    ∙ sym (append_assoc (sign_text minus) (whole ++ fraction_text fraction) rest) in
    record {
      front = sign_text minus ++ (whole ++ fraction_text fraction);
      spelled = spelled;
      metres = record {
        form = record {
          minus = minus;
          whole = whole;
          fraction = fraction;
          spelled = refl;
          before = record { all = all; some = some };
          behind = digits;
        };
        before = before;
        behind = behind_few;
        value = value ∙ ap (signed_number minus) same;
      };
    }

-- the length that a text begins with, if any, and its rest stand there
abbrev IsFrontOf : List ℕ → Option (ℤ × List ℕ) → Type 0
IsFrontOf text None = Unit {0}
IsFrontOf text (Some front) = BeginsWith text front.0 front.1

front_right : (text : List ℕ) → IsFrontOf text (metres_front text)
unfolding metres_front
front_right text =
    let magnitude = without_minus text in
    let whole = take_while is_digit magnitude in
    let behind = drop (prefix_len is_digit magnitude) magnitude in
    let fraction = fraction_front behind in
    elim (cases_Bool (nat_eq (length whole) 0)) [
      | inl none ↦ rw none tt
      | inr some ↦ elim (cases_Bool (nat_lt 7 (length whole))) [
        | inl many ↦ rw (some, many) tt
        | inr few ↦ elim (cases_Bool (nat_lt 9 (length fraction))) [
          | inl many ↦ rw (some, few, many) tt
          | inr few_behind ↦ rw (some, few, few_behind)
              (begins_with text magnitude whole behind fraction (fraction_rest behind)
              (has_minus text) (nanometres whole fraction)
              (signed_number (has_minus text) (nanometres whole fraction)) refl refl refl refl
              (front_digits magnitude) (omega (arith, eqb-false (length whole) 0 some))
              (fraction_spelled behind) (fraction_digits behind) (ltb-false 7 (length whole) few)
              (ltb-false 9 (length fraction) few_behind) refl refl)
        ]
      ]
    ]

-- a length that is read at the front of a text stands there
pub front_begins : (text : List ℕ) (nm : ℤ) (rest : List ℕ) → metres_front text ≡ Some (nm, rest)
    → BeginsWith text nm rest
front_begins text nm rest read = subst (IsFrontOf text) read (front_right text)
