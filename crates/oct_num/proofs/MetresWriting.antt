-- The text of a length is read back, and no text of that length is shorter.
use Rattle.std.proofs.Common.{◌≡◌, ℕ, zero, suc, ◌+◌, ◌-◌, ◌*◌, ◌/◌, ◌%◌, ◌^◌, ◌<◌, ◌≤◌, ℤ, pos}
use Rattle.std.proofs.Common.{negsuc, unsigned_abs, Bool, true, false, nat_le, List, [], ◌∷◌, ◌++◌}
use Rattle.std.proofs.Common.{length, fold, Ok, refl, sym, ap, ◌∙◌, subst, inl, inr, arith}
use Rattle.std.proofs.Math.Nat.{div-lt_iff_lt-mul, div-add-mod, mod-lt, mod-eq_of_lt}
use Rattle.std.proofs.Math.Nat.{mul-add-mod_self_left, pow-suc, one-le-pow, mul-le-mul_right}
use Rattle.std.proofs.lemmas.Nat.{pow-add}
use Rattle.std.proofs.lemmas.Bool.{ne_eqb, le-ltb, le-leb, leb-true, and_parts, cases_eq, eq-eqb}
use Rattle.std.proofs.lemmas.List.{length-append}
use Rattle.std.proofs.lemmas.List.Elements.{All-nil, All-cons, All-head, All-tail}
use Rattle.std.proofs.lemmas.Str.Parse.{IsNumeralModel, IsDigitsTest, FoldsDigits, numerals_by_fold}
use Rattle.std.proofs.lemmas.Fmt.{digits_decimal, digits_value-decimal, decimal_nonempty}
use Rattle.std.proofs.lemmas.Fmt.{length-decimal-le}
use Rattle.std.proofs.lemmas.Int.Digits.{digits_value-lt}
use Rattle.oct_num.proofs.DigitRuns.{fraction_small}
use Rattle.std.specs.List.{AllPass}
use Rattle.std.specs.Int.{is_negative}
use Rattle.std.specs.Fmt.{decimal}
use Rattle.oct_num.specs.Decimal.{is_digit, decimal_value, AreDigits}
use Rattle.oct_num.specs.Sign.{sign_text, signed_number}
use Rattle.oct_num.specs.Form.{nanometres, fraction_text, IsMetres}
use Rattle.oct_num.specs.Metres.{metres_of}
use Rattle.oct_num.specs.MetresText.{leading_digits, magnitude_text, metres_text}
use Rattle.oct_num.proofs.FormReading.{metres_read}

-- a digit's byte passes the test
digit_passes : (byte : ℕ) → 48 ≤ byte → byte ≤ 57 → is_digit byte ≡ true
digit_passes byte low high = rw (le-leb 48 byte low, le-leb byte 57 high) refl

-- the digits of std and those of this crate
pub numerals : IsNumeralModel (AllPass is_digit) decimal_value
numerals =
    numerals_by_fold (AllPass is_digit) digits
    (λ n ds. fold (λ value digit. value * 10 + (digit - 48)) n ds) folds
  where
    digits : IsDigitsTest (AllPass is_digit)
    digits = record {
      empty = All-nil (λ b. is_digit b ≡ true);
      parts = λ c cs all.
          let test =
          and_parts (nat_le 48 c) (nat_le c 57) (All-head (λ b. is_digit b ≡ true) c cs all) in (
            (leb-true 48 c test.0, leb-true c 57 test.1),
            All-tail (λ b. is_digit b ≡ true) c cs all,
          );
      more =
          λ c cs within all. All-cons (λ b. is_digit b ≡ true) c cs
          (digit_passes c within.0 within.1) all;
    }

    folds : FoldsDigits (λ n ds. fold (λ value digit. value * 10 + (digit - 48)) n ds)
    folds = record { empty = λ n. refl; more = λ n c cs within. refl }

-- the value of digits after others
value_after : (n : ℕ) (ds : List ℕ)
    → fold (λ value digit. value * 10 + (digit - 48)) n ds ≡ n * 10 ^ length ds + decimal_value ds
value_after n [] = omega arith
value_after n (d ∷ ds) =
    let zero_first : 0 + (d - 48) ≡ d - 48 = omega arith in
    let power : n * 10 ^ suc (length ds) ≡ n * (10 ^ length ds * 10) =
    ap (λ p. n * p) (pow-suc 10 (length ds)) in
    let first : decimal_value (d ∷ ds) ≡ (d - 48) * 10 ^ length ds + decimal_value ds =
    ap (λ (v : ℕ). fold (λ value digit. value * 10 + (digit - 48)) v ds) zero_first
    ∙ value_after (d - 48) ds in
    let joined : (n * 10 + (d - 48)) * 10 ^ length ds + decimal_value ds
    ≡ n * 10 ^ suc (length ds) + ((d - 48) * 10 ^ length ds + decimal_value ds) =
    omega (arith, power) in
    value_after (n * 10 + (d - 48)) ds ∙ joined ∙ ap (λ v. n * 10 ^ suc (length ds) + v) (sym first)

first_digit : (q : ℕ) (ds : List ℕ)
    → decimal_value ((48 + q) ∷ ds) ≡ q * 10 ^ length ds + decimal_value ds
first_digit q ds =
    let taken : 0 + (48 + q - 48) ≡ q = omega arith in
    ap (λ (v : ℕ). fold (λ value digit. value * 10 + (digit - 48)) v ds) taken ∙ value_after q ds

-- the digit of the highest place
highest : (places n : ℕ) → n < 10 ^ suc places → n / 10 ^ places < 10
highest places n small =
    (div-lt_iff_lt-mul {k = 10 ^ places} {x = n} {y = 10} (one-le-pow places 10 (omega arith))).1
    (omega (arith, pow-suc 10 places))

-- the digits of a number are digits, at most as many as its places, and their value is the number
pub leading_all : (places n : ℕ) → n < 10 ^ places → AllPass is_digit (leading_digits places n)
unfolding leading_digits
leading_all zero n small = All-nil (λ b. is_digit b ≡ true)
leading_all (suc places) n small = elim (cases_eq n 0) [
  | inl none ↦ rw (eq-eqb n 0 none) (All-nil (λ b. is_digit b ≡ true))
  | inr some ↦
      let rest : n % 10 ^ places < 10 ^ places = mod-lt n (one-le-pow places 10 (omega arith)) in
      let digit = highest places n small in
      rw (ne_eqb n 0 some)
      (All-cons (λ b. is_digit b ≡ true) (48 + n / 10 ^ places)
      (leading_digits places (n % 10 ^ places))
      (digit_passes (48 + n / 10 ^ places) (omega arith) (omega arith))
      (leading_all places (n % 10 ^ places) rest))
]

pub leading_few : (places n : ℕ) → length (leading_digits places n) ≤ places
unfolding leading_digits
leading_few zero n = omega arith
leading_few (suc places) n = elim (cases_eq n 0) [
  | inl none ↦ rw (eq-eqb n 0 none) (omega arith)
  | inr some ↦ rw (ne_eqb n 0 some) (omega (arith, leading_few places (n % 10 ^ places)))
]

leading_value : (places n : ℕ) → n < 10 ^ places
    → decimal_value (leading_digits places n) * 10 ^ (places - length (leading_digits places n)) ≡ n
unfolding leading_digits
leading_value zero n small = omega arith
leading_value (suc places) n small = elim (cases_eq n 0) [
  | inl none ↦ rw (eq-eqb n 0 none) (omega (arith, none))
  | inr some ↦ rw (ne_eqb n 0 some)
      (more (leading_digits places (n % 10 ^ places)) (leading_few places (n % 10 ^ places))
      (leading_value places (n % 10 ^ places) (mod-lt n (one-le-pow places 10 (omega arith)))))
]
  where
    more : (ds : List ℕ) → length ds ≤ places
        → decimal_value ds * 10 ^ (places - length ds) ≡ n % 10 ^ places
        → decimal_value ((48 + n / 10 ^ places) ∷ ds) * 10 ^ (suc places - suc (length ds)) ≡ n
    more ds few rest =
        let scale : 10 ^ length ds * 10 ^ (places - length ds) ≡ 10 ^ places =
        sym (pow-add 10 (length ds) (places - length ds)) ∙ ap (λ k. 10 ^ k) (omega arith) in
        let value : decimal_value ((48 + n / 10 ^ places) ∷ ds)
        ≡ n / 10 ^ places * 10 ^ length ds + decimal_value ds =
        first_digit (n / 10 ^ places) ds in
        ap (λ e. decimal_value ((48 + n / 10 ^ places) ∷ ds) * 10 ^ e) (omega arith)
        ∙ ap (λ v. v * 10 ^ (places - length ds)) value
        ∙ parts (n / 10 ^ places) (10 ^ length ds) (10 ^ (places - length ds))
        (decimal_value ds) scale rest
        ∙ div-add-mod n (10 ^ places)
      where
        parts : (q p s v : ℕ) → p * s ≡ 10 ^ places → v * s ≡ n % 10 ^ places
            → (q * p + v) * s ≡ 10 ^ places * q + n % 10 ^ places
        parts q p s v scale rest = omega (arith, ap (λ x. x * q) scale, rest)

-- fewer digits, where the number is a multiple
pub leading_shortest : (places k n : ℕ) (f : ℕ) → n < 10 ^ places → k ≤ places
    → f * 10 ^ (places - k) ≡ n → length (leading_digits places n) ≤ k
unfolding leading_digits
leading_shortest zero k n f small few is = omega arith
leading_shortest (suc places) k n f small few is = elim (cases_eq n 0) [
  | inl none ↦ rw (eq-eqb n 0 none) (omega arith)
  | inr some ↦ rw (ne_eqb n 0 some)
      (by_count k some few is
      (λ j g. leading_shortest places j (n % 10 ^ places) g
      (mod-lt n (one-le-pow places 10 (omega arith)))))
]
  where
    by_count : (k : ℕ) → (n ≡ 0 → ⊥) → k ≤ suc places → f * 10 ^ (suc places - k) ≡ n
        → ((j g : ℕ) → j ≤ places → g * 10 ^ (places - j) ≡ n % 10 ^ places
        → length (leading_digits places (n % 10 ^ places)) ≤ j)
        → suc (length (leading_digits places (n % 10 ^ places))) ≤ k
    by_count zero some few is below =
        absurd (some_multiple f (10 ^ suc places) refl (ap (λ e. f * 10 ^ e) less ∙ is))
      where
        less : suc places ≡ suc places - 0
        less = omega arith

        some_multiple : (f m : ℕ) → m ≡ 10 ^ suc places → f * m ≡ n → ⊥
        some_multiple zero m whole is = some (omega (arith, is))
        some_multiple (suc f) m whole is = omega (arith, is, whole, small)
    by_count (suc k) some few is below =
        let scale : 10 ^ places ≡ 10 ^ k * 10 ^ (places - k) =
        ap (λ e. 10 ^ e) (omega arith) ∙ pow-add 10 k (places - k) in
        let rest : (f % 10 ^ k) * 10 ^ (places - k) ≡ n % 10 ^ places =
        multiple (10 ^ k) (10 ^ (places - k)) (one-le-pow k 10 (omega arith))
        (one-le-pow (places - k) 10 (omega arith)) scale
        (ap (λ e. f * 10 ^ e) (omega arith) ∙ is) in
        omega (arith, below k (f % 10 ^ k) (omega arith) rest)
      where
        multiple : (p s : ℕ) → 0 < p → 0 < s → 10 ^ places ≡ p * s → f * s ≡ n
            → (f % p) * s ≡ n % 10 ^ places
        multiple p s some unit scale is =
            let whole : p * (f / p) + f % p ≡ f = div-add-mod f p in
            let here : n ≡ 10 ^ places * (f / p) + (f % p) * s =
            omega (arith, sym is, ap (λ x. x * s) (sym whole), ap (λ x. x * (f / p)) scale) in
            let next : suc (f % p) * s ≤ p * s = mul-le-mul_right s (mod-lt f some) in
            let below : (f % p) * s < 10 ^ places = omega (arith, scale, next, unit) in
            sym (ap (λ x. x % 10 ^ places) here ∙ mul-add-mod_self_left (10 ^ places) (f / p)
            ((f % p) * s) ∙ mod-eq_of_lt below)

-- a number with a digit to come: that digit, and the number of fewer digits after it
pub record IsDigitStep (places fewer n unit : ℕ) : Type 0 where
  pub some : 0 < unit
  pub digit : n / unit < 10
  pub rest : n % unit < 10 ^ fewer
  pub left : 0 < places
  pub text : leading_digits places n ≡ (48 + n / unit) ∷ leading_digits fewer (n % unit)

digit_step_at : (fewer n unit : ℕ) → 0 < n → n < 10 ^ suc fewer → unit ≡ 10 ^ fewer
    → IsDigitStep (suc fewer) fewer n unit
unfolding leading_digits
digit_step_at fewer n unit some small is =
    let none : n ≡ 0 → ⊥ = λ e. omega (arith, e) in
    rw is (record {
      some = one-le-pow fewer 10 (omega arith);
      digit = highest fewer n small;
      rest = mod-lt n (one-le-pow fewer 10 (omega arith));
      left = omega arith;
      text = rw (ne_eqb n 0 none) refl;
    })

pub digit_step : (places n unit : ℕ) → 0 < n → n < 10 ^ places → unit ≡ 10 ^ (places - 1)
    → IsDigitStep places (places - 1) n unit
digit_step zero n unit some small is = absurd (omega arith)
digit_step (suc fewer) n unit some small is =
    let less : fewer ≡ suc fewer - 1 = omega arith in
    subst (λ f. IsDigitStep (suc fewer) f n unit) less
    (digit_step_at fewer n unit some small (is ∙ ap (λ e. 10 ^ e) (sym less)))

-- no digits of 0, and some of every other number
pub leading_none : (places : ℕ) → leading_digits places 0 ≡ []
unfolding leading_digits
leading_none zero = refl
leading_none (suc places) = refl

pub fraction_some : (places n : ℕ) → 0 < n → n < 10 ^ places
    → fraction_text (leading_digits places n) ≡ 46 ∷ leading_digits places n
unfolding leading_digits
fraction_some zero n some small = absurd (omega arith)
fraction_some (suc places) n some small = rw (ne_eqb n 0 (λ e. omega (arith, e))) refl

pub fraction_none : (places n : ℕ) → n ≡ 0 → fraction_text (leading_digits places n) ≡ []
fraction_none places n none =
    ap (λ n. fraction_text (leading_digits places n)) none ∙ ap fraction_text (leading_none places)

-- ---- the whole text

-- the digits before the point
pub whole_digits : (n : ℕ) → n < 2 ^ 64 → AreDigits (decimal n)
whole_digits n small = record {
  all = digits_decimal numerals n small;
  some = decimal_nonempty n small;
}

-- a length within the form's reach is of the form
pub magnitude_form : (minus : Bool) (m : ℕ) (nm : ℤ) → m < 10 ^ 16 → nm ≡ signed_number minus m
    → IsMetres (sign_text minus ++ magnitude_text m) nm
magnitude_form minus m nm small is = record {
  form = record {
    minus = minus;
    whole = decimal (m / 10 ^ 9);
    fraction = leading_digits 9 (m % 10 ^ 9);
    spelled = refl;
    before = whole_digits (m / 10 ^ 9) (omega arith);
    behind = leading_all 9 (m % 10 ^ 9) (omega arith);
  };
  before = length-decimal-le 7 (m / 10 ^ 9) (omega arith) (omega arith) (omega arith);
  behind = leading_few 9 (m % 10 ^ 9);
  value =
      is
      ∙ ap (signed_number minus)
      (sym (value (decimal (m / 10 ^ 9)) (leading_digits 9 (m % 10 ^ 9))
      (digits_value-decimal numerals (m / 10 ^ 9) (omega arith))
      (leading_value 9 (m % 10 ^ 9) (omega arith))));
}
  where
    value : (whole fraction : List ℕ) → decimal_value whole ≡ m / 10 ^ 9
        → decimal_value fraction * 10 ^ (9 - length fraction) ≡ m % 10 ^ 9
        → nanometres whole fraction ≡ m
    value whole fraction w f = rw (w, f) (omega arith)

-- the sign and the magnitude of a number
plain_sign : (n : ℕ) → is_negative (pos n) ≡ false
plain_sign n = le-ltb n 0 (omega arith)

spelled_plain : (n : ℕ) → metres_text (pos n) ≡ sign_text false ++ magnitude_text n
unfolding metres_text
spelled_plain n = ap (λ minus. sign_text minus ++ magnitude_text n) (plain_sign n)

spelled_below : (n : ℕ) → metres_text (negsuc n) ≡ sign_text true ++ magnitude_text (suc n)
unfolding metres_text
spelled_below n = refl

pub text_reads : (nm : ℤ) (text : List ℕ) → text ≡ metres_text nm → unsigned_abs nm < 10 ^ 16
    → metres_of text ≡ Ok nm
text_reads (pos n) text is small =
    ap metres_of (is ∙ spelled_plain n)
    ∙ metres_read _ _ (magnitude_form false n (pos n) small refl)
text_reads (negsuc n) text is small =
    ap metres_of (is ∙ spelled_below n)
    ∙ metres_read _ _ (magnitude_form true (suc n) (negsuc n) small refl)

-- a text of the form for the same magnitude is no shorter
fraction_longer : (a b : List ℕ) → length a ≤ length b
    → length (fraction_text a) ≤ length (fraction_text b)
fraction_longer [] b h = omega arith
fraction_longer (d ∷ a) [] h = absurd (omega arith)
fraction_longer (d ∷ a) (e ∷ b) h = omega (arith, h)

digits_below : (ds : List ℕ) → AllPass is_digit ds → decimal_value ds < 10 ^ length ds
digits_below ds all =
    let digits = numerals.to ds all in
    omega (arith, numerals.same ds digits, digits_value-lt 10 ds digits)

magnitude_shortest : (m : ℕ) (whole fraction : List ℕ) → m < 2 ^ 64 → AreDigits whole
    → AllPass is_digit fraction → length fraction ≤ 9
    → nanometres whole fraction ≡ m
    → length (magnitude_text m) ≤ length (whole ++ fraction_text fraction)
magnitude_shortest m whole fraction small before after few is =
    let part =
    fraction_small (decimal_value fraction) (length fraction) (10 ^ (9 - length fraction))
    (digits_below fraction after) few refl in
    let metres : m / 10 ^ 9 ≡ decimal_value whole = omega (arith, is, part) in
    let rest : decimal_value fraction * 10 ^ (9 - length fraction) ≡ m % 10 ^ 9 =
    omega (arith, is, part) in
    let front =
    length-decimal-le (length whole) (m / 10 ^ 9) before.some
    (omega (arith, metres, digits_below whole before.all)) (omega (arith, small)) in
    let back =
    fraction_longer (leading_digits 9 (m % 10 ^ 9)) fraction
    (leading_shortest 9 (length fraction) (m % 10 ^ 9) (decimal_value fraction)
    (omega arith) few rest) in
    omega (
      arith,
      front,
      back,
      length-append (decimal (m / 10 ^ 9)) (fraction_text (leading_digits 9 (m % 10 ^ 9))),
      length-append whole (fraction_text fraction),
    )

sign_shortest : (nm : ℤ) (minus : Bool) (n : ℕ) → nm ≡ signed_number minus n
    → length (metres_text nm) ≤ length (sign_text minus) + length (magnitude_text (unsigned_abs nm))
sign_shortest (pos m) minus n is = omega (arith, ap length (spelled_plain m))
sign_shortest (negsuc m) true n is = omega (arith, ap length (spelled_below m))
sign_shortest (negsuc m) false n is = absurd (cc)

magnitude_of_signed : (minus : Bool) (n : ℕ) → unsigned_abs (signed_number minus n) ≡ n
magnitude_of_signed true zero = refl
magnitude_of_signed true (suc n) = refl
magnitude_of_signed false n = refl

pub text_shortest : (nm : ℤ) (result : List ℕ) → result ≡ metres_text nm → unsigned_abs nm < 2 ^ 64
    → (text : List ℕ) → IsMetres text nm → length result ≤ length text
text_shortest nm result is small text h =
    let magnitude : nanometres h.form.whole h.form.fraction ≡ unsigned_abs nm =
    sym (ap unsigned_abs h.value ∙ magnitude_of_signed h.form.minus
    (nanometres h.form.whole h.form.fraction)) in
    let body =
    magnitude_shortest (unsigned_abs nm) h.form.whole h.form.fraction small h.form.before
    h.form.behind h.behind magnitude in
    let sign = sign_shortest nm h.form.minus (nanometres h.form.whole h.form.fraction) h.value in
    omega (
      arith,
      ap length is,
      sign,
      body,
      ap length h.form.spelled,
      length-append (sign_text h.form.minus) (h.form.whole ++ fraction_text h.form.fraction),
    )

-- ---- how the text is put together

-- the length of what stands before the fraction
pub front_few : (minus : Bool) (n : ℕ) → n < 2 ^ 64
    → length (sign_text minus) + length (decimal (n / 10 ^ 9)) ≤ 12
front_few true n small =
    omega (arith, length-decimal-le 11 (n / 10 ^ 9) (omega arith) (omega arith) (omega arith))
front_few false n small =
    omega (arith, length-decimal-le 11 (n / 10 ^ 9) (omega arith) (omega arith) (omega arith))
