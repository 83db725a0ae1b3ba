-- Where a text stops being of the form.
use Rattle.std.proofs.Common.{◌≡◌, ℕ, ◌+◌, ◌<◌, Bool, true, false, cond, List, [], ◌∷◌, ◌++◌}
use Rattle.std.proofs.Common.{length, nat_lt, nat_eq, ◌||◌, Err, refl, sym, ap, ◌∙◌, subst, inl}
use Rattle.std.proofs.Common.{inr, arith}
use Rattle.std.proofs.lemmas.List.{append-nil, append_assoc, length-append}
use Rattle.std.proofs.lemmas.List.Elements.{All-cons, All-nil}
use Rattle.std.proofs.lemmas.Bool.{ne_eqb, cases_order}
use Rattle.std.specs.List.{AllPass, prefix_len}
use Rattle.oct_num.specs.declared.metres.NumFault.TheVariants.{Syntax}
use Rattle.oct_num.specs.Decimal.{is_digit, AreDigits}
use Rattle.oct_num.specs.Sign.{sign_text}
use Rattle.oct_num.specs.Metres.{fraction_of, limited_nanometres, magnitude_of, signed_answer}
use Rattle.oct_num.specs.Metres.{metres_of}
use Rattle.oct_num.specs.Form.{IsForm, CanGoOn, IsStuck, BreaksAt}
use Rattle.oct_num.proofs.FormReading.{IsBody, metres_signed, run_ends, plain_digits}
use Rattle.oct_num.proofs.FormReading.{magnitude_behind, form_unbroken}

-- ---- one place at most

-- of two splits of a text, the longer front goes on with the byte after the shorter one
pub longer_front : (front : List ℕ) (byte : ℕ) (rest front' rest' : List ℕ)
    → front ++ byte ∷ rest ≡ front' ++ rest' → length front < length front'
    → (x : List ℕ) × (front' ≡ (front ++ byte ∷ []) ++ x)
longer_front [] byte rest [] rest' same longer = absurd (omega arith)
longer_front [] byte rest (b ∷ front') rest' same longer = (front', cc)
longer_front (a ∷ front) byte rest [] rest' same longer = absurd (omega arith)
longer_front (a ∷ front) byte rest (b ∷ front') rest' same longer =
    let tail : front ++ byte ∷ rest ≡ front' ++ rest' = cc in
    let further : length front < length front' = omega arith in
    let p = longer_front front byte rest front' rest' tail further in
    let q : front' ≡ (front ++ byte ∷ []) ++ p.0 = p.1 in
    (p.0, cc)

-- what begins a text of the form, begins it with fewer bytes too
pub shorter_goes_on : (front x : List ℕ) → CanGoOn (front ++ x) → CanGoOn front
shorter_goes_on front x open' =
    record {
      more = x ++ open'.more;
      form = subst IsForm (append_assoc front x open'.more) open'.form;
    }

-- of two splits of a text, a shorter front that is stuck forbids the longer one to go on
pub stuck_before : (front rest front' rest' : List ℕ) → front ++ rest ≡ front' ++ rest'
    → length front < length front' → IsStuck front rest → CanGoOn front' → ⊥
stuck_before front [] front' rest' same longer stuck open' =
    omega (arith, simp length-append at (ap length same))
stuck_before front (byte ∷ rest) front' rest' same longer stuck open' =
    let p = longer_front front byte rest front' rest' same longer in
    stuck (shorter_goes_on (front ++ byte ∷ []) p.0 (subst CanGoOn p.1 open'))

-- a text breaks at one place
pub breaks_once : (text : List ℕ) (at at' : ℕ) → BreaksAt text at → BreaksAt text at' → at ≡ at'
breaks_once text at at' h h' =
    let same : h.front ++ h.rest ≡ h'.front ++ h'.rest = sym h.spelled ∙ h'.spelled in
    elim (cases_order at at') [
      | inl equal ↦ equal
      | inr apart ↦ elim apart [
        | inl less ↦ absurd (stuck_before h.front h.rest h'.front h'.rest same
            (omega (arith, h.place, h'.place)) h.stuck h'.begins)
        | inr more ↦ absurd (stuck_before h'.front h'.rest h.front h.rest (sym same)
            (omega (arith, h.place, h'.place)) h'.stuck h.begins)
      ]
    ]

-- what breaks isn't of the form
pub broken_unformed : (text front rest : List ℕ) → text ≡ front ++ rest → IsStuck front rest
    → IsForm text → ⊥
broken_unformed text front [] spelled stuck form =
    stuck (subst IsForm (spelled ∙ append-nil front) form)
broken_unformed text front (byte ∷ rest) spelled stuck form =
    stuck (record {
      more = rest;
      form = subst IsForm (spelled ∙ sym (append_assoc front (byte ∷ []) rest)) form;
    })

-- ---- the three ways to break

-- two texts that begin with one byte, or are both empty
abbrev pub BeginAlike : List ℕ → List ℕ → Type 0
BeginAlike [] tail = tail ≡ []
BeginAlike (byte ∷ rest) tail = (more : List ℕ) × (tail ≡ byte ∷ more)

-- no text that begins alike after the front is of the form
pub stuck_from : (front rest : List ℕ) (at : ℕ)
    → ((tail : List ℕ) → BeginAlike rest tail → metres_of (front ++ tail) ≡ Err (Syntax at))
    → IsStuck front rest
stuck_from front [] at wrong = λ form.
    form_unbroken (front ++ []) (subst IsForm (sym (append-nil front)) form) at (wrong [] refl)
stuck_from front (byte ∷ rest) at wrong = λ open'.
    form_unbroken (front ++ byte ∷ open'.more)
    (subst IsForm (append_assoc front (byte ∷ []) open'.more) open'.form) at
    (wrong (byte ∷ open'.more) (open'.more, refl))

-- a break, where every text that begins alike is refused
pub breaks_from : (front rest : List ℕ) (at : ℕ) → at ≡ length front → CanGoOn front
    → ((tail : List ℕ) → BeginAlike rest tail → metres_of (front ++ tail) ≡ Err (Syntax at))
    → BreaksAt (front ++ rest) at
breaks_from front rest at place begins wrong =
    record {
      front = front;
      rest = rest;
      spelled = refl;
      place = place;
      begins = begins;
      stuck = stuck_from front rest at wrong;
    }

-- the first byte of a text decides whether it begins with digits
pub none_alike : (rest tail : List ℕ) → BeginAlike rest tail → prefix_len is_digit rest ≡ 0
    → prefix_len is_digit tail ≡ 0
none_alike [] tail alike none = rw alike refl
none_alike (byte ∷ rest) tail alike none =
    rw alike.1
    (elim (is_digit byte) as
    (λ t. cond t (1 + prefix_len is_digit rest) 0 ≡ 0
    → cond t (1 + prefix_len is_digit alike.0) 0 ≡ 0)
    [ true ↦ λ e. absurd (omega (arith, e)) | false ↦ λ e. refl ] none)

-- what begins alike after a sign lets the sign be found alike
pub body_alike : (minus : Bool) (rest tail : List ℕ) → BeginAlike rest tail → IsBody minus rest
    → IsBody minus tail
body_alike true rest tail alike body = tt
body_alike false [] tail alike body = rw alike refl
body_alike false (byte ∷ rest) tail alike body = rw alike.1 body

-- no digit after the sign
pub no_digit : (minus : Bool) (tail : List ℕ) → IsBody minus tail → prefix_len is_digit tail ≡ 0
    → metres_of (sign_text minus ++ tail) ≡ Err (Syntax (length (sign_text minus)))
unfolding magnitude_of
no_digit minus tail body none = metres_signed minus tail body ∙ rw none refl

-- one digit, as `0`
pub one_digit : AreDigits (48 ∷ [])
one_digit = record {
  all = All-cons (λ b. is_digit b ≡ true) 48 [] refl (All-nil (λ b. is_digit b ≡ true));
  some = omega arith;
}

-- every number begins with a sign
pub sign_goes_on : (minus : Bool) → CanGoOn (sign_text minus)
sign_goes_on minus = record {
  more = 48 ∷ [];
  form = record {
    minus = minus;
    whole = 48 ∷ [];
    fraction = [];
    spelled = refl;
    before = one_digit;
    behind = All-nil (λ b. is_digit b ≡ true);
  };
}

-- digits after a sign begin as its text does
pub body_of_digits : (minus : Bool) (whole rest : List ℕ) → AreDigits whole
    → IsBody minus (whole ++ rest)
body_of_digits true whole rest are = tt
body_of_digits false whole rest are = plain_digits whole rest are

-- what follows a sign and digits
pub metres_behind : (minus : Bool) (whole rest : List ℕ) → AreDigits whole
    → prefix_len is_digit rest ≡ 0
    → metres_of (sign_text minus ++ (whole ++ rest))
    ≡ signed_answer minus
    (limited_nanometres (length (sign_text minus)) whole
    (fraction_of (length (sign_text minus) + length whole) rest))
metres_behind minus whole rest are none =
    metres_signed minus (whole ++ rest) (body_of_digits minus whole rest are)
    ∙ rw (magnitude_behind (length (sign_text minus)) whole rest are none) refl

-- neither a digit nor a point after the digits
pub no_point : (minus : Bool) (whole : List ℕ) (byte : ℕ) (more : List ℕ) → AreDigits whole
    → prefix_len is_digit (byte ∷ more) ≡ 0 → (byte ≡ 46 → ⊥)
    → metres_of ((sign_text minus ++ whole) ++ byte ∷ more)
    ≡ Err (Syntax (length (sign_text minus) + length whole))
unfolding fraction_of limited_nanometres
no_point minus whole byte more are none other =
    ap metres_of (append_assoc (sign_text minus) whole (byte ∷ more))
    ∙ metres_behind minus whole (byte ∷ more) are none
    ∙ rw (ne_eqb byte 46 other) refl

-- a sign and digits are a number
pub whole_goes_on : (minus : Bool) (whole : List ℕ) → AreDigits whole
    → CanGoOn (sign_text minus ++ whole)
whole_goes_on minus whole are = record {
  more = [];
  form = record {
    minus = minus;
    whole = whole;
    fraction = [];
    spelled = append_assoc (sign_text minus) whole [];
    before = are;
    behind = All-nil (λ b. is_digit b ≡ true);
  };
}

-- after the point no digit, or digits and another byte
pub no_fraction : (minus : Bool) (whole digits tail : List ℕ) → AreDigits whole
    → AllPass is_digit digits → prefix_len is_digit tail ≡ 0
    → (nat_eq (length digits) 0 || nat_lt (length digits) (length (digits ++ tail))) ≡ true
    → metres_of ((sign_text minus ++ (whole ++ 46 ∷ digits)) ++ tail)
    ≡ Err (Syntax (length (sign_text minus) + length whole + 1 + length digits))
unfolding fraction_of limited_nanometres
no_fraction minus whole digits tail are all none test =
    let spelled : (sign_text minus ++ (whole ++ 46 ∷ digits)) ++ tail
    ≡ sign_text minus ++ (whole ++ 46 ∷ (digits ++ tail)) =
    simp append_assoc in
    ap metres_of spelled
    ∙ metres_behind minus whole (46 ∷ (digits ++ tail)) are refl
    ∙ rw (run_ends digits tail all none, test) refl

-- a number goes on after its point
pub point_goes_on : (minus : Bool) (whole digits : List ℕ) → AreDigits whole
    → AllPass is_digit digits → CanGoOn (sign_text minus ++ (whole ++ 46 ∷ digits))
point_goes_on minus whole [] are all = record {
  more = 48 ∷ [];
  form = record {
    minus = minus;
    whole = whole;
    fraction = 48 ∷ [];
    spelled = simp append_assoc;
    before = are;
    behind = one_digit.all;
  };
}
point_goes_on minus whole (digit ∷ digits) are all = record {
  more = [];
  form = record {
    minus = minus;
    whole = whole;
    fraction = digit ∷ digits;
    spelled = append-nil (sign_text minus ++ (whole ++ 46 ∷ (digit ∷ digits)));
    before = are;
    behind = all;
  };
}
