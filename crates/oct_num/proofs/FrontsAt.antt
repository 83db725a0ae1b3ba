-- The length that begins at an index of a text.
use Rattle.std.proofs.Common.{◌≡◌, ◌⊎◌, ℕ, ◌+◌, ◌-◌, ◌*◌, ◌^◌, ◌<◌, ◌≤◌, ℤ, Bool, true, false, List}
use Rattle.std.proofs.Common.{[], ◌∷◌, length, drop, get_or, nat_lt, nat_eq, ◌&&◌, Some, None}
use Rattle.std.proofs.Common.{refl, sym, ap, ◌∙◌, arith, inl, inr}
use Rattle.std.proofs.Math.Nat.{mul-le-mul_right, one-le-pow}
use Rattle.std.proofs.lemmas.Nat.{pow-add}
use Rattle.std.proofs.lemmas.Bool.{cases_Bool, eqb-true, eqb-false, ltb-true, lt-ltb}
use Rattle.std.proofs.lemmas.Bool.{le-ltb, ne_eqb, and_parts}
use Rattle.std.proofs.lemmas.List.{drop-drop, drop_more}
use Rattle.std.specs.List.{prefix_len, take_while}
use Rattle.oct_num.specs.Decimal.{is_digit, decimal_value}
use Rattle.oct_num.specs.Sign.{signed_number, has_minus, without_minus}
use Rattle.oct_num.specs.Form.{nanometres, fraction_text}
use Rattle.oct_num.specs.Metres.{fraction_front, fraction_rest, metres_front}
use Rattle.oct_num.proofs.DigitRuns.{front_count}

-- a byte stands at an index of a text
abbrev HasAt : List ℕ → ℕ → ℕ → Bool
HasAt text at byte = nat_lt at (length text) && nat_eq (get_or text at 0) byte

-- the text from such an index on
byte_there : (text : List ℕ) (at byte : ℕ) → HasAt text at byte ≡ true
    → (at < length text) × (drop at text ≡ byte ∷ drop (at + 1) text)
byte_there text at byte there =
    let parts = and_parts (nat_lt at (length text)) (nat_eq (get_or text at 0) byte) there in
    let within : at < length text = ltb-true at (length text) parts.0 in (
      within,
      drop_more text at 0 within
          ∙ ap (λ b. b ∷ drop (at + 1) text) (eqb-true (get_or text at 0) byte parts.1),
    )

-- the digits after the point at an index, and what stands behind them
pub fraction_there : (text : List ℕ) (point : ℕ) → HasAt text point 46 ≡ true
    → (point < length text)
    × (fraction_front (drop point text) ≡ take_while is_digit (drop (point + 1) text))
fraction_there text point there =
    let p = byte_there text point 46 there in (p.0, ap fraction_front p.1)

-- the text of digits after a point is longer by the point
text_longer : (digits : List ℕ) → (length digits ≡ 0 → ⊥)
    → length (fraction_text digits) ≡ length digits + 1
text_longer [] some = absurd (some refl)
text_longer (digit ∷ digits) some = omega arith

-- digits after a point
pub fraction_some : (text : List ℕ) (point whole value end digits scale n : ℕ)
    → fraction_front (drop point text) ≡ take_while is_digit (drop (point + 1) text)
    → end ≡ point + 1 + prefix_len is_digit (drop (point + 1) text)
    → digits ≡ end - (point + 1) → (digits ≡ 0 → ⊥) → digits ≤ 9
    → value ≡ whole * 10 ^ prefix_len is_digit (drop (point + 1) text)
    + decimal_value (take_while is_digit (drop (point + 1) text))
    → scale ≡ 10 ^ (9 - digits) → n ≡ value * scale →
    (length (fraction_front (drop point text)) ≤ 9)
    × (n ≡ whole * 10 ^ 9 + decimal_value (fraction_front (drop point text))
    * 10 ^ (9 - length (fraction_front (drop point text))))
    × (drop end text ≡ fraction_rest (drop point text))
fraction_some text point whole value end digits scale n there ends counted some few is unit
    product =
    let size : length (take_while is_digit (drop (point + 1) text)) ≡ digits =
    front_count (drop (point + 1) text) ∙ omega (arith, ends, counted) in
    let count : prefix_len is_digit (drop (point + 1) text) ≡ digits =
    omega (arith, ends, counted) in
    let f = decimal_value (take_while is_digit (drop (point + 1) text)) in
    let nine : 9 ≡ digits + (9 - digits) = omega (arith, few) in
    let split : 10 ^ 9 ≡ 10 ^ digits * 10 ^ (9 - digits) =
    ap (λ k. 10 ^ k) nine ∙ pow-add 10 digits (9 - digits) in
    let read : value ≡ whole * 10 ^ digits + f = rw (← count) is in
    let sum : value * 10 ^ (9 - digits) ≡ whole * 10 ^ 9 + f * 10 ^ (9 - digits) =
    rw (read, split) (omega arith) in
    let longer : length (fraction_text (take_while is_digit (drop (point + 1) text))) ≡ digits + 1 =
    text_longer _ (λ e. some (sym size ∙ e)) ∙ ap (λ k. k + 1) size in
    rw (there, size) (
      few,
      product ∙ ap (λ s. value * s) unit ∙ sum,
      ap (λ k. drop k text) (let e : end ≡ point + (digits + 1) = omega (arith, ends, count) in e)
          ∙ sym (drop-drop (digits + 1) point text)
          ∙ ap (λ k. drop k (drop point text)) (sym longer),
    )

-- at most seven digits before the point and nine after it, in one number
pub all_small : (start end digits count value scale : ℕ)
    → (7 + count ≤ 18 → value < 10 ^ (7 + count)) → end ≡ start + count → digits ≡ end - start
    → digits ≤ 9 → scale ≡ 10 ^ (9 - digits) → value * scale < 10 ^ 16
all_small start end digits count value scale small ends counted few same =
    let size : count ≡ digits = omega (arith, ends, counted) in
    let below : value < 10 ^ (7 + digits) = rw (← size) (small (omega (arith, size, few))) in
    let all : 16 ≡ (7 + digits) + (9 - digits) = omega (arith, few) in
    let split : 10 ^ 16 ≡ 10 ^ (7 + digits) * 10 ^ (9 - digits) =
    ap (λ k. 10 ^ k) all ∙ pow-add 10 (7 + digits) (9 - digits) in
    let next : (value + 1) * 10 ^ (9 - digits) ≤ 10 ^ (7 + digits) * 10 ^ (9 - digits) =
    mul-le-mul_right (10 ^ (9 - digits)) (omega (arith, below)) in
    let some : 1 ≤ 10 ^ (9 - digits) = one-le-pow (9 - digits) 10 (omega arith) in
    rw same (omega (arith, split, next, some))

-- a length is found
pub front_at : (text : List ℕ) (from start point digits end whole n : ℕ) (minus : Bool) (nm : ℤ)
    → minus ≡ has_minus (drop from text) → drop start text ≡ without_minus (drop from text)
    → point ≡ start + prefix_len is_digit (drop start text) → digits ≡ point - start
    → (digits ≡ 0 → ⊥) → digits ≤ 7
    → whole ≡ 0 * 10 ^ prefix_len is_digit (drop start text)
    + decimal_value (take_while is_digit (drop start text))
    → (length (fraction_front (drop point text)) ≤ 9)
    × (n ≡ whole * 10 ^ 9 + decimal_value (fraction_front (drop point text))
    * 10 ^ (9 - length (fraction_front (drop point text))))
    × (drop end text ≡ fraction_rest (drop point text))
    → nm ≡ signed_number minus n → metres_front (drop from text) ≡ Some (nm, drop end text)
unfolding metres_front
front_at text from start point digits end whole n minus nm sign body counted places some few first
    found value =
    let size : length (take_while is_digit (drop start text)) ≡ digits =
    front_count (drop start text) ∙ omega (arith, counted, places) in
    let behind : drop (prefix_len is_digit (drop start text)) (drop start text) ≡ drop point text =
    drop-drop (prefix_len is_digit (drop start text)) start text
    ∙ ap (λ k. drop k text) (sym counted) in
    let read : whole ≡ decimal_value (take_while is_digit (drop start text)) =
    omega (arith, first) in
    let is : nm ≡ signed_number (has_minus (drop from text))
    (nanometres (take_while is_digit (drop start text)) (fraction_front (drop point text))) =
    value ∙ ap (λ m. signed_number m n) sign ∙ ap (signed_number (has_minus (drop from text)))
    (found.1 ∙ ap (λ w. w * 10 ^ 9 + decimal_value (fraction_front (drop point text))
    * 10 ^ (9 - length (fraction_front (drop point text)))) read) in
    let none : nat_eq (length (take_while is_digit (drop start text))) 0 ≡ false =
    ne_eqb _ 0 (λ e. some (omega (arith, size, e))) in
    let within : nat_lt 7 (length (take_while is_digit (drop start text))) ≡ false =
    le-ltb 7 _ (omega (arith, size, few)) in
    rw (
      ← body,
      behind,
      none,
      within,
      le-ltb 9 (length (fraction_front (drop point text))) found.0,
      is,
      found.2,
    )
    refl

-- no length is found
pub front_missing : (text : List ℕ) (from start point digits : ℕ)
    → drop start text ≡ without_minus (drop from text)
    → point ≡ start + prefix_len is_digit (drop start text) → digits ≡ point - start
    → (digits ≡ 0) ⊎ (7 < digits) ⊎ (9 < length (fraction_front (drop point text)))
    → metres_front (drop from text) ≡ None
unfolding metres_front
front_missing text from start point digits body counted places wrong =
    let size : length (take_while is_digit (drop start text)) ≡ digits =
    front_count (drop start text) ∙ omega (arith, counted, places) in
    let behind : drop (prefix_len is_digit (drop start text)) (drop start text) ≡ drop point text =
    drop-drop (prefix_len is_digit (drop start text)) start text
    ∙ ap (λ k. drop k text) (sym counted) in
    elim (cases_Bool (nat_eq (length (take_while is_digit (drop start text))) 0)) [
      | inl none ↦ rw (← body, none) refl
      | inr some ↦ elim (cases_Bool (nat_lt 7 (length (take_while is_digit (drop start text))))) [
        | inl many ↦ rw (← body, some, many) refl
        | inr few ↦ elim wrong [
          | inl none ↦ absurd (eqb-false _ 0 some (omega (arith, size, none)))
          | inr more ↦ elim more [
            | inl many ↦ absurd (let no = lt-ltb 7 _ (let h : 7 < length
                (take_while is_digit (drop start text)) = omega (arith, size, many) in h) in
                let e : true ≡ false = sym no ∙ few in cc)
            | inr many ↦ rw (
              ← body,
              some,
              few,
              behind,
              lt-ltb 9 (length (fraction_front (drop point text))) many,
            ) refl
          ]
        ]
      ]
    ]
