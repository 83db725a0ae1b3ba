-- The number of the digits that a text begins with, digit by digit.
use Rattle.std.proofs.Common.{◌≡◌, ℕ, ◌+◌, ◌-◌, ◌*◌, ◌^◌, ◌%◌, ◌<◌, ◌≤◌, List, true, false, length}
use Rattle.std.proofs.Common.{get_or, take, take_while, drop, nat_le, Option, Some, None, refl, sym}
use Rattle.std.proofs.Common.{ap, subst, ◌∙◌, arith, inl, inr, ◌⊎◌, add-one, length-drop}
use Rattle.std.proofs.Math.Nat.{mod-eq_of_lt, pow-suc}
use Rattle.std.proofs.lemmas.Bool.{and_parts, leb-true, cases_lt, le-leb}
use Rattle.std.proofs.lemmas.List.Sums.{fold_more, prefix_len_is, prefix_len-le-length}
use Rattle.std.proofs.lemmas.List.{take_all, get_or-drop}
use Rattle.std.specs.List.{AllPass, prefix_len}
use Rattle.oct_num.specs.Decimal.{is_digit, decimal_value, AreDigits}
use Rattle.oct_num.specs.Whole.{natural_of}
use Rattle.oct_num.proofs.DigitRuns.{step_fits, front_digits}
use Rattle.oct_num.proofs.WholeLaw.{natural_read, natural_is}
use Rattle.oct_num.proofs.FormReading.{run_all}

-- the first i bytes are digits, and this is the number of those before them and of theirs, where
-- they are at most eighteen
pub record IsReadOn (front : ℕ) (text : List ℕ) (i value : ℕ) : Type 0 where
  pub digits : (k : ℕ) → k < i → is_digit (get_or text k 0) ≡ true
  pub number : (before : ℕ) → front < 10 ^ before → before + i ≤ 18
      → value ≡ front * 10 ^ i + decimal_value (take i text)
  pub small : (before : ℕ) → front < 10 ^ before → before + i ≤ 18 → value < 10 ^ (before + i)

-- one digit more
read_more : (front : ℕ) (text : List ℕ) (i value digit : ℕ) → i < length text
    → is_digit (get_or text i 0) ≡ true → digit ≡ get_or text i 0 - 48 →
    IsReadOn front text i value →
    IsReadOn front text (i + 1) ((value * 10 % 2 ^ 64 + digit) % 2 ^ 64)
read_more front text i value digit below is same read =
    let byte = get_or text i 0 in
    let range = and_parts _ _ is in
    let low : 48 ≤ byte = leb-true 48 byte range.0 in
    let high : byte ≤ 57 = leb-true byte 57 range.1 in
    let fits : (before : ℕ) → front < 10 ^ before → before + (i + 1) ≤ 18
    → ((value * 10 % 2 ^ 64 + digit) % 2 ^ 64 ≡ value * 10 + (byte - 48))
    × (value * 10 + (byte - 48) < 10 ^ (before + i + 1)) =
    λ before h few.
    let step =
    step_fits (before + i) 18 value byte (read.small before h (omega arith)) (omega arith)
    (omega arith) low high in (
      ap (λ d. (value * 10 % 2 ^ 64 + d) % 2 ^ 64) same ∙ ap (λ n. (n + (byte - 48)) % 2 ^ 64)
          (mod-eq_of_lt (omega (arith, step.0))) ∙ mod-eq_of_lt (omega (arith, step.1)),
      step.2,
    ) in
    let power : 10 ^ (i + 1) ≡ 10 ^ i * 10 = ap (λ k. 10 ^ k) (add-one i) ∙ pow-suc 10 i in
    let more : decimal_value (take (i + 1) text) ≡ decimal_value (take i text) * 10 + (byte - 48) =
    fold_more (λ value digit. value * 10 + (digit - 48)) 0 text i 0 below in
    record {
      digits = λ k h. elim (cases_lt k i) [
        | inl lt ↦ read.digits k lt
        | inr le ↦ (let last : k ≡ i = omega arith in
            ap (λ j. is_digit (get_or text j 0)) last ∙ is)
      ];
      number = λ before h few.
          let was = read.number before h (omega arith) in
          rw (power, more) (omega (arith, (fits before h few).0, was));
      small = λ before h few.
          let place : before + (i + 1) ≡ before + i + 1 = omega arith in
          rw (place, (fits before h few).0) ((fits before h few).1);
    }

-- the same from an index on
pub read_on : (front : ℕ) (text : List ℕ) (from at value digit : ℕ) → from ≤ at → at < length text
    → nat_le digit 9 ≡ is_digit (get_or text at 0) → digit ≤ 9
    → (digit ≤ 9 → digit ≡ get_or text at 0 - 48)
    → IsReadOn front (drop from text) (at - from) value →
    IsReadOn front (drop from text) (at + 1 - from) ((value * 10 % 2 ^ 64 + digit) % 2 ^ 64)
read_on front text from at value digit onward below told few is read =
    let byte : get_or (drop from text) (at - from) 0 ≡ get_or text at 0 =
    get_or-drop from text (at - from) 0
    ∙ ap (λ k. get_or text k 0) (let e : from + (at - from) ≡ at = omega arith in e) in
    let next : (at - from) + 1 ≡ at + 1 - from = omega arith in
    let left : at - from < length (drop from text) = omega (arith, length-drop from text) in
    subst (λ i. IsReadOn front (drop from text) i ((value * 10 % 2 ^ 64 + digit) % 2 ^ 64)) next
    (read_more front (drop from text) (at - from) value digit left
    (ap is_digit byte ∙ sym told ∙ le-leb digit 9 few)
    (is few ∙ ap (λ b. b - 48) (sym byte)) read)

-- no digit follows
pub read_end : (front : ℕ) (text : List ℕ) (from at value : ℕ) → from ≤ at → at ≤ length text
    → (at < length text → is_digit (get_or text at 0) ≡ false)
    → IsReadOn front (drop from text) (at - from) value →
    at - from ≡ prefix_len is_digit (drop from text)
read_end front text from at value onward within stops read =
    let byte : get_or (drop from text) (at - from) 0 ≡ get_or text at 0 =
    get_or-drop from text (at - from) 0
    ∙ ap (λ k. get_or text k 0) (let e : from + (at - from) ≡ at = omega arith in e) in
    let left : length (drop from text) ≡ length text - from = length-drop from text in
    sym (prefix_len_is is_digit (drop from text) (at - from) 0 (omega (arith, left)) read.digits
    (λ h. ap is_digit byte ∙ stops (omega (arith, left, h))))

-- what a number that has been read on is
pub read_number : (front : ℕ) (text : List ℕ) (from at value : ℕ) → from ≤ at → at ≤ length text
    → (at < length text → is_digit (get_or text at 0) ≡ false)
    → IsReadOn front (drop from text) (at - from) value → (before : ℕ) → front < 10 ^ before
    → before + prefix_len is_digit (drop from text) ≤ 18 →
    (value ≡ front * 10 ^ prefix_len is_digit (drop from text)
    + decimal_value (take_while is_digit (drop from text)))
    × (value < 10 ^ (before + prefix_len is_digit (drop from text)))
read_number front text from at value onward within stops read before h few =
    let count = read_end front text from at value onward within stops read in
    let fits : before + (at - from) ≤ 18 = omega (arith, count, few) in
    rw (← count) (read.number before h fits, read.small before h fits)

-- a number of one to eighteen digits that has no other bytes
pub natural_found : (text : List ℕ) (count value : ℕ) → count ≡ 0 + prefix_len is_digit text
    → (count ≡ 0 → ⊥) → count ≤ 18 → length text ≤ count
    → value ≡ 0 * 10 ^ prefix_len is_digit text + decimal_value (take_while is_digit text)
    → Some value ≡ natural_of text
natural_found text count value counted some few ended is =
    let within : prefix_len is_digit text ≤ length text = prefix_len-le-length is_digit text in
    let whole : take_while is_digit text ≡ text =
    take_all (prefix_len is_digit text) text (omega (arith, ended, counted)) in
    let are : AreDigits text = record {
      all = subst (AllPass is_digit) whole (front_digits text);
      some = omega (arith, within, counted, some);
    } in
    let read : value ≡ decimal_value (take_while is_digit text) = omega (arith, is) in
    ap Some (read ∙ ap decimal_value whole)
    ∙ sym (natural_read text are (omega (arith, ended, few)))

-- no digit, too many, or another byte
pub natural_missing : (text : List ℕ) (count : ℕ) → count ≡ 0 + prefix_len is_digit text
    → (count ≡ 0) ⊎ (18 < count) ⊎ (count < length text) → None ≡ natural_of text
natural_missing text count counted wrong = by_cases (natural_of text) refl
  where
    by_cases : (read : Option ℕ) → natural_of text ≡ read → None ≡ natural_of text
    by_cases None same = sym same
    by_cases (Some n) same =
        let is = natural_is text n same in
        let all : count ≡ length text = omega (arith, counted, run_all text is.are_digits.all) in
        absurd (elim wrong [
          | inl none ↦ omega (arith, none, all, is.are_digits.some)
          | inr more ↦ elim more [
            | inl many ↦ omega (arith, many, all, is.few)
            | inr other ↦ omega (arith, other, all)
          ]
        ])
