-- A length that a line begins with is that of its next word.
use Rattle.std.proofs.Common.{◌≡◌, ℕ, ◌+◌, ◌-◌, ◌<◌, ◌≤◌, ℤ, Bool, true, false, List, [], ◌∷◌, ◌++◌}
use Rattle.std.proofs.Common.{length, take, drop, get_or, nat_le, Result, Ok, refl, sym, ap, subst}
use Rattle.std.proofs.Common.{◌∙◌, arith, length-append, length-drop, add-zero}
use Rattle.std.proofs.Math.Seq.{take-append_seam, drop-append_seam}
use Rattle.std.proofs.lemmas.Bool.{and_parts, leb-true, ne_eqb, eq-eqb}
use Rattle.std.proofs.lemmas.List.{length-take}
use Rattle.std.proofs.lemmas.List.Folds.{prefix_len-append}
use Rattle.std.proofs.lemmas.List.Sums.{prefix_len_is}
use Rattle.std.specs.List.{AllPass, prefix_len}
use Rattle.std.specs.Result.{result_ok}
use Rattle.oct_num.specs.Decimal.{is_digit}
use Rattle.oct_num.specs.Sign.{sign_text}
use Rattle.oct_num.specs.Form.{fraction_text, IsMetres, BeginsWith}
use Rattle.oct_num.proofs.FormReading.{metres_read}
use Rattle.oct_script.specs.Grammar.{length_of}
use Rattle.oct_script.specs.Reading.{number_or, number_in}
use Rattle.oct_script.specs.Words.{PlacedWord, is_blank, is_in_word, words_from}
use Rattle.oct_script.specs.declared.command.Syntax.{Syntax}
use Rattle.oct_script.proofs.WordSplits.{word_taken}

-- bytes among which there is no blank
abbrev IsUnbroken : List ℕ → Type 0
IsUnbroken text = prefix_len is_in_word text ≡ length text

unbroken_before : (text rest : List ℕ) → IsUnbroken text
    → prefix_len is_in_word (text ++ rest) ≡ length text + prefix_len is_in_word rest
unbroken_before text rest whole =
    prefix_len-append is_in_word text rest
    ∙ rw (whole, eq-eqb (length text) (length text) refl) refl

unbroken_both : (text rest : List ℕ) → IsUnbroken text → IsUnbroken rest → IsUnbroken (text ++ rest)
unbroken_both text rest whole more =
    unbroken_before text rest whole ∙ rw more (sym (length-append text rest))

digit_in_word : (b : ℕ) → is_digit b ≡ true → is_in_word b ≡ true
digit_in_word b digit =
    let test = and_parts (nat_le 48 b) (nat_le b 57) digit in
    let low : 48 ≤ b = leb-true 48 b test.0 in
    rw (ne_eqb b 32 (λ e. omega (arith, e, low)), ne_eqb b 9 (λ e. omega (arith, e, low))) refl

unbroken_digits : (digits : List ℕ) → AllPass is_digit digits → IsUnbroken digits
unbroken_digits digits all =
    prefix_len_is is_in_word digits (length digits) 0 (omega arith)
    (λ k h. digit_in_word (get_or digits k 0) (all k 0 h)) (λ h. absurd (omega arith))

unbroken_sign : (minus : Bool) → IsUnbroken (sign_text minus)
unbroken_sign true = refl
unbroken_sign false = refl

unbroken_fraction : (fraction : List ℕ) → AllPass is_digit fraction
    → IsUnbroken (fraction_text fraction)
unbroken_fraction [] all = refl
unbroken_fraction (digit ∷ digits) all =
    unbroken_both (46 ∷ []) (digit ∷ digits) refl (unbroken_digits (digit ∷ digits) all)

unbroken_metres : (front : List ℕ) (nm : ℤ) → IsMetres front nm → IsUnbroken front
unbroken_metres front nm is =
    let form = is.form in
    subst IsUnbroken (sym form.spelled)
    (unbroken_both (sign_text form.minus) (form.whole ++ fraction_text form.fraction)
    (unbroken_sign form.minus)
    (unbroken_both form.whole (fraction_text form.fraction)
    (unbroken_digits form.whole form.before.all)
    (unbroken_fraction form.fraction form.behind)))

some_metres : (front : List ℕ) (nm : ℤ) → IsMetres front nm → 0 < length front
some_metres front nm is =
    let form = is.form in
    let l : length front
    ≡ length (sign_text form.minus)
    + (length form.whole + length (fraction_text form.fraction)) =
    ap length form.spelled
    ∙ length-append (sign_text form.minus) (form.whole ++ fraction_text form.fraction)
    ∙ ap (λ n. length (sign_text form.minus) + n)
    (length-append form.whole (fraction_text form.fraction)) in
    omega (arith, l, form.before.some)

-- the next word is the length that stands after the blanks, where a blank or nothing follows it
pub length_taken : (column further : ℕ) (line text rest : List ℕ) (n end : ℕ) (nm value : ℤ) →
    n ≡ prefix_len is_blank line → n ≤ length line → text ≡ drop n line → BeginsWith text nm rest
    → prefix_len is_in_word rest ≡ 0 →
    further ≡ column + (length line - length rest) → value ≡ nm →
    number_in length_of end (words_from column line) ≡ Ok (value, words_from further rest)
unfolding number_in
length_taken column further line text rest n end nm value count within behind begins ends more
    same =
    let size : length begins.front ≡ prefix_len is_in_word text =
    sym (ap (prefix_len is_in_word) begins.spelled ∙ unbroken_before begins.front rest
    (unbroken_metres begins.front nm begins.metres)
    ∙ ap (λ k. length begins.front + k) ends ∙ add-zero (length begins.front)) in
    let first : begins.front ≡ take (length begins.front) text =
    sym (ap (take (length begins.front)) begins.spelled ∙ take-append_seam begins.front rest) in
    let after : rest ≡ drop (length begins.front) text =
    sym (ap (drop (length begins.front)) begins.spelled ∙ drop-append_seam begins.front rest) in
    let blanks : length (take n line) ≡ n = length-take n line ∙ omega (arith, within) in
    let parts : length text ≡ length begins.front + length rest =
    ap length begins.spelled ∙ length-append begins.front rest in
    let left : length text ≡ length line - n = ap length behind ∙ length-drop n line in
    let place : further ≡ (column + length (take n line)) + length begins.front =
    omega (arith, more, blanks, parts, left, within) in
    ap (number_in length_of end)
    (word_taken column (column + length (take n line)) further line (take n line) text
    begins.front rest n (length begins.front)
    count within refl behind size first after (some_metres begins.front nm begins.metres)
    refl place)
    ∙ ap (λ o. number_or (column + length (take n line)) (words_from further rest) o)
    (ap result_ok (metres_read begins.front nm begins.metres))
    ∙ ap (λ k. let r : Result (ℤ × List PlacedWord) Syntax = Ok (k, words_from further rest) in r)
    (sym same)
