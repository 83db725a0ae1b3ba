-- The words of a line from an index on.
use Rattle.std.proofs.Common.{◌≡◌, ℕ, ◌+◌, ◌-◌, ◌<◌, ◌≤◌, ℤ, List, [], ◌∷◌, length, take, drop, Ok}
use Rattle.std.proofs.Common.{refl, sym, ap, ◌∙◌, arith, length-drop, length-append, subst}
use Rattle.std.proofs.lemmas.List.{drop-drop, length-take}
use Rattle.std.proofs.lemmas.List.Sums.{prefix_len-le-length}
use Rattle.std.specs.List.{prefix_len}
use Rattle.oct_num.specs.Form.{BeginsWith}
use Rattle.oct_script.specs.Grammar.{length_of}
use Rattle.oct_script.specs.Reading.{number_in}
use Rattle.oct_script.specs.Words.{is_blank, is_in_word, words_from, placed_words, first_text}
use Rattle.oct_script.proofs.Lengths.{length_taken}
use Rattle.oct_script.proofs.WordSplits.{no_word_left, word_taken, first_word_is}

-- the text behind the blanks that stand at an index
behind_blanks : (line : List ℕ) (at start : ℕ) → start ≡ at + prefix_len is_blank (drop at line)
    → drop start line ≡ drop (prefix_len is_blank (drop at line)) (drop at line)
behind_blanks line at start begins =
    ap (λ k. drop k line) begins ∙ sym (drop-drop (prefix_len is_blank (drop at line)) at line)

-- no word is left
pub none_at : (line : List ℕ) (at start end : ℕ) → start ≡ at + prefix_len is_blank (drop at line)
    → end ≡ start + prefix_len is_in_word (drop start line) → start ≡ end
    → [] ≡ words_from (at + 1) (drop at line)
none_at line at start end begins ends none =
    let size : prefix_len is_in_word (drop start line) ≡ 0 = omega (arith, ends, none) in
    sym (no_word_left (at + 1) (drop at line) (drop start line) []
    (prefix_len is_blank (drop at line))
    0 refl (behind_blanks line at start begins) (sym size) refl (omega arith) refl)

-- the next word, and those behind it
pub word_at : (line : List ℕ) (at start end : ℕ) (word : List ℕ)
    → start ≡ at + prefix_len is_blank (drop at line) → start ≤ length line
    → end ≡ start + prefix_len is_in_word (drop start line) → end ≤ length line
    → (start ≡ end → ⊥) → word ≡ take (end - start) (drop start line) →
    words_from (at + 1) (drop at line)
    ≡ record { text = word; column = start + 1 } ∷ words_from (end + 1) (drop end line)
word_at line at start end word begins within ends within_end some is =
    let blanks = prefix_len is_blank (drop at line) in
    let left : length (drop at line) ≡ length line - at = length-drop at line in
    let few : blanks ≤ length (drop at line) = prefix_len-le-length is_blank (drop at line) in
    let size : end - start ≡ prefix_len is_in_word (drop start line) = omega (arith, ends) in
    let long : length word ≡ end - start =
    ap length is ∙ length-take (end - start) (drop start line)
    ∙ omega (arith, length-drop start line, within_end) in
    let front : length (take blanks (drop at line)) ≡ blanks =
    length-take blanks (drop at line) ∙ omega (arith, few) in
    let rest : drop end line ≡ drop (end - start) (drop start line) =
    ap (λ k. drop k line) (let e : end ≡ start + (end - start) = omega (arith, ends) in e)
    ∙ sym (drop-drop (end - start) start line) in
    let place : start + 1 ≡ (at + 1) + length (take blanks (drop at line)) =
    omega (arith, begins, front) in
    let further : end + 1 ≡ (start + 1) + length word = omega (arith, long, ends) in
    word_taken (at + 1) (start + 1) (end + 1) (drop at line) (take blanks (drop at line))
    (drop start line) word (drop end line) blanks (end - start) refl few refl
    (behind_blanks line at start begins) size is rest (omega (arith, long, ends, some)) place
    further

-- the first word of a line
pub first_at : (line : List ℕ) (start end : ℕ) (word : List ℕ)
    → start ≡ 0 + prefix_len is_blank line → start ≤ length line
    → end ≡ start + prefix_len is_in_word (drop start line)
    → end ≤ length line → word ≡ take (end - start) (drop start line)
    → word ≡ first_text (placed_words line)
first_at line start end word begins within ends within_end is =
    let size : end - start ≡ prefix_len is_in_word (drop start line) = omega (arith, ends) in
    first_word_is line (drop start line) word start (end - start) (omega (arith, begins)) within
    refl
    size (omega (arith, length-drop start line, within_end)) is

-- the next word is the length that stands behind the blanks, where a blank or nothing follows it
pub length_at : (line : List ℕ) (at start end stop limit : ℕ) (nm value : ℤ)
    → start ≡ at + prefix_len is_blank (drop at line) → start ≤ length line
    → BeginsWith (drop start line) nm (drop end line) → end ≤ length line
    → stop ≡ end + prefix_len is_in_word (drop end line) → stop ≡ end → value ≡ nm →
    number_in length_of limit (words_from (at + 1) (drop at line))
    ≡ Ok (value, words_from (end + 1) (drop end line))
length_at line at start end stop limit nm value begins within is within_end stops ended same =
    let blanks = prefix_len is_blank (drop at line) in
    let parts : length (drop start line) ≡ length is.front + length (drop end line) =
    ap length is.spelled ∙ length-append is.front (drop end line) in
    let further : end + 1 ≡ (at + 1) + (length (drop at line) - length (drop end line)) =
    omega (
      arith,
      begins,
      within,
      within_end,
      parts,
      length-drop at line,
      length-drop start line,
      length-drop end line,
    ) in
    length_taken (at + 1) (end + 1) (drop at line) (drop start line) (drop end line) blanks limit nm
    value refl (prefix_len-le-length is_blank (drop at line)) (behind_blanks line at start begins)
    is
    (omega (arith, stops, ended)) further same
