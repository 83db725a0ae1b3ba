-- The first word of a line, and where it stands.
use Rattle.std.proofs.Common.{◌≡◌, ℕ, suc, ◌+◌, ◌<◌, ◌≤◌, List, [], ◌∷◌, length, take, drop, Bool}
use Rattle.std.proofs.Common.{true, false, inl, inr, ◌⊎◌, refl, sym, ap, subst, ◌∙◌, arith}
use Rattle.std.proofs.lemmas.List.{length-take}
use Rattle.std.proofs.lemmas.List.Sums.{prefix_len-le-length}
use Rattle.std.specs.List.{prefix_len, filter, slice_split}
use Rattle.oct_script.specs.Words.{Word, PlacedWord, is_blank, is_in_word, is_word, placed}
use Rattle.oct_script.specs.Words.{words_from, placed_words, first_text}

either : (b : Bool) → (b ≡ true) ⊎ (b ≡ false)
either true = inl refl
either false = inr refl

one_more : (n : ℕ) → 1 + n ≡ suc n
one_more n = omega arith

no_blanks : (b : ℕ) (line : List ℕ) → is_blank b ≡ false → prefix_len is_blank (b ∷ line) ≡ 0
no_blanks b line e = rw e refl

no_word : (b : ℕ) (line : List ℕ) → is_blank b ≡ true → prefix_len is_in_word (b ∷ line) ≡ 0
no_word b line e = rw e refl

blank_more : (b : ℕ) (line : List ℕ) → is_blank b ≡ true
    → prefix_len is_blank (b ∷ line) ≡ suc (prefix_len is_blank line)
blank_more b line e = rw (e, one_more (prefix_len is_blank line)) refl

word_more : (b : ℕ) (line : List ℕ) → is_blank b ≡ false
    → prefix_len is_in_word (b ∷ line) ≡ suc (prefix_len is_in_word line)
word_more b line e = rw (e, one_more (prefix_len is_in_word line)) refl

-- the words among parts, the first of which stands at this column
abbrev words_in : ℕ → List Word → List PlacedWord
words_in column parts = filter (λ part. is_word part.text) (placed column parts)

words_behind_blank : (column b : ℕ) (line : List ℕ) → is_blank b ≡ true
    → words_from column (b ∷ line) ≡ words_from (column + 1) line
words_behind_blank column b line e =
    let same : column + 0 + 1 ≡ column + 1 = omega arith in
    rw e (ap (λ k. words_in k (slice_split is_blank line)) same)

-- blanks in front of a line count for nothing
pub words_behind_blanks : (column : ℕ) (line : List ℕ) →
    words_from (column + prefix_len is_blank line) (drop (prefix_len is_blank line) line)
    ≡ words_from column line
words_behind_blanks column [] = refl
words_behind_blanks column (b ∷ line) = elim (either (is_blank b)) [
  | inl e ↦ (
      let same : column + suc (prefix_len is_blank line) ≡ (column + 1) + prefix_len is_blank line =
      omega arith in
      ap (λ n. words_from (column + n) (drop n (b ∷ line))) (blank_more b line e)
      ∙ ap (λ k. words_from k (drop (prefix_len is_blank line) line)) same
      ∙ words_behind_blanks (column + 1) line ∙ sym (words_behind_blank column b line e))
  | inr e ↦ (
      let same : column + 0 ≡ column = omega arith in
      ap (λ n. words_from (column + n) (drop n (b ∷ line))) (no_blanks b line e)
      ∙ ap (λ k. words_from k (b ∷ line)) same)
]

-- a line, cut after the bytes before its first blank
record IsCutAtBlank (line : List ℕ) : Type 0 where
  parts : List Word
  first : slice_split is_blank line ≡ take (prefix_len is_in_word line) line ∷ parts
  behind : (column : ℕ) →
      words_from (column + prefix_len is_in_word line) (drop (prefix_len is_in_word line) line)
      ≡ words_in (column + prefix_len is_in_word line + 1) parts

cut_at_blank : (line : List ℕ) → IsCutAtBlank line
cut_at_blank [] = record { parts = []; first = refl; behind = λ column. refl }
cut_at_blank (b ∷ line) = elim (either (is_blank b)) [
  | inl e ↦ record {
    parts = slice_split is_blank line;
    first = rw e refl;
    behind =
        λ column. subst (λ n. words_from (column + n) (drop n (b ∷ line)) ≡ words_in
        (column + n + 1) (slice_split is_blank line))
        (sym (no_word b line e)) (words_behind_blank (column + 0) b line e);
  }
  | inr e ↦ (let c = cut_at_blank line in record {
    parts = c.parts;
    first = rw (e, one_more (prefix_len is_in_word line), c.first) refl;
    behind =
        λ column. subst (λ n. words_from (column + n) (drop n (b ∷ line)) ≡ words_in
        (column + n + 1) c.parts)
        (sym (word_more b line e)) (
        let same : (column + 1) + prefix_len is_in_word line
        ≡ column + suc (prefix_len is_in_word line) =
        omega arith in
        subst (λ k. words_from k (drop (prefix_len is_in_word line) line) ≡ words_in
        (k + 1) c.parts)
        same (c.behind (column + 1)));
  })
]

some_word : (word : List ℕ) → 0 < length word → is_word word ≡ true
some_word [] h = absurd (omega arith)
some_word (b ∷ word) h = refl

-- the first of some words, which isn't empty
first_in : (column : ℕ) (word : Word) (parts : List Word) → is_word word ≡ true →
    words_in column (word ∷ parts) ≡ record { text = word; column = column }
    ∷ words_in (column + length word + 1) parts
first_in column word parts s = rw s refl

-- the first word of a line, and the words after it
words_first : (column : ℕ) (line : List ℕ) → 0 < length (take (prefix_len is_in_word line) line) →
    words_from column line ≡ record {
      text = take (prefix_len is_in_word line) line;
      column = column;
    }
    ∷ words_from (column + length (take (prefix_len is_in_word line) line))
    (drop (prefix_len is_in_word line) line)
words_first column line h =
    let c = cut_at_blank line in
    let s : is_word (take (prefix_len is_in_word line) line) ≡ true = some_word _ h in
    let l : length (take (prefix_len is_in_word line) line) ≡ prefix_len is_in_word line =
    length-take (prefix_len is_in_word line) line
    ∙ omega (arith, prefix_len-le-length is_in_word line) in
    ap (λ x. words_in column x) c.first
    ∙ first_in column (take (prefix_len is_in_word line) line) c.parts s
    ∙ ap (λ (x : List PlacedWord). record {
      text = take (prefix_len is_in_word line) line;
      column =
          column;
    } ∷ x)
    (ap (λ n. words_in (column + n + 1) c.parts) l ∙ sym (c.behind column)
    ∙ ap (λ n. words_from (column + n) (drop (prefix_len is_in_word line) line)) (sym l))

-- after its blanks a line begins with a word, or has ended
ends_behind_blanks : (line : List ℕ) →
    prefix_len is_in_word (drop (prefix_len is_blank line) line) ≡ 0
    → drop (prefix_len is_blank line) line ≡ []
ends_behind_blanks [] h = refl
ends_behind_blanks (b ∷ line) h = elim (either (is_blank b)) [
  | inl e ↦ rw (e, one_more (prefix_len is_blank line))
      (ends_behind_blanks line (rw (e, one_more (prefix_len is_blank line)) at h))
  | inr e ↦ absurd (let z : suc (prefix_len is_in_word line) ≡ 0 = sym (word_more b line e)
      ∙ ap (λ n. prefix_len is_in_word (drop n (b ∷ line))) (sym (no_blanks b line e)) ∙ h in
      omega arith)
]

-- a line of which no word is left
pub no_word_left : (column : ℕ) (line text word : List ℕ) (n m : ℕ) →
    n ≡ prefix_len is_blank line → text ≡ drop n line → m ≡ prefix_len is_in_word text
    → word ≡ take m text → m ≤ length text → length word ≡ 0 → words_from column line ≡ []
no_word_left column line text word n m count behind size first within none =
    let l : length word ≡ m = ap length first ∙ length-take m text ∙ omega arith in
    let w : prefix_len is_in_word (drop (prefix_len is_blank line) line) ≡ 0 =
    ap (λ x. prefix_len is_in_word x) (sym (behind ∙ ap (λ x. drop x line) count)) ∙ sym size
    ∙ sym l ∙ none in
    sym (words_behind_blanks column line)
    ∙ ap (λ x. words_from (column + prefix_len is_blank line) x) (ends_behind_blanks line w)

-- a line of which a word is left
pub word_taken : (column place further : ℕ) (line blanks text word rest : List ℕ) (n m : ℕ) →
    n ≡ prefix_len is_blank line → n ≤ length line → blanks ≡ take n line → text ≡ drop n line →
    m ≡ prefix_len is_in_word text → word ≡ take m text → rest ≡ drop m text → 0 < length word →
    place ≡ column + length blanks → further ≡ place + length word →
    words_from column line ≡ record { text = word; column = place } ∷ words_from further rest
word_taken column place further line blanks text word rest n m count few front behind size first
    after some at more =
    let l : length blanks ≡ prefix_len is_blank line =
    ap length front ∙ length-take n line ∙ omega (arith, count) in
    let e : text ≡ drop (prefix_len is_blank line) line = behind ∙ ap (λ x. drop x line) count in
    let f : word ≡ take (prefix_len is_in_word text) text = first ∙ ap (λ x. take x text) size in
    let p : column + prefix_len is_blank line ≡ place = ap (λ x. column + x) (sym l) ∙ sym at in
    let s : 0 < length (take (prefix_len is_in_word text) text) =
    subst (λ x. 0 < length x) f some in
    sym (words_behind_blanks column line)
    ∙ ap (λ x. words_from (column + prefix_len is_blank line) x) (sym e)
    ∙ ap (λ k. words_from k text) p
    ∙ words_first place text s
    ∙ ap (λ (x : List ℕ). let w : PlacedWord = record { text = x; column = place } in
    w ∷ words_from (place + length x) (drop (prefix_len is_in_word text) text)) (sym f)
    ∙ ap (λ k. let w : PlacedWord = record { text = word; column = place } in
    w ∷ words_from k (drop (prefix_len is_in_word text) text)) (sym more)
    ∙ ap (λ x. let w : PlacedWord = record { text = word; column = place } in
    w ∷ words_from further x)
    (sym (after ∙ ap (λ k. drop k text) size))

-- the bytes between the blanks in front and the next blank are the first word
pub first_word_is : (line text word : List ℕ) (n m : ℕ) →
    n ≡ prefix_len is_blank line → n ≤ length line → text ≡ drop n line
    → m ≡ prefix_len is_in_word text → m ≤ length text → word ≡ take m text →
    word ≡ first_text (placed_words line)
first_word_is line text [] n m count few behind size within first =
    sym (ap first_text (no_word_left 1 line text [] n m count behind size first within refl))
first_word_is line text (b ∷ word) n m count few behind size within first =
    sym (ap first_text (word_taken 1 (1 + length (take n line)) (1 + length (take n line) + length
    (b ∷ word)) line (take n line) text (b ∷ word) (drop m text) n m
    count few refl behind size first refl (omega arith) refl refl))
