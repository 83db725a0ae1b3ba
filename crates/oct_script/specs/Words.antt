-- The words of a line, each with its column.
use Rattle.std.specs.Prelude.{ℕ, ◌+◌, List, [], ◌∷◌, length, filter, nat_eq, ◌||◌, not, Bool, true}
use Rattle.std.specs.Prelude.{false}
use Rattle.std.specs.List.{slice_split}

-- the bytes of a word
abbrev pub Word : Type 0
Word = List ℕ

-- a space or a tab
abbrev pub is_blank : ℕ → Bool
is_blank b = nat_eq b 32 || nat_eq b 9

-- any other byte
abbrev pub is_in_word : ℕ → Bool
is_in_word b = not (is_blank b)

-- at least one byte
abbrev pub is_word : Word → Bool
is_word [] = false
is_word (b ∷ word) = true

-- a word, and its column: the place of its first byte, counted from 1
pub record PlacedWord : Type 0 where
  pub text : Word
  pub column : ℕ

-- parts of a line with one blank between any two, the first of which stands at this column
abbrev pub placed : ℕ → List Word → List PlacedWord
placed column [] = []
placed column (part ∷ parts) =
    record { text = part; column = column } ∷ placed (column + length part + 1) parts

-- the words of the part of a line that begins at this column: what stands between its blanks, where
-- that isn't empty
abbrev pub words_from : ℕ → List ℕ → List PlacedWord
words_from column text =
    filter (λ part. is_word part.text) (placed column (slice_split is_blank text))

-- the words of a line
abbrev pub placed_words : List ℕ → List PlacedWord
placed_words line = words_from 1 line

-- the first of these words, or no bytes where there is none
abbrev pub first_text : List PlacedWord → Word
first_text [] = []
first_text (first ∷ words) = first.text
