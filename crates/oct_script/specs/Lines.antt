-- The lines of a byte string.
use Rattle.std.specs.Prelude.{◌≡◌, ℕ, ◌-◌, List, [], ◌∷◌, ◌++◌, length, take, map, nat_eq, nat_lt}
use Rattle.std.specs.Prelude.{not, slice_index, if◌then◌else◌, Bool, true, false}
use Rattle.std.specs.List.{slice_split}

-- what is read of a line: its text, or nothing but that it is long
pub data Line : Type 0 where
  Text : List ℕ → Line
  Long : Line

-- a line feed
abbrev pub is_line_feed : ℕ → Bool
is_line_feed b = nat_eq b 10

-- a byte of a line: any but a line feed
abbrev pub is_in_line : ℕ → Bool
is_in_line b = not (is_line_feed b)

-- these bytes as a line, which is long where it has more than 4,096 of them
abbrev pub line_of : List ℕ → Line
line_of bytes = if nat_lt 4096 (length bytes) then Long else Text bytes

-- a line of which nothing but that it is long is known
abbrev pub is_long : Line → Bool
is_long (Text text) = false
is_long Long = true

-- a line with more bytes after it
abbrev pub joined : Line → List ℕ → Line
joined (Text text) bytes = line_of (text ++ bytes)
joined Long bytes = Long

-- a line that has at least one byte
abbrev pub has_bytes : Line → Bool
has_bytes (Text []) = false
has_bytes (Text (b ∷ text)) = true
has_bytes Long = true

-- a text without the carriage return at its end, if there is one: an empty text, whose last byte
-- `slice_index` says is 0, stays as it is
abbrev pub trimmed : List ℕ → List ℕ
trimmed text =
    let last = length text - 1 in
    if nat_eq (slice_index text last) 13 then take last text else text

-- a line that a line feed has ended: one carriage return before it is dropped
abbrev pub ended : Line → Line
ended (Text text) = Text (trimmed text)
ended Long = Long

-- the parts of a byte string between its line feeds; after the last part there is none
abbrev pub parts_of : List ℕ → List (List ℕ)
parts_of bytes = slice_split is_line_feed bytes

-- all parts but the last
abbrev pub all_but_last : List (List ℕ) → List (List ℕ)
all_but_last [] = []
all_but_last (part ∷ []) = []
all_but_last (part ∷ next ∷ parts) = part ∷ all_but_last (next ∷ parts)

-- the last part
abbrev pub last_of : List (List ℕ) → List ℕ
last_of [] = []
last_of (part ∷ []) = part
last_of (part ∷ next ∷ parts) = last_of (next ∷ parts)

-- the lines that end within these bytes
abbrev pub ended_lines : List ℕ → List Line
ended_lines bytes = map (λ part. ended (line_of part)) (all_but_last (parts_of bytes))

-- the bytes after the last line feed
abbrev pub rest_of : List ℕ → List ℕ
rest_of bytes = last_of (parts_of bytes)

-- these bytes as the line that lacks its line feed, if there is at least one; here a carriage
-- return stays
abbrev pub last_line : List ℕ → List Line
last_line [] = []
last_line (b ∷ rest) = line_of (b ∷ rest) ∷ []

-- all lines of a byte string
abbrev pub all_lines : List ℕ → List Line
all_lines bytes = ended_lines bytes ++ last_line (rest_of bytes)

-- the line that is being read: what has come of it so far, and whether its line feed has come
pub record LineSoFar : Type 0 where
  pub line : Line
  pub has_ended : Bool

-- a line of which nothing has come
abbrev pub unread : LineSoFar
unread = record { line = Text []; has_ended = false }

-- a line of this text that has ended
abbrev pub whole : List ℕ → LineSoFar
whole text = record { line = Text text; has_ended = true }

-- after these bytes, the line that is being read is the one after the last line feed
pub record IsReading (reading : LineSoFar) (bytes : List ℕ) : Type 0 where
  pub line : reading.line ≡ line_of (rest_of bytes)
  pub unended : reading.has_ended ≡ false

-- between these bytes and those, no line has ended
pub record HasJoined (reading : LineSoFar) (before after : List ℕ) : Type 0 where
  pub lines : ended_lines after ≡ ended_lines before
  pub reads : IsReading reading after

-- between these bytes and those, one line has ended, with the last byte, and it is the one that was
-- being read
pub record HasEnded (reading : LineSoFar) (before after : List ℕ) : Type 0 where
  pub lines : ended_lines after ≡ ended_lines before ++ reading.line ∷ []
  pub rest : rest_of after ≡ []
