-- The names of files in lines.
use Rattle.std.specs.Prelude.{ℕ, ◌-◌, Bool, false, ◌&&◌, ◌||◌, not, nat_eq, nat_le, nat_lt}
use Rattle.std.specs.Prelude.{List, [], ◌∷◌, ◌++◌, length, take, replicate, Option, Some, None}
use Rattle.std.specs.Prelude.{if◌then◌else◌}
use Rattle.std.specs.Char.{is_ascii_alphanumeric}
use Rattle.std.specs.List.{list_all, prefix_len}

-- an ASCII letter or digit, `.`, `_` or `-`
abbrev pub is_name_byte : ℕ → Bool
is_name_byte b = is_ascii_alphanumeric b || nat_eq b 46 || nat_eq b 95 || nat_eq b 45

-- `.` or `-`, with which no name begins
abbrev pub begins_no_name : ℕ → Bool
begins_no_name b = nat_eq b 46 || nat_eq b 45

-- NAME: 1 to 64 of these bytes, the first of them neither `.` nor `-`
abbrev pub is_name : List ℕ → Bool
is_name [] = false
is_name (b ∷ word) =
    not (begins_no_name b) && nat_le (length (b ∷ word)) 64 && list_all is_name_byte (b ∷ word)

-- the name that a word is, if it is one
abbrev pub name_of : List ℕ → Option (List ℕ)
name_of word = if is_name word then Some word else None

-- a byte that isn't zero
abbrev pub is_kept : ℕ → Bool
is_kept b = nat_lt 0 b

-- a word with zeros after it, 64 bytes in all
abbrev pub padded : List ℕ → List ℕ
padded word = word ++ replicate (64 - length word) 0

-- the bytes before the first zero
abbrev pub without_padding : List ℕ → List ℕ
without_padding bytes = take (prefix_len is_kept bytes) bytes
