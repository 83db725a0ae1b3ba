-- The words of the command line, and the options among them.
use Rattle.std.specs.Prelude.{List, [], ◌∷◌, map, String, string_bytes, bytes_eq, codes, Option}
use Rattle.std.specs.Prelude.{Some, None, Bool, true, false, is_some, not, ◌&&◌, ◌||◌}
use Rattle.std.specs.Prelude.{if◌then◌else◌}
use Rattle.std.specs.declared.alloc.Global.{Global}
use Rattle.oct_script.specs.Words.{Word}

-- the bytes of each word
abbrev pub bytes_of : List (String Global) → List Word
bytes_of words = map string_bytes words

-- the names of the options of a session
abbrev pub is_option : Word → Bool
is_option word =
    bytes_eq word (codes "--hit") || bytes_eq word (codes "--miss")
    || bytes_eq word (codes "--min") || bytes_eq word (codes "--max")
    || bytes_eq word (codes "--thr") || bytes_eq word (codes "--max-groups")
    || bytes_eq word (codes "--max-cells") || bytes_eq word (codes "--max-bytes")

-- the word after a name, where the name is given; the words are pairs of a name and a value
unfoldable pub value_of : Word → List Word → Option Word
value_of name [] = None
value_of name (other ∷ []) = None
value_of name (other ∷ value ∷ words) =
    if bytes_eq other name then Some value else value_of name words

-- the words are pairs of an option and its value, in any order, and no option is given twice
unfoldable pub are_options : List Word → Bool
are_options [] = true
are_options (name ∷ []) = false
are_options (name ∷ value ∷ words) =
    is_option name && not (is_some (value_of name words)) && are_options words
