-- The texts that the library hands out: its version, and the names of codes.
use Rattle.std.specs.Prelude.{ℕ, nat_eq, List, [], ◌∷◌, ◌++◌, codes}
use Rattle.std.specs.Prelude.{Option, Some, None, option_map}
use Rattle.std.specs.List.{find}
use Rattle.octofix.specs.Numbers as code
use Rattle.octofix.specs.declared.names.Row.{Row}

-- a text as C has it, with a zero at its end
abbrev pub c_text : List ℕ → List ℕ
c_text text = text ++ (0 ∷ [])

-- the version of the library
abbrev pub version : List ℕ
version = c_text (codes "1.0.0")

-- a code, and its name as C has it
pub record Named : Type 0 where
  pub code : ℕ
  pub text : List ℕ

-- a code that has this name
abbrev pub named : ℕ → List ℕ → Named
named code name = record { code = code; text = c_text name }

-- the codes that have names: those of refusals, as replies have them, and the library's own
abbrev pub names : List Named
names =
    named 3 (codes "BadResolution")
    ∷ named 4 (codes "BadModel")
    ∷ named 5 (codes "ZeroQuaternion")
    ∷ named 6 (codes "OriginOutside")
    ∷ named 7 (codes "PointOutside")
    ∷ named 8 (codes "TooManyCells")
    ∷ named 9 (codes "TooManyBlocks")
    ∷ named 10 (codes "NotOctomap")
    ∷ named 11 (codes "FloatTree")
    ∷ named 12 (codes "WrongId")
    ∷ named 13 (codes "MissingField")
    ∷ named 14 (codes "BadField")
    ∷ named 15 (codes "HeaderTooLong")
    ∷ named 16 (codes "TooDeep")
    ∷ named 17 (codes "Truncated")
    ∷ named 18 (codes "TrailingBytes")
    ∷ named 19 (codes "SizeMismatch")
    ∷ named 20 (codes "BadMagic")
    ∷ named 21 (codes "BadSnapshot")
    ∷ named 22 (codes "Stale")
    ∷ named 23 (codes "Full")
    ∷ named 24 (codes "Outside")
    ∷ named 25 (codes "BadDepth")
    ∷ named 26 (codes "BadBox")
    ∷ named 27 (codes "WideWhileTracked")
    ∷ named 28 (codes "NotTracked")
    ∷ named 29 (codes "Syntax")
    ∷ named 30 (codes "LongLine")
    ∷ named 31 (codes "OpenScan")
    ∷ named 32 (codes "TooManyPoints")
    ∷ named 33 (codes "NoFile")
    ∷ named 34 (codes "FileTooLarge")
    ∷ named 35 (codes "OtherResolution")
    ∷ named 37 (codes "TooManyFrontiers")
    ∷ named 38 (codes "WideGrid")
    ∷ named 39 (codes "TooManyBoxes")
    ∷ named code.closed (codes "Closed")
    ∷ named code.open_already (codes "Open")
    ∷ named code.unknown (codes "Unknown")
    ∷ named code.clear (codes "Clear")
    ∷ named code.none (codes "None")
    ∷ named code.memory (codes "Memory")
    ∷ named code.small_buffer (codes "SmallBuffer")
    ∷ named code.bad_argument (codes "BadArgument")
    ∷ named code.other_odds (codes "OtherOdds")
    ∷ []

-- the name of a code, where it has one
abbrev pub name_of : ℕ → Option (List ℕ)
name_of code =
    option_map (λ (row : Named). row.text) (find (λ (row : Named). nat_eq row.code code) names)

-- a row of the table in the code
abbrev pub row_seen : Row → Named
row_seen row = record { code = row.code; text = row.text.now }

-- what a name is answered by
abbrev pub name_code : Option (List ℕ) → ℕ
name_code None = code.none
name_code (Some name) = code.done

-- what stands in the place for a name afterwards
abbrev pub name_left : List ℕ → Option (List ℕ) → List ℕ
name_left old None = old
name_left old (Some name) = name
