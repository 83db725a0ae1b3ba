-- How much of an input was taken, and how much of a text was written.
use Rattle.std.specs.Prelude.{◌≡◌, ◌<◌, ◌≤◌, ◌++◌, ℕ, List, length, take, drop, Option, Some, None}
use Rattle.oct_io.specs.Told.{appended}

-- this many bytes of the input were taken
pub record HasTaken (taken : ℕ) (bytes : List ℕ) (left : Option (List ℕ)) : Type 0 where
  pub within : taken ≤ length bytes
  pub rest : left ≡ Some (drop taken bytes)

-- a prefix of the text was written
pub record IsBegun (text : List ℕ) (old new : Option (List ℕ)) : Type 0 where
  pub done : List ℕ
  pub rest : List ℕ
  pub written : new ≡ appended old done
  pub split : text ≡ done ++ rest

-- these bytes, and what is left to read after them, where it is told
abbrev pub before : List ℕ → Option (List ℕ) → Option (List ℕ)
before bytes None = None
before bytes (Some left) = Some (bytes ++ left)

-- a prefix of the text was written, and not all of it
abbrev pub IsCutOff : Option (List ℕ) → Option (List ℕ) → List ℕ → Type 0
IsCutOff old new text =
    (count : ℕ) × (count < length text) × (new ≡ appended old (take count text))

-- a prefix of the text was written, and the rest of it is held
pub record IsGathered (text : List ℕ) (old new : Option (List ℕ)) (held : List ℕ) : Type 0 where
  pub front : List ℕ
  pub written : new ≡ appended old front
  pub split : text ≡ front ++ held

-- a piece was taken: whatever text was written and held before, it now is with the piece after it
abbrev pub IsTaken : List ℕ → Option (List ℕ) → List ℕ → Option (List ℕ) → List ℕ → Type 0
IsTaken piece old held new held' = (text : List ℕ) (start : Option (List ℕ))
    → IsGathered text start old held → IsGathered (text ++ piece) start new held'

-- a piece wasn't: of the text with the piece after it a prefix was written, and not all of it
abbrev pub IsRefused : List ℕ → Option (List ℕ) → List ℕ → Option (List ℕ) → Type 0
IsRefused piece old held new = (text : List ℕ) (start : Option (List ℕ))
    → IsGathered text start old held → IsCutOff start new (text ++ piece)
