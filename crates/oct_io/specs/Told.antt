-- The bytes that a source or a sink tells of, and the counts of faults.
use Rattle.std.specs.Prelude.{◌≡◌, ◌⊎◌, ◌+◌, ◌-◌, ◌^◌, ◌++◌, List, ℕ, drop, Option, Some, None}

-- a count rose by one, or stays where it stands at its last value
abbrev pub Rose : ℕ → ℕ → Type 0
Rose old new = (new ≡ old + 1) ⊎ ((old ≡ 2 ^ 64 - 1) × (new ≡ old))

-- the bytes written, where they are told, and then more bytes
abbrev pub appended : Option (List ℕ) → List ℕ → Option (List ℕ)
appended None bytes = None
appended (Some written) bytes = Some (written ++ bytes)

-- the bytes left to read, where they are told, without the first of them
abbrev pub dropped : ℕ → Option (List ℕ) → Option (List ℕ)
dropped count None = None
dropped count (Some left) = Some (drop count left)
