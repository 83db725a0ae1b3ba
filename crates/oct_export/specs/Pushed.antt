-- A text that was pushed to a gather, from where the gather was before to where it is now.
use Rattle.std.specs.Prelude.{◌≡◌, ℕ, List, ◌++◌, Option}
use Rattle.oct_io.specs.Taken.{IsBegun}

-- of what was held, and of the text after it, a front was written, and the rest is held
abbrev pub IsPushed : List ℕ → List ℕ → List ℕ → Option (List ℕ) → Option (List ℕ) → Type 0
IsPushed text held_before held written_before written =
    (b : IsBegun (held_before ++ text) written_before written) × (b.rest ≡ held)
