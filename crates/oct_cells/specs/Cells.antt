-- Cells as a list, where an empty one is none.
use Rattle.std.specs.Prelude.{◌≡◌, ℕ, slice_index_or, List, Option, Some, None}

module _ {X : Type 0} where
  -- the cell of that number has a value
  abbrev pub HasValue : List (Option X) → ℕ → Type 0
  HasValue cells i = (x : X) × (slice_index_or cells i None ≡ Some x)
