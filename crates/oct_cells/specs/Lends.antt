-- What cells are once a `&mut` to one of their values has ended.
use Rattle.std.specs.Prelude.{ℕ, List, slice_set, Option, Some}
use Rattle.std.specs.Borrow.{Fml, RattleType, MutBor, Lends}
use Rattle.oct_cells.specs.declared.cells.Cells.{Cells}
use Rattle.oct_cells.specs.contracts.cells.Cells.{the_row}

-- the same cells with other values
abbrev pub with_values : {X : Type 0} → Cells X → List (Option X) → Cells X
with_values c values = record { mark = c.mark; at = c.at; values = values }

-- the cell of that number gets the last value of the `&mut`
abbrev pub cell_lends : (R : RattleType) → MutBor (Cells R.Denot) → ℕ → MutBor R.Denot → Fml
cell_lends R c i r =
    Lends (the_row R) R c r (λ x. with_values c.now (slice_set c.now.values i (Some x)))
