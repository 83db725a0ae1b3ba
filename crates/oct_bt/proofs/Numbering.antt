-- This many numbers in a row.
use Rattle.std.specs.Prelude.{ℕ, zero, suc, List, [], ◌∷◌}

-- this many numbers from one on
unfoldable pub numbers_from : ℕ → ℕ → List ℕ
numbers_from m zero = []
numbers_from m (suc n) = m ∷ numbers_from (suc m) n
