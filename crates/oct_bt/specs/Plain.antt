-- The test for canonical node data: no record but the root's has eight equal leaves, and the root's
-- doesn't have eight unknown ones.
use Rattle.std.specs.Prelude.{ℕ, ◌+◌, ◌*◌, Bool, true, false, not, ◌&&◌, ◌||◌, nat_eq, List, []}
use Rattle.std.specs.Prelude.{◌∷◌}

-- eight equal leaves: unknown, free or occupied ones
abbrev pub is_plain : ℕ → Bool
is_plain codes = nat_eq codes 0 || nat_eq codes 21845 || nat_eq codes 43690

-- whether some record in this text has eight equal leaves
unfoldable pub has_plain : List ℕ → Bool
has_plain [] = false
has_plain (first ∷ []) = false
has_plain (first ∷ second ∷ rest) = is_plain (first + 256 * second) || has_plain rest

-- the test on node data
unfoldable pub is_canonical_data : List ℕ → Bool
is_canonical_data [] = true
is_canonical_data (first ∷ []) = false
is_canonical_data (first ∷ second ∷ rest) =
    not (nat_eq (first + 256 * second) 0) && not (has_plain rest)
