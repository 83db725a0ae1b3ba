-- The path of the reading: how many records of each depth are still to come.
use Rattle.std.specs.Prelude.{ℕ, suc, ◌-◌, ◌<◌, List, [], ◌∷◌, ◌++◌, length, replicate, slice_index}
use Rattle.std.specs.Prelude.{slice_set}

-- the depths of the records that are to come, the deepest first, where the first of these numbers
-- counts those of this depth, and each further one those of the next
unfoldable pub pending_at : ℕ → List ℕ → List ℕ
pending_at depth [] = []
pending_at depth (n ∷ path) = pending_at (suc depth) path ++ replicate n depth

-- the path has no end without records
abbrev pub IsTopped : List ℕ → Type 0
IsTopped path = 0 < length path → 0 < slice_index path (length path - 1)

-- the path without the next record
abbrev pub without_next : List ℕ → List ℕ
without_next path = slice_set path (length path - 1) (slice_index path (length path - 1) - 1)
