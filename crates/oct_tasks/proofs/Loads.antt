-- How often the store is asked for the two files of a task.
use Rattle.std.proofs.Common.{ℕ, ◌≤◌, List, Option, Some, None, Ok, Err, arith}
use Rattle.oct_io.specs.Files.{Files}
use Rattle.oct_io.specs.Loaded.{loaded_of}
use Rattle.oct_file_tasks.specs.TwoFiles.{map_in, loads_after, loads_of}

-- the first one is asked for in any case
pub some_load : (files : Option Files) (first : List ℕ) → 1 ≤ loads_of files first
some_load None first = omega arith
some_load (Some files) first = elim (map_in (loaded_of (files first)))
    as (λ found. 1 ≤ loads_after found) [
      | Ok file ↦ omega arith
      | Err reason ↦ omega arith
    ]
