-- A block that is shown with its value.
use Rattle.std.specs.Prelude.{ℤ}
use Rattle.oct_key.specs.Block.{Cube}
use Rattle.oct_key.specs.CubeOf.{cube_of}
use Rattle.oct_query.specs.declared.found.Found.{Found}

-- a block and its value
pub record Shown : Type 0 where
  pub block : Cube
  pub value : ℤ

-- what a block of the code is shown as
abbrev pub shown_as : Found → Shown
shown_as found = record { block = cube_of found.block; value = found.value }
