-- What each voxel counts as, and the class of a block.
use Rattle.std.specs.Prelude.{Bool, true, false, Option}
use Rattle.oct_key.specs.Voxel.{Voxel}
use Rattle.oct_key.specs.Values.{Values}
use Rattle.oct_key.specs.Block.{Cube}
use Rattle.oct_odds.specs.Odds.{Odds}
use Rattle.oct_odds.specs.Update.{class_of}
use Rattle.oct_odds.specs.declared.event.Class.{Class}
use Rattle.oct_odds.specs.declared.event.Class.TheVariants.{Unknown, Free, Occupied}
use Rattle.oct_values.specs.Uniform.{uniform_answer}

-- a class for each voxel
abbrev pub Classes : Type 0
Classes = Voxel → Class

-- the class of each voxel, by its value
abbrev pub classes_of : Odds → Values → Classes
classes_of odds values k = class_of odds (values k)

-- whether the two are one class
abbrev pub is_same_class : Class → Class → Bool
is_same_class Unknown Unknown = true
is_same_class Free Free = true
is_same_class Occupied Occupied = true
is_same_class _ _ = false

-- the class of all voxels of a block, or none where they aren't of one
abbrev pub class_of_block : Classes → Cube → Option Class
class_of_block classes b = uniform_answer is_same_class classes b
