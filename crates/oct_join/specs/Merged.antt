-- What class each voxel has in the merged map of two files.
use Rattle.oct_merge.specs.declared.rule.Rule.{Rule}
use Rattle.oct_merge.specs.declared.rule.Rule.TheVariants.{Greatest, Least, First}
use Rattle.oct_odds.specs.declared.event.Class.{Class}
use Rattle.oct_odds.specs.declared.event.Class.TheVariants.{Unknown, Free, Occupied}
use Rattle.oct_values.specs.Classes.{Classes}

-- which of two known classes a rule takes: the greatest value is an occupied voxel's, and the least
-- one a free voxel's
abbrev pub chosen_class : Rule → Class → Class → Class
chosen_class Greatest Occupied b = Occupied
chosen_class Greatest a b = b
chosen_class Least Free b = Free
chosen_class Least a b = b
chosen_class First a b = a

-- the class of a voxel in the merged map: unknown where it is unknown in both, the known one where
-- it is known in one, and where it is known in both, the one that the rule takes
abbrev pub merged_class : Rule → Class → Class → Class
merged_class rule Unknown b = b
merged_class rule a Unknown = a
merged_class rule a b = chosen_class rule a b

-- the class of each voxel
abbrev pub merged_classes : Rule → Classes → Classes → Classes
merged_classes rule a b k = merged_class rule (a k) (b k)
