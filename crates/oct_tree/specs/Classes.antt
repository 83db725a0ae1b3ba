-- What the voxels of a tree count as.
use Rattle.oct_values.specs.Classes.{Classes, classes_of}
use Rattle.oct_tree.specs.Tree.{Tree, value_at}

-- what each voxel of a tree counts as
abbrev pub classes_in : Tree → Classes
classes_in t = classes_of t.odds (value_at t)
