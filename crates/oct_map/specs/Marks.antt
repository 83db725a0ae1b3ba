-- The mark of a map: the class that each voxel had when it was set, and what has changed since.
use Rattle.std.specs.Prelude.{◌≡◌, List, ⊤, Option, Some, None, Result, Ok, Err}
use Rattle.oct_key.specs.Voxel.{Voxel, IsInMap}
use Rattle.oct_values.specs.Classes.{Classes, classes_of}
use Rattle.oct_change.specs.declared.kind.Change.{Change}
use Rattle.oct_change.specs.Changes.{changes_between}
use Rattle.oct_map.specs.declared.fault.MapFault.{MapFault}
use Rattle.oct_map.specs.declared.fault.MapFault.TheVariants.{NotTracked}
use Rattle.oct_map.specs.Map.{Map, values_of}
use Rattle.oct_map.specs.Notes.{marked_by_notes}

-- the class of each voxel
abbrev pub classes_in : Map → Classes
classes_in m = classes_of m.tree.odds (values_of m)

-- the class that each voxel had at the mark, where one stands
abbrev pub marked_of : Map → Option Classes
marked_of m = marked_by_notes m.mark (classes_in m)

-- the same mark: none, or one with the same class for each voxel of the map
abbrev pub SameMark : Option Classes → Option Classes → Type 0
SameMark None None = ⊤
SameMark None (Some d) = ⊥
SameMark (Some c) None = ⊥
SameMark (Some c) (Some d) = (k : Voxel) → IsInMap k → c k ≡ d k

-- the mark and the classes at it stay
abbrev pub KeepsMark : Map → Map → Type 0
KeepsMark m n = SameMark (marked_of m) (marked_of n)

-- the changes since the mark, where one stands
abbrev pub changes_answer : Option Classes → Classes → Result (List Change) MapFault
changes_answer None now = Err NotTracked
changes_answer (Some before) now = Ok (changes_between before now)
