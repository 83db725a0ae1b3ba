-- The changes since the mark of a map.
use Rattle.std.specs.Prelude.{◌≡◌, ℕ, List, [], Option, Some, None, Result}
use Rattle.oct_change.specs.declared.kind.Change.{Change}
use Rattle.oct_change.specs.declared.kind.Kind.{Kind}
use Rattle.oct_change.specs.declared.kind.Kind.TheVariants.{New, Lost, Occupied, Freed}
use Rattle.oct_map.specs.Map.{Map}
use Rattle.oct_map.specs.Marks.{changes_answer, classes_in, marked_of}
use Rattle.oct_map.specs.Notes.{notes_of}
use Rattle.octofix.specs.Asked.{told_each}
use Rattle.octofix.specs.Points.{key_told}
use Rattle.octofix.specs.declared.refusal.Refusal.{Refusal}
use Rattle.octofix.specs.declared.types.ChangedVoxel.{ChangedVoxel}

-- the number of a kind
abbrev pub kind_number : Kind → ℕ
kind_number New = 0
kind_number Lost = 1
kind_number Occupied = 2
kind_number Freed = 3

-- a change, as C reads it
abbrev pub change_told : Change → ChangedVoxel
change_told change = record { key = key_told change.key; kind = kind_number change.kind }

-- the changes since the mark
abbrev pub changes_in : Map → Result (List ChangedVoxel) Refusal
changes_in m = told_each change_told (changes_answer (marked_of m) (classes_in m))

-- the mark of a handle's map has a note
abbrev pub HasNotes : Option Map → Type 0
HasNotes None = ⊥
HasNotes (Some m) = notes_of m.mark ≡ [] → ⊥
