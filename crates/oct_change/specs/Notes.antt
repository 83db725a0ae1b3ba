-- Notes of the classes that voxels had, and what they say of the classes at the mark.
use Rattle.std.specs.Prelude.{◌≡◌, ℕ, List, ◌++◌, All, Option, is_some, IsSome, option_map}
use Rattle.std.specs.Prelude.{count_by}
use Rattle.std.specs.Option.{unwrap_or}
use Rattle.std.specs.List.{find}
use Rattle.oct_key.specs.Voxel.{Voxel, IsInMap}
use Rattle.oct_key.specs.Order.{voxels_in_order}
use Rattle.oct_key.specs.Values.{is_same_voxel}
use Rattle.oct_odds.specs.declared.event.Class.{Class}
use Rattle.oct_values.specs.Classes.{Classes}
use Rattle.oct_change.specs.declared.changes.Note.{Note}

-- the note of a voxel and a class
abbrev pub note_of : Voxel × Class → Note
note_of e = record { key = e.0; before = e.1 }

-- each note is of a voxel of the map
abbrev pub AreInMap : List Note → Type 0
AreInMap notes = All (λ note. IsInMap note.key) notes

-- the class of the first note of a voxel, or none where it isn't noted
abbrev pub first_noted : List Note → Voxel → Option Class
first_noted notes k =
    option_map (λ note. note.before) (find (λ note. is_same_voxel note.key k) notes)

-- how many voxels of the map are noted, each counted once
abbrev pub noted_total : List Note → ℕ
noted_total notes = count_by (λ k. is_some (first_noted notes k)) voxels_in_order

-- the classes at the mark: that of a voxel's first note, or its class now where it isn't noted
abbrev pub marked_by : List Note → Classes → Classes
marked_by notes now k = unwrap_or (first_noted notes k) (now k)

-- between two lists of notes all voxels of a kind were noted with their classes now
pub record HasNoted (now : Classes) (asked : Voxel → Type 0) (old new : List Note) : Type 0 where
  pub added : List Note
  pub split : new ≡ old ++ added
  pub right : All (λ note. note.before ≡ now note.key) added
  pub only : All (λ note. asked note.key) added
  pub whole : (k : Voxel) → IsInMap k → asked k → IsSome (first_noted added k)
