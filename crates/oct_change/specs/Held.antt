-- Changes as their callers see them.
use Rattle.std.specs.Prelude.{◌≡◌, ℕ, ◌+◌, max, List, length}
use Rattle.oct_key.specs.Voxel.{Voxel}
use Rattle.oct_change.specs.declared.changes.Note.{Note}
use Rattle.oct_change.specs.Notes.{first_noted, noted_total}

-- the notes so far, the first one first, and how many can still be added without asking for memory
pub record Held : Type 0 where
  pub notes : List Note
  pub spare : ℕ

-- how many notes there is room for in all
abbrev pub room_of : Held → ℕ
room_of held = length held.notes + held.spare

-- room for this many notes and n more, or for as many again, where that is more
abbrev pub wanted_room : ℕ → ℕ → ℕ
wanted_room notes n = notes + max n notes

-- What is left of notes where there wasn't room for n more: of each noted voxel its first note
-- alone, and room for n more, or for as many again.
pub record IsCompacted (old new : Held) (n : ℕ) : Type 0 where
  pub first : (k : Voxel) → first_noted new.notes k ≡ first_noted old.notes k
  pub once : length new.notes ≡ noted_total old.notes
  pub room : room_of new ≡ max (room_of old) (wanted_room (noted_total old.notes) n)
