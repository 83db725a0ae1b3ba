-- The notes of a map's mark, where one stands: which voxels are noted, and for how many there is
-- room.
use Rattle.std.specs.Prelude.{◌≡◌, ℕ, ◌+◌, ◌≤◌, ◌++◌, max, List, [], length, ◌⊎◌, Option, Some}
use Rattle.std.specs.Prelude.{None, IsSome, IfSome, is_some, option_map}
use Rattle.oct_key.specs.Voxel.{Voxel, IsInMap}
use Rattle.oct_values.specs.Classes.{Classes}
use Rattle.oct_values.specs.Events.{Events}
use Rattle.oct_change.specs.declared.changes.Note.{Note}
use Rattle.oct_change.specs.Held.{Held, room_of, wanted_room}
use Rattle.oct_change.specs.Notes.{first_noted, marked_by, noted_total, HasNoted}

-- the notes of a mark, none where none stands
abbrev pub notes_of : Option Held → List Note
notes_of None = []
notes_of (Some held) = held.notes

-- for how many notes there is room in all
abbrev pub note_room : Option Held → ℕ
note_room None = 0
note_room (Some held) = room_of held

-- a voxel is noted
abbrev pub IsNoted : Option Held → Voxel → Type 0
IsNoted mark k = IsSome (first_noted (notes_of mark) k)

-- there is room for this many notes more, where a mark stands
abbrev pub HasRoomForNotes : Option Held → ℕ → Type 0
HasRoomForNotes mark n = IfSome mark (λ (held : Held). n ≤ held.spare)

-- a mark stands, and there isn't room for this many notes more
abbrev pub LacksNotes : Option Held → ℕ → Type 0
LacksNotes mark n = HasRoomForNotes mark n → ⊥

-- the class that each voxel had at the mark, where one stands, by the first notes and the classes
-- now
abbrev pub marked_by_notes : Option Held → Classes → Option Classes
marked_by_notes mark now = option_map (λ (held : Held). marked_by held.notes now) mark

-- how many voxels are noted
abbrev pub noted_count : Option Held → ℕ
noted_count mark = noted_total (notes_of mark)

-- working word: the same mark by its notes, where each voxel has the same first note
pub record IsSameNoted (a b : Option Held) : Type 0 where
  pub standing : is_some b ≡ is_some a
  pub first : (k : Voxel) → first_noted (notes_of b) k ≡ first_noted (notes_of a) k

-- at most this many notes were added behind those that there were, in the same room
pub record IsNotedBehind (a b : Option Held) (n : ℕ) : Type 0 where
  pub added : List Note
  pub notes : notes_of b ≡ notes_of a ++ added
  pub few : length added ≤ n
  pub room : note_room b ≡ note_room a

-- Room was made for n notes, and this many were added at most: each voxel that was noted kept one
-- note, and there is room for these and for n more, or for as many again.
pub record IsRoomMade (a b : Option Held) (n added : ℕ) : Type 0 where
  pub few : length (notes_of b) ≤ noted_count a + added
  pub room : note_room b ≡ max (note_room a) (wanted_room (noted_count a) n)

-- where a mark stands, these voxels were noted with their classes now, by this many notes
abbrev pub HasMarked : Classes → (Voxel → Type 0) → ℕ → Option Held → Option Held → Type 0
HasMarked now asked n None new = new ≡ None
HasMarked now asked n (Some old) new =
    (held : Held) × (new ≡ Some held) × HasNoted now asked old.notes held.notes
    × (old.spare ≡ held.spare + n) × (room_of held ≡ room_of old)

-- What a call does to the notes of a mark, which has these events, for this many voxels: it notes
-- no voxel without an event, by no more notes than these. Where there is room for these, they come
-- behind the others; else room is made, or nothing is noted.
pub record NotesFew (a b : Option Held) (events : Events) (n : ℕ) : Type 0 where
  pub only : (k : Voxel) → IsInMap k → IsNoted b k → IsNoted a k ⊎ IsSome (events k)
  pub enough : HasRoomForNotes a n → IsNotedBehind a b n
  pub made : IsNotedBehind a b n ⊎ IsRoomMade a b n n
