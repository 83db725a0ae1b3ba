-- The memory of a map, and where it runs out for a scan.
use Rattle.std.specs.Prelude.{◌≡◌, ℕ, ◌+◌, ◌*◌, ◌⊎◌, IsOk}
use Rattle.oct_scan.specs.Beam.{Sighting}
use Rattle.oct_scan.specs.Outcome.{hit_count, free_count}
use Rattle.oct_map.specs.Answers.{scan_answer}
use Rattle.oct_map.specs.Map.{Map, values_of, ground_of}
use Rattle.oct_map.specs.Edits.{entries_of, scan_need, LacksEntries}
use Rattle.oct_map.specs.Notes.{note_room, LacksNotes}

-- the bytes of a group, and those of a note
abbrev pub group_bytes : ℕ
group_bytes = 72

abbrev pub note_bytes : ℕ
note_bytes = 8

-- the bytes that a map holds for its groups and for the notes of its mark, those that it can still
-- make without taking memory among them
abbrev pub memory_of : Map → ℕ
memory_of m = group_bytes * entries_of m + note_bytes * note_room m.mark

-- Memory ran out for a scan: before anything was changed, or where the map has room for it, so that
-- it would be done, and lacks entries or room for notes.
abbrev pub HasRunOut : Map → Map → Sighting → Type 0
HasRunOut m n scan = (n ≡ m)
    ⊎ (IsOk (scan_answer (ground_of m) (values_of m) scan)
    × (LacksEntries m (scan_need m scan)
    ⊎ LacksNotes m.mark (hit_count m.tree.res m.update_box scan
    + free_count m.tree.res m.update_box scan)))
