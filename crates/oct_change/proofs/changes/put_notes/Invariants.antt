use Rattle.std.proofs.Common.{◌≡◌, ◌+◌, ◌≤◌, ◌++◌, map, length}
use Rattle.std.specs.Prelude.{vec_len, vec_capacity}
use Rattle.oct_change.specs.Notes.{AreInMap, note_of}
use Rattle.oct_change.proofs.changes.put_notes.Given as goal

abbrev pub invariant-loop-key : goal.invariant-loop-key
invariant-loop-key l =
    (l.notes.items ++ map note_of l.key-iterator
    ≡ l.initial.notes.items ++ map note_of l.first.entries)
    × (vec_len l.notes + length l.key-iterator ≤ vec_capacity l.notes)
    × (vec_capacity l.notes ≡ vec_capacity l.initial.notes)
    × (AreInMap l.initial.notes.items → AreInMap l.notes.items)
