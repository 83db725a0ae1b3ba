use Rattle.std.proofs.Common.{◌≡◌, take}
use Rattle.std.specs.Prelude.{vec_capacity}
use Rattle.oct_change.proofs.changes.Changes.copy.Given as goal

abbrev pub invariant-copy : goal.invariant-copy
invariant-copy l =
    (l.notes.items ≡ take l.note-index l.note-items)
    × (vec_capacity l.notes ≡ vec_capacity l.self-inside.notes)
