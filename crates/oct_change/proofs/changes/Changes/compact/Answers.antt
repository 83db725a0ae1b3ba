use Rattle.std.proofs.Common.{◌≡◌, map, max, length, rules}
use Rattle.oct_change.specs.Notes.{AreInMap, note_of}
use Rattle.oct_change.specs.Held.{Held, room_of, wanted_room}
use Rattle.oct_change.specs.contracts.changes.Changes.{the_view}
use Rattle.oct_change.proofs.Compacts.{compacted}
use Rattle.oct_change.proofs.changes.Changes.compact.Goals as goal

pub returns-in_ok-grow-clause-made : goal.returns-in_ok-grow-clause-made
returns-in_ok-grow-clause-made c _ =
    let left : Held =
    the_view (record { notes = c.put_notes.new.notes; alloc = c.self.inside.alloc }) in
    let made : c.put_notes.new.notes.items ≡ map note_of c.in_ok-first.first.entries =
    search rules in
    let inside : AreInMap c.put_notes.new.notes.items = search rules in
    let grown : room_of c.grow.new.self ≡ max (room_of c.args.self.now)
    (wanted_room (length c.in_ok-first.first.entries) c.args.n) = search rules in
    let same : room_of left ≡ room_of c.grow.new.self = search rules in
    compacted c.args.self.now c.grow.new.self left c.args.n c.in_ok-first.first
    c.put_notes.ensures.ordered c.in_ok-first.ensures.first made inside grown same
