use Rattle.std.proofs.Common.{◌≡◌, Some, None, refl, sym, subst, rules}
use Rattle.std.specs.Prelude.{◌⊎◌}
use Rattle.oct_key.specs.Boxes.{IsInBox, box_volume}
use Rattle.oct_values.specs.Classes.{Classes, classes_of}
use Rattle.oct_tree.specs.Tree.{value_at}
use Rattle.oct_map.specs.Notes.{HasMarked, HasRoomForNotes, IsRoomMade, NotesFew}
use Rattle.oct_map.specs.Merges.{IsInGiven, given_events, given_volume}
use Rattle.oct_map.proofs.Edits.{same_noted}
use Rattle.oct_map.proofs.Marks.{noted_few}
use Rattle.oct_map.proofs.Merges.{given_asked, marked_none}
use Rattle.oct_map.proofs.mark.Mark.note_window.Goals as goal

pub returns-in_ok-reserve-clause-few : goal.returns-in_ok-reserve-clause-few
returns-in_ok-reserve-clause-few c =
    let now : Classes = classes_of c.args.tree.now.odds (value_at c.args.tree.now) in
    let box = c.in-Some.window in
    let marked : HasMarked now (IsInBox box.lo box.hi) (box_volume box.lo box.hi)
    c.reserve.new.self c.note_box.new.self =
    subst (λ l. HasMarked now (IsInBox l box.hi) (box_volume l box.hi) c.reserve.new.self
    c.note_box.new.self) c.lo.ensures
    (subst (λ h. HasMarked now (IsInBox c.lo.result h) (box_volume c.lo.result h)
    c.reserve.new.self c.note_box.new.self) c.hi.ensures c.note_box.ensures) in
    subst (λ w. NotesFew c.args.self.now c.note_box.new.self (given_events w) (given_volume w))
    (sym c.in-Some.is)
    (noted_few now (IsInBox box.lo box.hi) (box_volume box.lo box.hi) c.args.self.now
    c.reserve.new.self c.note_box.new.self (given_events (Some box)) c.reserve.ensures.kept
    (subst (λ n. (c.reserve.new.self ≡ c.args.self.now)
    ⊎ IsRoomMade c.args.self.now c.reserve.new.self n 0) c.volume.ensures c.reserve.ensures.made)
    (λ there. (c.reserve.ensures.enough
    (subst (HasRoomForNotes c.args.self.now) (sym c.volume.ensures) there)).1)
    marked (λ k v inside. given_asked box k inside))

pub returns-in_default-clause-noted : goal.returns-in_default-clause-noted
returns-in_default-clause-noted c =
    let now : Classes = classes_of c.args.tree.now.odds (value_at c.args.tree.now) in
    let none : c.args.window ≡ None = search rules in (
      c.args.self.now,
      same_noted c.args.self.now c.args.self.now refl,
      subst (λ w. HasMarked now (IsInGiven w) (given_volume w) c.args.self.now c.args.self.now)
          (sym none) (marked_none now c.args.self.now),
    )
