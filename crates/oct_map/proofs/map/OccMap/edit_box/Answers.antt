use Rattle.std.proofs.Common.{◌≡◌, ℕ, ◌+◌, ◌≤◌, Option, Some, Err, Bool, true, false, inl, inr}
use Rattle.std.proofs.Common.{refl, sym, ◌∙◌, ap, subst, rules}
use Rattle.std.specs.Prelude.{is_some}
use Rattle.std.proofs.lemmas.Bool.{false≢true}
use Rattle.oct_key.specs.Voxel.{Voxel, key_at}
use Rattle.oct_key.specs.Boxes.{is_box, IsInBox, Window, box_volume}
use Rattle.oct_key.proofs.Boxes.{box_exactly}
use Rattle.oct_values.specs.Boxes.{box_events}
use Rattle.oct_values.specs.Events.{Events}
use Rattle.oct_arena.specs.Entries.{live}
use Rattle.oct_map.specs.Map.{Map, IsMap, values_of}
use Rattle.oct_map.specs.Answers.{room_answer, IsAnswerOrMemory}
use Rattle.oct_map.specs.Outcome.{corner_events, corner_need, corner_volume}
use Rattle.oct_map.specs.Edits.{IsMapRefused, IsMapEdited, ReservesFew, IsReadied, LacksEntries}
use Rattle.oct_map.proofs.Views.{map_of}
use Rattle.oct_map.proofs.Corners.{corners_need, corners_volume, corners_events, corners_answer}
use Rattle.oct_map.proofs.Corners.{corners_ok, still_stale}
use Rattle.oct_map.specs.Marks.{classes_in, KeepsMark}
use Rattle.oct_map.specs.Notes.{HasRoomForNotes, HasMarked, LacksNotes, NotesFew}
use Rattle.oct_map.proofs.Edits.{handed_on, edited_map, map_edited, edited_reserved, if_err}
use Rattle.oct_map.proofs.Edits.{SameEvents, refused_room, refused_notes, remarked}
use Rattle.oct_map.proofs.Marks.{marked_edit, marked_room, readied_mark, noted_few}
use Rattle.oct_map.proofs.Marks.{same_few, few_after, box_asked, asked_box, lacks_notes}
use Rattle.oct_map.proofs.Marks.{reserved_remarked, room_ok}
use Rattle.oct_map.proofs.Scans.{event_back}
use Rattle.oct_map.proofs.map.OccMap.edit_box.Goals.{After-box_need, After-reserve}
use Rattle.oct_map.proofs.map.OccMap.edit_box.Goals.{After-touch_box}
use Rattle.oct_map.proofs.map.OccMap.edit_box.Goals as goal

-- what the map finds at the two points
abbrev first : After-box_need → Option Voxel
first c = key_at c.args.self.now.tree.res c.args.lo

abbrev second : After-box_need → Option Voxel
second c = key_at c.args.self.now.tree.res c.args.hi

-- they are the corners
low : (c : After-box_need) → first c ≡ Some c.in-Some.low
low c =
    sym (sym c.in-Some.is ∙ c.key_of.ensures.exact
    ∙ ap (λ (r : ℕ). key_at r c.args.lo)
    (c.res.ensures ∙ ap (λ (m : Map). m.tree.res) c.self.view_is))

high : (c : After-box_need) → second c ≡ Some c.in-Some-key_of.high
high c =
    sym (sym c.in-Some-key_of.is ∙ c.key_of-2.ensures.exact
    ∙ ap (λ (r : ℕ). key_at r c.args.hi)
    (c.res-2.ensures ∙ ap (λ (m : Map). m.tree.res) c.self.view_is))

-- and what was counted is theirs
abbrev need : After-box_need → ℕ
need c = corner_need (first c) (second c)

counted : (c : After-box_need) → c.box_need.result ≡ need c
counted c =
    c.box_need.ensures.exact
    ∙ sym (corners_need _ _ c.in-Some.low c.in-Some-key_of.high (low c) (high c))

voxels : (c : After-box_need)
    → c.volume-count.result ≡ box_volume c.in-Some.low c.in-Some-key_of.high
voxels c =
    c.volume-count.ensures ∙ ap (λ (w : Window). box_volume w.lo w.hi) c.in-Some-new.ensures.corners

many : (c : After-box_need) → c.volume-count.result ≡ corner_volume (first c) (second c)
many c =
    voxels c
    ∙ sym (corners_volume _ _ c.in-Some.low c.in-Some-key_of.high (low c) (high c))

order : (c : After-box_need) → is_box c.in-Some.low c.in-Some-key_of.high ≡ true
order c = (box_exactly _ _).1 (c.in-Some-new.ensures.accepted.0 refl)

-- the events at them, which are those of the box
abbrev events : After-box_need → Events
events c = corner_events (first c) (second c) c.args.event

abbrev given : After-box_need → Events
given c = box_events c.in-Some.low c.in-Some-key_of.high c.args.event

same : (c : After-box_need) → SameEvents (given c) (events c)
same c = corners_events _ _ c.in-Some.low c.in-Some-key_of.high c.args.event (low c) (high c)

-- the map that making room left
abbrev roomy : After-reserve → Map
roomy c = map_of c.self-2.inside.tree c.self-2.inside.is_stale c.self-2.inside.window
    c.self-2.inside.limits c.self-2.inside.mark

ready : (c : After-reserve) (need : ℕ) → c.box_need.result ≡ need
    → IsReadied c.args.self.now (roomy c) need
ready c need counted =
    subst (IsReadied c.args.self.now (roomy c)) counted
    (subst (λ (m : Map). IsReadied c.args.self.now m c.box_need.result) (sym c.self-2.view_is)
    c.make_room.ensures.readied)

-- the same with room for notes, and the map that the edit leaves
abbrev noting : After-reserve → Map
noting c = record (roomy c) { mark = c.reserve.new.self }

abbrev after : After-touch_box → Bool → Map
after c stale = map_of c.touch_box.new.tree stale c.self-2.inside.window c.self-2.inside.limits
    c.note_box.new.self

left : (c : After-touch_box) → IsMap (after c c.self-2.inside.is_stale)
left c =
    let few : live c.self-2.inside.tree.groups + c.box_need.result
    ≤ c.self-2.inside.limits.max_groups =
    subst (λ (m : Map). live m.tree.groups + c.box_need.result ≤ m.max_groups)
    (sym c.self-2.view_is) c.in_ok-make_room.ensures.few in
    let grows : live c.touch_box.new.tree.groups
    ≤ live c.self-2.inside.tree.groups + c.box_need.result =
    subst (λ n. live c.touch_box.new.tree.groups ≤ live c.self-2.inside.tree.groups + n)
    (sym c.box_need.ensures.exact) c.touch_box.ensures.groups in
    still_stale (λ stale. IsMap (after c stale)) c.self-2.inside.is_stale
    (edited_map (map_of c.self-2.inside.tree c.self-2.inside.is_stale c.self-2.inside.window
    c.self-2.inside.limits c.self-2.inside.mark) c.touch_box.new.tree
    (box_events c.in-Some.low c.in-Some-key_of.high c.args.event) c.box_need.result false
    c.note_box.new.self c.self-2.invariant few grows c.touch_box.ensures.edited
    (λ _. c.touch_box.ensures.eager))

pub invariant_of-self-2 : goal.invariant_of-self-2
invariant_of-self-2 c = left (goal.at.invariant_of-self-2 c).After-touch_box

pub returns-clause-map : goal.returns-clause-map
returns-clause-map c = left (goal.at.returns-clause-map c).After-touch_box

pub returns-clause-answer : goal.returns-clause-answer
returns-clause-answer c =
    let n = (goal.at.returns-clause-answer c).After-box_need in
    corners_answer (is_some c.args.self.now.mark) c.args.self.now.max_groups c.box_need.result
    (values_of c.args.self.now) _ _ c.in-Some.low c.in-Some-key_of.high _ (low n) (high n)
    (order n) (search rules) c.box_need.ensures.exact c.in_ok-make_room.ensures.answer

pub returns-clause-edited : goal.returns-clause-edited
returns-clause-edited c =
    let n = (goal.at.returns-clause-edited c).After-box_need in
    let r = (goal.at.returns-clause-edited c).After-reserve in
    let t = (goal.at.returns-clause-edited c).After-touch_box in
    still_stale (λ stale. IsMapEdited c.args.self.now (after t stale) (events n) (need n) false)
    c.self-2.inside.is_stale
    (map_edited c.args.self.now (roomy r) c.touch_box.new.tree (given n) (events n) (need n) false
    c.note_box.new.self (subst IsMap c.self.view_is c.self.invariant)
    (ready r (need n) (counted n)) (same n) c.touch_box.ensures.edited
    (λ _. c.touch_box.ensures.eager) (λ h. absurd (false≢true h)))

pub returns-clause-reserved : goal.returns-clause-reserved
returns-clause-reserved c =
    let n = (goal.at.returns-clause-reserved c).After-box_need in
    let r = (goal.at.returns-clause-reserved c).After-reserve in
    let t = (goal.at.returns-clause-reserved c).After-touch_box in
    still_stale (λ stale. ReservesFew c.args.self.now (after t stale) (need n))
    c.self-2.inside.is_stale
    (edited_reserved c.args.self.now (roomy r) c.touch_box.new.tree (need n) false
    c.note_box.new.self c.touch_box.ensures.room (ready r (need n) (counted n)).reserved)

pub returns-in_err-make_room-clause-refused : goal.returns-in_err-make_room-clause-refused
returns-in_err-make_room-clause-refused c =
    let n = (goal.at.returns-in_err-make_room-clause-refused c).After-box_need in
    if_err c.from_residual.result
    (λ fault. IsMapRefused c.args.self.now c.make_room.new.self fault (need n)) (λ fault e.
    let is : c.make_room.result ≡ Err fault = search (rules, e) in
    subst (IsMapRefused c.args.self.now c.make_room.new.self fault) (counted n)
    (refused_room c.args.self.now c.make_room.new.self fault c.box_need.result c.make_room.result is
    c.make_room.ensures.readied c.make_room.ensures.full))

pub returns-in_err-make_room-clause-answer : goal.returns-in_err-make_room-clause-answer
returns-in_err-make_room-clause-answer c =
    let n = (goal.at.returns-in_err-make_room-clause-answer c).After-box_need in
    let same : c.make_room.result ≡ c.from_residual.result =
    handed_on _ _ _ c.in_err-make_room.was c.from_residual.ensures.1 in
    corners_answer (is_some c.args.self.now.mark) c.args.self.now.max_groups c.box_need.result
    (values_of c.args.self.now) _ _ c.in-Some.low c.in-Some-key_of.high _ (low n) (high n)
    (order n) (search rules) c.box_need.ensures.exact
    (subst (IsAnswerOrMemory
    (room_answer c.args.self.now.max_groups (values_of c.args.self.now) c.box_need.result)) same
    c.make_room.ensures.answer)

pub returns-clause-path : goal.returns-clause-path
returns-clause-path c k v event =
    let n = (goal.at.returns-clause-path c).After-box_need in
    c.touch_box.ensures.path k v (event_back (given n) (events n) (same n) k v event)

pub note_box-requires-clause-room : goal.note_box-requires-clause-room
note_box-requires-clause-room c =
    subst (HasRoomForNotes c.reserve.new.self)
    (voxels (goal.at.note_box-requires-clause-room c).After-box_need) c.in_ok-reserve.ensures.room

pub returns-clause-mark : goal.returns-clause-mark
returns-clause-mark c =
    let n = (goal.at.returns-clause-mark c).After-box_need in
    let r = (goal.at.returns-clause-mark c).After-reserve in
    let t = (goal.at.returns-clause-mark c).After-touch_box in
    still_stale (λ stale. KeepsMark c.args.self.now (after t stale)) c.self-2.inside.is_stale
    (marked_edit c.args.self.now (roomy r) c.touch_box.new.tree c.reserve.new.self
    c.note_box.new.self (given n) (IsInBox c.in-Some.low c.in-Some-key_of.high) _ (need n) false
    (ready r (need n) (counted n)) c.reserve.ensures.kept c.note_box.ensures
    c.touch_box.ensures.edited
    (λ q v some. box_asked c.in-Some.low c.in-Some-key_of.high c.args.event q some))

pub returns-clause-noted : goal.returns-clause-noted
returns-clause-noted c =
    let n = (goal.at.returns-clause-noted c).After-box_need in
    let r = (goal.at.returns-clause-noted c).After-reserve in
    subst (NotesFew c.args.self.now.mark c.note_box.new.self (events n)) (many n)
    (few_after c.volume-count.result c.args.self.now.mark c.self-2.inside.mark c.note_box.new.self
    (events n) (ready r (need n) (counted n)).notes
    (noted_few (classes_in (roomy r)) (IsInBox c.in-Some.low c.in-Some-key_of.high)
    c.volume-count.result c.self-2.inside.mark c.reserve.new.self c.note_box.new.self (events n)
    c.reserve.ensures.kept c.reserve.ensures.made (λ there. (c.reserve.ensures.enough there).1)
    (subst (λ n. HasMarked (classes_in (roomy r)) (IsInBox c.in-Some.low c.in-Some-key_of.high) n
    c.reserve.new.self c.note_box.new.self) (sym (voxels n)) c.note_box.ensures)
    (λ q v e. asked_box (first n) (second n) c.in-Some.low c.in-Some-key_of.high c.args.event q
    (low n) (high n) e)))

pub returns-in_err-reserve-clause-mark : goal.returns-in_err-reserve-clause-mark
returns-in_err-reserve-clause-mark c =
    let n = (goal.at.returns-in_err-reserve-clause-mark c).After-box_need in
    let r = (goal.at.returns-in_err-reserve-clause-mark c).After-reserve in
    marked_room c.args.self.now (roomy r) c.reserve.new.self (need n) (ready r (need n) (counted n))
    c.in_err-reserve.ensures.err

pub returns-in_err-reserve-clause-noted : goal.returns-in_err-reserve-clause-noted
returns-in_err-reserve-clause-noted c =
    let n = (goal.at.returns-in_err-reserve-clause-noted c).After-box_need in
    same_few _ c.args.self.now.mark c.reserve.new.self (events n)
    (c.in_err-reserve.ensures.err ∙ ap (λ (m : Map). m.mark) c.self-2.view_is
    ∙ c.make_room.ensures.readied.notes)

pub returns-in_err-reserve-clause-refused : goal.returns-in_err-reserve-clause-refused
returns-in_err-reserve-clause-refused c =
    let n = (goal.at.returns-in_err-reserve-clause-refused c).After-box_need in
    let r = (goal.at.returns-in_err-reserve-clause-refused c).After-reserve in
    if_err c.from_residual-in_err-reserve.result
    (λ fault. IsMapRefused c.args.self.now (noting r) fault (need n))
    (λ fault e. refused_notes c.args.self.now (roomy r) c.reserve.new.self fault (need n)
    (search (rules, e)) (ready r (need n) (counted n)) c.in_err-reserve.ensures.err)

pub returns-in_err-reserve-clause-memory : goal.returns-in_err-reserve-clause-memory
returns-in_err-reserve-clause-memory c e =
    let n = (goal.at.returns-in_err-reserve-clause-memory c).After-box_need in
    let r = (goal.at.returns-in_err-reserve-clause-memory c).After-reserve in (
      corners_ok (is_some c.args.self.now.mark) c.args.self.now.max_groups c.box_need.result
          (values_of c.args.self.now) _ _ c.in-Some.low c.in-Some-key_of.high (low n) (high n)
          (order n) (search rules) c.box_need.ensures.exact
          (room_ok _ c.in_ok-make_room.ensures.answer),
      inr (subst (LacksNotes c.args.self.now.mark) (many n)
          (lacks_notes c.args.self.now.mark c.self-2.inside.mark c.volume-count.result
          c.reserve.result (ready r (need n) (counted n)).notes c.in_err-reserve.was
          (λ room. (c.reserve.ensures.enough room).0))),
    )

pub returns-in_err-reserve-clause-reserved : goal.returns-in_err-reserve-clause-reserved
returns-in_err-reserve-clause-reserved c =
    let n = (goal.at.returns-in_err-reserve-clause-reserved c).After-box_need in
    let r = (goal.at.returns-in_err-reserve-clause-reserved c).After-reserve in
    reserved_remarked c.args.self.now (roomy r) c.reserve.new.self (need n)
    (ready r (need n) (counted n)).reserved

pub invariant_of-self : goal.invariant_of-self
invariant_of-self c =
    remarked (roomy (goal.at.invariant_of-self c).After-reserve) c.reserve.new.self
    c.self-2.invariant

pub returns-in_err-reserve-clause-map : goal.returns-in_err-reserve-clause-map
returns-in_err-reserve-clause-map c =
    remarked (roomy (goal.at.returns-in_err-reserve-clause-map c).After-reserve) c.reserve.new.self
    c.self-2.invariant

pub returns-in_err-make_room-clause-mark : goal.returns-in_err-make_room-clause-mark
returns-in_err-make_room-clause-mark c =
    readied_mark c.args.self.now c.make_room.new.self c.box_need.result c.make_room.ensures.readied

pub returns-in_err-make_room-clause-noted : goal.returns-in_err-make_room-clause-noted
returns-in_err-make_room-clause-noted c =
    let n = (goal.at.returns-in_err-make_room-clause-noted c).After-box_need in
    same_few _ c.args.self.now.mark c.make_room.new.self.mark (events n)
    c.make_room.ensures.readied.notes

pub returns-in_err-make_room-clause-memory : goal.returns-in_err-make_room-clause-memory
returns-in_err-make_room-clause-memory c e =
    let n = (goal.at.returns-in_err-make_room-clause-memory c).After-box_need in
    let (room, few) = c.make_room.ensures.memory
    (handed_on _ _ _ c.in_err-make_room.was c.from_residual.ensures.1 ∙ e) in (
      corners_ok (is_some c.args.self.now.mark) c.args.self.now.max_groups c.box_need.result
          (values_of c.args.self.now) _ _ c.in-Some.low c.in-Some-key_of.high (low n) (high n)
          (order n) (search rules) c.box_need.ensures.exact room,
      inl (subst (LacksEntries c.args.self.now) (counted n) few),
    )
