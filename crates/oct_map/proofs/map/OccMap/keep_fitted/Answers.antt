use Rattle.std.proofs.Common.{◌≡◌, ◌+◌, ◌≤◌, Bool, false, Err, Ok, refl, sym, ◌∙◌, subst}
use Rattle.std.proofs.Common.{arith, rules}
use Rattle.std.specs.Prelude.{◌⊎◌, IsSome}
use Rattle.std.proofs.lemmas.Bool.{false≢true}
use Rattle.oct_arena.specs.Entries.{live, spare}
use Rattle.oct_edit.specs.Keep.{keep_events, keep_need}
use Rattle.oct_map.specs.declared.fault.MapFault.TheVariants.{Memory}
use Rattle.oct_map.specs.Answers.{IsAnswerOrMemory}
use Rattle.oct_map.specs.Edits.{IsMapEdited, IsMapRefused, IsReadied}
use Rattle.oct_map.specs.Map.{Map, IsMap}
use Rattle.oct_map.specs.Marks.{KeepsMark}
use Rattle.oct_map.specs.Merges.{IsInGiven, given_events, given_volume}
use Rattle.oct_map.proofs.Corners.{still_stale}
use Rattle.oct_map.proofs.Edits.{edited_map, handed_on, if_err, map_edited, refused_notes}
use Rattle.oct_map.proofs.KeepFits.{keep_cover, still_parted}
use Rattle.oct_map.proofs.Marks.{marked_room, same_few}
use Rattle.oct_map.proofs.Merges.{marked_given}
use Rattle.oct_map.proofs.Rooms.{fits_live}
use Rattle.oct_map.proofs.Views.{map_of}
use Rattle.oct_map.proofs.map.OccMap.keep_fitted.Goals.{After-note_window, After-keep_box}
use Rattle.oct_map.proofs.map.OccMap.keep_fitted.Goals as goal

pub make_room-requires : goal.make_room-requires
make_room-requires c =
    let limit = c.requires.map.limit.1 in
    let room = c.requires.room in
    omega (arith, limit, room)

pub returns-in_err-make_room-clause-answer : goal.returns-in_err-make_room-clause-answer
returns-in_err-make_room-clause-answer c =
    let same : c.make_room.result ≡ c.from_residual.result =
    handed_on _ _ _ c.in_err-make_room.was c.from_residual.ensures.1 in
    subst (λ r. (r ≡ Ok tt) ⊎ (r ≡ Err Memory)) same
    (subst (λ a. IsAnswerOrMemory a c.make_room.result)
    (fits_live c.args.self.now.tree c.args.self.now.max_groups c.args.need
    c.requires.map.formed.linked c.requires.room) c.make_room.ensures.answer)

pub returns-in_err-make_room-clause-noted : goal.returns-in_err-make_room-clause-noted
returns-in_err-make_room-clause-noted c =
    same_few (given_volume c.args.noted) c.args.self.now.mark c.make_room.new.self.mark
    (given_events c.args.noted) c.make_room.ensures.readied.notes

-- the map that making room left
abbrev roomy : After-note_window → Map
roomy c = map_of c.self.inside.tree c.self.inside.is_stale c.self.inside.window
    c.self.inside.limits c.self.inside.mark

-- the same with notes
abbrev noting : After-note_window → Map
noting c = record (roomy c) { mark = c.note_window.new.self }

ready : (c : After-note_window) → IsReadied c.args.self.now (roomy c) c.args.need
ready c =
    subst (λ (m : Map). IsReadied c.args.self.now m c.args.need) (sym c.self.view_is)
    c.make_room.ensures.readied

-- it takes as many groups
needed : (c : After-note_window)
    → keep_need c.self.inside.tree c.args.low c.args.high ≡ c.args.need
needed c =
    still_parted c.args.self.now (roomy c) c.args.low c.args.high c.args.need (ready c)
    c.requires.room
    ∙ sym c.requires.need

pub returns-in_err-note_window-clause-refused : goal.returns-in_err-note_window-clause-refused
returns-in_err-note_window-clause-refused c =
    let r = (goal.at.returns-in_err-note_window-clause-refused c).After-note_window in
    if_err c.from_residual-in_err-note_window.result
    (λ fault. IsMapRefused c.args.self.now (noting r) fault c.args.need)
    (λ fault e. refused_notes c.args.self.now (roomy r) c.note_window.new.self fault c.args.need
    (search (rules, e)) (ready r) c.in_err-note_window.ensures.err)

pub returns-in_err-note_window-clause-mark : goal.returns-in_err-note_window-clause-mark
returns-in_err-note_window-clause-mark c =
    let r = (goal.at.returns-in_err-note_window-clause-mark c).After-note_window in
    marked_room c.args.self.now (roomy r) c.note_window.new.self c.args.need (ready r)
    c.in_err-note_window.ensures.err

pub returns-in_err-note_window-clause-noted : goal.returns-in_err-note_window-clause-noted
returns-in_err-note_window-clause-noted c =
    let r = (goal.at.returns-in_err-note_window-clause-noted c).After-note_window in
    same_few (given_volume c.args.noted) c.args.self.now.mark c.note_window.new.self
    (given_events c.args.noted) (c.in_err-note_window.ensures.err ∙ (ready r).notes)

pub keep_box-requires-clause-room : goal.keep_box-requires-clause-room
keep_box-requires-clause-room c =
    let r = (goal.at.keep_box-requires-clause-room c).After-note_window in
    let room : c.args.need ≤ spare c.self.inside.tree.groups =
    subst (λ (m : Map). c.args.need ≤ spare m.tree.groups) (sym c.self.view_is)
    c.in_ok-make_room.ensures.room in
    subst (λ need. need ≤ spare c.self.inside.tree.groups) (sym (needed r)) room

-- the map that keeping the box leaves
abbrev after : After-keep_box → Bool → Map
after c stale = map_of c.keep_box.new.tree stale c.self.inside.window c.self.inside.limits
    c.note_window.new.self

left : (c : After-keep_box) → keep_need c.self.inside.tree c.args.low c.args.high ≡ c.args.need
    → IsMap (after c c.self.inside.is_stale)
left c is =
    let few : live c.self.inside.tree.groups + c.args.need ≤ c.self.inside.limits.max_groups =
    subst (λ (m : Map). live m.tree.groups + c.args.need ≤ m.max_groups)
    (sym c.self.view_is) c.in_ok-make_room.ensures.few in
    let groups = c.keep_box.ensures.groups in
    still_stale (λ stale. IsMap (after c stale)) c.self.inside.is_stale
    (edited_map (map_of c.self.inside.tree c.self.inside.is_stale c.self.inside.window
    c.self.inside.limits c.self.inside.mark) c.keep_box.new.tree
    (keep_events c.args.low c.args.high) c.args.need false c.note_window.new.self
    c.self.invariant few (omega (arith, groups, is)) c.keep_box.ensures.edited
    (λ _. c.keep_box.ensures.eager))

pub invariant_of-self-2 : goal.invariant_of-self-2
invariant_of-self-2 c =
    left (goal.at.invariant_of-self-2 c).After-keep_box
    (needed (goal.at.invariant_of-self-2 c).After-note_window)

pub returns-clause-map : goal.returns-clause-map
returns-clause-map c =
    left (goal.at.returns-clause-map c).After-keep_box
    (needed (goal.at.returns-clause-map c).After-note_window)

pub returns-clause-edited : goal.returns-clause-edited
returns-clause-edited c =
    let r = (goal.at.returns-clause-edited c).After-note_window in
    let t = (goal.at.returns-clause-edited c).After-keep_box in
    still_stale (λ stale. IsMapEdited c.args.self.now (after t stale)
    (keep_events c.args.low c.args.high) c.args.need false) c.self.inside.is_stale
    (map_edited c.args.self.now (roomy r) c.keep_box.new.tree
    (keep_events c.args.low c.args.high) (keep_events c.args.low c.args.high) c.args.need false
    c.note_window.new.self c.requires.map (ready r) (λ k v. refl) c.keep_box.ensures.edited
    (λ _. c.keep_box.ensures.eager) (λ h. absurd (false≢true h)))

pub returns-clause-mark : goal.returns-clause-mark
returns-clause-mark c =
    let r = (goal.at.returns-clause-mark c).After-note_window in
    let t = (goal.at.returns-clause-mark c).After-keep_box in
    let (between, kept, marked) = c.in_ok-note_window.ensures.noted in
    still_stale (λ stale. KeepsMark c.args.self.now (after t stale)) c.self.inside.is_stale
    (marked_given c.args.self.now (roomy r) c.keep_box.new.tree between c.note_window.new.self
    (IsInGiven c.args.noted) (given_volume c.args.noted) c.args.need (ready r) kept marked
    (λ there. keep_cover (roomy r) c.keep_box.new.tree c.note_window.new.self c.args.low
    c.args.high (IsInGiven c.args.noted) c.keep_box.ensures.edited
    (λ k v some. c.requires.noted there k v
    (subst (λ x. IsSome x) (sym ((ready r).values k v)) some))))
