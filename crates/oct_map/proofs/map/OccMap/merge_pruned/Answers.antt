use Rattle.std.proofs.Common.{◌≡◌, ℕ, ◌+◌, ◌≤◌, Bool, false, Err, Ok, IsOk, inl, inr, sym, ◌∙◌, ap}
use Rattle.std.proofs.Common.{subst, arith, rules}
use Rattle.std.specs.Prelude.{IsSome}
use Rattle.std.proofs.lemmas.Bool.{false≢true}
use Rattle.oct_values.specs.Events.{Events}
use Rattle.oct_arena.specs.Entries.{live, spare}
use Rattle.oct_tree.specs.Tree.{Tree, value_at}
use Rattle.oct_tree.specs.Shape.{IsPruned}
use Rattle.oct_merge.specs.Merged.{merge_event, merge_events}
use Rattle.oct_merge.specs.Need.{merge_need}
use Rattle.oct_map.specs.Map.{Map, IsMap, values_of}
use Rattle.oct_map.specs.Answers.{IsAnswerOrMemory, room_answer}
use Rattle.oct_map.specs.Edits.{IsMapEdited, IsMapRefused, IsReadied, LacksEntries, ReservesFew}
use Rattle.oct_map.specs.Marks.{KeepsMark}
use Rattle.oct_map.specs.Merges.{IsInGiven, given_events, given_volume, more_groups}
use Rattle.oct_map.proofs.Views.{map_of}
use Rattle.oct_map.proofs.Corners.{still_stale}
use Rattle.oct_map.proofs.Edits.{SameEvents, edited_map, map_edited, edited_reserved, if_err}
use Rattle.oct_map.proofs.Edits.{handed_on, refused_room, refused_notes, remarked}
use Rattle.oct_map.proofs.Marks.{few_after, lacks_notes, marked_room, readied_mark}
use Rattle.oct_map.proofs.Marks.{reserved_remarked, room_ok, same_few}
use Rattle.oct_map.proofs.Merges.{marked_merge, merge_known, pruned_more, still_needed}
use Rattle.oct_map.proofs.map.OccMap.merge_pruned.Goals.{After-from, After-merge}
use Rattle.oct_map.proofs.map.OccMap.merge_pruned.Goals.{After-note_window}
use Rattle.oct_map.proofs.map.OccMap.merge_pruned.Goals as goal

-- what was counted is what the values need
abbrev need : After-from → ℕ
need c = more_groups (values_of c.args.self.now) (values_of c.args.other.now)

counted : (c : After-from) → c.from.result ≡ need c
counted c =
    let mine : c.self.inside.tree ≡ c.args.self.now.tree =
    ap (λ (m : Map). m.tree) c.self.view_is in
    let theirs : c.other.inside.tree ≡ c.args.other.now.tree =
    ap (λ (m : Map). m.tree) c.other.view_is in
    let is : IsMap c.args.self.now = subst IsMap c.self.view_is c.self.invariant in
    let is_too : IsMap c.args.other.now = subst IsMap c.other.view_is c.other.invariant in
    c.from.ensures ∙ c.merge_need-need.ensures.exact
    ∙ ap (λ (t : Tree). merge_need t c.other.inside.tree) mine
    ∙ ap (λ (t : Tree). merge_need c.args.self.now.tree t) theirs
    ∙ pruned_more c.args.self.now.tree c.args.other.now.tree is.formed.linked c.requires.pruned
    is_too.formed.linked c.requires.other

pub returns-in_err-make_room-clause-answer : goal.returns-in_err-make_room-clause-answer
returns-in_err-make_room-clause-answer c =
    let n = (goal.at.returns-in_err-make_room-clause-answer c).After-from in
    let same : c.make_room.result ≡ c.from_residual.result =
    handed_on _ _ _ c.in_err-make_room.was c.from_residual.ensures.1 in
    subst (λ more. IsAnswerOrMemory
    (room_answer c.args.self.now.max_groups (values_of c.args.self.now) more)
    c.from_residual.result) (counted n)
    (subst (IsAnswerOrMemory
    (room_answer c.args.self.now.max_groups (values_of c.args.self.now) c.from.result)) same
    c.make_room.ensures.answer)

pub returns-in_err-make_room-clause-memory : goal.returns-in_err-make_room-clause-memory
returns-in_err-make_room-clause-memory c e =
    let n = (goal.at.returns-in_err-make_room-clause-memory c).After-from in
    let (room, few) = c.make_room.ensures.memory
    (handed_on _ _ _ c.in_err-make_room.was c.from_residual.ensures.1 ∙ e) in (
      subst (λ more. IsOk
          (room_answer c.args.self.now.max_groups (values_of c.args.self.now) more)) (counted n)
          room,
      inl (subst (LacksEntries c.args.self.now) (counted n) few),
    )

pub returns-in_err-make_room-clause-refused : goal.returns-in_err-make_room-clause-refused
returns-in_err-make_room-clause-refused c =
    let n = (goal.at.returns-in_err-make_room-clause-refused c).After-from in
    if_err c.from_residual.result
    (λ fault. IsMapRefused c.args.self.now c.make_room.new.self fault (need n)) (λ fault e.
    let is : c.make_room.result ≡ Err fault =
    handed_on _ _ _ c.in_err-make_room.was c.from_residual.ensures.1 ∙ e in
    subst (IsMapRefused c.args.self.now c.make_room.new.self fault) (counted n)
    (refused_room c.args.self.now c.make_room.new.self fault c.from.result c.make_room.result is
    c.make_room.ensures.readied c.make_room.ensures.full))

pub returns-in_err-make_room-clause-reserved : goal.returns-in_err-make_room-clause-reserved
returns-in_err-make_room-clause-reserved c =
    subst (ReservesFew c.args.self.now c.make_room.new.self)
    (counted (goal.at.returns-in_err-make_room-clause-reserved c).After-from)
    c.make_room.ensures.readied.reserved

-- the map that making room left, and the other one
abbrev roomy : After-note_window → Map
roomy c = map_of c.self-2.inside.tree c.self-2.inside.is_stale c.self-2.inside.window
    c.self-2.inside.limits c.self-2.inside.mark

abbrev theirs : After-note_window → Map
theirs c = map_of c.other.inside.tree c.other.inside.is_stale c.other.inside.window
    c.other.inside.limits c.other.inside.mark

-- the same with notes
abbrev noting : After-note_window → Map
noting c = record (roomy c) { mark = c.note_window.new.self }

ready : (c : After-note_window) → IsReadied c.args.self.now (roomy c) c.from.result
ready c =
    subst (λ (m : Map). IsReadied c.args.self.now m c.from.result) (sym c.self-2.view_is)
    c.make_room.ensures.readied

needed : (c : After-note_window)
    → merge_need c.self-2.inside.tree c.other.inside.tree
    ≡ more_groups (values_of c.args.self.now) (values_of c.args.other.now)
needed c =
    let pruned : IsPruned c.other.inside.tree =
    subst (λ (m : Map). IsPruned m.tree) (sym c.other.view_is) c.requires.other in
    still_needed c.args.self.now (roomy c) (theirs c) c.from.result c.self-2.invariant
    c.other.invariant (ready c) c.requires.pruned pruned
    ∙ ap (λ (m : Map). more_groups (values_of c.args.self.now) (values_of m)) c.other.view_is

pub merge-requires-clause-room : goal.merge-requires-clause-room
merge-requires-clause-room c =
    let n = (goal.at.merge-requires-clause-room c).After-from in
    let r = (goal.at.merge-requires-clause-room c).After-note_window in
    let room : c.from.result ≤ spare c.self-2.inside.tree.groups =
    subst (λ (m : Map). c.from.result ≤ spare m.tree.groups) (sym c.self-2.view_is)
    c.in_ok-make_room.ensures.room in
    subst (λ more. more ≤ spare c.self-2.inside.tree.groups) (counted n ∙ sym (needed r)) room

-- the map that the merge leaves
abbrev after : After-merge → Bool → Map
after c stale = map_of c.merge.new.into stale c.self-2.inside.window c.self-2.inside.limits
    c.note_window.new.self

-- the events, which are those of the values before
abbrev given : After-note_window → Events
given c = merge_events c.args.rule (value_at c.self-2.inside.tree) (value_at c.other.inside.tree)

abbrev events : After-note_window → Events
events c = merge_events c.args.rule (values_of c.args.self.now) (values_of c.args.other.now)

same : (c : After-note_window) → SameEvents (given c) (events c)
same c k v =
    ap (λ a. merge_event c.args.rule a (value_at c.other.inside.tree k))
    (sym ((ready c).values k v))
    ∙ ap (λ (m : Map). merge_event c.args.rule (values_of c.args.self.now k) (values_of m k))
    c.other.view_is

left : (c : After-merge) (r : After-note_window) → c.from.result
    ≡ merge_need c.self-2.inside.tree c.other.inside.tree
    → IsMap (after c c.self-2.inside.is_stale)
left c r is =
    let few : live c.self-2.inside.tree.groups + c.from.result
    ≤ c.self-2.inside.limits.max_groups =
    subst (λ (m : Map). live m.tree.groups + c.from.result ≤ m.max_groups)
    (sym c.self-2.view_is) c.in_ok-make_room.ensures.few in
    let groups = c.merge.ensures.groups in
    still_stale (λ stale. IsMap (after c stale)) c.self-2.inside.is_stale
    (edited_map (map_of c.self-2.inside.tree c.self-2.inside.is_stale c.self-2.inside.window
    c.self-2.inside.limits c.self-2.inside.mark) c.merge.new.into
    (merge_events c.args.rule (value_at c.self-2.inside.tree) (value_at c.other.inside.tree))
    c.from.result false c.note_window.new.self
    c.self-2.invariant few (omega (arith, groups, is)) c.merge.ensures.edited
    (λ _. c.merge.ensures.eager))

pub invariant_of-self-2 : goal.invariant_of-self-2
invariant_of-self-2 c =
    let n = (goal.at.invariant_of-self-2 c).After-from in
    let r = (goal.at.invariant_of-self-2 c).After-note_window in
    let t = (goal.at.invariant_of-self-2 c).After-merge in
    left t r (counted n ∙ sym (needed r))

pub returns-clause-map : goal.returns-clause-map
returns-clause-map c =
    let n = (goal.at.returns-clause-map c).After-from in
    let r = (goal.at.returns-clause-map c).After-note_window in
    let t = (goal.at.returns-clause-map c).After-merge in
    left t r (counted n ∙ sym (needed r))

pub returns-clause-answer : goal.returns-clause-answer
returns-clause-answer c =
    subst (λ more. IsAnswerOrMemory
    (room_answer c.args.self.now.max_groups (values_of c.args.self.now) more) (Ok tt))
    (counted (goal.at.returns-clause-answer c).After-from) c.in_ok-make_room.ensures.answer

pub returns-clause-edited : goal.returns-clause-edited
returns-clause-edited c =
    let n = (goal.at.returns-clause-edited c).After-from in
    let r = (goal.at.returns-clause-edited c).After-note_window in
    let t = (goal.at.returns-clause-edited c).After-merge in
    still_stale (λ stale. IsMapEdited c.args.self.now (after t stale) (events r) (need n) false)
    c.self-2.inside.is_stale
    (map_edited c.args.self.now (roomy r) c.merge.new.into (given r) (events r) (need n) false
    c.note_window.new.self (subst IsMap c.self.view_is c.self.invariant)
    (subst (IsReadied c.args.self.now (roomy r)) (counted n) (ready r)) (same r)
    c.merge.ensures.edited (λ _. c.merge.ensures.eager) (λ h. absurd (false≢true h)))

pub returns-clause-reserved : goal.returns-clause-reserved
returns-clause-reserved c =
    let n = (goal.at.returns-clause-reserved c).After-from in
    let r = (goal.at.returns-clause-reserved c).After-note_window in
    let t = (goal.at.returns-clause-reserved c).After-merge in
    still_stale (λ stale. ReservesFew c.args.self.now (after t stale) (need n))
    c.self-2.inside.is_stale
    (edited_reserved c.args.self.now (roomy r) c.merge.new.into (need n) false
    c.note_window.new.self c.merge.ensures.room
    (subst (ReservesFew c.args.self.now (roomy r)) (counted n) (ready r).reserved))

pub returns-clause-pruned : goal.returns-clause-pruned
returns-clause-pruned c =
    let r = (goal.at.returns-clause-pruned c).After-note_window in
    c.merge.ensures.eager.pruned ((ready r).pruned c.requires.pruned)

pub returns-clause-mark : goal.returns-clause-mark
returns-clause-mark c =
    let n = (goal.at.returns-clause-mark c).After-from in
    let r = (goal.at.returns-clause-mark c).After-note_window in
    let t = (goal.at.returns-clause-mark c).After-merge in
    let (between, kept, marked) = c.in_ok-note_window.ensures.noted in
    still_stale (λ stale. KeepsMark c.args.self.now (after t stale)) c.self-2.inside.is_stale
    (marked_merge c.args.self.now (roomy r) c.merge.new.into between c.note_window.new.self
    (given r) (IsInGiven c.args.noted) (given_volume c.args.noted) c.from.result (ready r) kept
    marked c.merge.ensures.edited
    (λ there k v some. c.requires.noted there k v
    (merge_known c.args.rule (values_of c.args.self.now k) (values_of c.args.other.now k)
    (subst IsSome (same r k v) some))))

pub returns-in_err-note_window-clause-answer : goal.returns-in_err-note_window-clause-answer
returns-in_err-note_window-clause-answer c = inr (search rules)

pub returns-in_err-note_window-clause-memory : goal.returns-in_err-note_window-clause-memory
returns-in_err-note_window-clause-memory c e =
    let n = (goal.at.returns-in_err-note_window-clause-memory c).After-from in
    let r = (goal.at.returns-in_err-note_window-clause-memory c).After-note_window in (
      subst (λ more. IsOk
          (room_answer c.args.self.now.max_groups (values_of c.args.self.now) more)) (counted n)
          (room_ok _ c.in_ok-make_room.ensures.answer),
      inr (lacks_notes c.args.self.now.mark c.self-2.inside.mark (given_volume c.args.noted)
          c.note_window.result (ready r).notes c.in_err-note_window.was
          c.note_window.ensures.enough),
    )

pub returns-in_err-note_window-clause-refused : goal.returns-in_err-note_window-clause-refused
returns-in_err-note_window-clause-refused c =
    let n = (goal.at.returns-in_err-note_window-clause-refused c).After-from in
    let r = (goal.at.returns-in_err-note_window-clause-refused c).After-note_window in
    if_err c.from_residual-in_err-note_window.result
    (λ fault. IsMapRefused c.args.self.now (noting r) fault (need n))
    (λ fault e. subst (IsMapRefused c.args.self.now (noting r) fault) (counted n)
    (refused_notes c.args.self.now (roomy r) c.note_window.new.self fault c.from.result
    (search (rules, e)) (ready r) c.in_err-note_window.ensures.err))

pub returns-in_err-note_window-clause-reserved : goal.returns-in_err-note_window-clause-reserved
returns-in_err-note_window-clause-reserved c =
    let n = (goal.at.returns-in_err-note_window-clause-reserved c).After-from in
    let r = (goal.at.returns-in_err-note_window-clause-reserved c).After-note_window in
    reserved_remarked c.args.self.now (roomy r) c.note_window.new.self (need n)
    (subst (ReservesFew c.args.self.now (roomy r)) (counted n) (ready r).reserved)

pub returns-in_err-note_window-clause-pruned : goal.returns-in_err-note_window-clause-pruned
returns-in_err-note_window-clause-pruned c =
    let r = (goal.at.returns-in_err-note_window-clause-pruned c).After-note_window in
    (ready r).pruned c.requires.pruned

pub returns-in_err-note_window-clause-mark : goal.returns-in_err-note_window-clause-mark
returns-in_err-note_window-clause-mark c =
    let r = (goal.at.returns-in_err-note_window-clause-mark c).After-note_window in
    marked_room c.args.self.now (roomy r) c.note_window.new.self c.from.result (ready r)
    c.in_err-note_window.ensures.err

pub invariant_of-self : goal.invariant_of-self
invariant_of-self c =
    remarked (roomy (goal.at.invariant_of-self c).After-note_window) c.note_window.new.self
    c.self-2.invariant

pub returns-in_err-note_window-clause-map : goal.returns-in_err-note_window-clause-map
returns-in_err-note_window-clause-map c =
    remarked (roomy (goal.at.returns-in_err-note_window-clause-map c).After-note_window)
    c.note_window.new.self c.self-2.invariant

pub returns-in_err-make_room-clause-mark : goal.returns-in_err-make_room-clause-mark
returns-in_err-make_room-clause-mark c =
    readied_mark c.args.self.now c.make_room.new.self c.from.result c.make_room.ensures.readied

pub returns-clause-noted : goal.returns-clause-noted
returns-clause-noted c =
    let r = (goal.at.returns-clause-noted c).After-note_window in
    few_after (given_volume c.args.noted) c.args.self.now.mark c.self-2.inside.mark
    c.note_window.new.self (given_events c.args.noted) (ready r).notes
    c.in_ok-note_window.ensures.few

pub returns-in_err-note_window-clause-noted : goal.returns-in_err-note_window-clause-noted
returns-in_err-note_window-clause-noted c =
    let r = (goal.at.returns-in_err-note_window-clause-noted c).After-note_window in
    same_few (given_volume c.args.noted) c.args.self.now.mark c.note_window.new.self
    (given_events c.args.noted) (c.in_err-note_window.ensures.err ∙ (ready r).notes)

pub returns-in_err-make_room-clause-noted : goal.returns-in_err-make_room-clause-noted
returns-in_err-make_room-clause-noted c =
    same_few (given_volume c.args.noted) c.args.self.now.mark c.make_room.new.self.mark
    (given_events c.args.noted) c.make_room.ensures.readied.notes
