use Rattle.std.proofs.Common.{◌≡◌, ◌+◌, ◌||◌, ◌≤◌, length, Err, refl, sym, subst, ap, ◌∙◌, arith}
use Rattle.std.proofs.Common.{inl, inr, rules, ℤ, SFits, w32, to_z, of_z, to_z-of_z}
use Rattle.oct_odds.specs.declared.event.Event.{Event}
use Rattle.oct_odds.specs.declared.event.Event.TheVariants.{Add}
use Rattle.oct_values.specs.Events.{Events}
use Rattle.oct_arena.specs.Entries.{live, spare}
use Rattle.std.specs.Prelude.{◌⊎◌, Contains}
use Rattle.std.specs.List.{All}
use Rattle.oct_brick.specs.Bricks.{IsBrick, AreAscending}
use Rattle.oct_brick.specs.Voxels.{hit_voxels, freed_voxels}
use Rattle.oct_edit.specs.Listed.{ListedUpdate, update_of}
use Rattle.oct_scan.specs.Update.{listed}
use Rattle.oct_edit.specs.Scan.{events_of}
use Rattle.oct_scan.specs.Beam.{sighting_of}
use Rattle.oct_scan.proofs.Taking.{need_point}
use Rattle.oct_map.specs.Map.{Map, IsMap}
use Rattle.oct_map.specs.Edits.{outcome_in, scan_need, IsMapRefused, ReservesFew, IsReadied}
use Rattle.oct_map.proofs.Rooms.{lacks_need}
use Rattle.oct_map.proofs.Views.{map_of}
use Rattle.oct_scan.specs.Outcome.{hit_count, free_count}
use Rattle.oct_map.specs.Notes.{HasRoomForNotes, NotesFew, IsRoomMade}
use Rattle.oct_map.specs.Marks.{classes_in}
use Rattle.oct_map.proofs.Edits.{handed_as, map_edited, edited_map, edited_reserved, if_err}
use Rattle.oct_map.proofs.Edits.{refused_room, refused_notes, remarked}
use Rattle.oct_map.proofs.Marks.{marked_edit, marked_room, readied_mark, noted_few}
use Rattle.oct_map.proofs.Marks.{same_few, few_after, scan_asked, asked_scan, reserved_remarked}
use Rattle.oct_map.proofs.Marks.{lacks_notes, lacks_some, room_ok}
use Rattle.oct_map.proofs.Scans.{IsPrepared, accepted_in, prepared, room_for, made_few, event_back}
use Rattle.oct_map.proofs.Scans.{listed_point, same_need_in, ran_out}
use Rattle.oct_map.proofs.map.OccMap.scan.Goals.{After-from, After-reserve}
use Rattle.oct_map.proofs.map.OccMap.scan.Goals as goal

-- what a number adds that is handed on
abbrev added : ℤ → Event
added n = Add (to_z w32 (of_z w32 n))

added_as : (n : ℤ) (event : Event) → SFits w32 n → Add n ≡ event → added n ≡ event
added_as n event fits is = ap Add (to_z-of_z fits) ∙ is

-- the update, and its events
abbrev given : goal.After-drop-set-inside-2 → ListedUpdate
given c = update_of c.bricks-bricks.result.now (added c.odds_of_scan-hit.result.0)
    (added c.odds_of_scan-hit.result.1)

abbrev update : goal.After-drop-set-inside-2 → Events
update c = events_of (given c)

-- they are the scan's outcome in the map, and the need that was counted is that of the scan there
ready : (c : goal.After-drop-set-inside-2)
    → IsPrepared c.args.self.now (sighting_of c.args.scan.now)
    (hit_voxels c.bricks-bricks.result.now) (freed_voxels c.bricks-bricks.result.now)
    (added c.odds_of_scan-hit.result.0) (added c.odds_of_scan-hit.result.1) c.from.result
ready c =
    prepared c.args.self.now _ (sighting_of c.args.scan.now) (listed c.in_ok-set.set)
    (hit_voxels c.bricks-bricks.result.now) (freed_voxels c.bricks-bricks.result.now) c.res.result
    c.window-window.result (added c.odds_of_scan-hit.result.0) (added c.odds_of_scan-hit.result.1) _
    c.from.result
    c.self.view_is c.res.ensures (search rules) c.odds.ensures
    (added_as c.odds_of_scan-hit.result.0 _ (search rules) c.odds_of_scan-hit.ensures.hit)
    (added_as c.odds_of_scan-hit.result.1 _ (search rules) c.odds_of_scan-hit.ensures.miss)
    (search rules) (search rules) (search rules)
    c.in_ok-set.ensures.outcome.events c.in_ok-set.ensures.outcome.needed

-- the map that making room left
abbrev roomy : goal.After-drop-set-inside-2 → Map
roomy c = map_of c.self-2.inside.tree c.self-2.inside.is_stale c.self-2.inside.window
    c.self-2.inside.limits c.self-2.inside.mark

made_ready : (c : goal.After-drop-set-inside-2)
    → IsReadied c.args.self.now (roomy c) (scan_need c.args.self.now (sighting_of c.args.scan.now))
made_ready c = subst (IsReadied c.args.self.now (roomy c)) (ready c).counted
    (subst (λ (m : Map). IsReadied c.args.self.now m c.from.result) (sym c.self-2.view_is)
    c.make_room.ensures.readied)

-- the map that the update leaves
scanned : (c : goal.After-drop-set-inside-2)
    → IsMap (record {
      tree = c.touch_all.new.tree;
      is_stale = c.self-2.inside.is_stale
          || c.args.lazy;
      update_box = c.self-2.inside.window;
      max_groups =
          c.self-2.inside.limits.max_groups;
      max_cells = c.self-2.inside.limits.max_cells;
      mark =
          c.note_bricks.new.self;
    })
scanned c =
    let few : live c.self-2.inside.tree.groups + c.from.result ≤ c.self-2.inside.limits.max_groups =
    subst (λ (m : Map). live m.tree.groups + c.from.result ≤ m.max_groups) (sym c.self-2.view_is)
    c.in_ok-make_room.ensures.few in
    let made = made_few (update c) (outcome_in c.args.self.now (sighting_of c.args.scan.now))
    c.from.result (live c.self-2.inside.tree.groups) (live c.touch_all.new.tree.groups)
    (ready c).same (ready c).counted c.touch_all.ensures.groups in
    edited_map (map_of c.self-2.inside.tree c.self-2.inside.is_stale c.self-2.inside.window
    c.self-2.inside.limits c.self-2.inside.mark) c.touch_all.new.tree (update c) c.from.result
    c.args.lazy c.note_bricks.new.self c.self-2.invariant few made
    c.touch_all.ensures.edited c.touch_all.ensures.eager

-- the need that was counted is that of the scan in the map
counted : (c : After-from)
    → c.from.result ≡ scan_need c.args.self.now (sighting_of c.args.scan.now)
counted c = (let need : c.from.result ≡ c.in_ok-set.set.need = search rules in
    need ∙ same_need_in c.args.self.now (sighting_of c.args.scan.now) c.in_ok-set.set.need
    c.res.result c.window-window.result
    (c.res.ensures ∙ ap (λ (m : Map). m.tree.res) c.self.view_is) (search rules)
    c.in_ok-set.ensures.outcome.needed)

-- the map that making room left, and the same with room for notes
abbrev room_made : After-reserve → Map
room_made c = map_of c.self-2.inside.tree c.self-2.inside.is_stale c.self-2.inside.window
    c.self-2.inside.limits c.self-2.inside.mark

abbrev noting : After-reserve → Map
noting c = record (room_made c) { mark = c.reserve.new.self }

readied : (c : After-reserve) → IsReadied c.args.self.now (room_made c) c.from.result
readied c =
    subst (λ (m : Map). IsReadied c.args.self.now m c.from.result) (sym c.self-2.view_is)
    c.make_room.ensures.readied

-- as many voxels are hit and freed as the scan hits and frees in the map
tallied : (c : After-reserve) → c.hit_count.result + c.free_count.result
    ≡ hit_count c.args.self.now.tree.res c.args.self.now.update_box (sighting_of c.args.scan.now)
    + free_count c.args.self.now.tree.res c.args.self.now.update_box (sighting_of c.args.scan.now)
tallied c =
    let edge : c.res.result ≡ c.args.self.now.tree.res = c.res.ensures
    ∙ ap (λ (m : Map). m.tree.res) c.self.view_is in
    let box : c.window-window.result ≡ c.args.self.now.update_box = search rules in
    let hit : c.hit_count.result
    ≡ hit_count c.args.self.now.tree.res c.args.self.now.update_box (sighting_of c.args.scan.now) =
    c.hit_count.ensures ∙ c.in_ok-set.ensures.made.hits_counted
    ∙ c.in_ok-set.ensures.outcome.hits_counted
    ∙ ap (λ r. hit_count r c.window-window.result (sighting_of c.args.scan.now)) edge
    ∙ ap (λ w. hit_count c.args.self.now.tree.res w (sighting_of c.args.scan.now)) box in
    let free : c.free_count.result
    ≡ free_count c.args.self.now.tree.res c.args.self.now.update_box (sighting_of c.args.scan.now) =
    c.free_count.ensures ∙ c.in_ok-set.ensures.made.frees_counted
    ∙ c.in_ok-set.ensures.outcome.frees_counted
    ∙ ap (λ r. free_count r c.window-window.result (sighting_of c.args.scan.now)) edge
    ∙ ap (λ w. free_count c.args.self.now.tree.res w (sighting_of c.args.scan.now)) box in
    omega (arith, hit, free)

pub returns-in_err-make_room-clause-refused : goal.returns-in_err-make_room-clause-refused
returns-in_err-make_room-clause-refused c =
    if_err c.from_residual-in_err-make_room.result
    (λ fault. IsMapRefused c.args.self.now c.make_room.new.self fault
    (scan_need c.args.self.now (sighting_of c.args.scan.now))) (λ fault e.
    let is : c.make_room.result ≡ Err fault = search (rules, e) in
    subst (IsMapRefused c.args.self.now c.make_room.new.self fault)
    (counted (goal.at.returns-in_err-make_room-clause-refused c).After-from)
    (refused_room c.args.self.now c.make_room.new.self fault c.from.result c.make_room.result is
    c.make_room.ensures.readied c.make_room.ensures.full))

pub returns-in_err-make_room-clause-reserved : goal.returns-in_err-make_room-clause-reserved
returns-in_err-make_room-clause-reserved c =
    subst (ReservesFew c.args.self.now c.make_room.new.self)
    (counted (goal.at.returns-in_err-make_room-clause-reserved c).After-from)
    c.make_room.ensures.readied.reserved

pub touch_all-requires-clause-bricks : goal.touch_all-requires-clause-bricks
touch_all-requires-clause-bricks c =
    subst (All IsBrick) (sym c.bricks-bricks.ensures) c.in_ok-set.ensures.made.bricks

pub touch_all-requires-clause-ascend : goal.touch_all-requires-clause-ascend
touch_all-requires-clause-ascend c =
    subst AreAscending (sym c.bricks-bricks.ensures) c.in_ok-set.ensures.made.ascend

pub touch_all-requires-clause-room : goal.touch_all-requires-clause-room
touch_all-requires-clause-room c =
    let ready = prepared c.args.self.now _ (sighting_of c.args.scan.now) (listed c.in_ok-set.set)
    (hit_voxels c.bricks-bricks.result.now) (freed_voxels c.bricks-bricks.result.now) c.res.result
    c.window-window.result (added c.odds_of_scan-hit.result.0) (added c.odds_of_scan-hit.result.1) _
    c.from.result
    c.self.view_is c.res.ensures (search rules) c.odds.ensures
    (added_as c.odds_of_scan-hit.result.0 _ (search rules) c.odds_of_scan-hit.ensures.hit)
    (added_as c.odds_of_scan-hit.result.1 _ (search rules) c.odds_of_scan-hit.ensures.miss)
    (search rules) (search rules) (search rules)
    c.in_ok-set.ensures.outcome.events c.in_ok-set.ensures.outcome.needed in
    let room : c.from.result ≤ spare c.self-2.inside.tree.groups =
    subst (λ (m : Map). c.from.result ≤ spare m.tree.groups) (sym c.self-2.view_is)
    c.in_ok-make_room.ensures.room in
    room_for _ (outcome_in c.args.self.now (sighting_of c.args.scan.now)) c.from.result
    (spare c.self-2.inside.tree.groups) ready.same ready.counted room

pub invariant_of-self-2 : goal.invariant_of-self-2
invariant_of-self-2 c =
    scanned c

pub returns-clause-map : goal.returns-clause-map
returns-clause-map c =
    scanned c

pub returns-clause-edited : goal.returns-clause-edited
returns-clause-edited c =
    let is : IsMap c.args.self.now = subst IsMap c.self.view_is c.self.invariant in
    map_edited c.args.self.now (roomy c) c.touch_all.new.tree (update c)
    (outcome_in c.args.self.now (sighting_of c.args.scan.now))
    (scan_need c.args.self.now (sighting_of c.args.scan.now)) c.args.lazy c.note_bricks.new.self is
    (made_ready c) (ready c).same c.touch_all.ensures.edited c.touch_all.ensures.eager
    c.touch_all.ensures.lazily

pub returns-clause-reserved : goal.returns-clause-reserved
returns-clause-reserved c =
    (let h = made_ready c in
    edited_reserved c.args.self.now (roomy c) c.touch_all.new.tree
    (scan_need c.args.self.now (sighting_of c.args.scan.now)) c.args.lazy c.note_bricks.new.self
    c.touch_all.ensures.room h.reserved)

pub returns-clause-path : goal.returns-clause-path
returns-clause-path c eager k v event =
    c.touch_all.ensures.path eager k v
    (event_back (update c) (outcome_in c.args.self.now (sighting_of c.args.scan.now)) (ready c).same
    k v event)

pub returns-clause-mark : goal.returns-clause-mark
returns-clause-mark c =
    marked_edit c.args.self.now (roomy c) c.touch_all.new.tree c.reserve.new.self
    c.note_bricks.new.self (update c)
    (λ q. Contains (hit_voxels c.bricks-bricks.result.now) q
    ⊎ Contains (freed_voxels c.bricks-bricks.result.now) q)
    (length (hit_voxels c.bricks-bricks.result.now)
    + length (freed_voxels c.bricks-bricks.result.now))
    (scan_need c.args.self.now (sighting_of c.args.scan.now)) c.args.lazy
    (made_ready c) c.reserve.ensures.kept c.note_bricks.ensures c.touch_all.ensures.edited
    (λ q v some. scan_asked (given c) q some)

pub returns-clause-noted : goal.returns-clause-noted
returns-clause-noted c =
    let h = made_ready c in
    let edge : c.res.result ≡ c.args.self.now.tree.res = c.res.ensures
    ∙ ap (λ (m : Map). m.tree.res) c.self.view_is in
    let box : c.window-window.result ≡ c.args.self.now.update_box = search rules in
    let hits : c.hit_count.result ≡ length (hit_voxels c.bricks-bricks.result.now) =
    c.hit_count.ensures ∙ c.in_ok-set.ensures.made.hits_counted
    ∙ ap (λ b. length (hit_voxels b)) (sym c.bricks-bricks.ensures) in
    let frees : c.free_count.result ≡ length (freed_voxels c.bricks-bricks.result.now) =
    c.free_count.ensures ∙ c.in_ok-set.ensures.made.frees_counted
    ∙ ap (λ b. length (freed_voxels b)) (sym c.bricks-bricks.ensures) in
    let hit : c.hit_count.result
    ≡ hit_count c.args.self.now.tree.res c.args.self.now.update_box (sighting_of c.args.scan.now) =
    c.hit_count.ensures ∙ c.in_ok-set.ensures.made.hits_counted
    ∙ c.in_ok-set.ensures.outcome.hits_counted
    ∙ ap (λ r. hit_count r c.window-window.result (sighting_of c.args.scan.now)) edge
    ∙ ap (λ w. hit_count c.args.self.now.tree.res w (sighting_of c.args.scan.now)) box in
    let free : c.free_count.result
    ≡ free_count c.args.self.now.tree.res c.args.self.now.update_box (sighting_of c.args.scan.now) =
    c.free_count.ensures ∙ c.in_ok-set.ensures.made.frees_counted
    ∙ c.in_ok-set.ensures.outcome.frees_counted
    ∙ ap (λ r. free_count r c.window-window.result (sighting_of c.args.scan.now)) edge
    ∙ ap (λ w. free_count c.args.self.now.tree.res w (sighting_of c.args.scan.now)) box in
    let many : (length (hit_voxels c.bricks-bricks.result.now)
    + length (freed_voxels c.bricks-bricks.result.now))
    ≡ (hit_count c.args.self.now.tree.res c.args.self.now.update_box (sighting_of c.args.scan.now)
    + free_count c.args.self.now.tree.res c.args.self.now.update_box
    (sighting_of c.args.scan.now)) = omega (arith, hits, frees, hit, free) in
    let counts : c.hit_count.result + c.free_count.result
    ≡ (length (hit_voxels c.bricks-bricks.result.now)
    + length (freed_voxels c.bricks-bricks.result.now)) = omega (arith, hits, frees) in
    subst (NotesFew c.args.self.now.mark c.note_bricks.new.self
    (outcome_in c.args.self.now (sighting_of c.args.scan.now))) many
    (few_after (length (hit_voxels c.bricks-bricks.result.now)
    + length (freed_voxels c.bricks-bricks.result.now)) c.args.self.now.mark c.self-2.inside.mark
    c.note_bricks.new.self (outcome_in c.args.self.now (sighting_of c.args.scan.now)) h.notes
    (noted_few (classes_in (roomy c))
    (λ q. Contains (hit_voxels c.bricks-bricks.result.now) q
    ⊎ Contains (freed_voxels c.bricks-bricks.result.now) q)
    (length (hit_voxels c.bricks-bricks.result.now)
    + length (freed_voxels c.bricks-bricks.result.now)) c.self-2.inside.mark c.reserve.new.self
    c.note_bricks.new.self (outcome_in c.args.self.now (sighting_of c.args.scan.now))
    c.reserve.ensures.kept
    (subst (λ n. (c.reserve.new.self ≡ c.self-2.inside.mark)
    ⊎ IsRoomMade c.self-2.inside.mark c.reserve.new.self n 0) counts c.reserve.ensures.made)
    (subst (λ n. HasRoomForNotes c.self-2.inside.mark n → c.reserve.new.self ≡ c.self-2.inside.mark)
    counts (λ there. (c.reserve.ensures.enough there).1)) c.note_bricks.ensures
    (λ q v asked. asked_scan (given c) (outcome_in c.args.self.now (sighting_of c.args.scan.now)) q
    (ready c).same v asked)))

pub returns-in_err-reserve-clause-mark : goal.returns-in_err-reserve-clause-mark
returns-in_err-reserve-clause-mark c =
    let r = (goal.at.returns-in_err-reserve-clause-mark c).After-reserve in
    marked_room c.args.self.now (room_made r) c.reserve.new.self c.from.result (readied r)
    c.in_err-reserve.ensures.err

pub returns-in_err-reserve-clause-noted : goal.returns-in_err-reserve-clause-noted
returns-in_err-reserve-clause-noted c =
    same_few _ c.args.self.now.mark c.reserve.new.self
    (outcome_in c.args.self.now (sighting_of c.args.scan.now))
    (c.in_err-reserve.ensures.err ∙ ap (λ (m : Map). m.mark) c.self-2.view_is
    ∙ c.make_room.ensures.readied.notes)

pub returns-in_err-reserve-clause-refused : goal.returns-in_err-reserve-clause-refused
returns-in_err-reserve-clause-refused c =
    let need = counted (goal.at.returns-in_err-reserve-clause-refused c).After-from in
    let r = (goal.at.returns-in_err-reserve-clause-refused c).After-reserve in
    if_err c.from_residual-in_err-reserve.result
    (λ fault. IsMapRefused c.args.self.now (noting r) fault
    (scan_need c.args.self.now (sighting_of c.args.scan.now)))
    (λ fault e. subst (IsMapRefused c.args.self.now (noting r) fault) need
    (refused_notes c.args.self.now (room_made r) c.reserve.new.self fault c.from.result
    (search (rules, e)) (readied r) c.in_err-reserve.ensures.err))

pub returns-in_err-reserve-clause-reserved : goal.returns-in_err-reserve-clause-reserved
returns-in_err-reserve-clause-reserved c =
    let need = counted (goal.at.returns-in_err-reserve-clause-reserved c).After-from in
    let r = (goal.at.returns-in_err-reserve-clause-reserved c).After-reserve in
    subst (ReservesFew c.args.self.now (noting r)) need
    (reserved_remarked c.args.self.now (room_made r) c.reserve.new.self c.from.result
    (readied r).reserved)

pub invariant_of-self : goal.invariant_of-self
invariant_of-self c =
    remarked (map_of c.self-2.inside.tree c.self-2.inside.is_stale c.self-2.inside.window
    c.self-2.inside.limits c.self-2.inside.mark) c.reserve.new.self c.self-2.invariant

pub returns-in_err-reserve-clause-map : goal.returns-in_err-reserve-clause-map
returns-in_err-reserve-clause-map c =
    remarked (map_of c.self-2.inside.tree c.self-2.inside.is_stale c.self-2.inside.window
    c.self-2.inside.limits c.self-2.inside.mark) c.reserve.new.self c.self-2.invariant

pub returns-in_err-make_room-clause-mark : goal.returns-in_err-make_room-clause-mark
returns-in_err-make_room-clause-mark c =
    readied_mark c.args.self.now c.make_room.new.self c.from.result c.make_room.ensures.readied

pub returns-in_err-make_room-clause-noted : goal.returns-in_err-make_room-clause-noted
returns-in_err-make_room-clause-noted c =
    same_few _ c.args.self.now.mark c.make_room.new.self.mark
    (outcome_in c.args.self.now (sighting_of c.args.scan.now)) c.make_room.ensures.readied.notes

pub note_bricks-requires-clause-bricks : goal.note_bricks-requires-clause-bricks
note_bricks-requires-clause-bricks c =
    subst (All IsBrick) (sym c.bricks-bricks.ensures) c.in_ok-set.ensures.made.bricks

pub note_bricks-requires-clause-room : goal.note_bricks-requires-clause-room
note_bricks-requires-clause-room c =
    let hits : c.hit_count.result ≡ length (hit_voxels c.bricks-bricks.result.now) =
    c.hit_count.ensures ∙ c.in_ok-set.ensures.made.hits_counted
    ∙ ap (λ b. length (hit_voxels b)) (sym c.bricks-bricks.ensures) in
    let frees : c.free_count.result ≡ length (freed_voxels c.bricks-bricks.result.now) =
    c.free_count.ensures ∙ c.in_ok-set.ensures.made.frees_counted
    ∙ ap (λ b. length (freed_voxels b)) (sym c.bricks-bricks.ensures) in
    let counts : c.hit_count.result + c.free_count.result
    ≡ (length (hit_voxels c.bricks-bricks.result.now)
    + length (freed_voxels c.bricks-bricks.result.now)) = omega (arith, hits, frees) in
    subst (HasRoomForNotes c.reserve.new.self) counts c.in_ok-reserve.ensures.room

pub returns-in_err-make_room-clause-memory : goal.returns-in_err-make_room-clause-memory
returns-in_err-make_room-clause-memory c e =
    let need : c.from.result ≡ c.in_ok-set.set.need = search rules in
    let (room, few) = c.make_room.ensures.memory
    (handed_as _ _ _ _ c.in_err-make_room.was c.from_residual-in_err-make_room.ensures.1 e) in
    let some = lacks_need c.args.self.now c.from.result
    (subst IsMap c.self.view_is c.self.invariant) few in
    let point = need_point c.res.result c.window-window.result (sighting_of c.args.scan.now)
    c.in_ok-set.set.need c.in_ok-set.ensures.update.need (omega (arith, need, some)) in (
      accepted_in c.args.self.now (sighting_of c.args.scan.now) c.res.result _
          (c.res.ensures ∙ ap (λ (m : Map). m.tree.res) c.self.view_is)
          (ap (λ (m : Map). m.max_cells) c.self.view_is) c.in_ok-set.ensures.accepted,
      point,
    )

pub returns-in_err-reserve-clause-memory : goal.returns-in_err-reserve-clause-memory
returns-in_err-reserve-clause-memory c _ =
    let some = lacks_some c.self-2.inside.mark (c.hit_count.result + c.free_count.result)
    (lacks_notes c.self-2.inside.mark c.self-2.inside.mark
    (c.hit_count.result + c.free_count.result) c.reserve.result refl c.in_err-reserve.was
    (λ room. (c.reserve.ensures.enough room).0)) in
    let hits : c.hit_count.result ≡ length (hit_voxels c.in_ok-set.set.bricks) = c.hit_count.ensures
    ∙ c.in_ok-set.ensures.made.hits_counted in
    let frees : c.free_count.result ≡ length (freed_voxels c.in_ok-set.set.bricks) =
    c.free_count.ensures ∙ c.in_ok-set.ensures.made.frees_counted in
    let point = listed_point c.res.result c.window-window.result (sighting_of c.args.scan.now)
    (hit_voxels c.in_ok-set.set.bricks) (freed_voxels c.in_ok-set.set.bricks)
    c.in_ok-set.ensures.update.hits c.in_ok-set.ensures.update.frees
    (omega (arith, some, hits, frees)) in (
      accepted_in c.args.self.now (sighting_of c.args.scan.now) c.res.result _
          (c.res.ensures ∙ ap (λ (m : Map). m.tree.res) c.self.view_is)
          (ap (λ (m : Map). m.max_cells) c.self.view_is) c.in_ok-set.ensures.accepted,
      point,
    )

pub returns-in_err-make_room-clause-room : goal.returns-in_err-make_room-clause-room
returns-in_err-make_room-clause-room c e =
    let (room, few) = c.make_room.ensures.memory
    (handed_as _ _ _ _ c.in_err-make_room.was c.from_residual-in_err-make_room.ensures.1 e) in
    inr (ran_out c.args.self.now (sighting_of c.args.scan.now) c.from.result _ _
    (counted (goal.at.returns-in_err-make_room-clause-room c).After-from) refl
    (accepted_in c.args.self.now (sighting_of c.args.scan.now) c.res.result _
    (c.res.ensures ∙ ap (λ (m : Map). m.tree.res) c.self.view_is)
    (ap (λ (m : Map). m.max_cells) c.self.view_is) c.in_ok-set.ensures.accepted) room (inl few))

pub returns-in_err-reserve-clause-room : goal.returns-in_err-reserve-clause-room
returns-in_err-reserve-clause-room c _ =
    let r = (goal.at.returns-in_err-reserve-clause-room c).After-reserve in
    let need = counted (goal.at.returns-in_err-reserve-clause-room c).After-from in
    let lacks = lacks_notes c.args.self.now.mark c.self-2.inside.mark
    (c.hit_count.result + c.free_count.result) c.reserve.result (readied r).notes
    c.in_err-reserve.was (λ room. (c.reserve.ensures.enough room).0) in
    inr (ran_out c.args.self.now (sighting_of c.args.scan.now) c.from.result _ _ need (tallied r)
    (accepted_in c.args.self.now (sighting_of c.args.scan.now) c.res.result _
    (c.res.ensures ∙ ap (λ (m : Map). m.tree.res) c.self.view_is)
    (ap (λ (m : Map). m.max_cells) c.self.view_is) c.in_ok-set.ensures.accepted)
    (room_ok _ c.in_ok-make_room.ensures.answer) (inr lacks))
