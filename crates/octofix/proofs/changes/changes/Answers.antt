use Rattle.std.proofs.Common.{ap, ◌∙◌, sym, refl, length, map, Some, Ok, Err}
use Rattle.std.proofs.lemmas.List.{length-map}
use Rattle.oct_map.specs.Marks.{changes_answer, classes_in, marked_of}
use Rattle.octofix.proofs.Tellings.{list_told}
use Rattle.octofix.specs.Buffers.{filled, room_code}
use Rattle.octofix.specs.Changes.{HasNotes, change_told}
use Rattle.octofix.proofs.changes.changes.Goals as goal

pub returns-in-Ok : goal.returns-in-Ok
returns-in-Ok c =
    let p = c.put_changes.ensures in
    let old = c.args.changes.now in
    let answer = changes_answer (marked_of c.args.map.now) (classes_in c.args.map.now) in
    list_told change_told answer (Ok c.in-Ok.found) (HasNotes (Some c.args.map.now))
    c.put_changes.result old c.put_changes.new.changes c.args.count.now c.put_changes.new.count
    c.in-Ok.ensures.answer (λ is. (c.in-Ok.ensures.memory is).1)
    (p.code ∙ ap (λ found. room_code (length old) (length found)) c.as_slice.ensures
    ∙ ap (room_code (length old)) (sym (length-map c.in-Ok.found change_told)))
    (p.changes ∙ ap (λ found. filled old (map change_told found)) c.as_slice.ensures)
    (p.count ∙ ap length c.as_slice.ensures ∙ sym (length-map c.in-Ok.found change_told))

pub returns-in-Err : goal.returns-in-Err
returns-in-Err c =
    let answer = changes_answer (marked_of c.args.map.now) (classes_in c.args.map.now) in
    list_told change_told answer (Err c.in-Err.fault) (HasNotes (Some c.args.map.now))
    c.code.result c.args.changes.now c.args.changes.now c.args.count.now c.args.count.now
    c.in-Err.ensures.answer (λ is. (c.in-Err.ensures.memory is).1)
    c.code.ensures.code refl refl
