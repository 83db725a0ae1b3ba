use Rattle.std.proofs.Common.{◌≡◌, sym, subst, ap, ◌∙◌, rules}
use Rattle.std.specs.Prelude.{Ok, Err}
use Rattle.oct_key.specs.declared.point.Point.{Point}
use Rattle.octofix.proofs.Opened.{asked_ok}
use Rattle.octofix.specs.Codes.{of_map}
use Rattle.octofix.specs.Edits.{IsVoxelEdit, event_of}
use Rattle.octofix.specs.Points.{point_of}
use Rattle.octofix.specs.declared.refusal.Refusal.TheVariants as refusal
use Rattle.octofix.proofs.edits.edit_map.Goals as goal

pub returns : goal.returns
returns c =
    let asks : event_of c.args.edit.event c.args.edit.number ≡ Ok c.in_ok-event.event =
    search rules in
    asked_ok (event_of c.args.edit.event c.args.edit.number)
    (IsVoxelEdit (point_of c.args.edit.point) c.args.lazy) c.args.map.now c.edit.new.self
    c.in_ok-event.event c.edit.result (Ok tt)
    asks
    (subst (λ (p : Point). IsVoxelEdit p c.args.lazy c.in_ok-event.event c.args.map.now
    c.edit.new.self c.edit.result) c.point.ensures (record {
      answer = c.edit.ensures.answer;
      memory = c.edit.ensures.memory;
      edited = c.edit.ensures.edited;
      refused = c.edit.ensures.refused;
      reserved = c.edit.ensures.reserved;
      outside = c.edit.ensures.outside;
      saturated = c.edit.ensures.saturated;
      mark = c.edit.ensures.mark;
      noted = c.edit.ensures.noted;
      ground = c.edit.ensures.setup;
      map = c.edit.ensures.map;
    })) (sym (ap of_map c.in_ok-edit.was))

pub returns-in_err-edit : goal.returns-in_err-edit
returns-in_err-edit c =
    let asks : event_of c.args.edit.event c.args.edit.number ≡ Ok c.in_ok-event.event =
    search rules in
    let is : c.from_residual-in_err-edit.result ≡ Err (refusal.Map c.in_err-edit.field-0.0) =
    search rules in
    asked_ok (event_of c.args.edit.event c.args.edit.number)
    (IsVoxelEdit (point_of c.args.edit.point) c.args.lazy) c.args.map.now c.edit.new.self
    c.in_ok-event.event c.edit.result c.from_residual-in_err-edit.result
    asks
    (subst (λ (p : Point). IsVoxelEdit p c.args.lazy c.in_ok-event.event c.args.map.now
    c.edit.new.self c.edit.result) c.point.ensures (record {
      answer = c.edit.ensures.answer;
      memory = c.edit.ensures.memory;
      edited = c.edit.ensures.edited;
      refused = c.edit.ensures.refused;
      reserved = c.edit.ensures.reserved;
      outside = c.edit.ensures.outside;
      saturated = c.edit.ensures.saturated;
      mark = c.edit.ensures.mark;
      noted = c.edit.ensures.noted;
      ground = c.edit.ensures.setup;
      map = c.edit.ensures.map;
    })) (is ∙ sym (ap of_map c.in_err-edit.was))
