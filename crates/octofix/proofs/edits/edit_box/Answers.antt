use Rattle.std.proofs.Common.{◌≡◌, sym, subst, ap, ◌∙◌, rules}
use Rattle.std.specs.Prelude.{Ok, Err}
use Rattle.oct_key.specs.declared.point.Point.{Point}
use Rattle.octofix.proofs.Opened.{asked_ok, done_open}
use Rattle.octofix.specs.Changed.{IsAsked}
use Rattle.octofix.specs.Codes.{of_map}
use Rattle.octofix.specs.Edits.{IsBoxEdit, event_of}
use Rattle.octofix.specs.Points.{point_of}
use Rattle.octofix.specs.declared.refusal.Refusal.TheVariants as refusal
use Rattle.octofix.proofs.edits.edit_box.Goals as goal

pub returns : goal.returns
returns c =
    let asks : event_of c.args.event c.args.number ≡ Ok c.in_ok-event.event = search rules in
    let low = point_of c.args.low in
    let high = point_of c.args.high in
    let request = event_of c.args.event c.args.number in
    done_open c.args.handle.now c.in_ok-map.map.now c.edit_box.new.self
    (IsAsked request (IsBoxEdit low high)) (Ok tt) c.in_ok-map.ensures.open
    (asked_ok request (IsBoxEdit low high) c.in_ok-map.map.now c.edit_box.new.self
    c.in_ok-event.event c.edit_box.result (Ok tt)
    asks
    (subst (λ (p : Point × Point). IsBoxEdit p.0 p.1 c.in_ok-event.event c.in_ok-map.map.now
    c.edit_box.new.self c.edit_box.result) (λ i. (c.point.ensures i, c.point-2.ensures i)) (record {
      answer = c.edit_box.ensures.answer;
      memory = c.edit_box.ensures.memory;
      edited = c.edit_box.ensures.edited;
      refused = c.edit_box.ensures.refused;
      reserved = c.edit_box.ensures.reserved;
      faulty = c.edit_box.ensures.faulty;
      mark = c.edit_box.ensures.mark;
      noted = c.edit_box.ensures.noted;
      path = c.edit_box.ensures.path;
      ground = c.edit_box.ensures.setup;
      map = c.edit_box.ensures.map;
    })) (sym (ap of_map c.in_ok-edit_box.was)))

pub returns-in_err-edit_box : goal.returns-in_err-edit_box
returns-in_err-edit_box c =
    let asks : event_of c.args.event c.args.number ≡ Ok c.in_ok-event.event = search rules in
    let low = point_of c.args.low in
    let high = point_of c.args.high in
    let request = event_of c.args.event c.args.number in
    let is : c.from_residual-in_err-edit_box.result
    ≡ Err (refusal.Map c.in_err-edit_box.field-0.0) = search rules in
    done_open c.args.handle.now c.in_ok-map.map.now c.edit_box.new.self
    (IsAsked request (IsBoxEdit low high)) c.from_residual-in_err-edit_box.result
    c.in_ok-map.ensures.open
    (asked_ok request (IsBoxEdit low high) c.in_ok-map.map.now c.edit_box.new.self
    c.in_ok-event.event c.edit_box.result c.from_residual-in_err-edit_box.result
    asks
    (subst (λ (p : Point × Point). IsBoxEdit p.0 p.1 c.in_ok-event.event c.in_ok-map.map.now
    c.edit_box.new.self c.edit_box.result) (λ i. (c.point.ensures i, c.point-2.ensures i)) (record {
      answer = c.edit_box.ensures.answer;
      memory = c.edit_box.ensures.memory;
      edited = c.edit_box.ensures.edited;
      refused = c.edit_box.ensures.refused;
      reserved = c.edit_box.ensures.reserved;
      faulty = c.edit_box.ensures.faulty;
      mark = c.edit_box.ensures.mark;
      noted = c.edit_box.ensures.noted;
      path = c.edit_box.ensures.path;
      ground = c.edit_box.ensures.setup;
      map = c.edit_box.ensures.map;
    })) (is ∙ sym (ap of_map c.in_err-edit_box.was)))
