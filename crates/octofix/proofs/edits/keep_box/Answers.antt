use Rattle.std.proofs.Common.{◌≡◌, sym, subst, ap, ◌∙◌, rules}
use Rattle.std.specs.Prelude.{Ok, Err}
use Rattle.oct_key.specs.declared.point.Point.{Point}
use Rattle.octofix.proofs.Opened.{done_open}
use Rattle.octofix.specs.Codes.{of_map}
use Rattle.octofix.specs.Edits.{IsBoxKept, IsKeepAsked}
use Rattle.octofix.specs.Points.{point_of}
use Rattle.octofix.specs.declared.refusal.Refusal.TheVariants as refusal
use Rattle.octofix.proofs.edits.keep_box.Goals.{After-keep_box}
use Rattle.octofix.proofs.edits.keep_box.Goals as goal

-- what the map says of it
said : (c : After-keep_box) → IsBoxKept (point_of c.args.low) (point_of c.args.high)
    c.in_ok-map.map.now c.keep_box.new.self c.keep_box.result
said c =
    subst (λ (p : Point × Point). IsBoxKept p.0 p.1 c.in_ok-map.map.now c.keep_box.new.self
    c.keep_box.result) (λ i. (c.point.ensures i, c.point-2.ensures i)) (record {
      fault = c.keep_box.ensures.fault;
      kept = c.keep_box.ensures.kept;
      map = c.keep_box.ensures.map;
    })

pub returns : goal.returns
returns c =
    done_open c.args.handle.now c.in_ok-map.map.now c.keep_box.new.self
    (IsKeepAsked (point_of c.args.low) (point_of c.args.high)) (Ok tt) c.in_ok-map.ensures.open (
      c.keep_box.result,
      said (goal.at.returns c).After-keep_box,
      sym (ap of_map c.in_ok-keep_box.was),
    )

pub returns-in_err-keep_box : goal.returns-in_err-keep_box
returns-in_err-keep_box c =
    let is : c.from_residual-in_err-keep_box.result
    ≡ Err (refusal.Map c.in_err-keep_box.field-0.0) = search rules in
    done_open c.args.handle.now c.in_ok-map.map.now c.keep_box.new.self
    (IsKeepAsked (point_of c.args.low) (point_of c.args.high))
    c.from_residual-in_err-keep_box.result c.in_ok-map.ensures.open (
      c.keep_box.result,
      said (goal.at.returns-in_err-keep_box c).After-keep_box,
      is ∙ sym (ap of_map c.in_err-keep_box.was),
    )
