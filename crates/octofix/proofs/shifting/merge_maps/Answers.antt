use Rattle.std.proofs.Common.{◌≡◌, ◌∙◌, sym, ap, subst, rules}
use Rattle.std.specs.Prelude.{Ok, Err}
use Rattle.octofix.specs.Codes.{of_map}
use Rattle.octofix.specs.Shifts.{IsMapShiftMerge, ShiftMergeBy}
use Rattle.octofix.specs.declared.refusal.Refusal.TheVariants as refusal
use Rattle.octofix.proofs.shifting.merge_maps.Goals.{After-merge_shifted}
use Rattle.octofix.proofs.shifting.merge_maps.Goals as goal

-- all that the map says of it
said : (c : After-merge_shifted) → IsMapShiftMerge c.args.rule c.args.shift c.args.map.now
    c.args.other.now c.merge_shifted.new.self c.merge_shifted.result
said c = record {
  faulty = c.merge_shifted.ensures.faulty;
  merged = c.merge_shifted.ensures.merged;
}

pub returns : goal.returns
returns c =
    subst (λ alike. ShiftMergeBy alike c.args.rule c.args.shift c.args.map.now c.args.other.now
    c.merge_shifted.new.self (Ok tt)) c.in_ok-check_alike.ensures.answer (
      c.merge_shifted.result,
      said (goal.at.returns c).After-merge_shifted,
      sym (ap of_map c.in_ok-merge_shifted.was),
    )

pub returns-in_err-merge_shifted : goal.returns-in_err-merge_shifted
returns-in_err-merge_shifted c =
    let is : c.from_residual-in_err-merge_shifted.result
    ≡ Err (refusal.Map c.in_err-merge_shifted.field-0.0) = search rules in
    subst (λ alike. ShiftMergeBy alike c.args.rule c.args.shift c.args.map.now c.args.other.now
    c.merge_shifted.new.self c.from_residual-in_err-merge_shifted.result)
    c.in_ok-check_alike.ensures.answer (
      c.merge_shifted.result,
      said (goal.at.returns-in_err-merge_shifted c).After-merge_shifted,
      is ∙ sym (ap of_map c.in_err-merge_shifted.was),
    )
