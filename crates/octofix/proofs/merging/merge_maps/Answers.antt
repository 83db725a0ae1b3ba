use Rattle.std.proofs.Common.{◌≡◌, ◌∙◌, sym, ap, subst, rules}
use Rattle.std.specs.Prelude.{Ok, Err}
use Rattle.octofix.specs.Codes.{of_map}
use Rattle.octofix.specs.Merges.{IsMapMerge, MergeBy}
use Rattle.octofix.specs.declared.refusal.Refusal.TheVariants as refusal
use Rattle.octofix.proofs.merging.merge_maps.Goals.{After-merge}
use Rattle.octofix.proofs.merging.merge_maps.Goals as goal

-- all that the map says of it
said : (c : After-merge) → IsMapMerge c.args.rule c.args.map.now c.args.other.now
    c.merge.new.self c.merge.new.other c.merge.result
said c = record {
  answered = c.merge.ensures.answered;
  merged = c.merge.ensures.done;
  refused = c.merge.ensures.refused;
  wide = c.merge.ensures.wide;
  kept = c.merge.ensures.kept;
  other = c.merge.ensures.other;
}

pub returns : goal.returns
returns c =
    subst (λ alike. MergeBy alike c.args.rule c.args.map.now c.args.other.now c.merge.new.self
    c.merge.new.other (Ok tt)) c.in_ok-check_alike.ensures.answer
    (c.merge.result, said (goal.at.returns c).After-merge, sym (ap of_map c.in_ok-merge.was))

pub returns-in_err-merge : goal.returns-in_err-merge
returns-in_err-merge c =
    let is : c.from_residual-in_err-merge.result ≡ Err (refusal.Map c.in_err-merge.field-0.0) =
    search rules in
    subst (λ alike. MergeBy alike c.args.rule c.args.map.now c.args.other.now c.merge.new.self
    c.merge.new.other c.from_residual-in_err-merge.result) c.in_ok-check_alike.ensures.answer (
      c.merge.result,
      said (goal.at.returns-in_err-merge c).After-merge,
      is ∙ sym (ap of_map c.in_err-merge.was),
    )
