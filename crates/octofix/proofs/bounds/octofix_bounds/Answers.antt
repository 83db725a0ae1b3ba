use Rattle.std.proofs.Common.{◌∙◌, ap, refl, Err}
use Rattle.octofix.specs.Codes.{refusal_code}
use Rattle.octofix.specs.declared.refusal.Refusal.TheVariants.{Closed}
use Rattle.octofix.proofs.bounds.octofix_bounds.Goals as goal

pub returns-in-Err-clause-told : goal.returns-in-Err-clause-told
returns-in-Err-clause-told c = record {
  found = Err Closed;
  right = rw c.in-Err.ensures.closed.1 refl;
  coded = c.code.ensures.code ∙ ap refusal_code c.in-Err.ensures.closed.0;
  left = refl;
}
