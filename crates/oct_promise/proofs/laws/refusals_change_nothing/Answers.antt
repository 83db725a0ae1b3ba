use Rattle.oct_promise.proofs.Refusals.{refusal_keeps}
use Rattle.oct_promise.proofs.laws.refusals_change_nothing.Goals as goal

pub returns : goal.returns
returns c = refusal_keeps
