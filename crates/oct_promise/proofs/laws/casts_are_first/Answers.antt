use Rattle.oct_promise.proofs.Queries.{casts_first}
use Rattle.oct_promise.proofs.laws.casts_are_first.Goals as goal

pub returns : goal.returns
returns c = casts_first _ c.keep.ensures.set_up
