use Rattle.oct_promise.proofs.Queries.{gets_greatest, needs_refresh}
use Rattle.oct_promise.proofs.laws.gets_are_greatest.Goals as goal

pub returns-clause-answers : goal.returns-clause-answers
returns-clause-answers c = gets_greatest _ c.keep.ensures.set_up

pub returns-clause-stale : goal.returns-clause-stale
returns-clause-stale c = needs_refresh _ c.keep.ensures.set_up
