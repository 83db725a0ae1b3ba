use Rattle.oct_promise.proofs.Queries.{changes_told, needs_mark}
use Rattle.oct_promise.proofs.laws.changes_are_differences.Goals as goal

pub returns-clause-answers : goal.returns-clause-answers
returns-clause-answers c = changes_told

pub returns-clause-unmarked : goal.returns-clause-unmarked
returns-clause-unmarked c = needs_mark
