use Rattle.oct_promise.proofs.OwnActions.{line_own}
use Rattle.oct_promise.proofs.laws.lines_add_their_own.Goals as goal

pub returns : goal.returns
returns c = line_own
