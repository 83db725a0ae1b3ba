use Rattle.oct_change.proofs.Exact.{right_changes}
use Rattle.oct_change.proofs.laws.changes_are_right.Goals as goal

pub returns : goal.returns
returns c = right_changes
