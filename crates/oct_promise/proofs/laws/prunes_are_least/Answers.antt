use Rattle.oct_promise.proofs.SameFiles.{fewest_groups}
use Rattle.oct_promise.proofs.laws.prunes_are_least.Goals as goal

pub returns : goal.returns
returns c = fewest_groups
