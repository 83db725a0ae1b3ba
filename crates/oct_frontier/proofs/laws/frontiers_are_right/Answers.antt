use Rattle.oct_frontier.proofs.Exact.{frontier_right}
use Rattle.oct_frontier.proofs.laws.frontiers_are_right.Goals as goal

pub returns : goal.returns
returns c = frontier_right
