use Rattle.std.proofs.Common.{◌-◌, ◌+◌}
use Rattle.oct_odds.specs.Odds.{odds_of}
use Rattle.oct_snap.proofs.Checks.{IsRow}
use Rattle.oct_snap.proofs.checking.+check_node.Given as goal

abbrev pub decreases-check_node : goal.decreases-check_node
decreases-check_node l = 16 - l.depth

abbrev pub invariant-loop : goal.invariant-loop
invariant-loop l = IsRow (odds_of l.odds) (16 - (l.depth + 1)) l.bytes l.at l.counter l.read
