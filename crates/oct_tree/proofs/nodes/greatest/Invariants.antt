use Rattle.oct_tree.proofs.Surveys.{IsGreatestRank}
use Rattle.oct_tree.proofs.nodes.greatest.Given as goal

abbrev pub invariant-loop-i : goal.invariant-loop-i
invariant-loop-i l = IsGreatestRank l.arena l.fn.id.number l.i l.most
