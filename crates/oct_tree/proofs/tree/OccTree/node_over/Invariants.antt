use Rattle.std.proofs.Common.{◌≡◌}
use Rattle.oct_key.specs.Morton.{morton_of}
use Rattle.oct_odds.specs.Odds.{odds_of}
use Rattle.oct_tree.specs.Descents.{digits_from}
use Rattle.oct_tree.specs.Tree.{reach}
use Rattle.oct_tree.proofs.tree.OccTree.node_over.Given as goal

abbrev pub invariant-loop-level : goal.invariant-loop-level
invariant-loop-level l = (l.way ≡ digits_from l._level (morton_of l.fn.k)) × (l.node
    ≡ reach
    (record {
      groups = l.self-inside.arena;
      root = l.self-inside.root;
      res = l.self-inside.res;
      odds = odds_of l.self-inside.odds;
    })
    l._level l.fn.k)
