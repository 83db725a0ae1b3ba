-- The tree that the parts of an `OccTree` make.
use Rattle.std.specs.Prelude.{ℕ}
use Rattle.oct_odds.specs.Odds.{odds_of}
use Rattle.oct_odds.specs.declared.model.OddsModel.{OddsModel}
use Rattle.oct_arena.specs.declared.node.Node.{Node}
use Rattle.oct_arena.specs.Entries.{Groups}
use Rattle.oct_tree.specs.Tree.{Tree}

-- the tree of these groups and this root
abbrev pub tree_of : Groups → Node → ℕ → OddsModel → Tree
tree_of groups root res odds = record {
  groups = groups;
  root = root;
  res = res;
  odds = odds_of odds;
}
