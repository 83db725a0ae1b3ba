use Rattle.std.proofs.Common.{◌≡◌, ◌∙◌, ap}
use Rattle.oct_odds.specs.Odds.{odds_of}
use Rattle.oct_arena.specs.declared.node.Node.TheVariants.{Absent}
use Rattle.oct_tree.specs.Tree.{Tree}
use Rattle.oct_tree.proofs.Parts.{tree_of}
use Rattle.oct_tree.proofs.Shapes.{unknown_linked, unknown_known}
use Rattle.oct_tree.proofs.tree.OccTree.set_odds.Goals as goal

abbrev before : (c : goal.After-odds-1) → Tree
before c = tree_of c.self.inside.arena c.self.inside.root c.self.inside.res c.self.inside.odds

none : (c : goal.After-odds-1) → (before c).root ≡ Absent
none c = ap (λ (t : Tree). t.root) c.self.view_is ∙ c.requires

pub invariant_of-self : goal.invariant_of-self
invariant_of-self c = record {
  linked = unknown_linked (before c) (odds_of c.args.odds) c.self.invariant.linked (none c);
  so =
      unknown_known (before c) (odds_of c.args.odds) c.self.inside.known c.self.invariant.linked
      (none c) c.self.invariant.so;
}

pub returns-clause-linked : goal.returns-clause-linked
returns-clause-linked c =
    unknown_linked (before c) (odds_of c.args.odds) c.self.invariant.linked (none c)
