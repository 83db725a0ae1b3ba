use Rattle.std.proofs.Common.{◌≡◌, ◌∙◌, sym, ap, refl}
use Rattle.oct_arena.specs.Nodes.{value_of}
use Rattle.oct_tree.specs.Tree.{value_at}
use Rattle.oct_tree.proofs.Paths.{value_at_leaf, lookup_within}
use Rattle.oct_tree.proofs.tree.OccTree.at.Goals as goal

found : (c : goal.After-value) → c.value.result ≡ value_at c.args.self.now c.args.k
found c =
    c.value.ensures.exact ∙ ap value_of c.node_over.ensures.exact
    ∙ sym (value_at_leaf c.args.self.now c.args.k 16 refl)

pub returns-clause-exact : goal.returns-clause-exact
returns-clause-exact c = found c

pub returns-clause-within : goal.returns-clause-within
returns-clause-within c =
    lookup_within c.args.self.now c.args.k _ c.node_over.ensures.linked (found c)
