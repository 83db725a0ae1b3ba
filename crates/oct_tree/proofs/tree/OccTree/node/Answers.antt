use Rattle.std.proofs.Common.{◌≡◌, ◌∙◌, sym, ap, subst}
use Rattle.oct_tree.specs.Tree.{IsLinked, node_in}
use Rattle.oct_arena.specs.Nodes.{link_of, value_of}
use Rattle.oct_tree.proofs.Links.{place_value}
use Rattle.oct_tree.proofs.tree.OccTree.node.Goals as goal

pub returns-clause-values : goal.returns-clause-values
returns-clause-values c b e none k voxel inside =
    let l : IsLinked c.args.self.now = subst IsLinked c.self.view_is c.self.invariant.linked in
    let is : c.read.result ≡ node_in c.args.self.now c.args.p =
    c.read.ensures ∙ ap (λ t. node_in t c.args.p) c.self.view_is in
    place_value c.args.self.now c.args.p b l c.requires e (ap link_of (sym is) ∙ none) k voxel
    inside
    ∙ ap value_of (sym is)
