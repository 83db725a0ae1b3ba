use Rattle.std.proofs.Common.{refl}
use Rattle.oct_key.specs.CubeOf.{cube_of}
use Rattle.oct_arena.specs.Nodes.{link_of}
use Rattle.oct_tree.specs.Tree.{node_in}
use Rattle.oct_query.proofs.LeafNodes.{linked_varied}
use Rattle.oct_query.proofs.leaf_list.shared_value.Goals as goal

pub returns-then-tidiness-clause-exact : goal.returns-then-tidiness-clause-exact
returns-then-tidiness-clause-exact c =
    linked_varied c.args.tree.now c.args.p (cube_of c.args.block)
    (link_of (node_in c.args.tree.now c.args.p)) c.tidiness.ensures.linked
    (c.tidiness.ensures.so.pruned c.if-tidiness.true) c.requires.place c.requires.block refl
    c.requires.inner
