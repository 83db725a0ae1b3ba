use Rattle.oct_export.proofs.Columns.{patch_class}
use Rattle.oct_export.proofs.strip.patch_under.Goals as goal

pub returns-clause-class : goal.returns-clause-class
returns-clause-class c =
    patch_class c.args.tree.now c.args.k c.args.depth c.args.node c.class_of_node.result
    c.requires.depth c.requires.reached c.requires.leaf
    (c.class_of_node.ensures c.requires.leaf) _ c.of.ensures.exact
