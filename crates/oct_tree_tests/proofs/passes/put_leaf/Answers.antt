use Rattle.oct_tree.proofs.Formed.{leaf_formed}
use Rattle.oct_tree_tests.proofs.passes.put_leaf.Goals as goal

pub returns : goal.returns
returns c =
    leaf_formed c.args.tree.now c.set_place.new.self c.args.p _ c.requires.formed
    c.set_place.ensures.written c.set_place.ensures.linked
