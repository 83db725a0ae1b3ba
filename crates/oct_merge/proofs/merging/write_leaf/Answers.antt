use Rattle.std.proofs.Common.{refl, rules}
use Rattle.oct_arena.specs.Nodes.{value_of}
use Rattle.oct_merge.proofs.Parts.{leaf_merged}
use Rattle.oct_merge.proofs.merging.write_leaf.Goals as goal

pub returns-clause-touched : goal.returns-clause-touched
returns-clause-touched c b events ok e all =
    leaf_merged c.args.tree.now c.set_place.new.self c.args.p b _ (value_of c.args.node) c.args.rule
    events c.requires.linked c.requires.place e ok c.requires.plain c.set_place.ensures.linked refl
    c.set_place.ensures.written (c.set_place.ensures.values b e) (c.set_place.ensures.outside b e)
    c.requires.leaf c.requires.within (search rules) all
