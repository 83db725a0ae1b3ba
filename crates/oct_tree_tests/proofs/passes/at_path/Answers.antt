use Rattle.std.proofs.Common.{◌∙◌, sym, ap, arith}
use Rattle.oct_arena.specs.Nodes.{link_of}
use Rattle.oct_tree.proofs.Paths.{linked_live}
use Rattle.oct_tree_tests.proofs.passes.at_path.Goals as goal

pub loop-i-preserved : goal.loop-i-preserved
loop-i-preserved c = (
  linked_live c.args.tree.now c.node.ensures.linked c.loop-i.p c.loop-i.invariant
      c.in-Inner.id.number (ap link_of (sym c.node.ensures.exact ∙ c.in-Inner.is)),
  omega arith,
)
