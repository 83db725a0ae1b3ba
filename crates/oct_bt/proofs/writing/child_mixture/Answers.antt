use Rattle.std.proofs.Common.{arith, Some, sym, ap, ◌∙◌}
use Rattle.oct_key.specs.Block.{child_of}
use Rattle.oct_arena.specs.Nodes.{value_of}
use Rattle.oct_tree.specs.declared.place.Place.TheVariants.{Slot}
use Rattle.oct_tree.proofs.Paths.{not_inner, slot_block}
use Rattle.oct_tree.specs.Classes.{classes_in}
use Rattle.oct_bt.proofs.Mixtures.{linked_above, child_asked, class_of_leaf}
use Rattle.oct_bt.proofs.Writes.{child_before, child_with}
use Rattle.oct_bt.proofs.writing.child_mixture.Goals as goal

pub node-node-requires : goal.node-node-requires
node-node-requires c =
    (child_asked c.args.tree.now c.args.p c.args.depth c.args.i c.args.id c.requires.linked
    c.requires.place c.requires.block
    c.requires.link c.requires.few).0

pub returns-in_default : goal.returns-in_default
returns-in_default c = λ b at.
    (let none = not_inner c.node-node.result c.in_default.not-Inner in
    let place = (child_asked c.args.tree.now c.args.p c.args.depth c.args.i c.args.id
    c.requires.linked c.requires.place c.requires.block
    c.requires.link c.requires.few).0 in
    let there = slot_block c.args.tree.now c.requires.linked c.args.p c.args.id c.args.i b
    c.requires.link at in
    class_of_leaf c.args.tree.now (Slot c.args.id c.args.i) (child_of b c.args.i)
    (value_of c.node-node.result) c.requires.linked place there
    (c.node-node.ensures.values (child_of b c.args.i) there none)
    ∙ ap Some (sym (c.leaf_class.ensures none)))

pub returns-then-i-at : goal.returns-then-i-at
returns-then-i-at c = λ b at.
    child_before (classes_in c.args.tree.now) c.args.class c.args.depth b c.args.i c.args.way
    (linked_above c.args.tree.now c.args.p c.args.depth c.args.id b c.requires.linked
    c.requires.place
    c.requires.block c.requires.link at)
    (c.requires.mixed b at) (omega arith)

pub returns-then-way-gt0 : goal.returns-then-way-gt0
returns-then-way-gt0 c = λ b at. (
  omega arith,
  child_with (classes_in c.args.tree.now) c.args.class c.args.depth b c.args.i c.args.way
      (linked_above c.args.tree.now c.args.p c.args.depth c.args.id b c.requires.linked
      c.requires.place
      c.requires.block c.requires.link at)
      (c.requires.mixed b at) (omega arith),
)

pub mixture_at-requires-clause-place : goal.mixture_at-requires-clause-place
mixture_at-requires-clause-place c =
    (child_asked c.args.tree.now c.args.p c.args.depth c.args.i c.args.id c.requires.linked
    c.requires.place c.requires.block
    c.requires.link c.requires.few).0

pub mixture_at-requires-clause-block : goal.mixture_at-requires-clause-block
mixture_at-requires-clause-block c =
    (child_asked c.args.tree.now c.args.p c.args.depth c.args.i c.args.id c.requires.linked
    c.requires.place c.requires.block
    c.requires.link c.requires.few).1
