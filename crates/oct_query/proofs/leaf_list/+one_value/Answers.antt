use Rattle.std.proofs.Common.{rules, ◌≡◌, ◌∙◌, None, sym, ap, subst, arith}
use Rattle.oct_key.specs.CubeOf.{cube_of}
use Rattle.oct_key.proofs.Blocks.{block_in_map}
use Rattle.oct_arena.specs.Nodes.{link_of, value_of}
use Rattle.oct_tree.specs.Tree.{value_at}
use Rattle.oct_tree.proofs.Paths.{not_inner}
use Rattle.oct_query.specs.Leaves.{IsOneValue}
use Rattle.oct_query.proofs.Above.{above, child_slot}
use Rattle.oct_query.proofs.LeafWalks.{all_of_node, one_first, one_next, one_whole, several_in}
use Rattle.oct_query.proofs.LeafWalks.{several_of}
use Rattle.oct_query.proofs.leaf_list.+one_value.Goals as goal

pub returns-in_default : goal.returns-in_default
returns-in_default t c =
    let none : link_of c.node-node.result ≡ None =
    not_inner c.node-node.result c.in_default.not-Inner in record {
      exact = all_of_node (value_at c.args.tree.now) (cube_of c.args.block)
          (value_of c.node-node.result) c.value.result (block_in_map c.args.block)
          (c.node-node.ensures.values (cube_of c.args.block) c.requires.block none)
          c.value.ensures.exact;
      linked = c.node-node.ensures.linked;
    }

pub child-requires-clause-depth : goal.child-requires-clause-depth
child-requires-clause-depth t c =
    let low = (above c.args.tree.now c.args.p c.in-Inner.id (cube_of c.args.block)
    c.in-Inner.ensures.linked c.requires.place (ap link_of (sym c.in-Inner.ensures.exact))
    c.requires.block).low in
    omega (arith, low)

pub one_value-requires : goal.one_value-requires
one_value-requires t c =
    let (less, here, at) = child_slot c.args.tree.now c.args.p c.in-Inner.id
    (cube_of c.args.block) (cube_of c.child.result) 0 c.in-Inner.ensures.linked c.requires.place
    (ap link_of (sym c.in-Inner.ensures.exact)) c.requires.block c.child.ensures.exact
    (omega arith) in
    (omega (arith, less), (here, at))

pub returns-in_err-first-clause-exact : goal.returns-in_err-first-clause-exact
returns-in_err-first-clause-exact t c =
    let low = (above c.args.tree.now c.args.p c.in-Inner.id (cube_of c.args.block)
    c.in-Inner.ensures.linked c.requires.place (ap link_of (sym c.in-Inner.ensures.exact))
    c.requires.block).low in
    subst (IsOneValue (value_at c.args.tree.now) (cube_of c.args.block))
    (sym c.from_residual.ensures)
    (several_in (value_at c.args.tree.now) (cube_of c.args.block) (cube_of c.child.result) 0 low
    (omega arith) c.child.ensures.exact c.in_err-first.ensures.exact)

pub child-requires-in-loop-i-clause-depth : goal.child-requires-in-loop-i-clause-depth
child-requires-in-loop-i-clause-depth t c =
    let low = (above c.args.tree.now c.args.p c.in-Inner.id (cube_of c.args.block)
    c.in-Inner.ensures.linked c.requires.place (ap link_of (sym c.in-Inner.ensures.exact))
    c.requires.block).low in
    omega (arith, low)

pub one_value-requires-in-loop-i : goal.one_value-requires-in-loop-i
one_value-requires-in-loop-i t c =
    let (less, here, at) = child_slot c.args.tree.now c.args.p c.in-Inner.id
    (cube_of c.args.block) (cube_of c.child-in-loop-i.result) c.loop-i.i c.in-Inner.ensures.linked
    c.requires.place (ap link_of (sym c.in-Inner.ensures.exact)) c.requires.block
    c.child-in-loop-i.ensures.exact (omega arith) in
    (omega (arith, less), (here, at))

pub returns-in_err-next-clause-exact : goal.returns-in_err-next-clause-exact
returns-in_err-next-clause-exact t c =
    let low = (above c.args.tree.now c.args.p c.in-Inner.id (cube_of c.args.block)
    c.in-Inner.ensures.linked c.requires.place (ap link_of (sym c.in-Inner.ensures.exact))
    c.requires.block).low in
    subst (IsOneValue (value_at c.args.tree.now) (cube_of c.args.block))
    (sym c.from_residual-in_err-next.ensures)
    (several_in (value_at c.args.tree.now) (cube_of c.args.block)
    (cube_of c.child-in-loop-i.result) c.loop-i.i low (omega arith) c.child-in-loop-i.ensures.exact
    c.in_err-next.ensures.exact)

pub returns-then-ne-clause-exact : goal.returns-then-ne-clause-exact
returns-then-ne-clause-exact t c =
    let low = (above c.args.tree.now c.args.p c.in-Inner.id (cube_of c.args.block)
    c.in-Inner.ensures.linked c.requires.place (ap link_of (sym c.in-Inner.ensures.exact))
    c.requires.block).low in
    several_of (value_at c.args.tree.now) (cube_of c.args.block) (cube_of c.child-in-loop-i.result)
    c.loop-i.i c.in_ok-first.first c.in_ok-next.next low (search rules) (omega arith)
    c.child-in-loop-i.ensures.exact c.loop-i.invariant.one c.in_ok-next.ensures.exact
    (sym c.ne.ensures ∙ c.if-ne.true)

pub loop-i-init : goal.loop-i-init
loop-i-init t c = record {
  one = one_first (value_at c.args.tree.now) (cube_of c.args.block) (cube_of c.child.result)
      c.in_ok-first.first c.child.ensures.exact c.in_ok-first.ensures.exact;
}

pub loop-i-preserved : goal.loop-i-preserved
loop-i-preserved t c = record {
  one = one_next (value_at c.args.tree.now) (cube_of c.args.block)
      (cube_of c.child-in-loop-i.result) c.loop-i.i c.in_ok-first.first c.in_ok-next.next
      c.child-in-loop-i.ensures.exact c.loop-i.invariant.one c.in_ok-next.ensures.exact
      (sym c.ne.ensures ∙ c.if-ne.false);
}

pub returns-clause-exact : goal.returns-clause-exact
returns-clause-exact t c =
    let low = (above c.args.tree.now c.args.p c.in-Inner.id (cube_of c.args.block)
    c.in-Inner.ensures.linked c.requires.place (ap link_of (sym c.in-Inner.ensures.exact))
    c.requires.block).low in
    one_whole (value_at c.args.tree.now) (cube_of c.args.block) c.loop-i.i c.in_ok-first.first low
    (omega arith) c.loop-i.invariant.one
