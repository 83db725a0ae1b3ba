use Rattle.std.proofs.Common.{◌≡◌, ◌+◌, ◌^◌, ◌<◌, ◌≤◌, sym, ◌∙◌, ap, arith, rules}
use Rattle.oct_key.specs.Block.{Cube, child_of}
use Rattle.oct_key.specs.CubeOf.{cube_of}
use Rattle.oct_key.proofs.Blocks.{block_in_map, depth_child_of}
use Rattle.oct_values.specs.Boxes.{is_cut_by}
use Rattle.oct_values.proofs.Axes.{sum_below, sum_below_none, sum_below_next}
use Rattle.oct_edit.specs.Areas.{keep_need_in}
use Rattle.oct_edit.proofs.Keeps.{uncut_none, absent_none, leaf_all, inner_of_children, cut_low}
use Rattle.oct_edit.proofs.Keeps.{count_few}
use Rattle.oct_edit.proofs.NodesOver.{over_live, over_next}
use Rattle.oct_edit.specs.Keep.{parts_leaf}
use Rattle.oct_edit.proofs.keep.+need_under.Goals as goal
use Rattle.oct_edit.proofs.keep.+need_under.Goals.{After-loop-i}

pub returns-then-not-is_cut-clause-exact : goal.returns-then-not-is_cut-clause-exact
returns-then-not-is_cut-clause-exact t c =
    sym (uncut_none c.args.tree.now c.args.window.now.lo c.args.window.now.hi
    (cube_of c.args.block) c.is_cut.result (block_in_map c.args.block) c.is_cut.ensures
    c.if-not-is_cut.true)

pub returns-in-Absent-clause-exact : goal.returns-in-Absent-clause-exact
returns-in-Absent-clause-exact t c =
    sym (absent_none c.args.tree.now c.args.window.now.lo c.args.window.now.hi
    (cube_of c.args.block) c.args.node (block_in_map c.args.block) c.requires.node c.in-Absent.is)

pub returns-in-Leaf-clause-exact : goal.returns-in-Leaf-clause-exact
returns-in-Leaf-clause-exact t c =
    c.cuts_within.ensures
    ∙ sym (leaf_all c.args.tree.now c.args.window.now.lo c.args.window.now.hi
    (cube_of c.args.block) c.args.node c.in-Leaf.field-0 (block_in_map c.args.block)
    c.requires.node c.in-Leaf.is)

pub returns-in-Leaf-clause-few : goal.returns-in-Leaf-clause-few
returns-in-Leaf-clause-few t c =
    let few = count_few (is_cut_by c.args.window.now.lo c.args.window.now.hi)
    (cube_of c.args.block) in
    let is = c.cuts_within.ensures in
    omega (arith, few, is)

pub loop-i-init : goal.loop-i-init
loop-i-init t c = record {
  counted = sym (sum_below_none (λ j. keep_need_in c.args.tree.now c.args.window.now.lo
      c.args.window.now.hi (child_of (cube_of c.args.block) j)));
  few = omega arith;
}

pub child_node-requires-clause-live : goal.child_node-requires-clause-live
child_node-requires-clause-live t c =
    over_live c.args.tree.now (cube_of c.args.block) c.args.node c.requires.linked
    (block_in_map c.args.block) c.requires.node

pub child-requires-clause-depth : goal.child-requires-clause-depth
child-requires-clause-depth t c =
    cut_low c.args.window.now.lo c.args.window.now.hi (cube_of c.args.block)
    (block_in_map c.args.block) (sym c.is_cut.ensures ∙ c.if-not-is_cut.false)

pub need_under-need-requires : goal.need_under-need-requires
need_under-need-requires t c =
    let low : c.args.block.depth ≤ 15 =
    cut_low c.args.window.now.lo c.args.window.now.hi (cube_of c.args.block)
    (block_in_map c.args.block) (sym c.is_cut.ensures ∙ c.if-not-is_cut.false) in
    let few : c.loop-i.i < 8 = omega arith in
    let child = c.child.ensures.exact in
    let level : c.child.result.depth ≡ c.args.block.depth + 1 =
    ap (λ (a : Cube). a.depth) child ∙ depth_child_of (cube_of c.args.block) c.loop-i.i in
    let over =
    over_next c.args.tree.now (cube_of c.args.block) (cube_of c.child.result) c.args.node
    c.child_node.result c.loop-i.i low few child c.child_node.ensures c.requires.node in
    let d = c.decreases in (search rules, (c.requires.linked, over))

pub overflow_add-need : goal.overflow_add-need
overflow_add-need t c =
    let sum = c.loop-i.invariant.few in
    let few = c.need_under-need.ensures.few in
    let fits : c.loop-i.need + c.need_under-need.result < 2 ^ 128 = omega (arith, sum, few) in
    search rules

pub loop-i-preserved : goal.loop-i-preserved
loop-i-preserved t c =
    let next = sum_below_next (λ j. keep_need_in c.args.tree.now c.args.window.now.lo
    c.args.window.now.hi (child_of (cube_of c.args.block) j)) c.loop-i.i in
    let more : c.need_under-need.result ≡ keep_need_in c.args.tree.now c.args.window.now.lo
    c.args.window.now.hi (child_of (cube_of c.args.block) c.loop-i.i) =
    c.need_under-need.ensures.exact
    ∙ ap (keep_need_in c.args.tree.now c.args.window.now.lo c.args.window.now.hi)
    c.child.ensures.exact in
    let before = c.loop-i.invariant.counted in
    let sum = c.loop-i.invariant.few in
    let few = c.need_under-need.ensures.few in
    record { counted = omega (arith, next, more, before); few = omega (arith, sum, few) }

-- what the eight children need, the block does
needed : (t : _) (c : After-loop-i t) → c.loop-i.need ≡ keep_need_in c.args.tree.now
    c.args.window.now.lo c.args.window.now.hi (cube_of c.args.block)
needed t c =
    let low : c.args.block.depth ≤ 15 =
    cut_low c.args.window.now.lo c.args.window.now.hi (cube_of c.args.block)
    (block_in_map c.args.block) (sym c.is_cut.ensures ∙ c.if-not-is_cut.false) in
    let last : c.loop-i.i ≡ 8 = omega arith in
    c.loop-i.invariant.counted
    ∙ ap (sum_below (λ j. keep_need_in c.args.tree.now c.args.window.now.lo
    c.args.window.now.hi (child_of (cube_of c.args.block) j))) last
    ∙ sym (inner_of_children c.args.tree.now c.args.window.now.lo c.args.window.now.hi
    (cube_of c.args.block) c.args.node c.in-Inner.field-0 c.in-Inner.field-1 low c.requires.node
    c.in-Inner.is)

pub returns-clause-exact : goal.returns-clause-exact
returns-clause-exact t c = needed t (goal.at.returns-clause-exact t c).After-loop-i

pub returns-clause-few : goal.returns-clause-few
returns-clause-few t c =
    let is = needed t (goal.at.returns-clause-few t c).After-loop-i in
    let few = count_few (parts_leaf c.args.tree.now c.args.window.now.lo c.args.window.now.hi)
    (cube_of c.args.block) in
    omega (arith, is, few)
