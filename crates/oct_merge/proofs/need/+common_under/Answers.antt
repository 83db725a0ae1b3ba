use Rattle.std.proofs.Common.{◌≡◌, ◌+◌, ◌-◌, ◌^◌, ◌<◌, ◌≤◌, cond, sym, subst, ◌∙◌, ap}
use Rattle.std.proofs.Common.{arith, rules}
use Rattle.oct_key.specs.Block.{Cube, child_of}
use Rattle.oct_key.specs.CubeOf.{cube_of}
use Rattle.oct_key.proofs.Blocks.{block_in_map, depth_child_of}
use Rattle.oct_query.proofs.Under.{few_next, few_all, sum_fits, depths_down}
use Rattle.oct_merge.specs.Walk.{is_common, common_in}
use Rattle.oct_edit.proofs.NodesOver.{over_live, over_next}
use Rattle.oct_merge.proofs.Needs.{common_none, common_none_there, common_of_children, common_here}
use Rattle.oct_merge.proofs.Needs.{linked_low, sum_first, sum_next, sum_last}
use Rattle.oct_merge.proofs.need.+common_under.Goals as goal

pub returns-then-is_plain-clause-exact : goal.returns-then-is_plain-clause-exact
returns-then-is_plain-clause-exact t c =
    sym (common_none_there c.args.into.now c.args.other.now (cube_of c.args.block) c.args.theirs
    c.args.block.levels c.requires.theirs (c.is_plain.ensures.0 c.if-is_plain.true))

pub returns-then-is_plain-2-clause-exact : goal.returns-then-is_plain-2-clause-exact
returns-then-is_plain-2-clause-exact t c =
    sym (common_none c.args.into.now c.args.other.now (cube_of c.args.block) c.args.node
    c.args.block.levels c.requires.node (c.is_plain-2.ensures.0 c.if-is_plain-2.true))

pub loop-i-init : goal.loop-i-init
loop-i-init t c =
    let here =
    common_here c.args.into.now c.args.other.now (cube_of c.args.block) c.args.node c.args.theirs
    c.is_plain.result c.is_plain-2.result c.requires.node c.requires.theirs c.if-is_plain.false
    c.if-is_plain-2.false c.is_plain.ensures c.is_plain-2.ensures in
    record {
      counted =
          sum_first (λ j. common_in c.args.into.now c.args.other.now
          (child_of (cube_of c.args.block) j))
          (cond (is_common c.args.into.now c.args.other.now (cube_of c.args.block)) 1 0) 1
          (sym here);
      few = omega arith;
    }

pub child_node-child-requires-clause-live : goal.child_node-child-requires-clause-live
child_node-child-requires-clause-live t c =
    over_live c.args.into.now (cube_of c.args.block) c.args.node c.requires.into
    (block_in_map c.args.block) c.requires.node

pub child_node-their_child-requires-clause-live : goal.child_node-their_child-requires-clause-live
child_node-their_child-requires-clause-live t c =
    over_live c.args.other.now (cube_of c.args.block) c.args.theirs c.requires.other
    (block_in_map c.args.block) c.requires.theirs

pub child-requires-clause-depth : goal.child-requires-clause-depth
child-requires-clause-depth t c =
    let low : c.args.block.depth ≤ 15 =
    linked_low c.args.other.now (cube_of c.args.block) c.args.theirs c.is_plain.result
    c.requires.other (block_in_map c.args.block) c.requires.theirs c.if-is_plain.false
    c.is_plain.ensures in
    low

pub common_under-common-requires : goal.common_under-common-requires
common_under-common-requires t c =
    let low : c.args.block.depth ≤ 15 =
    linked_low c.args.other.now (cube_of c.args.block) c.args.theirs c.is_plain.result
    c.requires.other (block_in_map c.args.block) c.requires.theirs c.if-is_plain.false
    c.is_plain.ensures in
    let few : c.loop-i.i < 8 = omega arith in
    let child = c.child.ensures.exact in
    let level : c.child.result.depth ≡ c.args.block.depth + 1 =
    ap (λ (a : Cube). a.depth) child ∙ depth_child_of (cube_of c.args.block) c.loop-i.i in
    let mine =
    over_next c.args.into.now (cube_of c.args.block) (cube_of c.child.result) c.args.node
    c.child_node-child.result c.loop-i.i low few child c.child_node-child.ensures c.requires.node in
    let theirs =
    over_next c.args.other.now (cube_of c.args.block) (cube_of c.child.result) c.args.theirs
    c.child_node-their_child.result c.loop-i.i low few child
    c.child_node-their_child.ensures c.requires.theirs in
    let d = c.decreases in (
      search rules,
      (c.requires.into, (c.requires.other, (mine, theirs))),
    )

pub overflow_add-common : goal.overflow_add-common
overflow_add-common t c =
    let low : c.args.block.depth ≤ 15 =
    linked_low c.args.other.now (cube_of c.args.block) c.args.theirs c.is_plain.result
    c.requires.other (block_in_map c.args.block) c.requires.theirs c.if-is_plain.false
    c.is_plain.ensures in
    let few : c.loop-i.i < 8 = omega arith in
    let child = c.child.ensures.exact in
    let level : c.child.result.depth ≡ c.args.block.depth + 1 =
    ap (λ (a : Cube). a.depth) child ∙ depth_child_of (cube_of c.args.block) c.loop-i.i in
    let power : c.common_under-common.result ≤ 9 ^ (15 - c.args.block.depth) =
    subst (λ h. c.common_under-common.result ≤ 9 ^ h)
    (ap (λ d. 16 - d) level ∙ depths_down c.args.block.depth) c.common_under-common.ensures.few in
    let fits : c.loop-i.common + c.common_under-common.result < 18446744073709551616 =
    sum_fits c.loop-i.common c.common_under-common.result c.loop-i.i c.args.block.depth low few
    c.loop-i.invariant.few power in
    search rules

pub loop-i-preserved : goal.loop-i-preserved
loop-i-preserved t c =
    let low : c.args.block.depth ≤ 15 =
    linked_low c.args.other.now (cube_of c.args.block) c.args.theirs c.is_plain.result
    c.requires.other (block_in_map c.args.block) c.requires.theirs c.if-is_plain.false
    c.is_plain.ensures in
    let few : c.loop-i.i < 8 = omega arith in
    let child = c.child.ensures.exact in
    let level : c.child.result.depth ≡ c.args.block.depth + 1 =
    ap (λ (a : Cube). a.depth) child ∙ depth_child_of (cube_of c.args.block) c.loop-i.i in
    let more : c.common_under-common.result
    ≡ common_in c.args.into.now c.args.other.now (child_of (cube_of c.args.block) c.loop-i.i) =
    c.common_under-common.ensures.exact ∙ ap (common_in c.args.into.now c.args.other.now) child in
    let power : c.common_under-common.result ≤ 9 ^ (15 - c.args.block.depth) =
    subst (λ h. c.common_under-common.result ≤ 9 ^ h)
    (ap (λ d. 16 - d) level ∙ depths_down c.args.block.depth) c.common_under-common.ensures.few in
    record {
      counted =
          sum_next (λ j. common_in c.args.into.now c.args.other.now
          (child_of (cube_of c.args.block) j))
          (cond (is_common c.args.into.now c.args.other.now (cube_of c.args.block)) 1 0) _ _ _
          c.loop-i.invariant.counted more;
      few = few_next _ _ _ _ c.loop-i.invariant.few power;
    }

pub returns-clause-exact : goal.returns-clause-exact
returns-clause-exact t c =
    let low : c.args.block.depth ≤ 15 =
    linked_low c.args.other.now (cube_of c.args.block) c.args.theirs c.is_plain.result
    c.requires.other (block_in_map c.args.block) c.requires.theirs c.if-is_plain.false
    c.is_plain.ensures in
    let last : c.loop-i.i ≡ 8 = omega arith in
    sum_last (λ j. common_in c.args.into.now c.args.other.now (child_of (cube_of c.args.block) j))
    (cond (is_common c.args.into.now c.args.other.now (cube_of c.args.block)) 1 0) _ c.loop-i.i _
    last c.loop-i.invariant.counted
    (common_of_children c.args.into.now c.args.other.now (cube_of c.args.block) low)

pub returns-clause-few : goal.returns-clause-few
returns-clause-few t c =
    let low : c.args.block.depth ≤ 15 =
    linked_low c.args.other.now (cube_of c.args.block) c.args.theirs c.is_plain.result
    c.requires.other (block_in_map c.args.block) c.requires.theirs c.if-is_plain.false
    c.is_plain.ensures in
    let last : c.loop-i.i ≡ 8 = omega arith in
    few_all c.loop-i.common c.loop-i.i c.args.block.depth low last c.loop-i.invariant.few
