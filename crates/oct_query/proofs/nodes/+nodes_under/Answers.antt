use Rattle.std.proofs.Common.{◌≡◌, ◌+◌, ◌-◌, ◌^◌, ◌≤◌, ◌<◌, sym, subst, rules, arith}
use Rattle.std.proofs.Math.Nat.{one-le-pow}
use Rattle.oct_arena.specs.Entries.{node_at}
use Rattle.oct_tree.specs.Tree.{node_in}
use Rattle.oct_query.specs.Under.{nodes_under}
use Rattle.oct_query.proofs.Under.{inner_above, slot_deeper, slot_is_place, under_absent}
use Rattle.oct_query.proofs.Under.{under_leaf, counted_first, counted_next, counted_all, few_next}
use Rattle.oct_query.proofs.Under.{few_all, depths_down, sum_fits}
use Rattle.oct_query.proofs.nodes.+nodes_under.Goals as goal

pub loop-i-init : goal.loop-i-init
loop-i-init t c = record { counted = counted_first _; few = omega arith }

pub nodes_under-nodes-requires : goal.nodes_under-nodes-requires
nodes_under-nodes-requires t c =
    let is = sym c.in-Inner.ensures.exact in
    let above = inner_above c.args.tree.now c.args.p c.args.depth c.in-Inner.field-0 c.in-Inner.id
    c.in-Inner.ensures.linked c.requires.place c.requires.block is in (
      search rules,
      (
        slot_is_place c.args.tree.now c.args.p c.loop-i.i c.in-Inner.field-0 c.in-Inner.id
            c.in-Inner.ensures.linked c.requires.place is (omega arith),
        (
          slot_deeper c.args.tree.now c.args.p c.args.depth c.loop-i.i c.in-Inner.field-0
              c.in-Inner.id c.in-Inner.ensures.linked c.requires.place c.requires.block is,
          omega (arith, above),
        ),
      ),
    )

pub overflow_add-nodes : goal.overflow_add-nodes
overflow_add-nodes t c =
    let above = inner_above c.args.tree.now c.args.p c.args.depth c.in-Inner.field-0 c.in-Inner.id
    c.in-Inner.ensures.linked c.requires.place c.requires.block (sym c.in-Inner.ensures.exact) in
    let fits : c.loop-i.nodes + c.nodes_under-nodes.result < 18446744073709551616 =
    sum_fits c.loop-i.nodes c.nodes_under-nodes.result c.loop-i.i c.args.depth above
    c.loop-i-test.true c.loop-i.invariant.few
    (subst (λ h. c.nodes_under-nodes.result ≤ 9 ^ h) (depths_down c.args.depth)
    c.nodes_under-nodes.ensures.few) in
    search rules

pub loop-i-preserved : goal.loop-i-preserved
loop-i-preserved t c = record {
  counted = counted_next _ _ _ _ c.loop-i.invariant.counted
      (subst (λ h. c.nodes_under-nodes.result ≡ nodes_under c.args.tree.now.groups h
      (node_at c.args.tree.now.groups c.in-Inner.id.number c.loop-i.i)) (depths_down c.args.depth)
      c.nodes_under-nodes.ensures.exact);
  few = few_next _ _ _ _ c.loop-i.invariant.few (subst (λ h. c.nodes_under-nodes.result ≤ 9 ^ h)
      (depths_down c.args.depth) c.nodes_under-nodes.ensures.few);
}

pub returns-in-Absent-clause-exact : goal.returns-in-Absent-clause-exact
returns-in-Absent-clause-exact t c = sym (under_absent _ _ _ (sym c.in-Absent.ensures.exact))

pub returns-in-Leaf-clause-exact : goal.returns-in-Leaf-clause-exact
returns-in-Leaf-clause-exact t c = sym (under_leaf _ _ _ _ (sym c.in-Leaf.ensures.exact))

pub returns-in-Leaf-clause-few : goal.returns-in-Leaf-clause-few
returns-in-Leaf-clause-few t c = one-le-pow (16 - c.args.depth) 9 (omega arith)

pub returns-after-loop-i-clause-exact : goal.returns-after-loop-i-clause-exact
returns-after-loop-i-clause-exact t c =
    let above = inner_above c.args.tree.now c.args.p c.args.depth c.in-Inner.field-0 c.in-Inner.id
    c.in-Inner.ensures.linked c.requires.place c.requires.block (sym c.in-Inner.ensures.exact) in
    counted_all c.args.tree.now.groups c.args.depth (node_in c.args.tree.now c.args.p)
    c.in-Inner.field-0 c.in-Inner.id c.loop-i.nodes c.loop-i.i above (sym c.in-Inner.ensures.exact)
    (omega (arith, c.loop-i-test.false, c.loop-i.auto.i-end)) c.loop-i.invariant.counted

pub returns-after-loop-i-clause-few : goal.returns-after-loop-i-clause-few
returns-after-loop-i-clause-few t c =
    let above = inner_above c.args.tree.now c.args.p c.args.depth c.in-Inner.field-0 c.in-Inner.id
    c.in-Inner.ensures.linked c.requires.place c.requires.block (sym c.in-Inner.ensures.exact) in
    few_all c.loop-i.nodes c.loop-i.i c.args.depth above
    (omega (arith, c.loop-i-test.false, c.loop-i.auto.i-end)) c.loop-i.invariant.few
