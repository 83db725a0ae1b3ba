use Rattle.std.proofs.Common.{◌≡◌, ◌-◌, ◌^◌, ◌∙◌, sym, subst, ap}
use Rattle.std.proofs.Common.{rules, arith}
use Rattle.std.proofs.Math.Nat.{one-le-pow}
use Rattle.oct_arena.specs.Entries.{node_at}
use Rattle.oct_arena.specs.Nodes.{link_of, value_of}
use Rattle.oct_query.specs.declared.least.Part.{Part}
use Rattle.oct_tree.proofs.Over.{slot_home}
use Rattle.oct_key.specs.Block.{child_of}
use Rattle.oct_key.proofs.Blocks.{depth_child_of}
use Rattle.oct_query.proofs.LeastParts.{IsCommon, IsNext, IsNextValue, after_first, after_later}
use Rattle.oct_query.proofs.LeastParts.{finished_one}
use Rattle.oct_query.proofs.LeastParts.{finished_several, low_of, next_below, next_plain, one_fits}
use Rattle.oct_query.proofs.LeastParts.{walked_child, walked_none}
use Rattle.oct_query.proofs.Under.{few_all, few_next, sum_fits}
use Rattle.oct_tree.specs.Tree.{value_at}
use Rattle.oct_query.proofs.least.+part_under.Goals as goal
use Rattle.oct_query.proofs.least.+part_under.Goals.{in-Some, in-None, then-i-eq0, else-i-eq0}

pub loop-i-init : goal.loop-i-init
loop-i-init t c = record {
  walked = λ b home. walked_none (value_at c.args.tree.now) b;
  groups = omega arith;
  leaves = omega arith;
}

pub overflow_add-depth : goal.overflow_add-depth
overflow_add-depth t c =
    let low = low_of c.args.tree.now c.args.id.number c.args.depth c.arena-arena.ensures.linked
    c.requires.home in
    search rules

pub part_under-next-requires : goal.part_under-next-requires
part_under-next-requires t c =
    let low = low_of c.args.tree.now c.args.id.number c.args.depth c.arena-arena.ensures.linked
    c.requires.home in
    let (b, home, deep) = c.requires.home in
    let down = depth_child_of b c.loop-i.i in (
      omega (arith, low),
      (
        child_of b c.loop-i.i,
        slot_home c.args.tree.now b c.args.id.number c.in-Some.below.number c.loop-i.i
            c.arena-arena.ensures.linked home
            (ap (λ g. link_of (node_at g c.args.id.number c.loop-i.i))
            (sym c.arena-arena.ensures.exact)
            ∙ sym c.in-Some.ensures.exact),
        omega (arith, down, deep),
      ),
    )

pub overflow_add-groups : goal.overflow_add-groups
overflow_add-groups t c =
    let next : IsNext c.args.tree.now c.args.id.number c.args.depth c.loop-i.i
    c.match-link.next.value c.match-link.next.groups c.match-link.next.leaves =
    elim c.match-link.branch [
      | in-Some w ↦ subst (λ (part : Part). IsNext c.args.tree.now c.args.id.number c.args.depth
          c.loop-i.i part.value part.groups part.leaves) (sym w.next-is)
          (next_below c.args.tree.now c.arena-arena.result.now c.args.id.number
          w.in-Some.below.number
          c.args.depth c.loop-i.i w.part_under-next.result.value w.part_under-next.result.groups
          w.part_under-next.result.leaves c.arena-arena.ensures.linked c.arena-arena.ensures.exact
          c.loop-i-test.true w.in-Some.ensures.exact w.part_under-next.ensures.part
          w.part_under-next.ensures.few)
      | in-None w ↦ subst (λ (part : Part). IsNext c.args.tree.now c.args.id.number c.args.depth
          c.loop-i.i part.value part.groups part.leaves) (sym w.next-is)
          (next_plain c.args.tree.now c.arena-arena.result.now c.args.id.number c.args.depth
          c.loop-i.i
          w.value.result w.of-next.result.value w.of-next.result.groups w.of-next.result.leaves
          c.arena-arena.ensures.linked c.arena-arena.ensures.exact c.loop-i-test.true
          w.in-None.ensures.exact
          (w.value.ensures.exact ∙ ap value_of w.node.ensures.exact) w.of-next.ensures.value
          w.of-next.ensures.groups w.of-next.ensures.leaves)
    ] in
    let low = low_of c.args.tree.now c.args.id.number c.args.depth c.arena-arena.ensures.linked
    c.requires.home in
    let fits = sum_fits c.loop-i.groups c.match-link.next.groups c.loop-i.i c.args.depth low
    c.loop-i-test.true c.loop-i.invariant.groups next.few_groups in
    search rules

pub overflow_add-leaves : goal.overflow_add-leaves
overflow_add-leaves t c =
    let next : IsNext c.args.tree.now c.args.id.number c.args.depth c.loop-i.i
    c.match-link.next.value c.match-link.next.groups c.match-link.next.leaves =
    elim c.match-link.branch [
      | in-Some w ↦ subst (λ (part : Part). IsNext c.args.tree.now c.args.id.number c.args.depth
          c.loop-i.i part.value part.groups part.leaves) (sym w.next-is)
          (next_below c.args.tree.now c.arena-arena.result.now c.args.id.number
          w.in-Some.below.number
          c.args.depth c.loop-i.i w.part_under-next.result.value w.part_under-next.result.groups
          w.part_under-next.result.leaves c.arena-arena.ensures.linked c.arena-arena.ensures.exact
          c.loop-i-test.true w.in-Some.ensures.exact w.part_under-next.ensures.part
          w.part_under-next.ensures.few)
      | in-None w ↦ subst (λ (part : Part). IsNext c.args.tree.now c.args.id.number c.args.depth
          c.loop-i.i part.value part.groups part.leaves) (sym w.next-is)
          (next_plain c.args.tree.now c.arena-arena.result.now c.args.id.number c.args.depth
          c.loop-i.i
          w.value.result w.of-next.result.value w.of-next.result.groups w.of-next.result.leaves
          c.arena-arena.ensures.linked c.arena-arena.ensures.exact c.loop-i-test.true
          w.in-None.ensures.exact
          (w.value.ensures.exact ∙ ap value_of w.node.ensures.exact) w.of-next.ensures.value
          w.of-next.ensures.groups w.of-next.ensures.leaves)
    ] in
    let low = low_of c.args.tree.now c.args.id.number c.args.depth c.arena-arena.ensures.linked
    c.requires.home in
    let fits = sum_fits c.loop-i.leaves c.match-link.next.leaves c.loop-i.i c.args.depth low
    c.loop-i-test.true c.loop-i.invariant.leaves next.few_leaves in
    search rules

pub loop-i-preserved : goal.loop-i-preserved
loop-i-preserved t c =
    let next : IsNext c.args.tree.now c.args.id.number c.args.depth c.loop-i.i
    c.match-link.next.value c.match-link.next.groups c.match-link.next.leaves =
    elim c.match-link.branch [
      | in-Some w ↦ subst (λ (part : Part). IsNext c.args.tree.now c.args.id.number c.args.depth
          c.loop-i.i part.value part.groups part.leaves) (sym w.next-is)
          (next_below c.args.tree.now c.arena-arena.result.now c.args.id.number
          w.in-Some.below.number
          c.args.depth c.loop-i.i w.part_under-next.result.value w.part_under-next.result.groups
          w.part_under-next.result.leaves c.arena-arena.ensures.linked c.arena-arena.ensures.exact
          c.loop-i-test.true w.in-Some.ensures.exact w.part_under-next.ensures.part
          w.part_under-next.ensures.few)
      | in-None w ↦ subst (λ (part : Part). IsNext c.args.tree.now c.args.id.number c.args.depth
          c.loop-i.i part.value part.groups part.leaves) (sym w.next-is)
          (next_plain c.args.tree.now c.arena-arena.result.now c.args.id.number c.args.depth
          c.loop-i.i
          w.value.result w.of-next.result.value w.of-next.result.groups w.of-next.result.leaves
          c.arena-arena.ensures.linked c.arena-arena.ensures.exact c.loop-i-test.true
          w.in-None.ensures.exact
          (w.value.ensures.exact ∙ ap value_of w.node.ensures.exact) w.of-next.ensures.value
          w.of-next.ensures.groups w.of-next.ensures.leaves)
    ] in
    let value : IsNextValue c.loop-i.i c.loop-i.value c.match-link.next.value c.if-i-eq0.value =
    elim c.if-i-eq0.branch [
      | then-i-eq0 w ↦ after_first c.loop-i.i c.loop-i.value c.match-link.next.value
          c.if-i-eq0.value w.if-i-eq0.true w.value-is
      | else-i-eq0 w ↦ after_later c.loop-i.i c.loop-i.value c.match-link.next.value
          c.if-i-eq0.value w.if-i-eq0.false
          (subst (λ o. IsCommon c.loop-i.value c.match-link.next.value o) (sym w.value-is)
          w.common-value.ensures)
    ] in
    record {
      walked = walked_child c.args.tree.now c.args.id.number c.args.depth c.loop-i.i c.loop-i.value
          c.match-link.next.value c.if-i-eq0.value c.loop-i.groups c.loop-i.leaves
          c.match-link.next.groups c.match-link.next.leaves c.arena-arena.ensures.linked
          c.loop-i-test.true c.loop-i.invariant.walked next value;
      groups = few_next c.loop-i.groups c.match-link.next.groups c.loop-i.i
          (9 ^ (15 - c.args.depth))
          c.loop-i.invariant.groups next.few_groups;
      leaves = few_next c.loop-i.leaves c.match-link.next.leaves c.loop-i.i
          (9 ^ (15 - c.args.depth))
          c.loop-i.invariant.leaves next.few_leaves;
    }

pub returns-in-Some-value : goal.returns-in-Some-value
returns-in-Some-value t c =
    let end : c.loop-i.i ≡ 8 = omega (arith, c.loop-i-test.false, c.loop-i.auto.i-end) in
    record {
      part = finished_one c.args.tree.now c.args.id.number c.loop-i.i c.loop-i.value
          c.in-Some-value.value c.of.result.value c.loop-i.groups c.loop-i.leaves
          c.of.result.groups c.of.result.leaves c.arena-arena.ensures.linked end
          c.loop-i.invariant.walked c.in-Some-value.is c.of.ensures.value c.of.ensures.groups
          c.of.ensures.leaves;
      few = (
        (let some = one-le-pow (16 - c.args.depth) 9 (omega arith) in
            omega (arith, c.of.ensures.groups, some)),
        one_fits c.of.result.leaves c.in-Some-value.value (16 - c.args.depth) c.of.ensures.leaves,
      );
      linked = c.arena-arena.ensures.linked;
    }

pub returns-in-None-value : goal.returns-in-None-value
returns-in-None-value t c =
    let end : c.loop-i.i ≡ 8 = omega (arith, c.loop-i-test.false, c.loop-i.auto.i-end) in
    let low = low_of c.args.tree.now c.args.id.number c.args.depth c.arena-arena.ensures.linked
    c.requires.home in
    record {
      part = finished_several c.args.tree.now c.args.id.number c.loop-i.i c.loop-i.value
          c.loop-i.groups c.loop-i.leaves c.arena-arena.ensures.linked end c.loop-i.invariant.walked
          c.in-None-value.is;
      few = (
        few_all c.loop-i.groups c.loop-i.i c.args.depth low end c.loop-i.invariant.groups,
        few_all c.loop-i.leaves c.loop-i.i c.args.depth low end c.loop-i.invariant.leaves,
      );
      linked = c.arena-arena.ensures.linked;
    }
