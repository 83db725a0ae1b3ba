use Rattle.std.proofs.Common.{rules, ◌≡◌, ◌<◌, ◌-◌, ◌+◌, ◌∙◌, None, Some, sym, ap, length, arith}
use Rattle.oct_key.specs.Block.{Cube, child_of}
use Rattle.oct_arena.specs.Nodes.{link_of, value_of}
use Rattle.oct_tree.specs.Tree.{block_in, value_at}
use Rattle.oct_tree.proofs.Links.{place_in_map}
use Rattle.oct_tree.proofs.Paths.{not_inner, place_block, slot_block}
use Rattle.oct_snap.specs.declared.common.Common.TheVariants.{Several}
use Rattle.oct_snap.specs.Texts.{common_value}
use Rattle.oct_snap.proofs.Places.{linked_above, child_asked}
use Rattle.oct_snap.proofs.Commons.{leaf_is, common_all}
use Rattle.oct_snap.proofs.Lengths.{alike_first, alike_next, length_alike, not_one}
use Rattle.oct_snap.proofs.Writes.{before_none, before_short, long_all, long_child, node_of_one}
use Rattle.oct_snap.proofs.Writes.{node_short, powers_fit, whole_fits}
use Rattle.oct_snap.proofs.counting.+count_at.Goals as goal

pub returns-in_default : goal.returns-in_default
returns-in_default t c =
    let none : link_of c.node-node.result ≡ None =
    not_inner c.node-node.result c.in_default.not-Inner in
    let one : (b : Cube) → block_in c.args.tree.now c.args.p ≡ Some b
    → Some c.value-value.result ≡ common_value (value_at c.args.tree.now) b =
    λ b at. leaf_is c.args.tree.now c.args.p b (value_of c.node-node.result)
    c.value-value.result c.node-node.ensures.linked
    c.requires.place at (c.node-node.ensures.values b at none) c.value-value.ensures.exact in
    record {
      common = one;
      bytes = λ b at. c.whole_len.ensures ∙ ap length (sym
          (node_of_one (16 - c.args.depth) (value_at c.args.tree.now) b c.value-value.result
          (place_in_map c.args.tree.now c.node-node.ensures.linked c.args.p b c.requires.place at)
          (one b at)));
      short = whole_fits (16 - c.args.depth) c.whole_len.result c.value-value.result
          c.whole_len.ensures;
      linked = c.node-node.ensures.linked;
    }

pub count_at-first-requires : goal.count_at-first-requires
count_at-first-requires t c =
    let (place, block, levels) =
    child_asked c.args.tree.now c.args.p c.args.depth 0 c.in-Inner.id c.in-Inner.ensures.linked
    c.requires.place c.requires.block
    (ap link_of (sym c.in-Inner.ensures.exact)) (omega arith) in
    (search rules, (place, (block, levels)))

pub overflow_add-bytes : goal.overflow_add-bytes
overflow_add-bytes t c =
    let few = c.count_at-first.ensures.short in
    let most = powers_fit (16 - (c.args.depth + 1)) (omega arith) in
    let fits : 1 + c.count_at-first.result.bytes < 18446744073709551616 = omega (arith, few, most)
    in
    search rules

pub loop-i-init : goal.loop-i-init
loop-i-init t c = record {
  alike = λ b at. alike_first (value_at c.args.tree.now) c.args.depth b
      c.count_at-first.result.common c.is_same-are_alike.result
      (linked_above c.args.tree.now c.args.p c.args.depth c.in-Inner.id b
      c.in-Inner.ensures.linked c.requires.place c.requires.block
      (ap link_of (sym c.in-Inner.ensures.exact)) at)
      (c.count_at-first.ensures.common (child_of b 0)
      (slot_block c.args.tree.now c.in-Inner.ensures.linked c.args.p c.in-Inner.id 0 b
      (ap link_of (sym c.in-Inner.ensures.exact)) at))
      c.is_same-are_alike.ensures;
  length = λ b at. long_child (value_at c.args.tree.now) c.args.depth b 0 1
      c.count_at-first.result.bytes
      (ap length (sym (before_none (value_at c.args.tree.now) c.args.depth b)))
      (c.count_at-first.ensures.bytes (child_of b 0)
      (slot_block c.args.tree.now c.in-Inner.ensures.linked c.args.p c.in-Inner.id 0 b
      (ap link_of (sym c.in-Inner.ensures.exact)) at));
}

pub count_at-child-requires : goal.count_at-child-requires
count_at-child-requires t c =
    let (place, block, levels) =
    child_asked c.args.tree.now c.args.p c.args.depth c.loop-i.i c.in-Inner.id
    c.in-Inner.ensures.linked c.requires.place c.requires.block
    (ap link_of (sym c.in-Inner.ensures.exact)) (omega arith) in
    (search rules, (place, (block, levels)))

pub overflow_add-bytes-in-loop-i : goal.overflow_add-bytes-in-loop-i
overflow_add-bytes-in-loop-i t c =
    let (b, at) = place_block c.args.tree.now c.args.p c.requires.place in
    let e = long_child (value_at c.args.tree.now) c.args.depth b c.loop-i.i c.loop-i.bytes
    c.count_at-child.result.bytes (c.loop-i.invariant.length b at)
    (c.count_at-child.ensures.bytes (child_of b c.loop-i.i)
    (slot_block c.args.tree.now c.in-Inner.ensures.linked c.args.p c.in-Inner.id c.loop-i.i b
    (ap link_of (sym c.in-Inner.ensures.exact)) at)) in
    let few = before_short (value_at c.args.tree.now) c.args.depth b (c.loop-i.i + 1)
    (c.loop-i.bytes + c.count_at-child.result.bytes) (omega arith) e in
    let fits : c.loop-i.bytes + c.count_at-child.result.bytes < 18446744073709551616 =
    omega (arith, few) in
    search rules

pub loop-i-preserved : goal.loop-i-preserved
loop-i-preserved t c = record {
  alike = λ b at. alike_next (value_at c.args.tree.now) c.args.depth b
      c.count_at-first.result.common c.count_at-child.result.common c.loop-i.are_alike
      c.is_same-are_alike-in-loop-i.result c.loop-i.i
      (linked_above c.args.tree.now c.args.p c.args.depth c.in-Inner.id b
      c.in-Inner.ensures.linked c.requires.place c.requires.block
      (ap link_of (sym c.in-Inner.ensures.exact)) at)
      (omega arith) (omega arith) (c.loop-i.invariant.alike b at)
      (c.count_at-child.ensures.common (child_of b c.loop-i.i)
      (slot_block c.args.tree.now c.in-Inner.ensures.linked c.args.p c.in-Inner.id c.loop-i.i b
      (ap link_of (sym c.in-Inner.ensures.exact)) at))
      c.is_same-are_alike-in-loop-i.ensures;
  length = λ b at. long_child (value_at c.args.tree.now) c.args.depth b c.loop-i.i c.loop-i.bytes
      c.count_at-child.result.bytes (c.loop-i.invariant.length b at)
      (c.count_at-child.ensures.bytes (child_of b c.loop-i.i)
      (slot_block c.args.tree.now c.in-Inner.ensures.linked c.args.p c.in-Inner.id c.loop-i.i b
      (ap link_of (sym c.in-Inner.ensures.exact)) at));
}

pub returns-then-are_alike-clause-common : goal.returns-then-are_alike-clause-common
returns-then-are_alike-clause-common t c = λ b at.
    (let a = linked_above c.args.tree.now c.args.p c.args.depth c.in-Inner.id b
    c.in-Inner.ensures.linked c.requires.place c.requires.block
    (ap link_of (sym c.in-Inner.ensures.exact)) at in
    let alike = c.loop-i.invariant.alike b at in
    common_all (value_at c.args.tree.now) b c.count_at-first.result.common c.loop-i.i a.ok a.low
    (omega arith) (alike.one c.if-are_alike.true) (alike.same c.if-are_alike.true))

pub returns-then-are_alike-clause-bytes : goal.returns-then-are_alike-clause-bytes
returns-then-are_alike-clause-bytes t c = λ b at.
    (let a = linked_above c.args.tree.now c.args.p c.args.depth c.in-Inner.id b
    c.in-Inner.ensures.linked c.requires.place c.requires.block
    (ap link_of (sym c.in-Inner.ensures.exact)) at in
    let alike = c.loop-i.invariant.alike b at in
    let first = slot_block c.args.tree.now c.in-Inner.ensures.linked c.args.p c.in-Inner.id 0 b
    (ap link_of (sym c.in-Inner.ensures.exact)) at in
    length_alike (value_at c.args.tree.now) c.args.depth b c.count_at-first.result.common
    c.count_at-first.result.bytes a (alike.one c.if-are_alike.true)
    (common_all (value_at c.args.tree.now) b c.count_at-first.result.common c.loop-i.i a.ok a.low
    (omega arith) (alike.one c.if-are_alike.true) (alike.same c.if-are_alike.true))
    (c.count_at-first.ensures.common (child_of b 0) first)
    (c.count_at-first.ensures.bytes (child_of b 0) first))

pub returns-then-are_alike-clause-short : goal.returns-then-are_alike-clause-short
returns-then-are_alike-clause-short t c =
    let (b, at) = place_block c.args.tree.now c.args.p c.requires.place in
    let a = linked_above c.args.tree.now c.args.p c.args.depth c.in-Inner.id b
    c.in-Inner.ensures.linked c.requires.place c.requires.block
    (ap link_of (sym c.in-Inner.ensures.exact)) at in
    let alike = c.loop-i.invariant.alike b at in
    let first = slot_block c.args.tree.now c.in-Inner.ensures.linked c.args.p c.in-Inner.id 0 b
    (ap link_of (sym c.in-Inner.ensures.exact)) at in
    let long = length_alike (value_at c.args.tree.now) c.args.depth b
    c.count_at-first.result.common
    c.count_at-first.result.bytes a (alike.one c.if-are_alike.true)
    (common_all (value_at c.args.tree.now) b c.count_at-first.result.common c.loop-i.i a.ok a.low
    (omega arith) (alike.one c.if-are_alike.true) (alike.same c.if-are_alike.true))
    (c.count_at-first.ensures.common (child_of b 0) first)
    (c.count_at-first.ensures.bytes (child_of b 0) first) in
    let few = node_short (16 - c.args.depth) (value_at c.args.tree.now) b in
    omega (arith, long, few)

pub returns-clause-common : goal.returns-clause-common
returns-clause-common t c = λ b at. (c.loop-i.invariant.alike b at).several c.if-are_alike.false

pub returns-clause-bytes : goal.returns-clause-bytes
returns-clause-bytes t c = λ b at.
    long_all (value_at c.args.tree.now) c.args.depth b Several c.loop-i.i c.loop-i.bytes
    (linked_above c.args.tree.now c.args.p c.args.depth c.in-Inner.id b
    c.in-Inner.ensures.linked c.requires.place c.requires.block
    (ap link_of (sym c.in-Inner.ensures.exact)) at)
    ((c.loop-i.invariant.alike b at).several c.if-are_alike.false)
    (λ v is. not_one v is) (omega arith) (c.loop-i.invariant.length b at)

pub returns-clause-short : goal.returns-clause-short
returns-clause-short t c =
    let (b, at) = place_block c.args.tree.now c.args.p c.requires.place in
    let long = long_all (value_at c.args.tree.now) c.args.depth b Several c.loop-i.i c.loop-i.bytes
    (linked_above c.args.tree.now c.args.p c.args.depth c.in-Inner.id b
    c.in-Inner.ensures.linked c.requires.place c.requires.block
    (ap link_of (sym c.in-Inner.ensures.exact)) at)
    ((c.loop-i.invariant.alike b at).several c.if-are_alike.false)
    (λ v is. not_one v is) (omega arith) (c.loop-i.invariant.length b at) in
    let few = node_short (16 - c.args.depth) (value_at c.args.tree.now) b in
    omega (arith, long, few)
