use Rattle.std.proofs.Common.{rules, ◌<◌, ◌-◌, ◌+◌, ℕ, sym, ap, ◌∙◌, arith, subst}
use Rattle.std.proofs.lemmas.Bool.{false≢true}
use Rattle.oct_key.specs.Block.{child_of}
use Rattle.oct_arena.specs.Nodes.{link_of, value_of}
use Rattle.oct_tree.proofs.Paths.{not_inner, place_block, slot_block}
use Rattle.oct_tree.specs.declared.place.Place.TheVariants.{Slot}
use Rattle.oct_bt.specs.Counts.{IsBlockCount}
use Rattle.oct_tree.specs.Classes.{classes_in}
use Rattle.oct_bt.proofs.Mixtures.{class_of_leaf, linked_above, child_asked}
use Rattle.oct_bt.proofs.Counts.{AreTallied, tallied_first, tallied_small}
use Rattle.oct_bt.proofs.Adding.{kind_first, kind_next, kind_all, counted_next, counted_several}
use Rattle.oct_bt.proofs.Adding.{counted_one, no_link}
use Rattle.oct_bt.proofs.counting.+count_at.Goals as goal
use Rattle.oct_bt.proofs.counting.+count_at.Goals.{then-is_inner, else-is_inner}

pub count_leaf-requires : goal.count_leaf-requires
count_leaf-requires t c = not_inner c.node-node.result c.in_default.not-Inner

pub returns-in_default : goal.returns-in_default
returns-in_default t c =
    let none = not_inner c.node-node.result c.in_default.not-Inner in
    record {
      counted = λ b at. c.count_leaf.ensures (classes_in c.args.tree.now) (16 - c.args.depth) b
          (class_of_leaf c.args.tree.now c.args.p b (value_of c.node-node.result)
          c.node-node.ensures.linked c.requires.place at
          (c.node-node.ensures.values b at none));
      linked = c.node-node.ensures.linked;
    }

pub node-below-requires : goal.node-below-requires
node-below-requires t c =
    (child_asked c.args.tree.now c.args.p c.args.depth (7 - c.loop-done.done) c.in-Inner.id
    c.in-Inner.ensures.linked
    c.requires.place c.requires.block (ap link_of (sym c.in-Inner.ensures.exact)) (omega arith)).0

pub count_leaf-child-requires : goal.count_leaf-child-requires
count_leaf-child-requires t c =
    no_link c.node-below.result c.is_inner.result c.is_inner.ensures c.if-is_inner.false

pub loop-done-init : goal.loop-done-init
loop-done-init t c =
    λ b at. (
      kind_first (classes_in c.args.tree.now) b,
      tallied_first (classes_in c.args.tree.now) c.args.depth b,
    )

pub count_at-child-requires : goal.count_at-child-requires
count_at-child-requires t c =
    let (place, block, levels) =
    child_asked c.args.tree.now c.args.p c.args.depth (7 - c.loop-done.done) c.in-Inner.id
    c.in-Inner.ensures.linked
    c.requires.place c.requires.block (ap link_of (sym c.in-Inner.ensures.exact)) (omega arith) in
    (search rules, (place, (block, levels)))

pub overflow_add-nodes : goal.overflow_add-nodes
overflow_add-nodes t c =
    let (b, at) = place_block c.args.tree.now c.args.p c.requires.place in
    let a = (linked_above c.args.tree.now c.args.p c.args.depth c.in-Inner.id b
    c.in-Inner.ensures.linked
    c.requires.place c.requires.block
    (ap link_of (sym c.in-Inner.ensures.exact)) at) in
    let one : IsBlockCount (classes_in c.args.tree.now) (16 - (c.args.depth + 1))
    (child_of b (7 - c.loop-done.done)) c.if-is_inner.child = elim c.if-is_inner.branch [
      | then-is_inner w ↦ subst (IsBlockCount (classes_in c.args.tree.now) (16 - (c.args.depth + 1))
          (child_of b (7 - c.loop-done.done))) (sym w.child-is)
          (w.count_at-child.ensures.counted (child_of b (7 - c.loop-done.done))
          (slot_block c.args.tree.now c.in-Inner.ensures.linked c.args.p c.in-Inner.id
          (7 - c.loop-done.done) b (ap link_of (sym c.in-Inner.ensures.exact)) at))
      | else-is_inner w ↦ subst (IsBlockCount (classes_in c.args.tree.now) (16 - (c.args.depth + 1))
          (child_of b (7 - c.loop-done.done))) (sym w.child-is)
          (w.count_leaf-child.ensures (classes_in c.args.tree.now) (16 - (c.args.depth + 1))
          (child_of b (7 - c.loop-done.done))
          (class_of_leaf c.args.tree.now (Slot c.in-Inner.id (7 - c.loop-done.done))
          (child_of b (7 - c.loop-done.done))
          (value_of c.node-below.result) c.in-Inner.ensures.linked
          (child_asked c.args.tree.now c.args.p c.args.depth (7 - c.loop-done.done) c.in-Inner.id
          c.in-Inner.ensures.linked
          c.requires.place c.requires.block (ap link_of (sym c.in-Inner.ensures.exact))
          (omega arith)).0
          (slot_block c.args.tree.now c.in-Inner.ensures.linked c.args.p c.in-Inner.id
          (7 - c.loop-done.done) b (ap link_of (sym c.in-Inner.ensures.exact)) at)
          (c.node-below.ensures.values (child_of b (7 - c.loop-done.done))
          (slot_block c.args.tree.now c.in-Inner.ensures.linked c.args.p c.in-Inner.id
          (7 - c.loop-done.done) b (ap link_of (sym c.in-Inner.ensures.exact)) at)
          (no_link c.node-below.result c.is_inner.result c.is_inner.ensures
          w.if-is_inner.false))))
    ] in
    let step = subst
    (λ (n : ℕ). AreTallied (classes_in c.args.tree.now) c.args.depth b (c.loop-done.done + 1)
    (c.loop-done.known + (n + c.if-is_inner.child.known))
    (c.loop-done.records + c.if-is_inner.child.records))
    (sym c.entry_nodes.ensures.count)
    (counted_next (classes_in c.args.tree.now) c.args.depth b c.loop-done.done c.loop-done.known
    c.loop-done.records
    c.if-is_inner.child.kind c.if-is_inner.child.known c.if-is_inner.child.records
    c.loop-done-test.true a one.kind one.counted
    (c.loop-done.invariant b at).1) in
    let s = tallied_small (classes_in c.args.tree.now) c.args.depth b (c.loop-done.done + 1)
    (c.loop-done.known + (c.entry_nodes.result + c.if-is_inner.child.known))
    (c.loop-done.records + c.if-is_inner.child.records) a (omega arith) step in
    let all_nodes = s.0 in
    let all_records = s.1 in
    let fits : c.entry_nodes.result + c.if-is_inner.child.known < 18446744073709551616 =
    omega (arith, all_nodes) in
    search rules

pub overflow_add-known : goal.overflow_add-known
overflow_add-known t c =
    let (b, at) = place_block c.args.tree.now c.args.p c.requires.place in
    let a = (linked_above c.args.tree.now c.args.p c.args.depth c.in-Inner.id b
    c.in-Inner.ensures.linked
    c.requires.place c.requires.block
    (ap link_of (sym c.in-Inner.ensures.exact)) at) in
    let one : IsBlockCount (classes_in c.args.tree.now) (16 - (c.args.depth + 1))
    (child_of b (7 - c.loop-done.done)) c.if-is_inner.child = elim c.if-is_inner.branch [
      | then-is_inner w ↦ subst (IsBlockCount (classes_in c.args.tree.now) (16 - (c.args.depth + 1))
          (child_of b (7 - c.loop-done.done))) (sym w.child-is)
          (w.count_at-child.ensures.counted (child_of b (7 - c.loop-done.done))
          (slot_block c.args.tree.now c.in-Inner.ensures.linked c.args.p c.in-Inner.id
          (7 - c.loop-done.done) b (ap link_of (sym c.in-Inner.ensures.exact)) at))
      | else-is_inner w ↦ subst (IsBlockCount (classes_in c.args.tree.now) (16 - (c.args.depth + 1))
          (child_of b (7 - c.loop-done.done))) (sym w.child-is)
          (w.count_leaf-child.ensures (classes_in c.args.tree.now) (16 - (c.args.depth + 1))
          (child_of b (7 - c.loop-done.done))
          (class_of_leaf c.args.tree.now (Slot c.in-Inner.id (7 - c.loop-done.done))
          (child_of b (7 - c.loop-done.done))
          (value_of c.node-below.result) c.in-Inner.ensures.linked
          (child_asked c.args.tree.now c.args.p c.args.depth (7 - c.loop-done.done) c.in-Inner.id
          c.in-Inner.ensures.linked
          c.requires.place c.requires.block (ap link_of (sym c.in-Inner.ensures.exact))
          (omega arith)).0
          (slot_block c.args.tree.now c.in-Inner.ensures.linked c.args.p c.in-Inner.id
          (7 - c.loop-done.done) b (ap link_of (sym c.in-Inner.ensures.exact)) at)
          (c.node-below.ensures.values (child_of b (7 - c.loop-done.done))
          (slot_block c.args.tree.now c.in-Inner.ensures.linked c.args.p c.in-Inner.id
          (7 - c.loop-done.done) b (ap link_of (sym c.in-Inner.ensures.exact)) at)
          (no_link c.node-below.result c.is_inner.result c.is_inner.ensures
          w.if-is_inner.false))))
    ] in
    let step = subst
    (λ (n : ℕ). AreTallied (classes_in c.args.tree.now) c.args.depth b (c.loop-done.done + 1)
    (c.loop-done.known + (n + c.if-is_inner.child.known))
    (c.loop-done.records + c.if-is_inner.child.records))
    (sym c.entry_nodes.ensures.count)
    (counted_next (classes_in c.args.tree.now) c.args.depth b c.loop-done.done c.loop-done.known
    c.loop-done.records
    c.if-is_inner.child.kind c.if-is_inner.child.known c.if-is_inner.child.records
    c.loop-done-test.true a one.kind one.counted
    (c.loop-done.invariant b at).1) in
    let s = tallied_small (classes_in c.args.tree.now) c.args.depth b (c.loop-done.done + 1)
    (c.loop-done.known + (c.entry_nodes.result + c.if-is_inner.child.known))
    (c.loop-done.records + c.if-is_inner.child.records) a (omega arith) step in
    let all_nodes = s.0 in
    let all_records = s.1 in
    let fits : c.loop-done.known + (c.entry_nodes.result + c.if-is_inner.child.known)
    < 18446744073709551616 = omega (arith, all_nodes) in
    search rules

pub overflow_add-records : goal.overflow_add-records
overflow_add-records t c =
    let (b, at) = place_block c.args.tree.now c.args.p c.requires.place in
    let a = (linked_above c.args.tree.now c.args.p c.args.depth c.in-Inner.id b
    c.in-Inner.ensures.linked
    c.requires.place c.requires.block
    (ap link_of (sym c.in-Inner.ensures.exact)) at) in
    let one : IsBlockCount (classes_in c.args.tree.now) (16 - (c.args.depth + 1))
    (child_of b (7 - c.loop-done.done)) c.if-is_inner.child = elim c.if-is_inner.branch [
      | then-is_inner w ↦ subst (IsBlockCount (classes_in c.args.tree.now) (16 - (c.args.depth + 1))
          (child_of b (7 - c.loop-done.done))) (sym w.child-is)
          (w.count_at-child.ensures.counted (child_of b (7 - c.loop-done.done))
          (slot_block c.args.tree.now c.in-Inner.ensures.linked c.args.p c.in-Inner.id
          (7 - c.loop-done.done) b (ap link_of (sym c.in-Inner.ensures.exact)) at))
      | else-is_inner w ↦ subst (IsBlockCount (classes_in c.args.tree.now) (16 - (c.args.depth + 1))
          (child_of b (7 - c.loop-done.done))) (sym w.child-is)
          (w.count_leaf-child.ensures (classes_in c.args.tree.now) (16 - (c.args.depth + 1))
          (child_of b (7 - c.loop-done.done))
          (class_of_leaf c.args.tree.now (Slot c.in-Inner.id (7 - c.loop-done.done))
          (child_of b (7 - c.loop-done.done))
          (value_of c.node-below.result) c.in-Inner.ensures.linked
          (child_asked c.args.tree.now c.args.p c.args.depth (7 - c.loop-done.done) c.in-Inner.id
          c.in-Inner.ensures.linked
          c.requires.place c.requires.block (ap link_of (sym c.in-Inner.ensures.exact))
          (omega arith)).0
          (slot_block c.args.tree.now c.in-Inner.ensures.linked c.args.p c.in-Inner.id
          (7 - c.loop-done.done) b (ap link_of (sym c.in-Inner.ensures.exact)) at)
          (c.node-below.ensures.values (child_of b (7 - c.loop-done.done))
          (slot_block c.args.tree.now c.in-Inner.ensures.linked c.args.p c.in-Inner.id
          (7 - c.loop-done.done) b (ap link_of (sym c.in-Inner.ensures.exact)) at)
          (no_link c.node-below.result c.is_inner.result c.is_inner.ensures
          w.if-is_inner.false))))
    ] in
    let step = subst
    (λ (n : ℕ). AreTallied (classes_in c.args.tree.now) c.args.depth b (c.loop-done.done + 1)
    (c.loop-done.known + (n + c.if-is_inner.child.known))
    (c.loop-done.records + c.if-is_inner.child.records))
    (sym c.entry_nodes.ensures.count)
    (counted_next (classes_in c.args.tree.now) c.args.depth b c.loop-done.done c.loop-done.known
    c.loop-done.records
    c.if-is_inner.child.kind c.if-is_inner.child.known c.if-is_inner.child.records
    c.loop-done-test.true a one.kind one.counted
    (c.loop-done.invariant b at).1) in
    let s = tallied_small (classes_in c.args.tree.now) c.args.depth b (c.loop-done.done + 1)
    (c.loop-done.known + (c.entry_nodes.result + c.if-is_inner.child.known))
    (c.loop-done.records + c.if-is_inner.child.records) a (omega arith) step in
    let all_nodes = s.0 in
    let all_records = s.1 in
    let fits : c.loop-done.records + c.if-is_inner.child.records < 18446744073709551616 =
    omega (arith, all_records) in
    search rules

pub loop-done-preserved : goal.loop-done-preserved
loop-done-preserved t c = λ b at.
    (let a = (linked_above c.args.tree.now c.args.p c.args.depth c.in-Inner.id b
    c.in-Inner.ensures.linked
    c.requires.place c.requires.block
    (ap link_of (sym c.in-Inner.ensures.exact)) at) in
    let one : IsBlockCount (classes_in c.args.tree.now) (16 - (c.args.depth + 1))
    (child_of b (7 - c.loop-done.done)) c.if-is_inner.child = elim c.if-is_inner.branch [
      | then-is_inner w ↦ subst (IsBlockCount (classes_in c.args.tree.now) (16 - (c.args.depth + 1))
          (child_of b (7 - c.loop-done.done))) (sym w.child-is)
          (w.count_at-child.ensures.counted (child_of b (7 - c.loop-done.done))
          (slot_block c.args.tree.now c.in-Inner.ensures.linked c.args.p c.in-Inner.id
          (7 - c.loop-done.done) b (ap link_of (sym c.in-Inner.ensures.exact)) at))
      | else-is_inner w ↦ subst (IsBlockCount (classes_in c.args.tree.now) (16 - (c.args.depth + 1))
          (child_of b (7 - c.loop-done.done))) (sym w.child-is)
          (w.count_leaf-child.ensures (classes_in c.args.tree.now) (16 - (c.args.depth + 1))
          (child_of b (7 - c.loop-done.done))
          (class_of_leaf c.args.tree.now (Slot c.in-Inner.id (7 - c.loop-done.done))
          (child_of b (7 - c.loop-done.done))
          (value_of c.node-below.result) c.in-Inner.ensures.linked
          (child_asked c.args.tree.now c.args.p c.args.depth (7 - c.loop-done.done) c.in-Inner.id
          c.in-Inner.ensures.linked
          c.requires.place c.requires.block (ap link_of (sym c.in-Inner.ensures.exact))
          (omega arith)).0
          (slot_block c.args.tree.now c.in-Inner.ensures.linked c.args.p c.in-Inner.id
          (7 - c.loop-done.done) b (ap link_of (sym c.in-Inner.ensures.exact)) at)
          (c.node-below.ensures.values (child_of b (7 - c.loop-done.done))
          (slot_block c.args.tree.now c.in-Inner.ensures.linked c.args.p c.in-Inner.id
          (7 - c.loop-done.done) b (ap link_of (sym c.in-Inner.ensures.exact)) at)
          (no_link c.node-below.result c.is_inner.result c.is_inner.ensures
          w.if-is_inner.false))))
    ] in
    let step = subst
    (λ (n : ℕ). AreTallied (classes_in c.args.tree.now) c.args.depth b (c.loop-done.done + 1)
    (c.loop-done.known + (n + c.if-is_inner.child.known))
    (c.loop-done.records + c.if-is_inner.child.records))
    (sym c.entry_nodes.ensures.count)
    (counted_next (classes_in c.args.tree.now) c.args.depth b c.loop-done.done c.loop-done.known
    c.loop-done.records
    c.if-is_inner.child.kind c.if-is_inner.child.known c.if-is_inner.child.records
    c.loop-done-test.true a one.kind one.counted
    (c.loop-done.invariant b at).1) in (
      kind_next (classes_in c.args.tree.now) c.args.depth b c.loop-done.done c.loop-done.kind
          c.if-is_inner.child.kind c.joined-kind.result
          c.loop-done-test.true a one.kind (c.loop-done.invariant b at).0
          c.joined-kind.ensures.first c.joined-kind.ensures.same c.joined-kind.ensures.other,
      step,
    ))

pub returns-then-is_several-clause-counted : goal.returns-then-is_several-clause-counted
returns-then-is_several-clause-counted t c = λ b at.
    counted_several (classes_in c.args.tree.now) c.args.depth b c.loop-done.done c.loop-done.known
    c.loop-done.records c.loop-done.kind (omega arith)
    (linked_above c.args.tree.now c.args.p c.args.depth c.in-Inner.id b c.in-Inner.ensures.linked
    c.requires.place c.requires.block
    (ap link_of (sym c.in-Inner.ensures.exact)) at)
    (c.loop-done.invariant b at).0 (c.loop-done.invariant b at).1
    (c.is_several.ensures.0 c.if-is_several.true)

pub returns-clause-counted : goal.returns-clause-counted
returns-clause-counted t c = λ b at.
    counted_one (classes_in c.args.tree.now) (16 - c.args.depth) b c.loop-done.kind
    (kind_all (classes_in c.args.tree.now) c.args.depth b c.loop-done.done c.loop-done.kind
    (omega arith)
    (linked_above c.args.tree.now c.args.p c.args.depth c.in-Inner.id b c.in-Inner.ensures.linked
    c.requires.place c.requires.block
    (ap link_of (sym c.in-Inner.ensures.exact)) at)
    (c.loop-done.invariant b at).0)
    (λ e. false≢true (sym c.if-is_several.false ∙ c.is_several.ensures.1 e))
