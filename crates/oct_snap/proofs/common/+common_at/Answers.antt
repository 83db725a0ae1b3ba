use Rattle.std.proofs.Common.{rules, ◌≡◌, None, sym, ap, ◌∙◌, arith}
use Rattle.oct_key.specs.Block.{child_of}
use Rattle.oct_arena.specs.Nodes.{link_of, value_of}
use Rattle.oct_tree.specs.Tree.{value_at}
use Rattle.oct_tree.proofs.Paths.{not_inner, slot_block}
use Rattle.oct_snap.specs.Common.{value_of_common}
use Rattle.oct_snap.proofs.Places.{linked_above, child_asked}
use Rattle.oct_snap.proofs.Commons.{leaf_is, several_up, common_first, common_other, common_all}
use Rattle.oct_snap.proofs.Commons.{common_next}
use Rattle.oct_snap.proofs.common.+common_at.Goals as goal

pub returns-in_default : goal.returns-in_default
returns-in_default t c =
    let none : link_of c.node-node.result ≡ None =
    not_inner c.node-node.result c.in_default.not-Inner in
    record {
      common = λ b at. leaf_is c.args.tree.now c.args.p b (value_of c.node-node.result)
          c.value.result c.node-node.ensures.linked
          c.requires.place at (c.node-node.ensures.values b at none) c.value.ensures.exact;
      linked = c.node-node.ensures.linked;
    }

pub common_at-first-requires : goal.common_at-first-requires
common_at-first-requires t c =
    let (place, block, levels) =
    child_asked c.args.tree.now c.args.p c.args.depth 0 c.in-Inner.id c.in-Inner.ensures.linked
    c.requires.place c.requires.block
    (ap link_of (sym c.in-Inner.ensures.exact)) (omega arith) in
    (search rules, (place, (block, levels)))

pub returns-then-is_same-clause-common : goal.returns-then-is_same-clause-common
returns-then-is_same-clause-common t c = λ b at.
    (let a = linked_above c.args.tree.now c.args.p c.args.depth c.in-Inner.id b
    c.in-Inner.ensures.linked
    c.requires.place c.requires.block
    (ap link_of (sym c.in-Inner.ensures.exact)) at in
    sym (several_up (value_at c.args.tree.now) b 0 a.ok a.low (omega arith)
    (sym (c.common_at-first.ensures.common (child_of b 0)
    (slot_block c.args.tree.now c.in-Inner.ensures.linked c.args.p c.in-Inner.id 0 b
    (ap link_of (sym c.in-Inner.ensures.exact)) at))
    ∙ ap value_of_common (c.is_same.ensures.0 c.if-is_same.true))))

pub loop-i-init : goal.loop-i-init
loop-i-init t c = λ b at. common_first (value_at c.args.tree.now) b c.common_at-first.result
    (c.common_at-first.ensures.common (child_of b 0)
    (slot_block c.args.tree.now c.in-Inner.ensures.linked c.args.p c.in-Inner.id 0 b
    (ap link_of (sym c.in-Inner.ensures.exact)) at))

pub common_at-requires : goal.common_at-requires
common_at-requires t c =
    let (place, block, levels) =
    child_asked c.args.tree.now c.args.p c.args.depth c.loop-i.i c.in-Inner.id
    c.in-Inner.ensures.linked c.requires.place c.requires.block
    (ap link_of (sym c.in-Inner.ensures.exact)) (omega arith) in
    (search rules, (place, (block, levels)))

pub loop-i-preserved : goal.loop-i-preserved
loop-i-preserved t c =
    λ b at. common_next (value_at c.args.tree.now) b c.common_at-first.result c.loop-i.i
    (c.loop-i.invariant b at)
    (sym (c.common_at.ensures.common (child_of b c.loop-i.i)
    (slot_block c.args.tree.now c.in-Inner.ensures.linked c.args.p c.in-Inner.id c.loop-i.i b
    (ap link_of (sym c.in-Inner.ensures.exact)) at))
    ∙ ap value_of_common (c.is_same-in-loop-i.ensures.0 (search rules)))

pub returns-then-not-is_same-clause-common : goal.returns-then-not-is_same-clause-common
returns-then-not-is_same-clause-common t c = λ b at.
    (let a = linked_above c.args.tree.now c.args.p c.args.depth c.in-Inner.id b
    c.in-Inner.ensures.linked
    c.requires.place c.requires.block
    (ap link_of (sym c.in-Inner.ensures.exact)) at in
    common_other (value_at c.args.tree.now) b c.common_at-first.result c.common_at.result c.loop-i.i
    a.ok a.low (omega arith) (omega arith)
    (c.loop-i.invariant b at)
    (c.common_at.ensures.common (child_of b c.loop-i.i)
    (slot_block c.args.tree.now c.in-Inner.ensures.linked c.args.p c.in-Inner.id c.loop-i.i b
    (ap link_of (sym c.in-Inner.ensures.exact)) at))
    (λ same. (let yes_same = c.is_same-in-loop-i.ensures.1 same in let no_same =
    c.if-not-is_same.true in search rules)))

pub returns-clause-common : goal.returns-clause-common
returns-clause-common t c = λ b at.
    (let a = linked_above c.args.tree.now c.args.p c.args.depth c.in-Inner.id b
    c.in-Inner.ensures.linked
    c.requires.place c.requires.block
    (ap link_of (sym c.in-Inner.ensures.exact)) at in
    common_all (value_at c.args.tree.now) b c.common_at-first.result c.loop-i.i a.ok a.low
    (omega arith)
    (λ several. (let is_several = c.is_same.ensures.1 several in let no_several = c.if-is_same.false
    in search rules))
    (c.loop-i.invariant b at))
