use Rattle.std.proofs.Common.{rules, ◌≡◌, ◌<◌, ◌-◌, ◌+◌, ℕ, sym, ap, ◌∙◌, arith, subst, length}
use Rattle.std.proofs.lemmas.Result.{IfOk-weaker, on_ok_weaker, on_err_weaker}
use Rattle.oct_num.proofs.Results.{on_any_err}
use Rattle.oct_key.specs.Block.{child_of}
use Rattle.oct_io.specs.Taken.{IsTaken, IsRefused}
use Rattle.oct_arena.specs.Nodes.{link_of}
use Rattle.oct_tree.specs.Tree.{value_at}
use Rattle.oct_tree.proofs.Links.{place_in_map}
use Rattle.oct_tree.proofs.Paths.{not_inner, place_block, slot_block}
use Rattle.oct_snap.specs.Common.{value_of_common}
use Rattle.oct_snap.specs.Nodes.{whole_text}
use Rattle.oct_snap.proofs.Places.{linked_above, child_asked}
use Rattle.oct_snap.proofs.Writes.{node_of_one}
use Rattle.oct_snap.proofs.Writes.{whole_fits, never_leaf, before_none, cut_first, cut_child}
use Rattle.oct_snap.proofs.Writes.{sent_child, sent_all, long_child, long_all, before_short}
use Rattle.oct_snap.proofs.Writes.{node_short}
use Rattle.oct_snap.proofs.writing.+write_node.Goals as goal

pub returns-in-Value-clause-length : goal.returns-in-Value-clause-length
returns-in-Value-clause-length g t c =
    IfOk-weaker c.write_whole.result (λ (bytes : ℕ). bytes ≡ length (whole_text c.in-Value.value)) _
    (λ bytes is b at. is ∙ ap length (sym
    (node_of_one (16 - c.args.depth)
    (value_at c.args.tree.now) b c.in-Value.value
    (place_in_map c.args.tree.now c.in-Value.ensures.linked c.args.p b c.requires.place at)
    (ap value_of_common (sym c.in-Value.is) ∙ c.common_at.ensures.common b at))))
    c.write_whole.ensures.length

pub returns-in-Value-clause-short : goal.returns-in-Value-clause-short
returns-in-Value-clause-short g t c =
    IfOk-weaker c.write_whole.result (λ (bytes : ℕ). bytes ≡ length (whole_text c.in-Value.value)) _
    (λ bytes is. whole_fits (16 - c.args.depth) bytes c.in-Value.value is)
    c.write_whole.ensures.length

pub returns-in-Value-clause-written : goal.returns-in-Value-clause-written
returns-in-Value-clause-written g t c =
    on_ok_weaker c.write_whole.result
    (λ is b at. subst
    (λ t. IsTaken t (g.K.Sink.written c.args.sink.now) c.args.gather.now
    (g.K.Sink.written c.write_whole.new.sink) c.write_whole.new.gather) (sym
    (node_of_one (16 - c.args.depth)
    (value_at c.args.tree.now) b c.in-Value.value
    (place_in_map c.args.tree.now c.in-Value.ensures.linked c.args.p b c.requires.place at)
    (ap value_of_common (sym c.in-Value.is) ∙ c.common_at.ensures.common b at))) is)
    c.write_whole.ensures.written

pub returns-in-Value-clause-cut : goal.returns-in-Value-clause-cut
returns-in-Value-clause-cut g t c =
    on_err_weaker c.write_whole.result
    (λ is b at. subst
    (λ t. IsRefused t (g.K.Sink.written c.args.sink.now) c.args.gather.now
    (g.K.Sink.written c.write_whole.new.sink)) (sym
    (node_of_one (16 - c.args.depth)
    (value_at c.args.tree.now) b c.in-Value.value
    (place_in_map c.args.tree.now c.in-Value.ensures.linked c.args.p b c.requires.place at)
    (ap value_of_common (sym c.in-Value.is) ∙ c.common_at.ensures.common b at))) is)
    c.write_whole.ensures.cut

pub unreachable-requires : goal.unreachable-requires
unreachable-requires g t c =
    never_leaf c.args.tree.now c.args.p c.node.result c.common_at.result c.node.ensures.linked
    c.requires.place
    (not_inner c.node.result c.in_default-node.not-Inner) c.node.ensures.values
    c.common_at.ensures.common c.in_default.not-Value

pub returns-in_err-push-clause-cut : goal.returns-in_err-push-clause-cut
returns-in_err-push-clause-cut g t c = on_any_err c.from_residual.result _ (λ b at.
    cut_first (value_at c.args.tree.now) c.args.depth b c.common_at.result _ _ _
    (linked_above c.args.tree.now c.args.p c.args.depth c.in-Inner.id b c.in-Inner.ensures.linked
    c.requires.place c.requires.block
    (ap link_of (sym c.in-Inner.ensures.exact)) at)
    (c.common_at.ensures.common b at) c.in_default.not-Value c.in_err-push.ensures.refused)

pub loop-i-init : goal.loop-i-init
loop-i-init g t c = record {
  written = λ b at. subst
      (λ t. IsTaken t (g.K.Sink.written c.args.sink.now) c.args.gather.now
      (g.K.Sink.written c.push.new.sink) c.push.new.self)
      (sym (before_none (value_at c.args.tree.now) c.args.depth b)) c.in_ok-push.ensures.taken;
  length = λ b at. ap length (sym (before_none (value_at c.args.tree.now) c.args.depth b));
  faults = c.in_ok-push.ensures.counts.stays.0;
  shortages = c.in_ok-push.ensures.counts.stays.1;
}

pub write_node-requires : goal.write_node-requires
write_node-requires g t c κs within =
    let (place, block, levels) =
    child_asked c.args.tree.now c.args.p c.args.depth c.loop-i.i c.in-Inner.id
    c.in-Inner.ensures.linked
    c.requires.place c.requires.block (ap link_of (sym c.in-Inner.ensures.exact)) (omega arith) in
    (search rules, (within, (place, (block, levels))))

pub returns-in_err-bytes-clause-cut : goal.returns-in_err-bytes-clause-cut
returns-in_err-bytes-clause-cut g t c = on_any_err c.from_residual-in_err-bytes.result _ (λ b at.
    cut_child (value_at c.args.tree.now) c.args.depth b c.common_at.result c.loop-i.i _ _ _ _ _
    (linked_above c.args.tree.now c.args.p c.args.depth c.in-Inner.id b c.in-Inner.ensures.linked
    c.requires.place c.requires.block
    (ap link_of (sym c.in-Inner.ensures.exact)) at)
    (c.common_at.ensures.common b at) c.in_default.not-Value (omega arith)
    (c.loop-i.invariant.written b at)
    (c.in_err-bytes.ensures.cut (child_of b c.loop-i.i)
    (slot_block c.args.tree.now c.in-Inner.ensures.linked c.args.p c.in-Inner.id c.loop-i.i b
    (ap link_of (sym c.in-Inner.ensures.exact)) at)))

pub overflow_add-bytes : goal.overflow_add-bytes
overflow_add-bytes g t c =
    let (b, at) = place_block c.args.tree.now c.args.p c.requires.place in
    let e = long_child (value_at c.args.tree.now) c.args.depth b c.loop-i.i c.loop-i.bytes
    c.in_ok-bytes.field-0 (c.loop-i.invariant.length b at)
    (c.in_ok-bytes.ensures.length (child_of b c.loop-i.i)
    (slot_block c.args.tree.now c.in-Inner.ensures.linked c.args.p c.in-Inner.id c.loop-i.i b
    (ap link_of (sym c.in-Inner.ensures.exact)) at)) in
    let few = before_short (value_at c.args.tree.now) c.args.depth b (c.loop-i.i + 1)
    (c.loop-i.bytes + c.in_ok-bytes.field-0) (omega arith) e in
    let fits : c.loop-i.bytes + c.in_ok-bytes.field-0 < 18446744073709551616 = omega (arith, few) in
    search rules

pub loop-i-preserved : goal.loop-i-preserved
loop-i-preserved g t c = record {
  written = λ b at. sent_child (value_at c.args.tree.now) c.args.depth b c.loop-i.i _ _ _ _ _ _
      (c.loop-i.invariant.written b at)
      (c.in_ok-bytes.ensures.written (child_of b c.loop-i.i)
      (slot_block c.args.tree.now c.in-Inner.ensures.linked c.args.p c.in-Inner.id c.loop-i.i b
      (ap link_of (sym c.in-Inner.ensures.exact)) at));
  length = λ b at. long_child (value_at c.args.tree.now) c.args.depth b c.loop-i.i c.loop-i.bytes
      c.in_ok-bytes.field-0 (c.loop-i.invariant.length b at)
      (c.in_ok-bytes.ensures.length (child_of b c.loop-i.i)
      (slot_block c.args.tree.now c.in-Inner.ensures.linked c.args.p c.in-Inner.id c.loop-i.i b
      (ap link_of (sym c.in-Inner.ensures.exact)) at));
  faults = c.in_ok-bytes.ensures.counts.stays.0 ∙ c.loop-i.invariant.faults;
  shortages = c.in_ok-bytes.ensures.counts.stays.1 ∙ c.loop-i.invariant.shortages;
}

pub returns-clause-length : goal.returns-clause-length
returns-clause-length g t c =
    λ b at. long_all (value_at c.args.tree.now) c.args.depth b c.common_at.result c.loop-i.i
    c.loop-i.bytes
    (linked_above c.args.tree.now c.args.p c.args.depth c.in-Inner.id b c.in-Inner.ensures.linked
    c.requires.place c.requires.block
    (ap link_of (sym c.in-Inner.ensures.exact)) at)
    (c.common_at.ensures.common b at) c.in_default.not-Value (omega arith)
    (c.loop-i.invariant.length b at)

pub returns-clause-short : goal.returns-clause-short
returns-clause-short g t c =
    let (b, at) = place_block c.args.tree.now c.args.p c.requires.place in
    let long = long_all (value_at c.args.tree.now) c.args.depth b c.common_at.result c.loop-i.i
    c.loop-i.bytes
    (linked_above c.args.tree.now c.args.p c.args.depth c.in-Inner.id b c.in-Inner.ensures.linked
    c.requires.place c.requires.block
    (ap link_of (sym c.in-Inner.ensures.exact)) at)
    (c.common_at.ensures.common b at) c.in_default.not-Value (omega arith)
    (c.loop-i.invariant.length b at) in
    let few = node_short (16 - c.args.depth) (value_at c.args.tree.now) b in
    omega (arith, long, few)

pub returns-clause-written : goal.returns-clause-written
returns-clause-written g t c =
    λ b at. sent_all (value_at c.args.tree.now) c.args.depth b c.common_at.result c.loop-i.i _ _ _ _
    (linked_above c.args.tree.now c.args.p c.args.depth c.in-Inner.id b c.in-Inner.ensures.linked
    c.requires.place c.requires.block
    (ap link_of (sym c.in-Inner.ensures.exact)) at)
    (c.common_at.ensures.common b at) c.in_default.not-Value (omega arith)
    (c.loop-i.invariant.written b at)
