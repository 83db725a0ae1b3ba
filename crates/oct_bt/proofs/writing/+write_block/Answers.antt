use Rattle.std.proofs.Common.{rules, ◌≡◌, ◌<◌, ◌-◌, ◌+◌, length, sym, ap, ◌∙◌, arith}
use Rattle.std.proofs.Common.{subst}
use Rattle.oct_num.proofs.Results.{on_any_err}
use Rattle.oct_key.specs.Block.{child_of}
use Rattle.oct_arena.specs.Nodes.{link_of}
use Rattle.oct_tree.proofs.Paths.{some_injective, not_inner, place_block, slot_block}
use Rattle.oct_bt.specs.Mixtures.{IsFirstOther}
use Rattle.oct_tree.specs.Classes.{classes_in}
use Rattle.oct_bt.proofs.Mixtures.{linked_above, child_asked, never_leaf}
use Rattle.oct_bt.proofs.Parting.{sent_first, cut_first, last_part, sent_part, cut_part, sent_whole}
use Rattle.oct_bt.proofs.writing.+write_block.Goals as goal

pub unreachable-requires : goal.unreachable-requires
unreachable-requires g t c =
    never_leaf c.args.tree.now c.args.p c.node.result c.args.class c.args.depth c.args.way
    c.node.ensures.linked
    c.requires.place (not_inner c.node.result c.in_default.not-Inner) c.requires.block
    c.requires.levels c.node.ensures.values
    c.requires.mixed

pub read_record-codes-requires-clause-levels : goal.read_record-codes-requires-clause-levels
read_record-codes-requires-clause-levels g t c =
    let (b, at) = place_block c.args.tree.now c.args.p c.requires.place in
    let a = (linked_above c.args.tree.now c.args.p c.args.depth c.in-Inner.id b
    c.in-Inner.ensures.linked
    c.requires.place c.requires.block
    (ap link_of (sym c.in-Inner.ensures.exact)) at) in
    let low = a.low in
    let deep = a.depth in
    omega (arith, low, deep)

pub read_record-codes-requires-clause-mixed : goal.read_record-codes-requires-clause-mixed
read_record-codes-requires-clause-mixed g t c = λ b at. (c.requires.mixed b at).1

pub returns-in_err-write_record-clause-cut : goal.returns-in_err-write_record-clause-cut
returns-in_err-write_record-clause-cut g t c = on_any_err c.from_residual.result _ (λ b at.
    cut_first (classes_in c.args.tree.now) c.args.depth b c.read_record-codes.result
    c.read_record-codes.new.parts.items _ _ _
    (c.read_record-codes.ensures b at) c.in_err-write_record.ensures.cut)

pub loop-part-init : goal.loop-part-init
loop-part-init g t c = record {
  written = λ b at. sent_first (classes_in c.args.tree.now) c.args.depth b
      c.read_record-codes.result c.read_record-codes.new.parts.items _ _ _ _
      (c.read_record-codes.ensures b at) c.in_ok-write_record.ensures.written;
  faults = c.in_ok-write_record.ensures.counts.stays.0;
  shortages = c.in_ok-write_record.ensures.counts.stays.1;
}

pub write_block-requires : goal.write_block-requires
write_block-requires g t c κs within =
    let (b, at) = place_block c.args.tree.now c.args.p c.requires.place in
    let part = last_part (classes_in c.args.tree.now) c.args.depth b c.loop-part.parts.items
    c.pop.new.self.items c.in-Some.part _ _ _ _
    c.in-Some.ensures.items (c.loop-part.invariant.written b at) in
    let (place, block, levels) =
    child_asked c.args.tree.now c.args.p c.args.depth c.in-Some.part.i c.in-Inner.id
    c.in-Inner.ensures.linked
    c.requires.place c.requires.block (ap link_of (sym c.in-Inner.ensures.exact)) part.few in (
      search rules,
      (
        within,
        (
          place,
          (
            block,
            (
              levels,
              λ e there.
                  (let same = some_injective
                  (sym (slot_block c.args.tree.now c.in-Inner.ensures.linked c.args.p
                  c.in-Inner.id c.in-Some.part.i b (ap link_of (sym c.in-Inner.ensures.exact))
                  at) ∙ there) in
                  subst (λ e. (0 < c.in-Some.part.way)
                  × IsFirstOther (classes_in c.args.tree.now) c.in-Some.part.class
                  (16 - (c.args.depth + 1)) e c.in-Some.part.way) same
                  (part.some, part.first)),
            ),
          ),
        ),
      ),
    )

pub returns-in_err-write_block-clause-cut : goal.returns-in_err-write_block-clause-cut
returns-in_err-write_block-clause-cut g t c =
    on_any_err c.from_residual-in_err-write_block.result _ (λ b at.
    cut_part (classes_in c.args.tree.now) c.args.depth b c.loop-part.parts.items
    c.pop.new.self.items c.in-Some.part _ _ _ _ _
    c.in-Some.ensures.items (c.loop-part.invariant.written b at)
    (c.in_err-write_block.ensures.cut (child_of b c.in-Some.part.i)
    (slot_block c.args.tree.now c.in-Inner.ensures.linked c.args.p c.in-Inner.id
    c.in-Some.part.i b (ap link_of (sym c.in-Inner.ensures.exact)) at)))

pub loop-part-preserved : goal.loop-part-preserved
loop-part-preserved g t c = record {
  written = λ b at. sent_part (classes_in c.args.tree.now) c.args.depth b c.loop-part.parts.items
      c.pop.new.self.items c.in-Some.part _ _ _ _ _ _
      c.in-Some.ensures.items (c.loop-part.invariant.written b at)
      (c.in_ok-write_block.ensures.written (child_of b c.in-Some.part.i)
      (slot_block c.args.tree.now c.in-Inner.ensures.linked c.args.p c.in-Inner.id
      c.in-Some.part.i b (ap link_of (sym c.in-Inner.ensures.exact)) at));
  faults = c.in_ok-write_block.ensures.counts.stays.0 ∙ c.loop-part.invariant.faults;
  shortages = c.in_ok-write_block.ensures.counts.stays.1 ∙ c.loop-part.invariant.shortages;
}

pub returns-clause-written : goal.returns-clause-written
returns-clause-written g t c = λ b at.
    sent_whole (classes_in c.args.tree.now) c.args.depth b c.loop-part.parts.items _ _ _ _ none
    (c.loop-part.invariant.written b at)
  where
    none : length c.loop-part.parts.items ≡ 0
    none = search rules
