use Rattle.std.proofs.Common.{rules, ◌<◌, ◌+◌, ◌/◌, ◌%◌, ℕ, length, get_or, refl, sym, ap, ◌∙◌}
use Rattle.std.proofs.Common.{arith, subst}
use Rattle.std.specs.Prelude.{is_some}
use Rattle.oct_key.specs.Block.{child_of}
use Rattle.oct_tree.specs.Tree.{IsLinked}
use Rattle.oct_tree.proofs.Paths.{place_block}
use Rattle.oct_tree.proofs.Within.{place_by_block}
use Rattle.oct_bt.specs.Plain.{is_plain}
use Rattle.oct_bt.specs.Records.{class_by, record_count}
use Rattle.oct_tree.proofs.Fillings.{slot_asked}
use Rattle.oct_bt.proofs.Fillings.{filling_all}
use Rattle.oct_bt.proofs.Fills.{IsUnderWay, plain_filled, under_first, under_leaf, under_record}
use Rattle.oct_bt.proofs.Fills.{under_all, record_ahead, ahead_within, ahead_fits}
use Rattle.oct_bt.proofs.filling.+fill_block.Goals as goal
use Rattle.oct_bt.proofs.filling.+fill_block.Goals.{then-rest-eq3, else-rest-eq3}

pub returns-then-is_plain-clause-filled : goal.returns-then-is_plain-clause-filled
returns-then-is_plain-clause-filled t c = λ r tail b is text at.
    plain_filled c.args.tree.now c.fill_leaf.new.tree b c.args.depth c.args.codes.now r tail
    (get_or c.args.codes.now 0 0) (get_or c.args.codes.now 1 0) is text refl refl
    (ap is_plain (sym c.record_codes-record.ensures) ∙ sym c.is_plain.ensures ∙ c.if-is_plain.true)
    (λ x code. c.fill_leaf.ensures.filled b x at
    (code ∙ ap (λ (n : ℕ). n % 4) (sym c.record_codes-record.ensures)))

pub loop-i-init : goal.loop-i-init
loop-i-init t c = record {
  under = λ r tail b is text at.
      subst (λ (n : ℕ). IsUnderWay c.args.tree.now c.split-id.new.self c.args.p c.split-id.result b
      c.args.depth c.args.codes.now 2 n 0 r tail) (sym c.record_codes-record.ensures)
      (under_first c.args.tree.now c.split-id.new.self c.args.p c.split-id.result _ b c.args.depth
      c.args.codes.now r tail (get_or c.args.codes.now 0 0) (get_or c.args.codes.now 1 0)
      c.split-id.ensures.linked c.split-id.ensures.split c.requires.absent at is text refl refl);
  linked = c.split-id.ensures.linked;
}

pub split_at-requires : goal.split_at-requires
split_at-requires t c =
    let (r, tail, is, text, room) = c.requires.record_there in
    let (b, at) = place_block c.args.tree.now c.args.p c.requires.place in
    let s = c.loop-i.invariant.under r tail b is text at in
    let f = record_ahead _ _ _ _ _ _ _ _ _ _ _ _ room c.loop-i-test.true c.if-rest-eq3.true s in
    ahead_within c.args.depth c.args.codes.now c.loop-i.next _ f

pub fill_block-next-requires : goal.fill_block-next-requires
fill_block-next-requires t c =
    let (r, tail, is, text, room) = c.requires.record_there in
    let (b, at) = place_block c.args.tree.now c.args.p c.requires.place in
    let s = c.loop-i.invariant.under r tail b is text at in
    let a = slot_asked c.args.tree.now c.loop-i.tree c.args.p c.split-id.result b c.args.depth
    c.loop-i.i _ (c.requires.block b at)
    c.loop-i-test.true c.requires.place s.filling.part in
    let f = record_ahead _ _ _ _ _ _ _ _ _ _ _ _ room c.loop-i-test.true c.if-rest-eq3.true s in
    let low = f.low in (
      search rules,
      (
        a.place,
        (
          a.depth,
          (
            omega (arith, low),
            (
              a.absent,
              (
                c.loop-i.invariant.linked,
                (f.r, f.tail, f.is, c.split_at.ensures.back ∙ f.text, f.enough),
              ),
            ),
          ),
        ),
      ),
    )

pub overflow_add-next : goal.overflow_add-next
overflow_add-next t c =
    let (r, tail, is, text, room) = c.requires.record_there in
    let (b, at) = place_block c.args.tree.now c.args.p c.requires.place in
    let s = c.loop-i.invariant.under r tail b is text at in
    let a = slot_asked c.args.tree.now c.loop-i.tree c.args.p c.split-id.result b c.args.depth
    c.loop-i.i _ (c.requires.block b at)
    c.loop-i-test.true c.requires.place s.filling.part in
    let f = record_ahead _ _ _ _ _ _ _ _ _ _ _ _ room c.loop-i-test.true c.if-rest-eq3.true s in
    let fits = ahead_fits c.args.depth c.args.codes.now c.loop-i.next _ f in
    let took = (c.fill_block-next.ensures.filled f.r f.tail (child_of b c.loop-i.i) f.is
    (c.split_at.ensures.back ∙ f.text) a.block).1 in
    let most : length c.args.codes.now < 18446744073709551616 = search rules in
    let sum : c.loop-i.next + c.fill_block-next.result < 18446744073709551616 =
    omega (arith, fits, took, most) in
    search rules

pub fill_leaf-requires-else-rest-eq3-clause-place :
    goal.fill_leaf-requires-else-rest-eq3-clause-place
fill_leaf-requires-else-rest-eq3-clause-place t c =
    let (r, tail, is, text, room) = c.requires.record_there in
    let (b, at) = place_block c.args.tree.now c.args.p c.requires.place in
    let s = c.loop-i.invariant.under r tail b is text at in
    let a = slot_asked c.args.tree.now c.loop-i.tree c.args.p c.split-id.result b c.args.depth
    c.loop-i.i _ (c.requires.block b at)
    c.loop-i-test.true c.requires.place s.filling.part in
    a.place

pub fill_leaf-requires-else-rest-eq3-clause-absent :
    goal.fill_leaf-requires-else-rest-eq3-clause-absent
fill_leaf-requires-else-rest-eq3-clause-absent t c =
    let (r, tail, is, text, room) = c.requires.record_there in
    let (b, at) = place_block c.args.tree.now c.args.p c.requires.place in
    let s = c.loop-i.invariant.under r tail b is text at in
    let a = slot_asked c.args.tree.now c.loop-i.tree c.args.p c.split-id.result b c.args.depth
    c.loop-i.i _ (c.requires.block b at)
    c.loop-i-test.true c.requires.place s.filling.part in
    a.absent

pub loop-i-preserved : goal.loop-i-preserved
loop-i-preserved t c = record {
  under = λ r tail b is text at.
      (let s = c.loop-i.invariant.under r tail b is text at in
      let a = slot_asked c.args.tree.now c.loop-i.tree c.args.p c.split-id.result b c.args.depth
      c.loop-i.i _ (c.requires.block b at)
      c.loop-i-test.true c.requires.place s.filling.part in
      elim c.if-rest-eq3.branch [
        | then-rest-eq3 w ↦
            subst (λ u. IsUnderWay c.args.tree.now u c.args.p c.split-id.result b c.args.depth
            c.args.codes.now c.if-rest-eq3.next
            (c.loop-i.rest / 4) (c.loop-i.i + 1) r tail) (sym w.tree-is)
            (subst (λ (n : ℕ). IsUnderWay c.args.tree.now w.fill_block-next.new.tree c.args.p
            c.split-id.result b c.args.depth
            c.args.codes.now n (c.loop-i.rest / 4) (c.loop-i.i + 1) r tail) (sym w.next-is)
            (under_record c.args.tree.now c.loop-i.tree w.fill_block-next.new.tree c.args.p
            c.split-id.result b c.args.depth
            c.args.codes.now c.loop-i.next c.loop-i.rest c.loop-i.i w.fill_block-next.result r tail
            (c.requires.block b at)
            c.requires.levels c.loop-i-test.true c.requires.linked w.fill_block-next.ensures.linked
            w.if-rest-eq3.true s
            (λ q later is_q front. w.fill_block-next.ensures.filled q later (child_of b c.loop-i.i)
            is_q
            (w.split_at.ensures.back ∙ front) a.block)))
        | else-rest-eq3 w ↦
            subst (λ u. IsUnderWay c.args.tree.now u c.args.p c.split-id.result b c.args.depth
            c.args.codes.now c.if-rest-eq3.next
            (c.loop-i.rest / 4) (c.loop-i.i + 1) r tail) (sym w.tree-is)
            (subst (λ (n : ℕ). IsUnderWay c.args.tree.now w.fill_leaf-else-rest-eq3.new.tree
            c.args.p c.split-id.result b c.args.depth
            c.args.codes.now n (c.loop-i.rest / 4) (c.loop-i.i + 1) r tail) (sym w.next-is)
            (under_leaf c.args.tree.now c.loop-i.tree w.fill_leaf-else-rest-eq3.new.tree c.args.p
            c.split-id.result b c.args.depth
            c.args.codes.now c.loop-i.next c.loop-i.rest c.loop-i.i r tail (c.requires.block b at)
            c.requires.levels
            c.loop-i-test.true c.requires.linked w.fill_leaf-else-rest-eq3.ensures.linked
            w.if-rest-eq3.false s
            (λ k code. w.fill_leaf-else-rest-eq3.ensures.filled (child_of b c.loop-i.i) k a.block
            code)))
      ]);
  linked = elim c.if-rest-eq3.branch [
    | then-rest-eq3 w ↦ subst IsLinked (sym w.tree-is) w.fill_block-next.ensures.linked
    | else-rest-eq3 w ↦ subst IsLinked (sym w.tree-is) w.fill_leaf-else-rest-eq3.ensures.linked
  ];
}

pub settle-requires-clause-place : goal.settle-requires-clause-place
settle-requires-clause-place t c =
    let (r, tail, is, text, room) = c.requires.record_there in
    let (b, at) = place_block c.args.tree.now c.args.p c.requires.place in
    let s = c.loop-i.invariant.under r tail b is text at in
    place_by_block c.args.tree.now c.loop-i.tree c.args.p b c.requires.place s.filling.part.block

pub settle-requires-clause-inner : goal.settle-requires-clause-inner
settle-requires-clause-inner t c =
    let (r, tail, is, text, room) = c.requires.record_there in
    let (b, at) = place_block c.args.tree.now c.args.p c.requires.place in
    let s = c.loop-i.invariant.under r tail b is text at in
    ap is_some s.filling.part.link

pub returns-clause-filled : goal.returns-clause-filled
returns-clause-filled t c = λ r tail b is text at.
    (let s = c.loop-i.invariant.under r tail b is text at in
    let deep = c.requires.block b at in
    let low = c.requires.levels in
    let all = under_all c.args.tree.now c.loop-i.tree c.args.p c.split-id.result b c.args.depth
    c.args.codes.now c.loop-i.next
    c.loop-i.rest c.loop-i.i r tail (omega arith) s in (
      filling_all c.args.tree.now c.loop-i.tree c.settle.new.self c.args.p c.split-id.result b
          (1 + record_count r)
          (class_by c.args.depth r) c.settle.result (omega (arith, deep, low)) c.requires.linked
          c.requires.place all.filling
          c.settle.ensures.linked c.settle.ensures.values c.settle.ensures.outside
          c.settle.ensures.when c.settle.ensures.collapsed
          c.settle.ensures.renewed,
      all.length,
    ))
