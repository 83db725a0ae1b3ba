use Rattle.std.proofs.Common.{rules, ◌<◌, ◌+◌, ◌/◌, ℕ, length, sym, ◌∙◌, subst, arith}
use Rattle.oct_bt.proofs.Tallies.{IsCounting, next_record, counting_leaf, counting_record}
use Rattle.oct_bt.proofs.Tallies.{counting_all, leaf_small, record_small}
use Rattle.oct_bt.proofs.voxels.+count_record.Goals as goal
use Rattle.oct_bt.proofs.voxels.+count_record.Goals.{then-rest-eq3, else-rest-eq3}

pub split_at-requires : goal.split_at-requires
split_at-requires t c =
    let (r, tail, is, text) = c.requires.record_there in
    (next_record c.args.depth c.args.codes.now c.loop.next c.loop.rest c.loop.counter c.loop.free
    c.loop.occupied r tail c.loop-test.true
    c.if-rest-eq3.true (c.loop.invariant r tail is text)).within

pub count_record-inner-requires : goal.count_record-inner-requires
count_record-inner-requires t c =
    let (r, tail, is, text) = c.requires.record_there in
    let f = next_record c.args.depth c.args.codes.now c.loop.next c.loop.rest c.loop.counter
    c.loop.free c.loop.occupied r tail
    c.loop-test.true c.if-rest-eq3.true (c.loop.invariant r tail is text) in
    let low = f.low in
    (search rules, (omega (arith, low), (f.r, f.tail, f.is, c.split_at.ensures.back ∙ f.text)))

pub overflow_add-free : goal.overflow_add-free
overflow_add-free t c =
    let (r, tail, is, text) = c.requires.record_there in
    let s = record_small c.args.depth c.args.codes.now c.loop.next c.loop.rest c.loop.counter
    c.loop.free c.loop.occupied
    c.count_record-inner.result.voxels.free c.count_record-inner.result.voxels.occupied
    c.count_record-inner.result.bytes r tail
    c.requires.levels is text c.loop-test.true c.if-rest-eq3.true (c.loop.invariant r tail is text)
    (λ q later is_q front. c.count_record-inner.ensures.counted q later is_q
    (c.split_at.ensures.back ∙ front)) in
    let few = s.frees in
    let fits : c.loop.free + c.count_record-inner.result.voxels.free < 18446744073709551616 =
    omega (arith, few) in
    search rules

pub overflow_add-occupied : goal.overflow_add-occupied
overflow_add-occupied t c =
    let (r, tail, is, text) = c.requires.record_there in
    let s = record_small c.args.depth c.args.codes.now c.loop.next c.loop.rest c.loop.counter
    c.loop.free c.loop.occupied
    c.count_record-inner.result.voxels.free c.count_record-inner.result.voxels.occupied
    c.count_record-inner.result.bytes r tail
    c.requires.levels is text c.loop-test.true c.if-rest-eq3.true (c.loop.invariant r tail is text)
    (λ q later is_q front. c.count_record-inner.ensures.counted q later is_q
    (c.split_at.ensures.back ∙ front)) in
    let few = s.taken in
    let fits : c.loop.occupied + c.count_record-inner.result.voxels.occupied
    < 18446744073709551616 = omega (arith, few) in
    search rules

pub overflow_add-next : goal.overflow_add-next
overflow_add-next t c =
    let (r, tail, is, text) = c.requires.record_there in
    let s = record_small c.args.depth c.args.codes.now c.loop.next c.loop.rest c.loop.counter
    c.loop.free c.loop.occupied
    c.count_record-inner.result.voxels.free c.count_record-inner.result.voxels.occupied
    c.count_record-inner.result.bytes r tail
    c.requires.levels is text c.loop-test.true c.if-rest-eq3.true (c.loop.invariant r tail is text)
    (λ q later is_q front. c.count_record-inner.ensures.counted q later is_q
    (c.split_at.ensures.back ∙ front)) in
    let within = s.within in
    let most : length c.args.codes.now < 18446744073709551616 = search rules in
    let fits : c.loop.next + c.count_record-inner.result.bytes < 18446744073709551616 =
    omega (arith, within, most) in
    search rules

pub overflow_add-free-else-rest-eq3 : goal.overflow_add-free-else-rest-eq3
overflow_add-free-else-rest-eq3 t c =
    let (r, tail, is, text) = c.requires.record_there in
    let s = leaf_small c.args.depth c.args.codes.now c.loop.next c.loop.rest c.loop.counter
    c.loop.free c.loop.occupied
    c.count_leaf-leaf.result.free c.count_leaf-leaf.result.occupied r tail c.requires.levels is text
    c.loop-test.true
    c.if-rest-eq3.false (c.loop.invariant r tail is text) c.count_leaf-leaf.ensures.free
    c.count_leaf-leaf.ensures.occupied in
    let few = s.frees in
    let fits : c.loop.free + c.count_leaf-leaf.result.free < 18446744073709551616 =
    omega (arith, few) in
    search rules

pub overflow_add-occupied-else-rest-eq3 : goal.overflow_add-occupied-else-rest-eq3
overflow_add-occupied-else-rest-eq3 t c =
    let (r, tail, is, text) = c.requires.record_there in
    let s = leaf_small c.args.depth c.args.codes.now c.loop.next c.loop.rest c.loop.counter
    c.loop.free c.loop.occupied
    c.count_leaf-leaf.result.free c.count_leaf-leaf.result.occupied r tail c.requires.levels is text
    c.loop-test.true
    c.if-rest-eq3.false (c.loop.invariant r tail is text) c.count_leaf-leaf.ensures.free
    c.count_leaf-leaf.ensures.occupied in
    let few = s.taken in
    let fits : c.loop.occupied + c.count_leaf-leaf.result.occupied < 18446744073709551616 =
    omega (arith, few) in
    search rules

pub loop-preserved : goal.loop-preserved
loop-preserved t c = λ r tail is text. elim c.if-rest-eq3.branch [
  | then-rest-eq3 w ↦
      subst (λ (n : ℕ). IsCounting c.args.depth c.args.codes.now n (c.loop.rest / 4)
      (c.loop.counter + 1) c.if-rest-eq3.free c.if-rest-eq3.occupied r tail) (sym w.next-is)
      (subst (λ (n : ℕ). IsCounting c.args.depth c.args.codes.now
      (c.loop.next + w.count_record-inner.result.bytes) (c.loop.rest / 4)
      (c.loop.counter + 1) n c.if-rest-eq3.occupied r tail) (sym w.free-is)
      (subst (λ (n : ℕ). IsCounting c.args.depth c.args.codes.now
      (c.loop.next + w.count_record-inner.result.bytes) (c.loop.rest / 4) (c.loop.counter + 1)
      (c.loop.free + w.count_record-inner.result.voxels.free) n r tail) (sym w.occupied-is)
      (counting_record c.args.depth c.args.codes.now c.loop.next c.loop.rest c.loop.counter
      c.loop.free c.loop.occupied
      w.count_record-inner.result.voxels.free w.count_record-inner.result.voxels.occupied
      w.count_record-inner.result.bytes r tail
      c.loop-test.true w.if-rest-eq3.true (c.loop.invariant r tail is text)
      (λ q later is_q front. w.count_record-inner.ensures.counted q later is_q
      (w.split_at.ensures.back ∙ front)))))
  | else-rest-eq3 w ↦
      subst (λ (n : ℕ). IsCounting c.args.depth c.args.codes.now n (c.loop.rest / 4)
      (c.loop.counter + 1) c.if-rest-eq3.free c.if-rest-eq3.occupied r tail) (sym w.next-is)
      (subst (λ (n : ℕ). IsCounting c.args.depth c.args.codes.now c.loop.next (c.loop.rest / 4)
      (c.loop.counter + 1) n c.if-rest-eq3.occupied r tail) (sym w.free-is)
      (subst (λ (n : ℕ). IsCounting c.args.depth c.args.codes.now c.loop.next (c.loop.rest / 4)
      (c.loop.counter + 1)
      (c.loop.free + w.count_leaf-leaf.result.free) n r tail) (sym w.occupied-is)
      (counting_leaf c.args.depth c.args.codes.now c.loop.next c.loop.rest c.loop.counter
      c.loop.free c.loop.occupied
      w.count_leaf-leaf.result.free w.count_leaf-leaf.result.occupied r tail
      c.loop-test.true w.if-rest-eq3.false (c.loop.invariant r tail is text)
      w.count_leaf-leaf.ensures.free w.count_leaf-leaf.ensures.occupied)))
]

pub returns : goal.returns
returns t c = record {
  counted = λ r tail is text.
      counting_all c.args.depth c.args.codes.now c.loop.next c.loop.rest c.loop.counter c.loop.free
      c.loop.occupied r tail
      (omega arith) (c.loop.invariant r tail is text);
}
