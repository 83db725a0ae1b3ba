use Rattle.std.proofs.Common.{rules, ◌<◌, ◌+◌, ◌*◌, ◌-◌, ℕ, length, refl, sym, subst, ap}
use Rattle.std.proofs.Common.{◌∙◌, arith}
use Rattle.oct_key.specs.Block.{child_of}
use Rattle.oct_bt.specs.Mixtures.{class_of_mixture, IsMixtureOf}
use Rattle.oct_tree.specs.Classes.{classes_in}
use Rattle.oct_bt.specs.Canonical.{block_code}
use Rattle.oct_bt.proofs.Mixtures.{linked_above}
use Rattle.oct_bt.proofs.Writes.{codes_few}
use Rattle.oct_bt.proofs.Parting.{IsRecordFrom, record_first, record_pure, record_mixed, record_all}
use Rattle.oct_bt.proofs.Parting.{push_long}
use Rattle.oct_bt.proofs.writing.read_record.Goals as goal
use Rattle.oct_bt.proofs.writing.read_record.Goals.{in-Mixed, in_default}

pub loop-done-init : goal.loop-done-init
loop-done-init c = record {
  few = omega arith;
  count = (let none = ap length c.requires.none in omega (arith, none));
  parts = λ b at. record_first (classes_in c.args.tree.now) c.args.depth b c.args.parts.now.items
      c.requires.none;
}

pub overflow_mul-codes : goal.overflow_mul-codes
overflow_mul-codes c =
    let few = codes_few c.loop-done.done c.loop-done.codes 0 c.loop-done-test.true
    c.loop-done.invariant.few (omega arith) in
    let fits : 4 * c.loop-done.codes < 65536 = omega (arith, few.1) in
    search rules

pub overflow_add-codes : goal.overflow_add-codes
overflow_add-codes c =
    let few = codes_few c.loop-done.done c.loop-done.codes c.code_of.result c.loop-done-test.true
    c.loop-done.invariant.few
    c.code_of.ensures.small in
    let from = c.from.ensures in
    let fits : c.from.result + 4 * c.loop-done.codes < 65536 = omega (arith, few.1, from) in
    search rules

pub push-requires : goal.push-requires
push-requires c =
    (let count = c.loop-done.invariant.count in let less = c.loop-done-test.true in
    omega (arith, count, less))

pub loop-done-preserved : goal.loop-done-preserved
loop-done-preserved c = record {
  few = (let few =
      codes_few c.loop-done.done c.loop-done.codes c.code_of.result c.loop-done-test.true
      c.loop-done.invariant.few c.code_of.ensures.small in
      let from = c.from.ensures in omega (arith, few.0, from));
  count = elim c.match-mixture.branch [
    | in-Mixed w ↦ (let before = c.loop-done.invariant.count in
        let more = push_long c.loop-done.parts.items c.match-mixture.parts.items _
        (ap (λ v. v.items) w.parts-is ∙ w.push.ensures.items) in
        omega (arith, before, more))
    | in_default w ↦ (let before = c.loop-done.invariant.count in let same =
        ap (λ v. length v.items) w.parts-is in omega (arith, before, same))
  ];
  parts = λ b at. elim c.match-mixture.branch [
    | in-Mixed w ↦
        subst (λ (n : ℕ). IsRecordFrom (classes_in c.args.tree.now) c.args.depth b
        (c.loop-done.done + 1) (n + 4 * c.loop-done.codes) c.match-mixture.parts.items)
        (sym c.from.ensures)
        (record_mixed (classes_in c.args.tree.now) c.args.depth b c.loop-done.done c.code_of.result
        c.loop-done.codes c.loop-done.parts.items _ _
        c.loop-done-test.true
        (linked_above c.args.tree.now c.args.p c.args.depth c.args.id b c.requires.linked
        c.requires.place c.requires.block c.requires.link at)
        (subst (IsMixtureOf (classes_in c.args.tree.now) _ (child_of b (7 - c.loop-done.done)))
        w.in-Mixed.is (c.child_mixture-mixture.ensures b at)) refl
        (c.code_of.ensures.code ∙ ap (λ m. block_code (class_of_mixture m)) w.in-Mixed.is)
        (ap (λ v. v.items) w.parts-is ∙ w.push.ensures.items) (c.loop-done.invariant.parts b at))
    | in_default w ↦
        subst (λ (n : ℕ). IsRecordFrom (classes_in c.args.tree.now) c.args.depth b
        (c.loop-done.done + 1) (n + 4 * c.loop-done.codes) c.match-mixture.parts.items)
        (sym c.from.ensures)
        (subst (IsRecordFrom (classes_in c.args.tree.now) c.args.depth b (c.loop-done.done + 1)
        (c.code_of.result + 4 * c.loop-done.codes))
        (sym (ap (λ v. v.items) w.parts-is))
        (record_pure (classes_in c.args.tree.now) c.args.depth b c.loop-done.done c.code_of.result
        c.loop-done.codes c.loop-done.parts.items
        c.child_mixture-mixture.result c.loop-done-test.true
        (linked_above c.args.tree.now c.args.p c.args.depth c.args.id b c.requires.linked
        c.requires.place c.requires.block c.requires.link at)
        (c.child_mixture-mixture.ensures b at) c.code_of.ensures.code w.in_default.not-Mixed
        (c.loop-done.invariant.parts b at)))
  ];
}

pub returns : goal.returns
returns c = λ b at. record_all (classes_in c.args.tree.now) c.args.depth b c.loop-done.done
    c.loop-done.codes c.loop-done.parts.items (omega arith)
    (linked_above c.args.tree.now c.args.p c.args.depth c.args.id b c.requires.linked
    c.requires.place
    c.requires.block c.requires.link at) (c.loop-done.invariant.parts b at)
