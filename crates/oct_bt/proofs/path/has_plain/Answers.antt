use Rattle.std.proofs.Common.{sym, ap, ◌∙◌, arith}
use Rattle.oct_bt.specs.Plain.{is_plain}
use Rattle.oct_bt.proofs.Plains.{pairs_found, pairs_next, pairs_last}
use Rattle.oct_bt.proofs.path.has_plain.Goals as goal

pub returns-then-is_plain : goal.returns-then-is_plain
returns-then-is_plain c =
    pairs_found c.loop-at.at c.args.records.now c.args.records.now c.is_plain.result
    c.loop-at-test.true c.loop-at.invariant.same
    (c.is_plain.ensures ∙ ap is_plain c.record_codes.ensures) c.if-is_plain.true

pub loop-at-preserved : goal.loop-at-preserved
loop-at-preserved c = record {
  same = pairs_next c.loop-at.at c.args.records.now c.args.records.now c.is_plain.result
      c.loop-at-test.true c.loop-at.invariant.same
      (c.is_plain.ensures ∙ ap is_plain c.record_codes.ensures) c.if-is_plain.false;
  within = omega arith;
}

pub returns : goal.returns
returns c = sym (sym c.loop-at.invariant.same
    ∙ pairs_last c.loop-at.at c.args.records.now (omega arith))
