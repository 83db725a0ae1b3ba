use Rattle.std.proofs.Common.{◌+◌, ◌∙◌, sym, ap, arith}
use Rattle.std.proofs.lemmas.List.Sums.{prefix_len-drop_yes, prefix_len-drop_no}
use Rattle.std.proofs.lemmas.List.Sums.{prefix_len-drop_all}
use Rattle.oct_script.specs.Words.{is_blank}
use Rattle.oct_script.proofs.words.skip_blanks.Goals as goal

pub loop-at-preserved : goal.loop-at-preserved
loop-at-preserved c = (
  omega (arith, c.loop-at-test.true),
  omega (
    arith,
    c.loop-at.invariant.1,
    prefix_len-drop_yes is_blank _ _ 0 c.loop-at-test.true
        (sym c.is_blank.ensures ∙ c.if-not-is_blank.false),
  ),
)

pub returns-then-not-is_blank-clause-end : goal.returns-then-not-is_blank-clause-end
returns-then-not-is_blank-clause-end c =
    omega (
      arith,
      c.loop-at.invariant.1,
      prefix_len-drop_no is_blank _ _ 0 c.loop-at-test.true
          (sym c.is_blank.ensures ∙ c.if-not-is_blank.true),
    )

pub returns-clause-end : goal.returns-clause-end
returns-clause-end c =
    omega (
      arith,
      c.loop-at.invariant.1,
      prefix_len-drop_all is_blank c.args.text.now c.loop-at.at
          (omega (arith, c.loop-at-test.false)),
    )
