use Rattle.std.proofs.Common.{◌+◌, ◌∙◌, sym, ap, arith, not}
use Rattle.std.proofs.lemmas.List.Sums.{prefix_len-drop_yes, prefix_len-drop_no}
use Rattle.std.proofs.lemmas.List.Sums.{prefix_len-drop_all}
use Rattle.oct_script.specs.Words.{is_in_word}
use Rattle.oct_script.proofs.words.skip_word.Goals as goal

pub loop-at-preserved : goal.loop-at-preserved
loop-at-preserved c = (
  omega (arith, c.loop-at-test.true),
  omega (
    arith,
    c.loop-at.invariant.1,
    prefix_len-drop_yes is_in_word _ _ 0 c.loop-at-test.true
        (ap not (sym c.is_blank.ensures ∙ c.if-is_blank.false)),
  ),
)

pub returns-then-is_blank-clause-end : goal.returns-then-is_blank-clause-end
returns-then-is_blank-clause-end c =
    omega (
      arith,
      c.loop-at.invariant.1,
      prefix_len-drop_no is_in_word _ _ 0 c.loop-at-test.true
          (ap not (sym c.is_blank.ensures ∙ c.if-is_blank.true)),
    )

pub returns-clause-end : goal.returns-clause-end
returns-clause-end c =
    omega (
      arith,
      c.loop-at.invariant.1,
      prefix_len-drop_all is_in_word c.args.text.now c.loop-at.at
          (omega (arith, c.loop-at-test.false)),
    )
