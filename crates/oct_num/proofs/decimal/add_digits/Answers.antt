use Rattle.std.proofs.Common.{◌∙◌, sym, arith}
use Rattle.std.proofs.lemmas.Bool.{lt-leb}
use Rattle.oct_num.proofs.NumberFronts.{read_on, read_end, read_number}
use Rattle.oct_num.proofs.decimal.add_digits.Goals as goal

pub loop-at-preserved : goal.loop-at-preserved
loop-at-preserved c = (
  omega (arith, c.loop-at.invariant.0),
  omega (arith, c.loop-at-test.true),
  read_on _ _ _ _ _ _ c.loop-at.invariant.0 c.loop-at-test.true c.digit_value-digit.ensures.digit
      c.if-digit-gt9.false c.digit_value-digit.ensures.value c.loop-at.invariant.2,
)

pub returns-then-digit-gt9-clause-end : goal.returns-then-digit-gt9-clause-end
returns-then-digit-gt9-clause-end c =
    omega (
      arith,
      read_end _ _ _ _ _ c.loop-at.invariant.0 c.loop-at.invariant.1
          (λ h. sym c.digit_value-digit.ensures.digit ∙ lt-leb _ 9 c.if-digit-gt9.true)
          c.loop-at.invariant.2,
      c.loop-at.invariant.0,
    )

pub returns-then-digit-gt9-clause-value : goal.returns-then-digit-gt9-clause-value
returns-then-digit-gt9-clause-value c = λ before h few.
    (read_number _ _ _ _ _ c.loop-at.invariant.0 c.loop-at.invariant.1
    (λ h. sym c.digit_value-digit.ensures.digit ∙ lt-leb _ 9 c.if-digit-gt9.true)
    c.loop-at.invariant.2 before h few).0

pub returns-then-digit-gt9-clause-small : goal.returns-then-digit-gt9-clause-small
returns-then-digit-gt9-clause-small c = λ before h few.
    (read_number _ _ _ _ _ c.loop-at.invariant.0 c.loop-at.invariant.1
    (λ h. sym c.digit_value-digit.ensures.digit ∙ lt-leb _ 9 c.if-digit-gt9.true)
    c.loop-at.invariant.2 before h few).1

pub returns-clause-end : goal.returns-clause-end
returns-clause-end c =
    omega (
      arith,
      read_end _ _ _ _ _ c.loop-at.invariant.0 c.loop-at.invariant.1
          (λ h. absurd (omega (arith, h, c.loop-at-test.false))) c.loop-at.invariant.2,
      c.loop-at.invariant.0,
    )

pub returns-clause-value : goal.returns-clause-value
returns-clause-value c = λ before h few.
    (read_number _ _ _ _ _ c.loop-at.invariant.0 c.loop-at.invariant.1
    (λ h. absurd (omega (arith, h, c.loop-at-test.false))) c.loop-at.invariant.2 before h few).0

pub returns-clause-small : goal.returns-clause-small
returns-clause-small c = λ before h few.
    (read_number _ _ _ _ _ c.loop-at.invariant.0 c.loop-at.invariant.1
    (λ h. absurd (omega (arith, h, c.loop-at-test.false))) c.loop-at.invariant.2 before h few).1
