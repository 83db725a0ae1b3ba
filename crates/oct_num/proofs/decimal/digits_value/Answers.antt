use Rattle.std.proofs.Common.{arith}
use Rattle.oct_num.proofs.DigitRuns.{turn_fits}
use Rattle.oct_num.proofs.decimal.digits_value.Goals as goal

pub overflow_mul-value : goal.overflow_mul-value
overflow_mul-value c =
    omega (
      arith,
      turn_fits _ _ _ c.requires.digits c.requires.few c.loop-digit-test.true
          c.loop-digit.invariant.1,
    )

pub overflow_add-value : goal.overflow_add-value
overflow_add-value c =
    omega (
      arith,
      c.from.ensures,
      turn_fits _ _ _ c.requires.digits c.requires.few
          c.loop-digit-test.true c.loop-digit.invariant.1,
    )
