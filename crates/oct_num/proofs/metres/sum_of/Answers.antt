use Rattle.std.proofs.Common.{arith}
use Rattle.oct_num.proofs.DigitRuns.{metres_small}
use Rattle.oct_num.proofs.metres.sum_of.Goals as goal

pub overflow_add-result : goal.overflow_add-result
overflow_add-result c =
    omega (
      arith,
      metres_small _ _ _ 7 _ c.requires.before (omega arith) c.requires.small
          c.requires.behind c.nanometres_per_unit.ensures,
    )

pub returns-clause-reach : goal.returns-clause-reach
returns-clause-reach c =
    omega (
      arith,
      metres_small _ _ _ 7 _ c.requires.before (omega arith) c.requires.small
          c.requires.behind c.nanometres_per_unit.ensures,
    )
