use Rattle.oct_num.proofs.DigitRuns.{digits_small}
use Rattle.oct_num.proofs.metres.nanometres.Goals as goal

pub sum_of-requires-clause-before : goal.sum_of-requires-clause-before
sum_of-requires-clause-before c = digits_small _ _ 7 c.digits_value.ensures.small c.requires.before
