use Rattle.oct_num.proofs.DigitRuns.{digits_small}
use Rattle.oct_script.proofs.numbers.depth_of.Goals as goal

pub returns-clause-small : goal.returns-clause-small
returns-clause-small c =
    digits_small _ _ 7 c.in_ok-depth.ensures.below c.if-word-gt-MOST_DIGITS.false
