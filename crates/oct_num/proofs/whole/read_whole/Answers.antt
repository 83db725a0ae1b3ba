use Rattle.std.proofs.Common.{rules}
use Rattle.oct_num.specs.Whole.{whole_of}
use Rattle.oct_num.proofs.WholeLaw.{number_law}
use Rattle.oct_num.proofs.whole.read_whole.Goals as goal

pub returns-in_err-magnitude-clause-exact : goal.returns-in_err-magnitude-clause-exact
unfolding whole_of
returns-in_err-magnitude-clause-exact c = search rules

pub returns-in_err-magnitude-clause-number : goal.returns-in_err-magnitude-clause-number
returns-in_err-magnitude-clause-number c =
    number_law c.args.text.now _ (returns-in_err-magnitude-clause-exact c)

pub returns-clause-exact : goal.returns-clause-exact
unfolding whole_of
returns-clause-exact c = search rules

pub returns-clause-number : goal.returns-clause-number
returns-clause-number c = number_law c.args.text.now _ (returns-clause-exact c)
