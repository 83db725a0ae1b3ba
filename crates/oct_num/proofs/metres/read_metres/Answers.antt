use Rattle.std.proofs.Common.{rules}
use Rattle.oct_num.specs.Metres.{metres_of}
use Rattle.oct_num.proofs.FormLaw.{value_law, syntax_law, digits_law}
use Rattle.oct_num.proofs.metres.read_metres.Goals as goal

pub returns-in_err-nanometres-clause-exact : goal.returns-in_err-nanometres-clause-exact
unfolding metres_of
returns-in_err-nanometres-clause-exact c = search rules

pub returns-in_err-nanometres-clause-value : goal.returns-in_err-nanometres-clause-value
returns-in_err-nanometres-clause-value c =
    value_law c.args.text.now _ (returns-in_err-nanometres-clause-exact c)

pub returns-in_err-nanometres-clause-syntax : goal.returns-in_err-nanometres-clause-syntax
returns-in_err-nanometres-clause-syntax c =
    syntax_law c.args.text.now _ (returns-in_err-nanometres-clause-exact c)

pub returns-in_err-nanometres-clause-digits : goal.returns-in_err-nanometres-clause-digits
returns-in_err-nanometres-clause-digits c =
    digits_law c.args.text.now _ (returns-in_err-nanometres-clause-exact c)

pub returns-clause-exact : goal.returns-clause-exact
unfolding metres_of
returns-clause-exact c = search rules

pub returns-clause-value : goal.returns-clause-value
returns-clause-value c = value_law c.args.text.now _ (returns-clause-exact c)

pub returns-clause-syntax : goal.returns-clause-syntax
returns-clause-syntax c = syntax_law c.args.text.now _ (returns-clause-exact c)

pub returns-clause-digits : goal.returns-clause-digits
returns-clause-digits c = digits_law c.args.text.now _ (returns-clause-exact c)
