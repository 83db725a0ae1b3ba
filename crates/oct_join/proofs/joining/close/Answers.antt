use Rattle.std.proofs.Common.{sym, ◌∙◌, ap, rules}
use Rattle.oct_bt.specs.Canonical.{block_code}
use Rattle.oct_join.proofs.Closings.{one_closed, several_closed}
use Rattle.oct_join.proofs.joining.close.Goals as goal

pub returns-in-Some-clause-code : goal.returns-in-Some-clause-code
returns-in-Some-clause-code c =
    c.class_code.ensures ∙ ap block_code (sym c.in-Some.is ∙ c.one_class.ensures)

pub returns-in-Some-clause-text : goal.returns-in-Some-clause-text
returns-in-Some-clause-text c = λ before later whole at.
    one_closed _ _ before later c.args.start c.args.codes c.in-Some.class
    (sym c.in-Some.is ∙ c.one_class.ensures) c.truncate.ensures.items whole at

pub returns-in-None-clause-code : goal.returns-in-None-clause-code
returns-in-None-clause-code c = ap block_code (sym c.in-None.is ∙ c.one_class.ensures)

pub returns-in-None-clause-text : goal.returns-in-None-clause-text
returns-in-None-clause-text c = λ before later whole at.
    several_closed _ _ before later c.args.start c.args.codes
    (sym c.in-None.is ∙ c.one_class.ensures) (search rules) whole at
