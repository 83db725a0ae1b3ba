use Rattle.std.proofs.Common.{◌/◌, ◌%◌, ◌*◌, ◌^◌, ap, ◌∙◌}
use Rattle.oct_tree.proofs.Descents.{leading_digit, digits_onward}
use Rattle.oct_tree.proofs.descent.Descent.step.Goals as goal

pub returns-clause-child : goal.returns-clause-child
returns-clause-child c = λ depth code low is.
    ap (λ n. n / 2 ^ 61) (c.self.view_is ∙ is) ∙ leading_digit depth code low

pub returns-clause-onward : goal.returns-clause-onward
returns-clause-onward c = λ depth code is.
    ap (λ n. n * 2 ^ 3 % 2 ^ 64) (c.self.view_is ∙ is) ∙ digits_onward depth code
