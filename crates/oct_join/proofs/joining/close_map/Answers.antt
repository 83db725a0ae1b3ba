use Rattle.std.proofs.Common.{sym, ◌∙◌}
use Rattle.oct_join.proofs.Whole.{free_written, occupied_written, other_written}
use Rattle.oct_join.proofs.joining.close_map.Goals as goal

pub returns-then-code-eq1-clause-text : goal.returns-then-code-eq1-clause-text
returns-then-code-eq1-clause-text c = λ o text code at.
    free_written o text _ _ (sym code ∙ c.if-code-eq1.true) at c.push_record.ensures.text

pub returns-then-code-eq2-clause-text : goal.returns-then-code-eq2-clause-text
returns-then-code-eq2-clause-text c = λ o text code at.
    occupied_written o text _ _ (sym code ∙ c.if-code-eq2.true) at
    c.push_record-then-code-eq2.ensures.text

pub returns-else-code-eq2-clause-text : goal.returns-else-code-eq2-clause-text
returns-else-code-eq2-clause-text c = λ o text code at.
    other_written o text _ (λ one. c.if-code-eq1.false (code ∙ one))
    (λ two. c.if-code-eq2.false (code ∙ two)) at
