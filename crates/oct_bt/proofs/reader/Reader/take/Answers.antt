use Rattle.std.proofs.Common.{inr, ap, sym, subst, ◌∙◌}
use Rattle.oct_bt.specs.Holding.{progress_of}
use Rattle.oct_bt.specs.Reading.{FileProgress, IsKept}
use Rattle.oct_num.proofs.Results.{on_any_err}
use Rattle.oct_bt.proofs.Keeping.{line_kept}
use Rattle.oct_bt.proofs.reader.Reader.take.Goals as goal

pub returns-in_err-header-in-InHead-clause-memory :
    goal.returns-in_err-header-in-InHead-clause-memory
returns-in_err-header-in-InHead-clause-memory c =
    on_any_err c.from_residual.result _ (inr (subst (λ (p : FileProgress). IsKept p c.args.byte)
    (sym (ap progress_of c.in-InHead.is) ∙ c.self.view_is)
    (line_kept c.in-InHead.head c.args.byte c.in_err-header-in-InHead.ensures.memory)))

pub returns-in_err-take-in-InBody-clause-memory : goal.returns-in_err-take-in-InBody-clause-memory
returns-in_err-take-in-InBody-clause-memory c =
    on_any_err c.from_residual-in_err-take-in-InBody.result _
    (inr (subst (λ (p : FileProgress). IsKept p c.args.byte)
    (sym (ap progress_of c.in-InBody.is) ∙ c.self.view_is)
    c.in_err-take-in-InBody.ensures.memory))
