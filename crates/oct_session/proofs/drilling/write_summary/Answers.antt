use Rattle.oct_num.proofs.Results.{on_any_err}
use Rattle.oct_session.proofs.Drilled.{summary_unwritten}
use Rattle.oct_session.proofs.drilling.write_summary.Goals as goal

pub returns-in_err-text-clause-err : goal.returns-in_err-text-clause-err
returns-in_err-text-clause-err g c =
    on_any_err c.from_residual.result _
    (summary_unwritten c.args.scans c.args.left.now.tally _ _ _ _)
