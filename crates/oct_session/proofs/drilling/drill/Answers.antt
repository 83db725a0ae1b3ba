use Rattle.std.proofs.Common.{refl}
use Rattle.oct_session.proofs.Drilled.{drill_told, drill_stopped}
use Rattle.oct_session.proofs.drilling.drill.Goals as goal

pub returns-in-Ok-clause-answer : goal.returns-in-Ok-clause-answer
returns-in-Ok-clause-answer g c =
    drill_told c.write_summary-written.result c.args.seed c.args.scans c.args.points
    c.in-Ok.left _ _ _ _ _ c.in-Ok.ensures.done refl c.done_or_refused-ended.ensures
    c.status_written.ensures c.write_summary-written.ensures.ok c.write_summary-written.ensures.err

pub returns-in-Err-clause-answer : goal.returns-in-Err-clause-answer
returns-in-Err-clause-answer g c =
    drill_stopped c.args.seed c.args.scans c.args.points _ _ _ c.in-Err.ensures.memory
    c.from.ensures
