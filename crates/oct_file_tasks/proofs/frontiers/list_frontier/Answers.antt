use Rattle.std.proofs.Common.{sym}
use Rattle.oct_file_tasks.proofs.frontiers.list_frontier.Goals as goal

pub returns-in-Ok-clause-ends : goal.returns-in-Ok-clause-ends
returns-in-Ok-clause-ends g c =
    rw (sym c.res.ensures, sym c.in-Ok.ensures) c.list_between.ensures.ends

pub returns-in-Err-clause-ends : goal.returns-in-Err-clause-ends
returns-in-Err-clause-ends g c =
    rw (sym c.res.ensures, sym c.in-Err.ensures) c.send_refusal.ensures.ends
