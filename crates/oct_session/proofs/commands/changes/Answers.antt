use Rattle.std.proofs.Common.{ap, Err}
use Rattle.std.proofs.lemmas.Result.{on_err_weaker}
use Rattle.oct_session.specs.Standing.{with_reply}
use Rattle.oct_session.proofs.Replying.{changes_done, changes_refused}
use Rattle.oct_session.proofs.commands.changes.Goals as goal

pub returns-in-Ok-clause-told : goal.returns-in-Ok-clause-told
returns-in-Ok-clause-told c = changes_done c.args.map.now c.in-Ok.changes c.in-Ok.ensures.answer

pub returns-in-Err-clause-told : goal.returns-in-Err-clause-told
returns-in-Err-clause-told c =
    changes_refused (with_reply c.refuse.result c.refuse.new.reply) c.args.map.now c.in-Err.fault
    c.refuse.ensures.ok c.refuse.ensures.some c.in-Err.ensures.answer

pub returns-in-Err-clause-memory : goal.returns-in-Err-clause-memory
returns-in-Err-clause-memory c =
    on_err_weaker c.refuse.result (λ memory. (c.in-Err.ensures.memory (ap Err memory)).1)
    c.refuse.ensures.err
