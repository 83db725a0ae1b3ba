use Rattle.std.proofs.Common.{ap, Err}
use Rattle.std.proofs.lemmas.Result.{on_err_weaker}
use Rattle.oct_session.specs.Standing.{with_reply}
use Rattle.oct_session.proofs.Restoring.{restore_done, restore_refused}
use Rattle.oct_session.proofs.RunningOut.{has_groups}
use Rattle.oct_session.proofs.files.restore_bytes.Goals as goal

pub returns-in-Ok-clause-done : goal.returns-in-Ok-clause-done
returns-in-Ok-clause-done c =
    restore_done c.args.map.now c.restore.new.self c.args.bytes.now c.in-Ok.groups
    c.in-Ok.ensures.answer c.in-Ok.ensures.restored c.restore.ensures.map

pub returns-in-Err-clause-done : goal.returns-in-Err-clause-done
returns-in-Err-clause-done c =
    restore_refused (with_reply c.refuse.result c.refuse.new.reply) c.args.map.now
    c.restore.new.self c.args.bytes.now c.in-Err.fault c.refuse.ensures.ok c.refuse.ensures.some
    c.in-Err.ensures.answer c.in-Err.ensures.refused

pub returns-in-Err-clause-memory : goal.returns-in-Err-clause-memory
returns-in-Err-clause-memory c =
    on_err_weaker c.refuse.result
    (λ memory.
    let took = c.in-Err.ensures.memory (ap Err memory) in has_groups _ took.0 took.1)
    c.refuse.ensures.err
