use Rattle.std.proofs.Common.{rules, IsErr, ap, Err}
use Rattle.oct_num.proofs.Results.{on_any_err}
use Rattle.oct_session.specs.Standing.{with_reply}
use Rattle.oct_session.proofs.Effects.{is_failed}
use Rattle.oct_session.proofs.Loading.{bytes_unread}
use Rattle.oct_session.proofs.RunningOut.{read_of_some}
use Rattle.oct_session.proofs.files.load_bytes.Goals as goal

pub returns-in_err-refusal-in-Err-clause-done : goal.returns-in_err-refusal-in-Err-clause-done
returns-in_err-refusal-in-Err-clause-done c =
    let err : IsErr c.from_residual.result = search rules in
    bytes_unread (with_reply c.from_residual.result c.args.reply.now) c.args.map.now
    c.args.bytes.now (is_failed _ c.args.reply.now err)

pub returns-in_err-refusal-in-Err-clause-memory : goal.returns-in_err-refusal-in-Err-clause-memory
returns-in_err-refusal-in-Err-clause-memory c =
    on_any_err c.from_residual.result _
    (c.in-Err.ensures.memory (ap Err c.in_err-refusal-in-Err.ensures.err))

pub returns-in-Ok-clause-memory : goal.returns-in-Ok-clause-memory
returns-in-Ok-clause-memory c =
    on_any_err c.replace.result _
    (read_of_some c.in-Ok.file c.args.bytes.now c.in-Ok.ensures.answer)
