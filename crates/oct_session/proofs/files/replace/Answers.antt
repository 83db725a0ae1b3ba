use Rattle.std.proofs.Common.{ap, Err}
use Rattle.std.proofs.lemmas.Result.{on_err_weaker}
use Rattle.oct_session.specs.Standing.{with_reply}
use Rattle.oct_session.proofs.Loading.{replace_done, replace_refused}
use Rattle.oct_session.proofs.files.replace.Goals as goal

pub returns-in-Ok-clause-done : goal.returns-in-Ok-clause-done
returns-in-Ok-clause-done c = replace_done c.args.map.now c.load.new.self c.args.file.now
    c.nodes.result c.nodes.ensures c.in-Ok.ensures.answer c.in-Ok.ensures.loaded
    c.load.ensures.map c.load.ensures.setup

pub returns-in-Err-clause-done : goal.returns-in-Err-clause-done
returns-in-Err-clause-done c =
    replace_refused (with_reply c.refuse.result c.refuse.new.reply) c.args.map.now c.load.new.self
    c.args.file.now c.in-Err.fault c.refuse.ensures.ok c.refuse.ensures.some c.in-Err.ensures.answer
    c.in-Err.ensures.refused

pub returns-in-Err-clause-memory : goal.returns-in-Err-clause-memory
returns-in-Err-clause-memory c =
    on_err_weaker c.refuse.result (λ memory. c.in-Err.ensures.memory (ap Err memory))
    c.refuse.ensures.err
