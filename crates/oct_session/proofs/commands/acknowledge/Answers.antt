use Rattle.std.proofs.Common.{subst, ap, Err, ◌∙◌}
use Rattle.std.proofs.lemmas.Result.{on_err_weaker}
use Rattle.oct_session.specs.Standing.{with_reply, HasCarriedOut}
use Rattle.oct_session.proofs.Replying.{order_done, order_refused}
use Rattle.oct_session.proofs.commands.acknowledge.Goals as goal

pub returns-in-Ok-clause-obeyed : goal.returns-in-Ok-clause-obeyed
returns-in-Ok-clause-obeyed c = λ old new order did.
    order_done old new order (subst (λ x. HasCarriedOut old new order x) c.in-Ok.is did)

pub returns-in-Err-clause-obeyed : goal.returns-in-Err-clause-obeyed
returns-in-Err-clause-obeyed c = λ old new order did.
    order_refused (with_reply c.refuse.result c.refuse.new.reply) old new order c.in-Err.fault
    c.refuse.ensures.ok c.refuse.ensures.some
    (subst (λ x. HasCarriedOut old new order x) c.in-Err.is did)

pub returns-in-Err-clause-memory : goal.returns-in-Err-clause-memory
returns-in-Err-clause-memory c =
    on_err_weaker c.refuse.result (λ memory. c.in-Err.is ∙ ap Err memory) c.refuse.ensures.err
