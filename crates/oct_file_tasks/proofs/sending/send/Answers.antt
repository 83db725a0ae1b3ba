use Rattle.std.proofs.Common.{◌∙◌}
use Rattle.oct_file_tasks.proofs.Ends.{cut_none}
use Rattle.oct_file_tasks.proofs.OverFile.{reply_ends}
use Rattle.oct_file_tasks.proofs.sending.send.Goals as goal

pub returns-in-Ok-clause-ends : goal.returns-in-Ok-clause-ends
returns-in-Ok-clause-ends g c = λ whole is some same.
    reply_ends c.write_all.result whole c.deref.result.now c.args.status _ _ _ c.requires.settled
    (c.deref.ensures.value ∙ rw c.in-Ok.is at is) same c.status_written.ensures
    c.write_all.ensures.ok c.write_all.ensures.err

pub returns-in-Err-clause-ends : goal.returns-in-Err-clause-ends
returns-in-Err-clause-ends g c = λ whole is some same. cut_none whole.text _ some
