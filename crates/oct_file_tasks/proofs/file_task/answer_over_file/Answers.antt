use Rattle.oct_file_tasks.proofs.Ends.{reason_ends}
use Rattle.oct_file_tasks.specs.FileTasks.{file_reply}
use Rattle.oct_file_tasks.proofs.FileTasks.{file_ends}
use Rattle.oct_file_tasks.proofs.file_task.answer_over_file.Goals as goal

pub returns-in-Ok-clause-answer : goal.returns-in-Ok-clause-answer
returns-in-Ok-clause-answer g c =
    file_ends _ _ _ _ c.args.task c.in-Ok.file _ _ c.answer_file.ensures.ends c.in-Ok.ensures.answer

pub returns-in-Err-clause-answer : goal.returns-in-Err-clause-answer
returns-in-Err-clause-answer g c =
    reason_ends _ _ _ _ c.in-Err.reason (file_reply c.args.task) c.args.max_bytes _
    (λ bytes. c.refuse.ensures.ends (file_reply c.args.task) c.args.max_bytes bytes _)
    c.in-Err.ensures.answer
