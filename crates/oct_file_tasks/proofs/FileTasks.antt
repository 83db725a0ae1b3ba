-- How a task over a file ends, by what was read.
use Rattle.std.proofs.Common.{ℕ, List, Option, Some, None, IfSome, Ok, ap, ◌∙◌}
use Rattle.oct_bt.specs.File.{FileRead}
use Rattle.oct_file_tasks.specs.Answers.{answer_to}
use Rattle.oct_file_tasks.specs.Ending.{EndsOverFile}
use Rattle.oct_file_tasks.specs.Input.{MayRead}
use Rattle.oct_io.specs.Answer.{EndsUnread}
use Rattle.oct_io.specs.declared.status.Status.{Status}
use Rattle.oct_file_tasks.proofs.Ends.{answer_short}
use Rattle.oct_file_tasks.proofs.OverFile.{over_file}
use Rattle.oct_file_tasks.specs.FileTasks.{file_reply, over_file_answer}
use Rattle.oct_file_tasks.specs.declared.file_task.FileTask.{FileTask}

-- a task that read a file
pub file_ends : (first left old new : Option (List ℕ)) (task : FileTask) (file : FileRead)
    (most : ℕ) (end : Status) → EndsUnread (file_reply task file) old new end
    → IfSome first (λ bytes. MayRead most bytes left (Ok file))
    → IfSome first (λ bytes. EndsOverFile (over_file_answer task most bytes) most bytes left old new
    end)
file_ends None left old new task file most end ends read = tt
file_ends (Some bytes) left old new task file most end ends (is, to_end) =
    rw (answer_short (file_reply task) most bytes to_end.few ∙ ap (answer_to (file_reply task)) is)
    (over_file (file_reply task file) most bytes left old new end ends to_end)
