-- What a task writes that reads a file.
use Rattle.std.specs.Prelude.{ℕ, List, ⊤}
use Rattle.oct_bt.specs.File.{FileRead}
use Rattle.oct_io.specs.Answer.{Answer}
use Rattle.oct_file_tasks.specs.Answers.{canonical_text, done_with, report, task_answer}
use Rattle.oct_file_tasks.specs.Frontiers.{frontier_reply}
use Rattle.oct_file_tasks.specs.Grids.{project_reply, scene_reply}
use Rattle.oct_file_tasks.specs.declared.file_task.FileTask.{FileTask}
use Rattle.oct_file_tasks.specs.declared.file_task.FileTask.TheVariants.{Convert, Inspect, Frontier}
use Rattle.oct_file_tasks.specs.declared.file_task.FileTask.TheVariants.{Project, Vrml}

-- the answer to a file
abbrev pub file_reply : FileTask → FileRead → Answer
file_reply Convert file = done_with canonical_text file
file_reply Inspect file = done_with report file
file_reply (Frontier lo hi) file = frontier_reply lo hi file
file_reply (Project lo hi) file = project_reply lo hi file
file_reply Vrml file = scene_reply file

-- the answer to an input
abbrev pub over_file_answer : FileTask → ℕ → List ℕ → Answer
over_file_answer task max_bytes bytes = task_answer (file_reply task) max_bytes bytes

-- of a file something may be asked that is refused
abbrev pub MayRefuse : FileTask → Type 0
MayRefuse Convert = ⊥
MayRefuse Inspect = ⊥
MayRefuse asks = ⊤
