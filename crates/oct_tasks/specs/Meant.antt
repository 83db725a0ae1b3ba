-- A task in the words of the definitions.
use Rattle.oct_tasks.specs.Task.{Session, Build, OverFile, OverStore, Gen, Drill}
use Rattle.oct_tasks.specs.Task as meant
use Rattle.oct_tasks.specs.declared.task.Task.{Task}
use Rattle.oct_tasks.specs.declared.task.Task.TheVariants as code

-- the task that a value of the program stands for
abbrev pub meant_task : Task → meant.Task
meant_task (code.Session options) = Session options
meant_task (code.Build options) = Build options
meant_task (code.OverFile task max_bytes) = OverFile task max_bytes
meant_task (code.OverStore task) = OverStore task
meant_task (code.Gen seed scans points) = Gen seed scans points
meant_task (code.Drill seed scans points) = Drill seed scans points
