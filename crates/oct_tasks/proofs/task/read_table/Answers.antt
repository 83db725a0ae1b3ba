use Rattle.oct_tasks.proofs.Choosing.{table_none}
use Rattle.oct_tasks.proofs.task.read_table.Goals as goal

pub returns-in_default : goal.returns-in_default
returns-in_default c = table_none _ c.in_default.len_below
