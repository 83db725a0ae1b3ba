use Rattle.std.proofs.Common.{sym, ◌∙◌}
use Rattle.oct_tasks.proofs.Choosing.{value_of_none}
use Rattle.oct_tasks.proofs.words.value_of.Goals as goal

pub returns : goal.returns
returns c = sym (c.loop-rest.invariant ∙ value_of_none _ _ c.in_default.len_below)
