use Rattle.std.proofs.Common.{sym, ◌∙◌}
use Rattle.oct_tasks.proofs.Choosing.{are_options_end}
use Rattle.oct_tasks.proofs.words.are_options.Goals as goal

pub returns : goal.returns
returns c = c.is_empty.ensures
    ∙ sym (c.loop-rest.invariant ∙ are_options_end _ c.in_default.len_below)
