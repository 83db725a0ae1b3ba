use Rattle.std.proofs.Common.{◌∙◌}
use Rattle.oct_file_tasks.proofs.Ends.{sends_piece}
use Rattle.oct_file_tasks.proofs.no_file.write_refusal.Goals as goal

pub returns-clause-sends : goal.returns-clause-sends
returns-clause-sends g c =
    sends_piece c.write_all.result _ _ _ _ (c.deref.ensures.value ∙ c.in_ok-line.ensures)
    c.write_all.ensures.ok c.write_all.ensures.err
