use Rattle.std.proofs.Common.{sym, ◌∙◌}
use Rattle.oct_file_tasks.proofs.Canonicals.{sends_again}
use Rattle.oct_file_tasks.proofs.canonical.write_canonical.Goals as goal

pub returns-then-is_canonical-clause-sends : goal.returns-then-is_canonical-clause-sends
returns-then-is_canonical-clause-sends g c =
    sends_again c.rewrite.result c.args.file.now _ _ c.requires.accepted
    (sym c.is_canonical.ensures.test ∙ c.if-is_canonical.true) c.rewrite.ensures.written
    c.rewrite.ensures.cut
