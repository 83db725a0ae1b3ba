use Rattle.std.proofs.Common.{ap, ◌∙◌}
use Rattle.oct_io.specs.Told.{appended}
use Rattle.oct_file_tasks.specs.Answers.{canonical_text}
use Rattle.oct_file_tasks.proofs.Canonicals.{tree_text, some_canonical}
use Rattle.oct_file_tasks.proofs.Ends.{sends_none, sends_part}
use Rattle.oct_file_tasks.proofs.canonical.write_merged.Goals as goal

pub returns-in_err-tree-clause-sends : goal.returns-in_err-tree-clause-sends
returns-in_err-tree-clause-sends g c =
    sends_none c.from_residual.result (canonical_text c.args.file.now) _ c.from_residual.ensures.0
    (some_canonical c.args.file.now)

pub returns-in_err-write-clause-sends : goal.returns-in_err-write-clause-sends
returns-in_err-write-clause-sends g c =
    sends_part _ _ _ _ _ c.from_residual-in_err-write.ensures.0
    (tree_text c.in_ok-tree.tree c.args.file.now c.in_ok-tree.ensures.res
    c.in_ok-tree.ensures.classes)
    c.in_err-write.ensures.cut

pub returns-clause-sends : goal.returns-clause-sends
returns-clause-sends g c =
    c.in_ok-write.ensures.written ∙ ap (appended _)
    (tree_text c.in_ok-tree.tree c.args.file.now c.in_ok-tree.ensures.res
    c.in_ok-tree.ensures.classes)
