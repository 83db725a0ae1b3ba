use Rattle.std.proofs.Common.{ap, ◌∙◌}
use Rattle.oct_io.specs.Told.{appended}
use Rattle.oct_file_tasks.specs.OverStore.{merged_text}
use Rattle.oct_file_tasks.proofs.Merges.{joined_file}
use Rattle.oct_file_tasks.proofs.PairTexts.{some_merged}
use Rattle.oct_file_tasks.proofs.Ends.{sends_none, sends_part}
use Rattle.oct_file_tasks.proofs.merging.write_merged.Goals as goal

pub returns-in_err-file-clause-sends : goal.returns-in_err-file-clause-sends
returns-in_err-file-clause-sends g c =
    sends_none c.from_residual.result (merged_text c.args.rule c.args.pair.now) _
    c.from_residual.ensures.0
    (some_merged c.args.rule c.args.pair.now)

pub returns-in_err-rewrite-clause-sends : goal.returns-in_err-rewrite-clause-sends
returns-in_err-rewrite-clause-sends g c =
    sends_part _ _ _ _ _ c.from_residual-in_err-rewrite.ensures.0
    (joined_file c.args.rule c.args.pair.now c.in_ok-file.file c.in_ok-file.ensures.res
    c.in_ok-file.ensures.codes c.in_ok-file.ensures.nodes)
    c.in_err-rewrite.ensures.cut

pub returns-clause-sends : goal.returns-clause-sends
returns-clause-sends g c =
    c.in_ok-rewrite.ensures.written ∙ ap (appended _)
    (joined_file c.args.rule c.args.pair.now c.in_ok-file.file c.in_ok-file.ensures.res
    c.in_ok-file.ensures.codes c.in_ok-file.ensures.nodes)
