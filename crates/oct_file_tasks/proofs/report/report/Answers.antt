use Rattle.std.proofs.Common.{ap, ◌∙◌}
use Rattle.std.specs.Prelude.{codes, decimal, pos}
use Rattle.oct_num.specs.MetresText.{metres_text}
use Rattle.oct_bt.specs.DataClasses.{data_classes}
use Rattle.oct_bt.proofs.DataClassed.{data_classed}
use Rattle.oct_file_tasks.specs.Answers.{line, voxel_count, yes_or_no}
use Rattle.oct_file_tasks.proofs.Canonicals.{six_lines, passed_on}
use Rattle.oct_file_tasks.proofs.report.report.Goals as goal

pub returns : goal.returns
unfolding voxel_count
returns c =
    six_lines _ _ _ _ _ _ _ _ _ _ _ _ _ _ _ _ _ _ _ c.new-out.ensures.items
    c.in_ok-push_line.ensures c.in_ok-push_count.ensures c.in_ok-push_count-2.ensures
    c.in_ok-push_count-3.ensures c.in_ok-push_count-4.ensures c.in_ok-push_line-2.ensures
    (ap (line (codes "res "))
    (c.as_bytes.ensures.value ∙ c.deref.ensures.0 ∙ c.metres_text.ensures.exact
    ∙ ap metres_text (passed_on _ _ c.nm.ensures.value c.nm.ensures.range
    ∙ ap pos c.res.ensures))) (ap (λ n. line (codes "size ") (decimal n)) c.nodes.ensures)
    (ap (λ n. line (codes "records ") (decimal n)) c.records.ensures)
    (ap (λ n. line (codes "free ") (decimal n))
    (c.voxels-voxels.ensures.free (data_classes c.args.file.now.codes)
    (data_classed c.args.file.now.nodes c.args.file.now.codes c.requires.accepted)))
    (ap (λ n. line (codes "occupied ") (decimal n))
    (c.voxels-voxels.ensures.occupied (data_classes c.args.file.now.codes)
    (data_classed c.args.file.now.nodes c.args.file.now.codes c.requires.accepted)))
    (ap (line (codes "canonical "))
    (c.yes_or_no.ensures ∙ ap yes_or_no c.is_canonical.ensures.test))
