use Rattle.std.proofs.Common.{◌≡◌, ◌∙◌, ap, inl, refl, rules}
use Rattle.oct_bt.specs.DataClasses.{data_classes}
use Rattle.oct_export.specs.Grids.{column_count, pgm_text}
use Rattle.oct_tree.specs.Classes.{classes_in}
use Rattle.oct_export.proofs.Same.{same_grid}
use Rattle.oct_key.specs.Voxel.{Voxel, IsInMap}
use Rattle.oct_file_tasks.proofs.Ends.{cut_none}
use Rattle.oct_io.specs.declared.status.Status.TheVariants.{Done}
use Rattle.oct_file_tasks.proofs.OverFile.{reply_ends}
use Rattle.oct_file_tasks.proofs.Replies.{some_grid, grid_told, grid_refused}
use Rattle.oct_file_tasks.proofs.grids.project_between.Goals as goal

pub returns-then-count-gt-MOST_COLUMNS-clause-ends
    : goal.returns-then-count-gt-MOST_COLUMNS-clause-ends
returns-then-count-gt-MOST_COLUMNS-clause-ends g c =
    let counted : c.column_count-count.result ≡ column_count c.args.window =
    rw (c.lo-low.ensures, c.hi-high.ensures) at c.column_count-count.ensures in
    rw (grid_refused (data_classes c.args.file.now.codes) c.args.window _ counted
    c.if-count-gt-MOST_COLUMNS.true) c.send_refusal.ensures.ends

pub returns-in_default-clause-ends : goal.returns-in_default-clause-ends
returns-in_default-clause-ends g c =
    cut_none _ _ (some_grid (data_classes c.args.file.now.codes) c.args.window)

pub returns-clause-ends : goal.returns-clause-ends
returns-clause-ends g c =
    let inside : IsInMap c.hi-high.result = search rules in
    let counted : c.column_count-count.result ≡ column_count c.args.window =
    rw (c.lo-low.ensures, c.hi-high.ensures) at c.column_count-count.ensures in
    let classes = data_classes c.args.file.now.codes in
    rw (grid_told (data_classes c.args.file.now.codes) c.args.window _ counted
    c.if-count-gt-MOST_COLUMNS.false)
    (reply_ends c.pgm.result _
    (pgm_text (classes_in c.in-Ok.tree) c.lo-low.result c.hi-high.result) Done _ _ _ (inl refl)
    (same_grid (classes_in c.in-Ok.tree) classes c.lo-low.result c.hi-high.result
    c.in-Ok.ensures.classes inside
    ∙ ap (λ (lo : Voxel). pgm_text classes lo c.hi-high.result) c.lo-low.ensures
    ∙ ap (λ (hi : Voxel). pgm_text classes c.args.window.lo hi) c.hi-high.ensures)
    refl c.status_written.ensures c.pgm.ensures.written c.pgm.ensures.cut)
