use Rattle.std.proofs.Common.{rules, ◌-◌, ◌∙◌, refl, arith}
use Rattle.oct_num.proofs.Results.{on_any_err}
use Rattle.oct_tree.specs.Classes.{classes_in}
use Rattle.oct_export.specs.Grids.{grey_of}
use Rattle.oct_export.proofs.Pushes.{pushed_start, pushed_more, pushed_as}
use Rattle.oct_export.proofs.Rows.{row_front, row_none, row_more, row_cut_off, row_whole}
use Rattle.oct_export.proofs.grid.push_row.Goals as goal

pub loop-x-init : goal.loop-x-init
loop-x-init g c = record {
  low = search rules;
  high = search rules;
  pushed = pushed_start _ _ _
      (row_none grey_of (classes_in c.args.tree.now) c.args.lo c.args.hi c.args.y _ (omega arith));
  faults = refl;
  shortages = refl;
}

pub returns-in_err-push_run-clause-cut : goal.returns-in_err-push_run-clause-cut
returns-in_err-push_run-clause-cut g c = on_any_err c.from_residual.result _
    (row_cut_off (classes_in c.args.tree.now) c.args.lo c.args.hi c.args.y c.loop-x.x _ _
    c.strip_at-strip.result.class _ _ _ _ _
    c.loop-x.invariant.pushed c.in_err-push_run.ensures.cut c.grey_of.ensures
    c.loop-x.invariant.low (search rules) (search rules)
    (λ m low high. c.strip_at-strip.ensures.class m low (search rules)))

pub loop-x-preserved : goal.loop-x-preserved
loop-x-preserved g c = record {
  low = search rules;
  high = search rules;
  pushed = pushed_more
      (row_front grey_of (classes_in c.args.tree.now) c.args.lo c.args.hi c.args.y
      (c.loop-x.x - c.args.lo.x)) _ _ _ _ _ _ _ _ c.loop-x.invariant.pushed
      c.in_ok-push_run.ensures.pushed
      (row_more grey_of (classes_in c.args.tree.now) c.args.lo c.args.hi c.args.y c.loop-x.x _ _
      c.strip_at-strip.result.class
      c.loop-x.invariant.low (search rules) c.grey_of.ensures
      (λ m low high. c.strip_at-strip.ensures.class m low (search rules)));
  faults = c.in_ok-push_run.ensures.counts.stays.0 ∙ c.loop-x.invariant.faults;
  shortages = c.in_ok-push_run.ensures.counts.stays.1 ∙ c.loop-x.invariant.shortages;
}

pub returns-clause-pushed : goal.returns-clause-pushed
returns-clause-pushed g c = pushed_as _ _ _ _ _ _ c.loop-x.invariant.pushed
    (row_whole grey_of (classes_in c.args.tree.now) c.args.lo c.args.hi c.args.y
    (c.loop-x.x - c.args.lo.x)
    (omega arith))
