use Rattle.std.proofs.Common.{◌≡◌, ◌+◌, ◌-◌, ◌∙◌, refl, ap, arith}
use Rattle.oct_num.proofs.Results.{on_any_err}
use Rattle.oct_tree.specs.Classes.{classes_in}
use Rattle.oct_export.specs.Grids.{rows_of}
use Rattle.oct_export.proofs.Pushes.{pushed_start, pushed_more, second_cut, pushed_as}
use Rattle.oct_export.proofs.Rows.{rows_none, rows_next, rows_cut}
use Rattle.oct_export.proofs.grid.push_rows.Goals as goal

pub loop-n-init : goal.loop-n-init
loop-n-init g c = record {
  pushed = pushed_start _ _ _ (rows_none (classes_in c.args.tree.now) c.args.lo c.args.hi);
  faults = refl;
  shortages = refl;
}

pub returns-in_err-push_row-clause-cut : goal.returns-in_err-push_row-clause-cut
returns-in_err-push_row-clause-cut g c =
    let (rest, is) =
    rows_cut (classes_in c.args.tree.now) c.args.lo c.args.hi c.loop-n.n
    (c.args.hi.y + 1 - c.args.lo.y) (omega arith) in
    on_any_err c.from_residual.result _
    (second_cut (rows_of (classes_in c.args.tree.now) c.args.lo c.args.hi c.loop-n.n) _ rest _ _ _
    _ _ _
    c.loop-n.invariant.pushed c.in_err-push_row.ensures.cut is)

pub loop-n-preserved : goal.loop-n-preserved
loop-n-preserved g c = record {
  pushed = pushed_more (rows_of (classes_in c.args.tree.now) c.args.lo c.args.hi c.loop-n.n) _ _ _ _
      _ _ _ _ c.loop-n.invariant.pushed
      c.in_ok-push_row.ensures.pushed
      (rows_next (classes_in c.args.tree.now) c.args.lo c.args.hi c.loop-n.n);
  faults = c.in_ok-push_row.ensures.counts.stays.0 ∙ c.loop-n.invariant.faults;
  shortages = c.in_ok-push_row.ensures.counts.stays.1 ∙ c.loop-n.invariant.shortages;
}

pub returns-clause-pushed : goal.returns-clause-pushed
returns-clause-pushed g c = pushed_as _ _ _ _ _ _ c.loop-n.invariant.pushed
    (let all : c.loop-n.n ≡ c.args.hi.y + 1 - c.args.lo.y = omega arith in
    ap (rows_of (classes_in c.args.tree.now) c.args.lo c.args.hi) all)
