use Rattle.std.proofs.Common.{rules, ◌-◌, ◌∙◌, refl, arith}
use Rattle.std.specs.Prelude.{replicate}
use Rattle.oct_num.proofs.Results.{on_any_err}
use Rattle.oct_export.proofs.Pushes.{pushed_start, pushed_piece, pushed_more, second_cut}
use Rattle.oct_export.proofs.Pushes.{pushed_as}
use Rattle.oct_export.proofs.Runs.{run_piece, run_none, run_more, run_cut, run_whole}
use Rattle.oct_export.proofs.grid.push_run.Goals as goal

pub loop-left-init : goal.loop-left-init
loop-left-init g c = record {
  left = search rules;
  pushed = pushed_start _ _ _ (run_none _ c.args.byte (omega arith));
  faults = refl;
  shortages = refl;
}

pub returns-in_err-push-clause-cut : goal.returns-in_err-push-clause-cut
returns-in_err-push-clause-cut g c = on_any_err c.from_residual.result _
    (second_cut (replicate (c.args.count - c.loop-left.left) c.args.byte) _
    (replicate (c.loop-left.left - c.min-size.result) c.args.byte)
    (replicate c.args.count c.args.byte)
    _ _ _ _ _ c.loop-left.invariant.pushed c.in_err-push.ensures.cut
    (run_cut c.args.count c.loop-left.left c.min-size.result c.args.byte _ (search rules)
    c.loop-left.invariant.left
    (run_piece c.min-size.result c.args.byte _ _ refl c.split_at.ensures.front (search rules))))

pub loop-left-preserved : goal.loop-left-preserved
loop-left-preserved g c = record {
  left = search rules;
  pushed = pushed_more (replicate (c.args.count - c.loop-left.left) c.args.byte) _ _ _ _ _ _ _ _
      c.loop-left.invariant.pushed
      (pushed_piece c.split_at.result.0.now c.loop-left.gather _ _ _ _ c.in_ok-push.ensures.handed
      c.in_ok-push.ensures.held)
      (run_more c.args.count c.loop-left.left c.min-size.result c.args.byte _ (search rules)
      c.loop-left.invariant.left
      (run_piece c.min-size.result c.args.byte _ _ refl c.split_at.ensures.front (search rules)));
  faults = c.in_ok-push.ensures.counts.stays.0 ∙ c.loop-left.invariant.faults;
  shortages = c.in_ok-push.ensures.counts.stays.1 ∙ c.loop-left.invariant.shortages;
}

pub returns-clause-pushed : goal.returns-clause-pushed
returns-clause-pushed g c =
    pushed_as _ _ _ _ _ _ c.loop-left.invariant.pushed
    (run_whole c.args.count c.loop-left.left c.args.byte (omega arith))
