use Rattle.std.proofs.Common.{arith}
use Rattle.oct_scan.proofs.Holding.{all_none}
use Rattle.oct_scan.proofs.Placed.{all_placed}
use Rattle.oct_scan.proofs.gather.add_in_order.Goals as goal

pub loop-beam-init : goal.loop-beam-init
loop-beam-init c = rw c.requires.none (record {
  held = all_none c.args.view.now.res c.args.view.now.window c.args.view.now.origin;
  bricks = λ k d l. absurd (omega (arith, l));
})

pub loop-beam-preserved : goal.loop-beam-preserved
loop-beam-preserved c =
    let (met, added) = c.in_ok-add_beam.ensures.added in
    record {
      held = all_placed c.args.view.now.res c.args.view.now.window c.args.view.now.origin
          c.args.beams.now c.loop-beam.beam-index _ met c.loop-beam.bricks c.add_beam.new.bricks
          c.loop-beam-test.true c.loop-beam.invariant.held added;
      bricks = c.in_ok-add_beam.ensures.bricks;
    }
