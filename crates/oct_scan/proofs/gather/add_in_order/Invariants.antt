use Rattle.std.proofs.Common.{take, All}
use Rattle.oct_brick.specs.Bricks.{IsBrick}
use Rattle.oct_scan.specs.Beam.{bare}
use Rattle.oct_scan.specs.Gathered.{HoldAllGathered}
use Rattle.oct_scan.proofs.gather.add_in_order.Given as goal

abbrev pub invariant-loop-beam : goal.invariant-loop-beam
invariant-loop-beam l = record {
  held : HoldAllGathered l.view.res l.view.window l.view.origin
      (take l.beam-index (bare l.beams)) l.bricks;
  bricks : All IsBrick l.bricks;
}
