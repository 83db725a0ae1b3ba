use Rattle.std.proofs.Common.{◌^◌, map, take, All}
use Rattle.oct_key.specs.PlaceKeys.{keyed_at}
use Rattle.oct_brick.specs.Bricks.{IsBrick}
use Rattle.oct_scan.specs.declared.beam.PlacedBeam.{PlacedBeam}
use Rattle.oct_scan.specs.Beam.{bare}
use Rattle.oct_scan.specs.Gathered.{HoldAllGathered}
use Rattle.oct_scan.proofs.gather.add_by_keys.Given as goal

abbrev pub invariant-loop-key : goal.invariant-loop-key
invariant-loop-key l = record {
  held : (d : PlacedBeam) → HoldAllGathered l.view.res l.view.window l.view.origin
      (take l.key-index (bare (map (keyed_at (2 ^ 19) l.beams d) l.keys))) l.bricks;
  bricks : All IsBrick l.bricks;
}
