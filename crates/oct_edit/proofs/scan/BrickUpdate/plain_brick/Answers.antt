use Rattle.std.proofs.Common.{◌<◌, rules}
use Rattle.std.specs.Int.{bit_not, w64}
use Rattle.oct_edit.proofs.BrickGaps.{brick_gap, not_zero}
use Rattle.oct_edit.proofs.PlantedVoxels.{when_some}
use Rattle.oct_edit.proofs.scan.BrickUpdate.plain_brick.Goals as goal

pub returns-clause-gap : goal.returns-clause-gap
returns-clause-gap c =
    let some : 0 < bit_not w64 c.args.self.now.brick.scanned = not_zero _ (search rules) in
    when_some _ c.plain_value.result (λ m is b deep inside.
    brick_gap b c.args.self.now.brick c.args.self.now.hit c.args.self.now.miss deep c.requires.brick
    inside some)
