use Rattle.std.proofs.Common.{◌<◌, ◌^◌, rules}
use Rattle.oct_brick.proofs.Bits.{or_one}
use Rattle.oct_brick.proofs.Makers.{scanned_brick}
use Rattle.oct_brick.proofs.brick.Brick.with_scanned.Goals as goal

pub returns-clause-scanned : goal.returns-clause-scanned
returns-clause-scanned c =
    λ k. rw c.bit_of.ensures (or_one c.args.self.code c.args.self.scanned c.args.code k c.requires)

pub returns-clause-brick : goal.returns-clause-brick
returns-clause-brick c = λ below part.
    let scanned : c.args.self.scanned < 2 ^ 64 = search rules in
    let hits : c.args.self.hits < 2 ^ 64 = search rules in
    scanned_brick c.args.self c.args.code c.bit_of.result c.bit_of.ensures below scanned hits part
