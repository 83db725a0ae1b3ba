use Rattle.octofix.proofs.Fronts.{front_more, front_whole}
use Rattle.octofix.proofs.Reaches.{reach_at}
use Rattle.octofix.specs.Places.{placed_by}
use Rattle.octofix.proofs.places.put_placed.Goals as goal

pub placed-requires : goal.placed-requires
placed-requires c =
    reach_at c.args.points.now c.loop-i.i _ c.requires c.loop-i-test.true

pub loop-i-preserved : goal.loop-i-preserved
loop-i-preserved c =
    front_more (placed_by c.args.by.now) c.args.points.now c.args.places.now c.loop-i.places
    c.loop-i.i _ c.placed.result c.loop-i-test.true c.if-places-points.false c.loop-i.invariant
    c.placed.ensures

pub returns-clause-places : goal.returns-clause-places
returns-clause-places c =
    front_whole (placed_by c.args.by.now) c.args.points.now c.args.places.now c.loop-i.places
    c.loop-i.i c.loop-i-test.false c.if-places-points.false c.loop-i.invariant
