use Rattle.octofix.proofs.Fronts.{front_more, front_whole}
use Rattle.octofix.specs.Casts.{cast_between, stop_told}
use Rattle.octofix.specs.declared.types.SegmentNm.{SegmentNm}
use Rattle.octofix.proofs.casts.cast_all.Goals as goal

pub loop-i-preserved : goal.loop-i-preserved
loop-i-preserved c =
    front_more (λ (s : SegmentNm). stop_told
    (cast_between s.origin s.end c.args.ignore_unknown c.args.map.now)) c.args.segments.now
    c.args.stops.now c.loop-i.stops c.loop-i.i _ c.stop_along.result c.loop-i-test.true
    c.if-stops-segments.false c.loop-i.invariant c.stop_along.ensures

pub returns-clause-stops : goal.returns-clause-stops
returns-clause-stops c =
    front_whole (λ (s : SegmentNm). stop_told
    (cast_between s.origin s.end c.args.ignore_unknown c.args.map.now)) c.args.segments.now
    c.args.stops.now c.loop-i.stops c.loop-i.i c.loop-i-test.false c.if-stops-segments.false
    c.loop-i.invariant
