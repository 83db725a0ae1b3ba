use Rattle.std.proofs.Common.{sym}
use Rattle.oct_scan.specs.Answer.{MeetsSoMany}
use Rattle.oct_scan.specs.Beam.{sighting_of}
use Rattle.oct_scan.proofs.Judging.{inside_at, judged_more, exceeded}
use Rattle.oct_scan.proofs.judge.count_met.Goals as goal

pub new-requires-clause-end : goal.new-requires-clause-end
new-requires-clause-end c =
    inside_at c.args.res (sighting_of c.args.scan.now) c.as_slice-point-items.result.now
    c.loop-index.index c.beam_to-beam.result _ c.as_slice-point-items.ensures
    c.loop-index-test.true c.beam_to-beam.ensures c.requires.inside.1

pub returns-then-total-most-clause-err : goal.returns-then-total-most-clause-err
returns-then-total-most-clause-err c =
    let one : MeetsSoMany c.args.res c.args.scan.now.pose.t c.beam_to-beam.result.end
    c.count_way-total.result =
    record {
      voxels = c.new.result;
      walk = c.new.ensures.walk;
      counted = sym c.count_way-total.ensures.met;
    } in
    exceeded c.args.res (sighting_of c.args.scan.now) c.as_slice-point-items.result.now
    c.loop-index.index c.beam_to-beam.result _ c.loop-index.total c.count_way-total.result
    c.args.most c.as_slice-point-items.ensures c.loop-index-test.true c.beam_to-beam.ensures
    c.loop-index.invariant.met c.loop-index.invariant.within one c.if-total-most.true

pub loop-index-preserved : goal.loop-index-preserved
loop-index-preserved c =
    let one : MeetsSoMany c.args.res c.args.scan.now.pose.t c.beam_to-beam.result.end
    c.count_way-total.result =
    record {
      voxels = c.new.result;
      walk = c.new.ensures.walk;
      counted = sym c.count_way-total.ensures.met;
    } in
    record {
      met = judged_more c.args.res (sighting_of c.args.scan.now) c.as_slice-point-items.result.now
          c.loop-index.index c.beam_to-beam.result _ c.loop-index.total c.count_way-total.result
          c.loop-index-test.true c.beam_to-beam.ensures c.loop-index.invariant.met one;
      within = c.if-total-most.false;
    }
