use Rattle.std.proofs.Common.{refl, rules}
use Rattle.std.specs.Prelude.{IsSome, IsNone}
use Rattle.oct_key.specs.Voxel.{key_at}
use Rattle.oct_scan.specs.Beam.{sighting_of}
use Rattle.oct_scan.proofs.OutsideEnds.{outside_at, none_outside}
use Rattle.oct_scan.proofs.Judging.{beams_to, inside_more}
use Rattle.oct_scan.proofs.judge.check_ends.Goals as goal

pub returns-clause-inside : goal.returns-clause-inside
returns-clause-inside c =
    none_outside c.args.res (sighting_of c.args.scan.now) c.as_slice-point-items.result.now
    (beams_to (sighting_of c.args.scan.now) c.as_slice-point-items.result.now c.loop-index.index)
    c.loop-index.index c.as_slice-point-items.ensures c.loop-index-test.false refl
    c.loop-index.invariant

pub returns-then-is_none-clause-err : goal.returns-then-is_none-clause-err
returns-then-is_none-clause-err c =
    let none : IsNone (key_at c.args.res c.beam_to-beam.result.end) = search rules in
    outside_at c.args.res (sighting_of c.args.scan.now) c.as_slice-point-items.result.now
    (beams_to (sighting_of c.args.scan.now) c.as_slice-point-items.result.now c.loop-index.index)
    c.loop-index.index c.beam_to-beam.result _ c.as_slice-point-items.ensures
    c.loop-index-test.true refl c.loop-index.invariant c.beam_to-beam.ensures none

pub loop-index-preserved : goal.loop-index-preserved
loop-index-preserved c =
    let some : IsSome (key_at c.args.res c.beam_to-beam.result.end) = search rules in
    inside_more c.args.res (sighting_of c.args.scan.now) c.as_slice-point-items.result.now
    c.loop-index.index c.beam_to-beam.result _ c.loop-index-test.true c.beam_to-beam.ensures
    c.loop-index.invariant some
