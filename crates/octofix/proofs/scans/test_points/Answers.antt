use Rattle.std.proofs.Common.{ap, sym, subst, ◌∙◌, map, All}
use Rattle.std.proofs.lemmas.List.{take_all}
use Rattle.oct_pose.specs.Reach.{IsInReach}
use Rattle.octofix.proofs.Reaches.{far_here, near_more, none_far, reach_more}
use Rattle.octofix.specs.Points.{point_of}
use Rattle.octofix.specs.Sightings.{is_in_reach, points_by}
use Rattle.octofix.proofs.scans.test_points.Goals as goal

pub returns-then-not-is_in_reach-clause-far : goal.returns-then-not-is_in_reach-clause-far
returns-then-not-is_in_reach-clause-far c =
    ap (λ index. points_by index c.args.points.now)
    (far_here c.args.points.now c.loop-index.index _ c.loop-index-test.true
    (sym (ap is_in_reach c.point.ensures) ∙ sym c.is_in_reach.ensures.exact
    ∙ c.if-not-is_in_reach.true)
    c.loop-index.invariant.left)

pub loop-index-preserved : goal.loop-index-preserved
loop-index-preserved c = record {
  left = near_more c.args.points.now c.loop-index.index _ c.loop-index-test.true
      (sym (ap is_in_reach c.point.ensures) ∙ sym c.is_in_reach.ensures.exact
      ∙ c.if-not-is_in_reach.false)
      c.loop-index.invariant.left;
  near = reach_more c.args.points.now c.loop-index.index _ c.loop-index-test.true
      (subst IsInReach c.point.ensures (c.is_in_reach.ensures.near c.if-not-is_in_reach.false))
      c.loop-index.invariant.near;
}

pub returns-clause-near : goal.returns-clause-near
returns-clause-near c = (
  ap (λ index. points_by index c.args.points.now)
      (none_far c.args.points.now c.loop-index.index c.loop-index-test.false
      c.loop-index.invariant.left),
  subst (λ ps. All IsInReach (map point_of ps))
      (take_all c.loop-index.index c.args.points.now c.loop-index-test.false)
      c.loop-index.invariant.near,
)
