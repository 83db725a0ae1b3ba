use Rattle.std.proofs.Common.{refl}
use Rattle.oct_ray.proofs.Rests.{AreLater, later_tracks, later_computed, later_rest_at}
use Rattle.oct_ray.proofs.walk.Walk.after.Goals as goal

-- the axes are those of the segment, and those after are what is left of them
later : (c : goal.After-new-3)
    → AreLater c.args.part c.args.res c.args.o c.args.e c.axes_between.result.0
    c.axes_between.result.1 c.axes_between.result.2 c.after-late_x.result c.after-late_y.result
    c.after-late_z.result c.new.result c.new-2.result c.new-3.result
later c = record {
  made = c.axes_between.ensures;
  later_a = c.after-late_x.ensures.left;
  later_b = c.after-late_y.ensures.left;
  later_c = c.after-late_z.ensures.left;
  track_a = c.new.ensures;
  track_b = c.new-2.ensures;
  track_c = c.new-3.ensures;
}

pub invariant_of-result : goal.invariant_of-result
invariant_of-result c = later_tracks _ _ c.args.o c.args.e _ _ _ _ _ _ _ _ _ (later c)

pub returns-clause-computed : goal.returns-clause-computed
returns-clause-computed c = later_computed _ _ c.args.o c.args.e _ _ _ _ _ _ _ _ _ (later c)

pub returns-clause-rest : goal.returns-clause-rest
returns-clause-rest c =
    later_rest_at _ _ _ c.args.o c.args.e _ _ _ _ _ _ _ _ _ refl (later c)
