use Rattle.std.proofs.Common.{true, refl, rules, ◌∙◌}
use Rattle.std.specs.Prelude.{IsSome}
use Rattle.oct_key.specs.Voxel.{IsResolution, key_at}
use Rattle.oct_ray.specs.Track.{keys_to_come}
use Rattle.oct_ray.proofs.OneAxis.{computed_walk}
use Rattle.oct_ray.proofs.Tracks.{few_to_come, make_walk}
use Rattle.oct_ray.proofs.Starts.{made_tracks, made_at, IsNewWalk}
use Rattle.oct_ray.proofs.walk.Walk.between.Goals as goal

-- what is promised of the voxels to come
promised : (c : goal.After-new-3)
    → IsNewWalk c.args.res c.args.o c.args.e
    (keys_to_come (make_walk c.new.result c.new-2.result c.new-3.result true))
promised c =
    let range : IsResolution c.args.res = search rules in
    let o_in : IsSome (key_at c.args.res c.args.o) = rw c.requires.start refl in
    let e_in : IsSome (key_at c.args.res c.args.e) = rw c.requires.end refl in
    made_at c.args.res _ c.args.o c.args.e _ _ _ _ _ _ refl range o_in e_in
    c.axes_between.ensures c.new.ensures c.new-2.ensures c.new-3.ensures

pub new-requires-clause-axis : goal.new-requires-clause-axis
new-requires-clause-axis c = c.axes_between.ensures.is_a

pub returns-clause-walk : goal.returns-clause-walk
returns-clause-walk c = (promised c).walk

pub returns-clause-first : goal.returns-clause-first
returns-clause-first c = (promised c).first ∙ c.requires.start

pub returns-clause-last : goal.returns-clause-last
returns-clause-last c = (promised c).last ∙ c.requires.end

pub invariant_of-result : goal.invariant_of-result
invariant_of-result c =
    made_tracks _ c.args.o c.args.e _ _ _ _ _ _ c.axes_between.ensures c.new.ensures
    c.new-2.ensures c.new-3.ensures

pub returns-clause-few : goal.returns-clause-few
returns-clause-few c = few_to_come _ _ _ (invariant_of-result c)

pub returns-clause-computed : goal.returns-clause-computed
returns-clause-computed c =
    computed_walk _ c.args.o c.args.e _ _ _ _ _ _ c.axes_between.ensures c.new.ensures
    c.new-2.ensures c.new-3.ensures
