use Rattle.std.proofs.Common.{rules, to_z-of_z, SFits, w64}
use Rattle.oct_ray.proofs.Cuts.{in_reach}
use Rattle.oct_ray.proofs.range.cut_point.Goals as goal

pub cut_coordinate-requires-clause-reach : goal.cut_coordinate-requires-clause-reach
cut_coordinate-requires-clause-reach c =
    let o : SFits w64 c.args.o.x = search rules in
    let e : SFits w64 c.args.e.x = search rules in
    simp to_z-of_z (in_reach c.args.o c.args.e c.requires.reach).x

pub cut_coordinate-requires-2-clause-reach : goal.cut_coordinate-requires-2-clause-reach
cut_coordinate-requires-2-clause-reach c =
    let o : SFits w64 c.args.o.y = search rules in
    let e : SFits w64 c.args.e.y = search rules in
    simp to_z-of_z (in_reach c.args.o c.args.e c.requires.reach).y

pub cut_coordinate-requires-3-clause-reach : goal.cut_coordinate-requires-3-clause-reach
cut_coordinate-requires-3-clause-reach c =
    let o : SFits w64 c.args.o.z = search rules in
    let e : SFits w64 c.args.e.z = search rules in
    simp to_z-of_z (in_reach c.args.o c.args.e c.requires.reach).z
