use Rattle.std.proofs.Common.{rules, subst, to_z-of_z, SFits, w64}
use Rattle.oct_ray.specs.Axis.{AreAxesOf, IsAxisOf}
use Rattle.oct_ray.proofs.MapFaces.{held_at}
use Rattle.oct_ray.proofs.walk.axes_between.Goals as goal

pub new-x-requires-clause-first : goal.new-x-requires-clause-first
new-x-requires-clause-first c =
    let fits : SFits w64 c.args.o.x = search rules in
    let held =
    held_at c.args.res _ c.args.o c.args.start c.edge_of-edge.ensures.value
    c.edge_of-edge.ensures.range c.requires.start in
    simp to_z-of_z held.x

pub new-x-requires-clause-last : goal.new-x-requires-clause-last
new-x-requires-clause-last c =
    let fits : SFits w64 c.args.e.x = search rules in
    let held =
    held_at c.args.res _ c.args.e c.args.end c.edge_of-edge.ensures.value
    c.edge_of-edge.ensures.range c.requires.end in
    simp to_z-of_z held.x

pub new-y-requires-clause-first : goal.new-y-requires-clause-first
new-y-requires-clause-first c =
    let fits : SFits w64 c.args.o.y = search rules in
    let held =
    held_at c.args.res _ c.args.o c.args.start c.edge_of-edge.ensures.value
    c.edge_of-edge.ensures.range c.requires.start in
    simp to_z-of_z held.y

pub new-y-requires-clause-last : goal.new-y-requires-clause-last
new-y-requires-clause-last c =
    let fits : SFits w64 c.args.e.y = search rules in
    let held =
    held_at c.args.res _ c.args.e c.args.end c.edge_of-edge.ensures.value
    c.edge_of-edge.ensures.range c.requires.end in
    simp to_z-of_z held.y

pub new-z-requires-clause-first : goal.new-z-requires-clause-first
new-z-requires-clause-first c =
    let fits : SFits w64 c.args.o.z = search rules in
    let held =
    held_at c.args.res _ c.args.o c.args.start c.edge_of-edge.ensures.value
    c.edge_of-edge.ensures.range c.requires.start in
    simp to_z-of_z held.z

pub new-z-requires-clause-last : goal.new-z-requires-clause-last
new-z-requires-clause-last c =
    let fits : SFits w64 c.args.e.z = search rules in
    let held =
    held_at c.args.res _ c.args.e c.args.end c.edge_of-edge.ensures.value
    c.edge_of-edge.ensures.range c.requires.end in
    simp to_z-of_z held.z

-- they are the axes for the edge as a number
made : (c : goal.After-new-z)
    → AreAxesOf c.edge_of-edge.result c.args.o c.args.e c.new-x.result c.new-y.result c.new-z.result
made c =
    let o_x : SFits w64 c.args.o.x = search rules in
    let o_y : SFits w64 c.args.o.y = search rules in
    let o_z : SFits w64 c.args.o.z = search rules in
    let e_x : SFits w64 c.args.e.x = search rules in
    let e_y : SFits w64 c.args.e.y = search rules in
    let e_z : SFits w64 c.args.e.z = search rules in
    let of_x : IsAxisOf c.edge_of-edge.result c.args.o.x c.args.e.x c.new-x.result =
    simp to_z-of_z at c.new-x.ensures.of in
    let of_y : IsAxisOf c.edge_of-edge.result c.args.o.y c.args.e.y c.new-y.result =
    simp to_z-of_z at c.new-y.ensures.of in
    let of_z : IsAxisOf c.edge_of-edge.result c.args.o.z c.args.e.z c.new-z.result =
    simp to_z-of_z at c.new-z.ensures.of in
    record {
      is_a = c.new-x.ensures.room;
      is_b = c.new-y.ensures.room;
      is_c = c.new-z.ensures.room;
      of_a = of_x;
      of_b = of_y;
      of_c = of_z;
    }

pub returns : goal.returns
returns c =
    subst (λ edge. AreAxesOf edge c.args.o c.args.e c.new-x.result c.new-y.result c.new-z.result)
    c.edge_of-edge.ensures.value (made c)
