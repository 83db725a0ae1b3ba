use Rattle.std.proofs.Common.{◌≡◌, ◌*◌, ◌<◌, rules, arith, pos, ◌-ℤ◌, to_z-of_z, SFits, w64}
use Rattle.oct_ray.proofs.MapFaces.{on_map, number_of_height}
use Rattle.oct_ray.proofs.axis.Axis.new.Goals as goal

pub height-requires-clause-on_map : goal.height-requires-clause-on_map
height-requires-clause-on_map c =
    let fits : SFits w64 c.args.o = search rules in
    let few : c.args.first < 65536 = search rules in
    let lies = on_map c.args.edge c.args.first c.args.o few c.requires.first in
    simp to_z-of_z lies

pub height-requires-2-clause-on_map : goal.height-requires-2-clause-on_map
height-requires-2-clause-on_map c =
    let fits : SFits w64 c.args.e = search rules in
    let few : c.args.last < 65536 = search rules in
    let lies = on_map c.args.edge c.args.last c.args.e few c.requires.last in
    simp to_z-of_z lies

pub between-requires-clause-key : goal.between-requires-clause-key
between-requires-clause-key c =
    let fits : SFits w64 c.args.o = search rules in
    let value : c.args.o ≡ (pos c.height.result -ℤ pos (32768 * c.args.edge)) =
    simp to_z-of_z at c.height.ensures.value in
    number_of_height c.args.edge c.args.first c.height.result c.args.o
    (omega (arith, c.requires.edge)) value c.requires.first

pub between-requires-clause-last : goal.between-requires-clause-last
between-requires-clause-last c =
    let fits : SFits w64 c.args.e = search rules in
    let value : c.args.e ≡ (pos c.height-2.result -ℤ pos (32768 * c.args.edge)) =
    simp to_z-of_z at c.height-2.ensures.value in
    number_of_height c.args.edge c.args.last c.height-2.result c.args.e
    (omega (arith, c.requires.edge)) value c.requires.last
