use Rattle.std.proofs.Common.{◌≡◌, ℕ, pos, ◌*◌, ◌/◌, ◌-ℤ◌, ℤ, arith, rules, to_z-of_z, SFits, w64}
use Rattle.std.proofs.Common.{sym, ap, ◌∙◌}
use Rattle.std.proofs.lemmas.Int.{ints}
use Rattle.oct_ray.specs.Range.{axis_distance}
use Rattle.oct_ray.proofs.Cuts.{cut_down}
use Rattle.oct_ray.proofs.range.cut_coordinate.Goals as goal

pub returns-else-o-e : goal.returns-else-o-e
returns-else-o-e c =
    let o : SFits w64 c.args.o = search rules in
    let e : SFits w64 c.args.e = search rules in
    let p : SFits w64 c.cut_distance-part.result = search rules in
    let distance : c.axis_distance.result ≡ axis_distance c.args.o c.args.e =
    simp to_z-of_z at c.axis_distance.ensures in
    let part = c.cut_distance-part.ensures.part in
    let cut = cut_down c.args.o c.args.e c.args.range c.args.length (omega (arith, ints)) in
    let same = ap (λ (n : ℕ). c.args.o -ℤ pos (n * c.args.range / c.args.length)) distance in
    let value = ap (λ (z : ℤ). c.args.o -ℤ z) part ∙ same ∙ sym cut in
    let fits : SFits w64 (c.args.o -ℤ c.cut_distance-part.result) =
    omega (arith, ints, distance, part, c.cut_distance-part.ensures.less) in
    simp to_z-of_z value
