use Rattle.std.proofs.Common.{rules, ◌≡◌, ◌≤◌, ◌*◌, ◌^◌, ◌+ℤ◌, ◌*ℤ◌, SFits, w64, to_z-of_z, arith}
use Rattle.std.proofs.Common.{refl, ◌∙◌}
use Rattle.std.proofs.lemmas.Int.{ints}
use Rattle.std.specs.Prelude.{unsigned_abs}
use mir.Syntax.{w128}
use Rattle.oct_num.specs.Rounding.{half_up}
use Rattle.oct_pose.specs.Rotation.{weighted}
use Rattle.oct_pose.proofs.Turns.{coordinate_within}
use Rattle.oct_pose.proofs.rotation.Row.coordinate.Goals as goal

rounded : (c : goal.After-round_half_up)
    → c.round_half_up.result ≡ half_up (weighted c.args.self c.args.p) c.args.norm
rounded c =
    let norm_fits : SFits w64 c.args.norm = c.ranges.norm in
    let x_fits : SFits w64 c.args.self.x = search rules in
    let y_fits : SFits w64 c.args.self.y = search rules in
    let z_fits : SFits w64 c.args.self.z = search rules in
    let px_fits : SFits w64 c.args.p.x = search rules in
    let py_fits : SFits w64 c.args.p.y = search rules in
    let pz_fits : SFits w64 c.args.p.z = search rules in
    let first_fits : SFits w128 c.wide_product.result = search rules in
    let second_fits : SFits w128 c.wide_product-2.result = search rules in
    let third_fits : SFits w128 c.wide_product-3.result = search rules in
    let sum_fits : SFits w128 c.sum-sum.result = search rules in
    let divisor_fits : SFits w128 c.from.result = search rules in
    let first : c.wide_product.result ≡ (c.args.self.x *ℤ c.args.p.x) =
    simp to_z-of_z at c.wide_product.ensures.value in
    let second : c.wide_product-2.result ≡ (c.args.self.y *ℤ c.args.p.y) =
    simp to_z-of_z at c.wide_product-2.ensures.value in
    let third : c.wide_product-3.result ≡ (c.args.self.z *ℤ c.args.p.z) =
    simp to_z-of_z at c.wide_product-3.ensures.value in
    let sum : c.sum-sum.result
    ≡ (c.wide_product.result +ℤ c.wide_product-2.result +ℤ c.wide_product-3.result) =
    simp to_z-of_z at c.sum-sum.ensures.value in
    let divisor : c.from.result ≡ c.args.norm = simp to_z-of_z at c.from.ensures in
    let quotient : c.round_half_up.result ≡ half_up c.sum-sum.result c.from.result =
    simp to_z-of_z at c.round_half_up.ensures.exact in
    quotient ∙ rw (divisor, sum, first, second, third) refl

near : (c : goal.After-round_half_up) → unsigned_abs c.round_half_up.result ≤ 3 * 10 ^ 16
near c =
    rw (rounded c)
    (coordinate_within c.args.norm c.args.self c.args.p c.requires.positive c.requires.bounded
    c.requires.reach)

pub overflow_cast-result : goal.overflow_cast-result
overflow_cast-result c =
    let wide : SFits w128 c.round_half_up.result = search rules in
    let close = near c in
    simp to_z-of_z (omega (arith, ints, close))

pub returns-clause-exact : goal.returns-clause-exact
returns-clause-exact c =
    let wide : SFits w128 c.round_half_up.result = search rules in
    let close = near c in
    let narrow : SFits w64 c.round_half_up.result = omega (arith, ints, close) in
    simp to_z-of_z (rounded c)

pub returns-clause-near : goal.returns-clause-near
returns-clause-near c =
    let wide : SFits w128 c.round_half_up.result = search rules in
    let close = near c in
    let narrow : SFits w64 c.round_half_up.result = omega (arith, ints, close) in
    simp to_z-of_z close
