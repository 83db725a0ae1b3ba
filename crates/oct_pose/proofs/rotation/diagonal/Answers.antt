use Rattle.std.proofs.Common.{rules, ◌≡◌, ◌≤◌, ◌^◌, ℤ, ◌+ℤ◌, ◌-ℤ◌, ◌*ℤ◌, SFits, w16, w64, to_z-of_z}
use Rattle.std.proofs.Common.{arith, refl}
use Rattle.std.proofs.lemmas.Int.{ints}
use Rattle.std.specs.Prelude.{unsigned_abs}
use Rattle.oct_pose.proofs.rotation.diagonal.Goals as goal

-- signed sums of products fit
fits : (a b c d : ℤ) → unsigned_abs a ≤ 2 ^ 30 → unsigned_abs b ≤ 2 ^ 30 → unsigned_abs c ≤ 2 ^ 30
    → unsigned_abs d ≤ 2 ^ 30
    → SFits w64 (a +ℤ b) × SFits w64 (a +ℤ b -ℤ c) × SFits w64 (a +ℤ b -ℤ c -ℤ d)
fits a b c d h k l m = (omega (arith, ints), omega (arith, ints), omega (arith, ints))

pub overflow_sub-result-2 : goal.overflow_sub-result-2
overflow_sub-result-2 c =
    let first : SFits w64 c.product.result = search rules in
    let second : SFits w64 c.product-2.result = search rules in
    let third : SFits w64 c.product-3.result = search rules in
    let fourth : SFits w64 c.product-4.result = search rules in
    let all =
    fits c.product.result c.product-2.result c.product-3.result c.product-4.result
    c.product.ensures.reach c.product-2.ensures.reach c.product-3.ensures.reach
    c.product-4.ensures.reach in
    let two : SFits w64 (c.product.result +ℤ c.product-2.result) = all.0 in
    let three : SFits w64 (c.product.result +ℤ c.product-2.result -ℤ c.product-3.result) = all.1 in
    simp to_z-of_z all.2

pub returns : goal.returns
returns c =
    let a_fits : SFits w16 c.args.a = c.ranges.a in
    let b_fits : SFits w16 c.args.b = c.ranges.b in
    let c_fits : SFits w16 c.args.c = c.ranges.c in
    let d_fits : SFits w16 c.args.d = c.ranges.d in
    let first : SFits w64 c.product.result = search rules in
    let second : SFits w64 c.product-2.result = search rules in
    let third : SFits w64 c.product-3.result = search rules in
    let fourth : SFits w64 c.product-4.result = search rules in
    let all =
    fits c.product.result c.product-2.result c.product-3.result c.product-4.result
    c.product.ensures.reach c.product-2.ensures.reach c.product-3.ensures.reach
    c.product-4.ensures.reach in
    let two : SFits w64 (c.product.result +ℤ c.product-2.result) = all.0 in
    let three : SFits w64 (c.product.result +ℤ c.product-2.result -ℤ c.product-3.result) = all.1 in
    let four : SFits w64
    (c.product.result +ℤ c.product-2.result -ℤ c.product-3.result -ℤ c.product-4.result) =
    all.2 in
    let first_is : c.product.result ≡ (c.args.a *ℤ c.args.a) =
    simp to_z-of_z at c.product.ensures.value in
    let second_is : c.product-2.result ≡ (c.args.b *ℤ c.args.b) =
    simp to_z-of_z at c.product-2.ensures.value in
    let third_is : c.product-3.result ≡ (c.args.c *ℤ c.args.c) =
    simp to_z-of_z at c.product-3.ensures.value in
    let fourth_is : c.product-4.result ≡ (c.args.d *ℤ c.args.d) =
    simp to_z-of_z at c.product-4.ensures.value in
    simp to_z-of_z (rw (first_is, second_is, third_is, fourth_is) refl)
