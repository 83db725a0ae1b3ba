use Rattle.std.proofs.Common.{rules, ◌≡◌, ◌≤◌, ◌^◌, ℤ, pos, ◌+ℤ◌, ◌*ℤ◌, ◌≤ℤ◌, SFits, w16, w64}
use Rattle.std.proofs.Common.{to_z-of_z, arith, refl}
use Rattle.std.proofs.lemmas.Int.{ints}
use Rattle.std.specs.Prelude.{unsigned_abs}
use Rattle.oct_pose.proofs.rotation.Quaternion.norm.Goals as goal

-- sums of products fit
fits : (a b c d : ℤ) → unsigned_abs a ≤ 2 ^ 30 → unsigned_abs b ≤ 2 ^ 30 → unsigned_abs c ≤ 2 ^ 30
    → unsigned_abs d ≤ 2 ^ 30
    → SFits w64 (a +ℤ b) × SFits w64 (a +ℤ b +ℤ c) × SFits w64 (a +ℤ b +ℤ c +ℤ d)
    × ((a +ℤ b +ℤ c +ℤ d) ≤ℤ pos (2 ^ 32))
fits a b c d h k l m =
    (omega (arith, ints), omega (arith, ints), omega (arith, ints), omega (arith, ints))

pub overflow_add-result-2 : goal.overflow_add-result-2
overflow_add-result-2 c =
    let first : SFits w64 c.product.result = search rules in
    let second : SFits w64 c.product-2.result = search rules in
    let third : SFits w64 c.product-3.result = search rules in
    let all =
    fits c.product.result c.product-2.result c.product-3.result c.product-3.result
    c.product.ensures.reach c.product-2.ensures.reach c.product-3.ensures.reach
    c.product-3.ensures.reach in
    let two : SFits w64 (c.product.result +ℤ c.product-2.result) = all.0 in
    simp to_z-of_z all.1

pub overflow_add-result-3 : goal.overflow_add-result-3
overflow_add-result-3 c =
    let first : SFits w64 c.product.result = search rules in
    let second : SFits w64 c.product-2.result = search rules in
    let third : SFits w64 c.product-3.result = search rules in
    let fourth : SFits w64 c.product-4.result = search rules in
    let all =
    fits c.product.result c.product-2.result c.product-3.result c.product-4.result
    c.product.ensures.reach c.product-2.ensures.reach c.product-3.ensures.reach
    c.product-4.ensures.reach in
    let two : SFits w64 (c.product.result +ℤ c.product-2.result) = all.0 in
    let three : SFits w64 (c.product.result +ℤ c.product-2.result +ℤ c.product-3.result) = all.1 in
    simp to_z-of_z all.2

pub returns-clause-value : goal.returns-clause-value
returns-clause-value c =
    let w_fits : SFits w16 c.args.self.w = search rules in
    let x_fits : SFits w16 c.args.self.x = search rules in
    let y_fits : SFits w16 c.args.self.y = search rules in
    let z_fits : SFits w16 c.args.self.z = search rules in
    let first : SFits w64 c.product.result = search rules in
    let second : SFits w64 c.product-2.result = search rules in
    let third : SFits w64 c.product-3.result = search rules in
    let fourth : SFits w64 c.product-4.result = search rules in
    let all =
    fits c.product.result c.product-2.result c.product-3.result c.product-4.result
    c.product.ensures.reach c.product-2.ensures.reach c.product-3.ensures.reach
    c.product-4.ensures.reach in
    let two : SFits w64 (c.product.result +ℤ c.product-2.result) = all.0 in
    let three : SFits w64 (c.product.result +ℤ c.product-2.result +ℤ c.product-3.result) = all.1 in
    let four : SFits w64
    (c.product.result +ℤ c.product-2.result +ℤ c.product-3.result +ℤ c.product-4.result) =
    all.2 in
    let first_is : c.product.result ≡ (c.args.self.w *ℤ c.args.self.w) =
    simp to_z-of_z at c.product.ensures.value in
    let second_is : c.product-2.result ≡ (c.args.self.x *ℤ c.args.self.x) =
    simp to_z-of_z at c.product-2.ensures.value in
    let third_is : c.product-3.result ≡ (c.args.self.y *ℤ c.args.self.y) =
    simp to_z-of_z at c.product-3.ensures.value in
    let fourth_is : c.product-4.result ≡ (c.args.self.z *ℤ c.args.self.z) =
    simp to_z-of_z at c.product-4.ensures.value in
    simp to_z-of_z (rw (first_is, second_is, third_is, fourth_is) refl)

pub returns-clause-high : goal.returns-clause-high
returns-clause-high c =
    let first : SFits w64 c.product.result = search rules in
    let second : SFits w64 c.product-2.result = search rules in
    let third : SFits w64 c.product-3.result = search rules in
    let fourth : SFits w64 c.product-4.result = search rules in
    let all =
    fits c.product.result c.product-2.result c.product-3.result c.product-4.result
    c.product.ensures.reach c.product-2.ensures.reach c.product-3.ensures.reach
    c.product-4.ensures.reach in
    let two : SFits w64 (c.product.result +ℤ c.product-2.result) = all.0 in
    let three : SFits w64 (c.product.result +ℤ c.product-2.result +ℤ c.product-3.result) = all.1 in
    let four : SFits w64
    (c.product.result +ℤ c.product-2.result +ℤ c.product-3.result +ℤ c.product-4.result) =
    all.2 in
    simp to_z-of_z all.3
