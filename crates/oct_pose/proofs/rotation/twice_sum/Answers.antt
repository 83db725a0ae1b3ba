use Rattle.std.proofs.Common.{rules, ◌≡◌, ◌≤◌, ◌^◌, ℤ, pos, ◌+ℤ◌, ◌*ℤ◌, SFits, w16, w64, to_z-of_z}
use Rattle.std.proofs.Common.{arith, refl}
use Rattle.std.proofs.lemmas.Int.{ints}
use Rattle.std.specs.Prelude.{unsigned_abs}
use Rattle.oct_pose.proofs.rotation.twice_sum.Goals as goal

-- twice the sum of two products fits
fits : (a b : ℤ) → unsigned_abs a ≤ 2 ^ 30 → unsigned_abs b ≤ 2 ^ 30
    → SFits w64 (a +ℤ b) × SFits w64 (pos 2 *ℤ (a +ℤ b))
fits a b h k = (omega (arith, ints), omega (arith, ints))

pub overflow_mul-result : goal.overflow_mul-result
overflow_mul-result c =
    let first : SFits w64 c.product.result = search rules in
    let second : SFits w64 c.product-2.result = search rules in
    let both =
    fits c.product.result c.product-2.result c.product.ensures.reach
    c.product-2.ensures.reach in
    let inner : SFits w64 (c.product.result +ℤ c.product-2.result) = both.0 in
    simp to_z-of_z both.1

pub returns : goal.returns
returns c =
    let a_fits : SFits w16 c.args.a = c.ranges.a in
    let b_fits : SFits w16 c.args.b = c.ranges.b in
    let c_fits : SFits w16 c.args.c = c.ranges.c in
    let d_fits : SFits w16 c.args.d = c.ranges.d in
    let first : SFits w64 c.product.result = search rules in
    let second : SFits w64 c.product-2.result = search rules in
    let both =
    fits c.product.result c.product-2.result c.product.ensures.reach
    c.product-2.ensures.reach in
    let inner : SFits w64 (c.product.result +ℤ c.product-2.result) = both.0 in
    let outer : SFits w64 (pos 2 *ℤ (c.product.result +ℤ c.product-2.result)) = both.1 in
    let ab : c.product.result ≡ (c.args.a *ℤ c.args.b) =
    simp to_z-of_z at c.product.ensures.value in
    let cd : c.product-2.result ≡ (c.args.c *ℤ c.args.d) =
    simp to_z-of_z at c.product-2.ensures.value in
    simp to_z-of_z (rw (ab, cd) refl)
