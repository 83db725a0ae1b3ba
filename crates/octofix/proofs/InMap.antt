-- A beam to a point in the frame of the map ends there.
use Rattle.std.proofs.Common.{◌≡◌, ◌<◌, ◌^◌, ℤ, pos, ◌+ℤ◌, ◌-ℤ◌, ◌*ℤ◌, ap, ◌∙◌, arith}
use Rattle.std.specs.Prelude.{unsigned_abs, FitsSigned}
use Rattle.std.specs.Int.{int_wrapping_sub}
use mir.Syntax.{w64}
use Rattle.std.proofs.lemmas.Int.{ints, wrapping_sub_is, int_wrap_fits}
use Rattle.oct_key.specs.declared.point.Point.{Point}
use Rattle.oct_num.specs.Rounding.{half_up}
use Rattle.oct_num.proofs.Nearest.{half_up_low, half_up_high}
use Rattle.octofix.specs.InMap.{EndsThere, way_from}
use Rattle.octofix.specs.declared.types.PointNm.{PointNm}

-- nothing is rounded where the divisor is 1
whole : (n : ℤ) → half_up n (pos 1) ≡ n
whole n =
    let low = half_up_low n (pos 1) (omega (arith, ints)) in
    let high = half_up_high n (pos 1) (omega (arith, ints)) in
    omega (arith, ints, low, high)

-- a difference of two coordinates in reach is exact
difference : (there to : ℤ) → unsigned_abs there < 10 ^ 16 → unsigned_abs to < 10 ^ 16
    → int_wrapping_sub w64 to there ≡ to -ℤ there
difference there to near far =
    let from : FitsSigned w64 there = omega (arith, ints, near) in
    let at : FitsSigned w64 to = omega (arith, ints, far) in
    let fits : FitsSigned w64 (to -ℤ there) = omega (arith, ints, near, far) in
    wrapping_sub_is w64 to there at from ∙ int_wrap_fits w64 (to -ℤ there) fits

-- on one axis: the way, which isn't turned, from where it begins
back : (there to way turned : ℤ) → way ≡ to -ℤ there → turned ≡ way
    → there +ℤ half_up turned (pos 1) ≡ to
back there to way turned is same =
    let rounded = whole turned in
    omega (arith, ints, is, same, rounded)

abbrev point : ℤ → ℤ → ℤ → Point
point x y z = record { x = x; y = y; z = z }

same_point : (a b c d e f : ℤ) → a ≡ d → b ≡ e → c ≡ f →
    point a b c ≡ point d e f
same_point a b c d e f p q r = cc

pub ends_there : (there to way : PointNm) → way ≡ way_from there to → EndsThere there to way
unfolding EndsThere
ends_there there to way is near far =
    let x = ap (λ (w : PointNm). w.x) is ∙ difference there.x to.x near.x far.x in
    let y = ap (λ (w : PointNm). w.y) is ∙ difference there.y to.y near.y far.y in
    let z = ap (λ (w : PointNm). w.z) is ∙ difference there.z to.z near.z far.z in
    same_point _ _ _ to.x to.y to.z
    (back there.x to.x way.x (pos 1 *ℤ way.x +ℤ pos 0 *ℤ way.y +ℤ pos 0 *ℤ way.z) x
    (omega (arith, ints)))
    (back there.y to.y way.y (pos 0 *ℤ way.x +ℤ pos 1 *ℤ way.y +ℤ pos 0 *ℤ way.z) y
    (omega (arith, ints)))
    (back there.z to.z way.z (pos 0 *ℤ way.x +ℤ pos 0 *ℤ way.y +ℤ pos 1 *ℤ way.z) z
    (omega (arith, ints)))
