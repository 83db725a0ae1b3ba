-- Division with a positive divisor rounds down.
use Rattle.std.proofs.Common.{ℤ, pos, negsuc, ◌+ℤ◌, ◌*ℤ◌, ◌≤ℤ◌, ◌<ℤ◌, arith}
use Rattle.std.proofs.lemmas.Int.{ints}
use Rattle.std.proofs.lemmas.Nat.{mod_below, div-add-mod'}
use Rattle.std.specs.Int.{int_div_euclid}

-- the product is at most what is divided
pub floor_low : (n d : ℤ) → pos 1 ≤ℤ d → (int_div_euclid n d *ℤ d) ≤ℤ n
floor_low (pos a) (pos b) h = omega (arith, ints, div-add-mod' a b, mod_below a b)
floor_low (negsuc a) (pos b) h =
    omega (arith, ints, div-add-mod' a b, mod_below a b (omega (arith, ints)))
floor_low (pos a) (negsuc b) h = absurd (omega (arith, ints))
floor_low (negsuc a) (negsuc b) h = absurd (omega (arith, ints))

-- the next product is above it
pub floor_high : (n d : ℤ) → pos 1 ≤ℤ d → n <ℤ (int_div_euclid n d *ℤ d +ℤ d)
floor_high (pos a) (pos b) h =
    omega (arith, ints, div-add-mod' a b, mod_below a b (omega (arith, ints)))
floor_high (negsuc a) (pos b) h =
    omega (arith, ints, div-add-mod' a b, mod_below a b (omega (arith, ints)))
floor_high (pos a) (negsuc b) h = absurd (omega (arith, ints))
floor_high (negsuc a) (negsuc b) h = absurd (omega (arith, ints))
