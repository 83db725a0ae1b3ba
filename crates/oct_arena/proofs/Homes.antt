-- A child of a packed block.
use Rattle.std.proofs.Common.{◌≡◌, ℕ, ◌+◌, ◌*◌, ◌/◌, ◌%◌, ◌^◌, ◌<◌, ◌≤◌, arith, subst, sym}
use Rattle.std.proofs.Math.Pow.{pow_mono}
use Rattle.oct_key.specs.Block.{IsBlock, child_of}
use Rattle.oct_key.proofs.Blocks.{child_in_map}
use Rattle.oct_arena.specs.Homes.{block_of_bits}

-- numbers side by side are read back
side_by_side : (bits d x y z : ℕ) → bits ≡ 2 ^ 48 * d + 2 ^ 32 * z + 2 ^ 16 * y + x → x < 2 ^ 16
    → y < 2 ^ 16 → z < 2 ^ 16
    → block_of_bits bits ≡ record { depth = d; x = x; y = y; z = z }
side_by_side bits d x y z e lx ly lz =
    let depth : bits / 2 ^ 48 ≡ d = omega arith in
    let first : bits % 2 ^ 16 ≡ x = omega arith in
    let second : bits / 2 ^ 16 % 2 ^ 16 ≡ y = omega arith in
    let third : bits / 2 ^ 32 % 2 ^ 16 ≡ z = omega arith in
    λ i. record { depth = depth i; x = first i; y = second i; z = third i }

-- a number of a block above the voxels takes fifteen bits
half_full : (d n : ℕ) → d ≤ 15 → n < 2 ^ d → n < 2 ^ 15
half_full d n low l = let m = pow_mono {i = d} {j = 15} low in omega (arith, m, l)

doubled : (bits half a b c d x y z : ℕ) → bits ≡ 2 ^ 48 * d + 2 ^ 32 * z + 2 ^ 16 * y + x
    → x < 2 ^ 15 → y < 2 ^ 15 → z < 2 ^ 15 → a < 2 → b < 2 → c < 2
    → half ≡ a + 2 ^ 16 * b + 2 ^ 32 * c
    → bits + bits % 2 ^ 48 + half + 2 ^ 48
    ≡ 2 ^ 48 * (d + 1) + 2 ^ 32 * (2 * z + c) + 2 ^ 16 * (2 * y + b) + (2 * x + a)
doubled bits half a b c d x y z e lx ly lz la lb lc h =
    let low : bits % 2 ^ 48 ≡ 2 ^ 32 * z + 2 ^ 16 * y + x = omega arith in omega (arith, low, e, h)

pub child_bits : (bits i half : ℕ) → IsBlock (block_of_bits bits) → bits / 2 ^ 48 ≤ 15
    → half ≡ i % 2 + 2 ^ 16 * (i / 2 % 2) + 2 ^ 32 * (i / 4 % 2)
    → block_of_bits (bits + bits % 2 ^ 48 + half + 2 ^ 48) ≡ child_of (block_of_bits bits) i
unfolding child_of
child_bits bits i half b low h =
    let d = bits / 2 ^ 48 in
    let x = bits % 2 ^ 16 in
    let y = bits / 2 ^ 16 % 2 ^ 16 in
    let z = bits / 2 ^ 32 % 2 ^ 16 in
    let whole : bits ≡ 2 ^ 48 * d + 2 ^ 32 * z + 2 ^ 16 * y + x = omega arith in
    let lx = half_full d x low b.x in
    let ly = half_full d y low b.y in
    let lz = half_full d z low b.z in
    let la : i % 2 < 2 = omega arith in
    let lb : i / 2 % 2 < 2 = omega arith in
    let lc : i / 4 % 2 < 2 = omega arith in
    let fx : 2 * x + i % 2 < 2 ^ 16 = omega (arith, lx, la) in
    let fy : 2 * y + i / 2 % 2 < 2 ^ 16 = omega (arith, ly, lb) in
    let fz : 2 * z + i / 4 % 2 < 2 ^ 16 = omega (arith, lz, lc) in
    side_by_side (bits + bits % 2 ^ 48 + half + 2 ^ 48) (d + 1) (2 * x + i % 2) (2 * y + i / 2 % 2)
    (2 * z + i / 4 % 2)
    (doubled bits half (i % 2) (i / 2 % 2) (i / 4 % 2) d x y z whole lx ly lz la lb lc h) fx fy fz

pub child_is_block : (bits i half : ℕ) → IsBlock (block_of_bits bits) → bits / 2 ^ 48 ≤ 15
    → half ≡ i % 2 + 2 ^ 16 * (i / 2 % 2) + 2 ^ 32 * (i / 4 % 2)
    → IsBlock (block_of_bits (bits + bits % 2 ^ 48 + half + 2 ^ 48))
child_is_block bits i half b low h =
    let deep : bits / 2 ^ 48 < 16 = omega (arith, low) in
    subst IsBlock (sym (child_bits bits i half b low h))
    (child_in_map (block_of_bits bits) i b deep)
