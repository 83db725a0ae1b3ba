-- Voxels whose numbers differ in low bits alone lie in one block.
use Rattle.std.proofs.Common.{◌≡◌, ℕ, suc, ◌+◌, ◌-◌, ◌*◌, ◌/◌, ◌%◌, ◌^◌, ◌<◌, ◌≤◌, refl, sym, ap}
use Rattle.std.proofs.Common.{◌∙◌}
use Rattle.std.proofs.Common.{arith, bit_or, bit_xor}
use Rattle.std.proofs.Math.Nat.{div-eq_of_lt, pow-suc, pow-le-pow_right}
use Rattle.std.proofs.lemmas.Nat.{xor_shr, le_or_l, le_or_r, pow_pos}
use Rattle.std.proofs.lemmas.Nat.Bits.{bit_at_xor, bit_at-zero, bit_at-lt, same_from_bits}
use Rattle.std.specs.Int.{bit_at}
use Rattle.oct_key.specs.Voxel.{Voxel}
use Rattle.oct_key.specs.Block.{block_of}
use Rattle.oct_key.proofs.Blocks.{same_cube}

-- numbers without a bit in which they differ are one
xor_none : (a b : ℕ) → bit_xor a b ≡ 0 → a ≡ b
xor_none a b e = same_from_bits a b (λ i.
    let differ : (bit_at a i + bit_at b i) % 2 ≡ 0 = sym (bit_at_xor a b i)
    ∙ ap (λ (n : ℕ). bit_at n i) e ∙ bit_at-zero i in
    omega (arith, bit_at-lt a i, bit_at-lt b i, differ))

-- without the bits in which they differ, they are one
same_quotient : (a b h : ℕ) → bit_xor a b < 2 ^ h → a / 2 ^ h ≡ b / 2 ^ h
same_quotient a b h low =
    xor_none (a / 2 ^ h) (b / 2 ^ h) (sym (xor_shr a b h) ∙ div-eq_of_lt low)

-- the bits in which two voxels differ on some axis
abbrev pub bits_apart : Voxel → Voxel → ℕ
bits_apart a b = bit_or (bit_or (bit_xor a.x b.x) (bit_xor a.y b.y)) (bit_xor a.z b.z)

pub one_block : (a b : Voxel) (d : ℕ) → bits_apart a b < 2 ^ (16 - d) → block_of d a ≡ block_of d b
unfolding block_of
one_block a b d low =
    let xy = le_or_l (bit_or (bit_xor a.x b.x) (bit_xor a.y b.y)) (bit_xor a.z b.z) in
    let z = le_or_r (bit_or (bit_xor a.x b.x) (bit_xor a.y b.y)) (bit_xor a.z b.z) in
    let x = le_or_l (bit_xor a.x b.x) (bit_xor a.y b.y) in
    let y = le_or_r (bit_xor a.x b.x) (bit_xor a.y b.y) in
    same_cube _ _ refl
    (same_quotient a.x b.x (16 - d) (omega (arith, low, xy, x)))
    (same_quotient a.y b.y (16 - d) (omega (arith, low, xy, y)))
    (same_quotient a.z b.z (16 - d) (omega (arith, low, z)))

-- where no bit differs
pub one_voxel : (a b : Voxel) (d : ℕ) → bits_apart a b ≡ 0 → block_of d a ≡ block_of d b
one_voxel a b d none = one_block a b d (omega (arith, none, pow_pos (16 - d)))

-- where this one is the highest that differs
pub above_bit : (a b : Voxel) (d bit : ℕ) → bits_apart a b < 2 * 2 ^ bit → d + bit ≤ 15
    → block_of d a ≡ block_of d b
above_bit a b d bit low high =
    let grows : 2 ^ suc bit ≤ 2 ^ (16 - d) = pow-le-pow_right (omega arith) (omega arith) in
    one_block a b d (omega (arith, low, grows, pow-suc 2 bit))
