-- A block in eight bytes, the number bits: its number on the x axis in the lowest two, those on the
-- y and z axes above, and its depth in the upper two.
use Rattle.std.specs.Prelude.{◌≡◌, ℕ, ◌+◌, ◌*◌, ◌/◌, ◌%◌, ◌^◌}
use Rattle.std.proofs.Common.{arith}
use Rattle.oct_key.specs.Block.{Cube}
use Rattle.oct_arena.specs.declared.home.PackedBlock.TheInside.{Inside}

-- the block that the bits stand for
abbrev pub block_of_bits : ℕ → Cube
block_of_bits bits = record {
  depth = bits / 2 ^ 48;
  x = bits % 2 ^ 16;
  y = bits / 2 ^ 16 % 2 ^ 16;
  z = bits / 2 ^ 32 % 2 ^ 16;
}

-- the bits of a block
abbrev pub bits_of_block : Cube → ℕ
bits_of_block b = 2 ^ 48 * b.depth + 2 ^ 32 * b.z + 2 ^ 16 * b.y + b.x

-- packing gives back the bits
pub block-unpacked : (p : Inside) → record { bits = bits_of_block (block_of_bits p.bits) } ≡ p
block-unpacked p =
    let same : bits_of_block (block_of_bits p.bits) ≡ p.bits = omega arith in
    λ i. record { bits = same i }
