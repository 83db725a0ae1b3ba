-- The lowest numbers of a block, as a shift makes them.
use Rattle.std.proofs.Common.{◌≡◌, ℕ, ◌-◌, ◌*◌, ◌%◌, ◌^◌, ◌<◌, arith}

-- a shift that stays below 65536 loses no bits of 32
pub shifted : (n q d : ℕ) → n ≡ q → q * 2 ^ (16 - d) < 65536
    → n * 2 ^ (16 - d) % 4294967296 ≡ q * 2 ^ (16 - d)
shifted n q d same below = rw same (omega (arith, below))

pub shifted_below : (n q d : ℕ) → n ≡ q → q * 2 ^ (16 - d) < 65536
    → n * 2 ^ (16 - d) % 4294967296 < 65536
shifted_below n q d same below = let is = shifted n q d same below in omega (arith, is, below)
