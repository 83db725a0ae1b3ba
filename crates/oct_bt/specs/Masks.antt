-- The codes of a record at once, by masks.
use Rattle.std.specs.Prelude.{ℕ, zero, suc, ◌+◌, ◌*◌, ◌/◌, bit_and, bit_or}

-- a 1 in the place of each of this many codes
unfoldable pub ones : ℕ → ℕ
ones zero = 0
ones (suc n) = 1 + 4 * ones n

-- a 1 in the place of each of this many codes that is 3
unfoldable pub threes : ℕ → ℕ → ℕ
threes n codes = bit_and (bit_and codes (codes / 2)) (ones n)

-- a 1 in the place of each of this many codes that isn't 0
unfoldable pub nonzero : ℕ → ℕ → ℕ
nonzero n codes = bit_and (bit_or codes (codes / 2)) (ones n)
