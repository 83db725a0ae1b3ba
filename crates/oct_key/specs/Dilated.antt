-- Numbers whose bits stand at every third place, as those of one axis do in a Morton code.
use Rattle.std.specs.Prelude.{◌≡◌, ℕ}
use Rattle.oct_key.specs.Morton.{interleaved, gathered}

-- a number of 16 bits with each bit at three times its place
abbrev pub dilated : ℕ → ℕ
dilated n = interleaved 16 n 0 0

-- these are the bits of a number, and no other bit is set
abbrev pub IsDilated : ℕ → Type 0
IsDilated bits = bits ≡ dilated (gathered 16 bits)
