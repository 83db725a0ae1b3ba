-- The way from the root to a voxel by its Morton code.
use Rattle.std.specs.Prelude.{ℕ, ◌+◌, ◌*◌, ◌%◌, ◌^◌}

-- the digits of a code from this depth on, three bits each, as the leading ones of 64 bits
unfoldable pub digits_from : ℕ → ℕ → ℕ
digits_from depth code = code * 2 ^ (16 + 3 * depth) % 2 ^ 64
