-- What a gather hands on of the bytes that it takes.
use Rattle.std.specs.Prelude.{ℕ, ◌-◌, ◌*◌, ◌/◌}

-- how many of this many bytes aren't held: whole pieces of 4,096, until at most 4,096 are left
abbrev pub handed_on : ℕ → ℕ
handed_on total = (total - 1) / 4096 * 4096
