-- Numbers drawn from a seed, each named by its index.
use Rattle.std.specs.Prelude.{ℕ, ◌+◌, ◌*◌, ◌/◌, ◌%◌, ◌^◌, ℤ, pos, ◌-ℤ◌}
use Rattle.std.specs.Fn.{iterate}

-- the state after one step
unfoldable pub stepped : ℕ → ℕ
stepped state = (state * 6364136223846793005 + 1442695040888963407) % 2 ^ 64

-- the state that a seed comes to in this many steps
abbrev pub state_after : ℕ → ℕ → ℕ
state_after seed steps = iterate stepped steps seed

-- the draw of this index, from 0 on: the state after its step, without the lowest 33 bits
abbrev pub draw : ℕ → ℕ → ℕ
draw seed index = state_after seed (index + 1) / 2 ^ 33

-- the draw as a whole number from -reach to reach
unfoldable pub drawn_within : ℕ → ℕ → ℕ → ℤ
drawn_within reach seed index = pos (draw seed index % (2 * reach + 1)) -ℤ pos reach
