-- What the least tree of a map's values has of a block.
use Rattle.std.specs.Prelude.{◌≡◌, ℕ, ◌-◌, not, Option, count_by, length}
use Rattle.oct_key.specs.Block.{Cube}
use Rattle.oct_key.specs.Values.{Values}
use Rattle.oct_odds.specs.Update.{Value}
use Rattle.oct_values.specs.Blocks.{blocks_below}
use Rattle.oct_values.specs.Counts.{is_uniform}
use Rattle.oct_query.specs.Leaves.{IsOneValue, block_leaves}

-- of a block and the blocks in it, of this number of depths from its own on, how many aren't
-- uniform
abbrev pub varied_below : Values → ℕ → Cube → ℕ
varied_below values depths b = count_by (λ c. not (is_uniform values c)) (blocks_below depths b)

-- the one value of a block, if it has one, and how many groups and leaves the least tree has in it
pub record IsPart (values : Values) (b : Cube) (value : Option Value) (groups leaves : ℕ)
    : Type 0 where
  pub same : IsOneValue values b value
  pub counted : groups ≡ varied_below values (16 - b.depth) b
  pub listed : leaves ≡ length (block_leaves values b)
