-- Uniform blocks and blocks with a known voxel, by their children, and what their counts come to.
use Rattle.std.proofs.Common.{◌≡◌, ℕ, ◌<◌, ◌≤◌, true, arith}
use Rattle.oct_key.specs.Values.{Values}
use Rattle.oct_key.specs.Block.{Cube, IsBlock, child_of, lowest_voxel}
use Rattle.oct_key.proofs.Blocks.{child_in_map}
use Rattle.oct_values.specs.Counts.{IsKnownIn, is_uniform}
use Rattle.oct_key.proofs.Held.{held_by_parent}
use Rattle.oct_values.proofs.Uniform.{uniform_of, value_of_uniform}

-- a child of a uniform block is uniform
pub uniform_child : (values : Values) (b : Cube) (i : ℕ) → IsBlock b → b.depth ≤ 15 → i < 8
    → is_uniform values b ≡ true
    → is_uniform values (child_of b i) ≡ true
uniform_child values b i ok low li uniform =
    uniform_of values (child_of b i) (values (lowest_voxel b)) (child_in_map b i ok (omega arith))
    (λ k held. value_of_uniform values b k ok uniform (held_by_parent b i k (omega arith) li held))

-- what is known of a child is known of the block, and what is known
-- of the block is known of a child
pub known_above : (values : Values) (b : Cube) (i : ℕ) → b.depth ≤ 15 → i < 8
    → IsKnownIn values (child_of b i) → IsKnownIn values b
known_above values b i low li (k, held, some) =
    (k, held_by_parent b i k (omega arith) li held, some)
