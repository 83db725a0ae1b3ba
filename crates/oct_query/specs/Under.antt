-- What a pass down the tree counts, for the proofs of the functions that make it.
use Rattle.std.specs.Prelude.{ℕ, zero, suc, ◌+◌}
use Rattle.oct_arena.specs.declared.node.Node.{Node}
use Rattle.oct_arena.specs.declared.node.Node.TheVariants.{Absent, Leaf, Inner}
use Rattle.oct_arena.specs.Entries.{Groups, node_at}

-- the sum of what the numbers below n give
unfoldable pub sum_below : (ℕ → ℕ) → ℕ → ℕ
sum_below f zero = 0
sum_below f (suc n) = sum_below f n + f n

-- how many nodes aren't absent, of this one and those under it, this number of depths down
unfoldable pub nodes_under : Groups → ℕ → Node → ℕ
nodes_under groups depths Absent = 0
nodes_under groups depths (Leaf v) = 1
nodes_under groups zero (Inner v id) = 1
nodes_under groups (suc depths) (Inner v id) =
    1 + sum_below (λ i. nodes_under groups depths (node_at groups id.number i)) 8
