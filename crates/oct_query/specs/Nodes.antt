-- How many nodes of a tree aren't absent, and which blocks have groups.
use Rattle.std.specs.Prelude.{◌≡◌, ℕ, ◌+◌, Bool, true, false, Option, Some, sum_by, count_by}
use Rattle.std.specs.Prelude.{if◌then◌else◌}
use Rattle.oct_key.specs.Block.{Cube}
use Rattle.oct_values.specs.Blocks.{child_numbers}
use Rattle.oct_arena.specs.declared.node.Group.{Group}
use Rattle.oct_arena.specs.declared.node.Node.{Node}
use Rattle.oct_arena.specs.declared.node.Node.TheVariants.{Absent, Leaf, Inner}
use Rattle.oct_arena.specs.Entries.{Groups, node_of, home_at}

-- whether a node isn't absent
abbrev pub is_present : Node → Bool
is_present Absent = false
is_present (Leaf v) = true
is_present (Inner v id) = true

-- how many of the eight nodes of an entry's group aren't absent, and none where the entry is vacant
abbrev pub present_nodes : Option Group → ℕ
present_nodes e = count_by (λ i. is_present (node_of e i)) child_numbers

-- how many nodes aren't absent: the root, and those of each group
unfoldable pub nodes_of : Groups → Node → ℕ
nodes_of groups root = (if is_present root then 1 else 0) + sum_by present_nodes groups

-- a block is the home of a group
abbrev pub IsHome : Groups → Cube → Type 0
IsHome groups b = (id : ℕ) × (home_at groups id ≡ Some b)
