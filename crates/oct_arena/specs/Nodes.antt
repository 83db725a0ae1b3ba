-- What stands in a node.
use Rattle.std.specs.Prelude.{◌≡◌, ℕ, ◌^◌, ℤ, pos, neg_ℤ, ◌≤ℤ◌, Option, Some, None}
use Rattle.oct_arena.specs.declared.node.Node.{Node}
use Rattle.oct_arena.specs.declared.node.Node.TheVariants.{Absent, Leaf, Inner}

-- the number of the group that a node links: an Inner node links one
abbrev pub link_of : Node → Option ℕ
link_of Absent = None
link_of (Leaf v) = None
link_of (Inner v id) = Some id.number

-- the value that a node gives each voxel of its block: a leaf gives one
abbrev pub value_of : Node → Option ℤ
value_of Absent = None
value_of (Leaf v) = Some v
value_of (Inner v id) = None

-- the value that stands in a node, for queries at its depth: in a leaf and in an Inner node there
-- is one
abbrev pub stored_in : Node → Option ℤ
stored_in Absent = None
stored_in (Leaf v) = Some v
stored_in (Inner v id) = Some v

-- the rank of a stored value: the number itself, or, of none, the least number of 32 bits
abbrev pub IsRankOf : Option ℤ → ℤ → Type 0
IsRankOf None rank = rank ≡ neg_ℤ (pos (2 ^ 31))
IsRankOf (Some v) rank = (rank ≡ v) × (neg_ℤ (pos (2 ^ 31)) ≤ℤ v)
