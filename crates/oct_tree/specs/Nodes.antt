-- What stands in the eight nodes of a group.
use Rattle.std.specs.Prelude.{◌≡◌, ◌≢◌, ℕ, ◌<◌, ℤ, pos, ◌≤ℤ◌, ◌⊎◌, Some}
use Rattle.oct_arena.specs.declared.node.Node.{Node}
use Rattle.oct_arena.specs.declared.node.Node.TheVariants.{Absent, Leaf, Inner}
use Rattle.oct_arena.specs.Entries.{Groups, node_at}
use Rattle.oct_arena.specs.Nodes.{stored_in}

-- the value that an Inner node begins with where it takes the place of this one: a leaf's, or 0
abbrev pub inherited : Node → ℤ
inherited Absent = pos 0
inherited (Leaf v) = v
inherited (Inner v id) = pos 0

-- the eight nodes of a group are all this one
abbrev pub IsAll : Groups → ℕ → Node → Type 0
IsAll gs id n = (i : ℕ) → i < 8 → node_at gs id i ≡ n

-- a group says no more than one node does: its nodes are all absent, or all leaves of one value
abbrev pub IsCollapsible : Groups → ℕ → Type 0
IsCollapsible gs id = IsAll gs id Absent ⊎ ((v : ℤ) × IsAll gs id (Leaf v))

-- some node of a group is not absent
abbrev pub IsKnown : Groups → ℕ → Type 0
IsKnown gs id = (i : ℕ) × (i < 8) × (node_at gs id i ≢ Absent)

-- the greatest of the values that stand in a group's nodes
pub record IsGreatest (gs : Groups) (id : ℕ) (m : ℤ) : Type 0 where
  pub there : (i : ℕ) × (i < 8) × (stored_in (node_at gs id i) ≡ Some m)
  pub most : (i : ℕ) (v : ℤ) → i < 8 → stored_in (node_at gs id i) ≡ Some v → v ≤ℤ m
