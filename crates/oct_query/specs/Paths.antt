-- The nodes on the way to a voxel.
use Rattle.std.specs.Prelude.{◌≡◌, ℕ, ◌≤◌, slice_index_or, All}
use Rattle.oct_key.specs.Voxel.{IsInMap}
use Rattle.oct_tree.specs.Tree.{Tree, IsLinked, reach}
use Rattle.oct_arena.specs.declared.node.Node.{Node}
use Rattle.oct_query.specs.declared.path.Path.{Path}
use Rattle.oct_query.specs.declared.paths.Paths.{Paths}

-- each node of the path, down to its depth, is the one that covers its voxel there
pub record IsPathOf (t : Tree) (path : Path) : Type 0 where
  pub linked : IsLinked t
  pub few : path.depth ≤ 16
  pub in_map : IsInMap path.key
  pub nodes : (j : ℕ) (d : Node) → j ≤ path.depth
      → slice_index_or path.nodes j d ≡ reach t j path.key

-- each of these is a path of the tree
abbrev pub ArePathsOf : Tree → Paths → Type 0
ArePathsOf t paths = All (IsPathOf t) paths.paths
