-- What a walk finds in a block, in the order of the walk.
use Rattle.std.specs.Prelude.{◌≡◌, ◌≤◌, [], ◌∷◌, ◌&&◌, List, filter}
use Rattle.oct_key.specs.Voxel.{Voxel}
use Rattle.oct_key.specs.Block.{Cube}
use Rattle.oct_key.specs.Boxes.{is_in_box}
use Rattle.oct_tree.specs.Tree.{Tree}
use Rattle.oct_tree.specs.Classes.{classes_in}
use Rattle.oct_values.specs.Blocks.{voxels_of}
use Rattle.oct_frontier.specs.Frontier.{is_frontier}
use Rattle.oct_frontier.specs.declared.look.Look.{Look}
use Rattle.oct_frontier.specs.declared.look.Look.TheVariants.{Pass, Take, Enter}

-- the voxels of a block that lie between two corners and at the frontier
unfoldable pub found_in : Tree → Voxel → Voxel → Cube → List Voxel
found_in t lo hi b =
    filter (λ k. is_in_box lo hi k && is_frontier (classes_in t) k) (voxels_of b)

-- what a look says of a block: nothing is found in it, or this voxel alone, or it has children
abbrev pub IsLookAt : Tree → Voxel → Voxel → Cube → Look → Type 0
IsLookAt t lo hi b Pass = found_in t lo hi b ≡ []
IsLookAt t lo hi b (Take k) = found_in t lo hi b ≡ k ∷ []
IsLookAt t lo hi b Enter = b.depth ≤ 15
