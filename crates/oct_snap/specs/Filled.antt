-- What the nodes of a snapshot make of a block of a tree.
use Rattle.std.specs.Prelude.{◌≡◌, ℕ, ◌+◌, ◌≤◌, List, drop, length}
use Rattle.oct_key.specs.Values.{Values}
use Rattle.oct_key.specs.Block.{Cube}
use Rattle.oct_arena.specs.declared.node.GroupId.{GroupId}
use Rattle.oct_arena.specs.Entries.{spare}
use Rattle.oct_tree.specs.declared.place.Place.{Place}
use Rattle.oct_tree.specs.Tree.{Tree}
use Rattle.oct_tree.specs.Filled.{IsFilledWith, IsFillingWith}
use Rattle.oct_snap.specs.Nodes.{value_in, group_total}
use Rattle.oct_snap.specs.Reading.{Found}

-- The second tree is the first one with these values in a block, in which it is tidy, and took
-- exactly this many groups for it.
pub record IsFilled (t u : Tree) (b : Cube) (values : Values) (groups : ℕ) : Type 0 where
  pub whole : IsFilledWith t u b values
  pub room : spare t.groups ≡ spare u.groups + groups

-- the first n children of the place's block are filled, for exactly this many groups, and the
-- others are absent
pub record IsFilling (t u : Tree) (p : Place) (id : GroupId) (b : Cube) (n : ℕ)
    (values : Values) (groups : ℕ) : Type 0 where
  pub part : IsFillingWith t u p id b n values
  pub room : spare t.groups ≡ spare u.groups + groups

-- The node that was found in a file is that of a block of this depth in the tree, and the code
-- stands after it.
pub record IsNodeFilled (t u : Tree) (b : Cube) (depth : ℕ) (bytes : List ℕ) (f : Found)
    (after : ℕ) : Type 0 where
  pub filled : IsFilled t u b (λ k. value_in depth f.nodes 0 k) (group_total f.nodes)
  pub next : f.at ≡ after
  pub rest : f.rest ≡ drop after bytes
  pub within : after ≤ length bytes
