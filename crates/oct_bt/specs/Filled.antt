-- What a record makes of a block of a tree.
use Rattle.std.specs.Prelude.{ℕ, ◌+◌, ◌≤◌}
use Rattle.oct_key.specs.Block.{Cube}
use Rattle.oct_arena.specs.declared.node.GroupId.{GroupId}
use Rattle.oct_arena.specs.Entries.{spare}
use Rattle.oct_tree.specs.declared.place.Place.{Place}
use Rattle.oct_tree.specs.Tree.{Tree}
use Rattle.oct_tree.specs.Filled.{IsFilledWith, IsFillingWith}
use Rattle.oct_values.specs.Classes.{Classes}
use Rattle.oct_bt.specs.Classes.{value_for}

-- The second tree is the first one with these classes in a block, in which it is tidy, and took at
-- most this many groups for it.
pub record IsFilled (t u : Tree) (b : Cube) (classes : Classes) (groups : ℕ) : Type 0 where
  pub whole : IsFilledWith t u b (λ k. value_for t.odds (classes k))
  pub room : spare t.groups ≤ spare u.groups + groups

-- the first n children of the place's block are filled, for at most this many groups, and the
-- others are absent
pub record IsFilling (t u : Tree) (p : Place) (id : GroupId) (b : Cube) (n : ℕ)
    (classes : Classes) (groups : ℕ) : Type 0 where
  pub part : IsFillingWith t u p id b n (λ k. value_for t.odds (classes k))
  pub room : spare t.groups ≤ spare u.groups + groups
