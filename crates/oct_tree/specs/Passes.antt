-- A pass over a tree from below: what holds of the places within a block that is done.
use Rattle.std.specs.Prelude.{◌≡◌, Some}
use Rattle.oct_key.specs.Block.{Cube, LiesIn}
use Rattle.oct_tree.specs.Tree.{Tree, IsPlace, block_in}
use Rattle.oct_tree.specs.Shape.{IsWellFormed}
use Rattle.oct_tree.specs.Changes.{IsSameOutside}
use Rattle.oct_tree.specs.declared.place.Place.{Place}

-- something is so at each place whose block lies within a block
abbrev pub AllWithin : (Tree → Place → Type 0) → Tree → Cube → Type 0
AllWithin Good t b = (q : Place) (c : Cube) → IsPlace t q → block_in t q ≡ Some c → LiesIn c b
    → Good t q

-- The pass of a block is done: it changed nothing outside the block but as Kept says, and something
-- is now so at each place within it.
pub record IsPassed (Good : Tree → Place → Type 0) (Kept : Tree → Tree → Type 0)
    (t u : Tree) (b : Cube) : Type 0 where
  pub formed : IsWellFormed u
  pub kept : Kept t u
  pub outside : IsSameOutside t u b
  pub good : AllWithin Good u b
