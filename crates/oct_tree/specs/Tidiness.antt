-- What is known of the inner nodes of a tree.
use Rattle.std.specs.Prelude.{IsTrue}
use Rattle.oct_tree.specs.Tree.{Tree, IsLinked}
use Rattle.oct_tree.specs.Shape.{IsFresh, IsPruned}
use Rattle.oct_tree.specs.declared.tidiness.Tidiness.{Tidiness}

-- what is known of a tree is so
pub record IsTrueOf (known : Tidiness) (t : Tree) : Type 0 where
  pub fresh : IsTrue known.fresh → IsFresh t
  pub pruned : IsTrue known.pruned → IsPruned t

-- what the type keeps: the links are right, and what is known is so
pub record IsKept (known : Tidiness) (t : Tree) : Type 0 where
  pub linked : IsLinked t
  pub so : IsTrueOf known t
