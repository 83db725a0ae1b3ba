-- What is known of the inner nodes of a tree.
use Rattle.std.proofs.Common.{subst, false}
use Rattle.std.specs.Prelude.{IsSome}
use Rattle.std.proofs.lemmas.Bool.{false≢true}
use Rattle.oct_tree.specs.Tree.{Tree, IsLinked}
use Rattle.oct_tree.specs.Changes.{IsGrown}
use Rattle.oct_tree.specs.Tidiness.{IsTrueOf}
use Rattle.oct_tree.specs.declared.tidiness.Tidiness.{Tidiness}
use Rattle.oct_tree.proofs.Formed.{collapsible_of}
use Rattle.oct_tree.proofs.Grown.{grown_fresh}

-- where nothing is known, all that is known is so
pub none_known : (t : Tree) → IsTrueOf (record { fresh = false; pruned = false }) t
none_known t = record {
  fresh = λ f. absurd (false≢true f);
  pruned = λ f. absurd (false≢true f);
}

-- with more vacant entries it still is
pub grown_known : (t u : Tree) (known : Tidiness) → IsGrown t u → IsLinked u → IsTrueOf known t
    → IsTrueOf known u
grown_known t u known g l h = record {
  fresh = λ is. grown_fresh t u g l (h.fresh is);
  pruned = λ is x live can. h.pruned is x (subst IsSome (g.entries x) live)
      (collapsible_of t.groups u.groups x (g.entries x) can);
}
