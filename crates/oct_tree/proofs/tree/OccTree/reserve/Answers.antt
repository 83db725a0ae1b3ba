use Rattle.std.proofs.Common.{◌∙◌, ap}
use Rattle.oct_tree.specs.Tree.{IsLinked, value_at}
use Rattle.oct_tree.specs.Changes.{IsGrown}
use Rattle.oct_tree.proofs.Parts.{tree_of}
use Rattle.oct_tree.proofs.Grown.{is_grown, grown_linked, grown_values}
use Rattle.oct_tree.proofs.Tidied.{grown_known}
use Rattle.oct_tree.proofs.tree.OccTree.reserve.Goals as goal

grown : (c : goal.After-reserve)
    → IsGrown
    (tree_of c.self.inside.arena c.self.inside.root c.self.inside.res c.self.inside.odds)
    (tree_of c.reserve.new.self c.self.inside.root c.self.inside.res c.self.inside.odds)
grown c =
    is_grown (tree_of c.self.inside.arena c.self.inside.root c.self.inside.res c.self.inside.odds)
    c.reserve.new.self _ c.reserve.ensures.kept

linked : (c : goal.After-reserve)
    → IsLinked (tree_of c.reserve.new.self c.self.inside.root c.self.inside.res c.self.inside.odds)
linked c =
    grown_linked
    (tree_of c.self.inside.arena c.self.inside.root c.self.inside.res c.self.inside.odds)
    _ c.self.invariant.linked (grown c) c.reserve.ensures.arena

pub invariant_of-self : goal.invariant_of-self
invariant_of-self c = record {
  linked = linked c;
  so = grown_known _ _ c.self.inside.known (grown c) (linked c) c.self.invariant.so;
}

pub returns-clause-values : goal.returns-clause-values
returns-clause-values c k =
    let t =
    tree_of c.self.inside.arena c.self.inside.root c.self.inside.res c.self.inside.odds in
    grown_values t _ (grown c) k ∙ ap (λ x. value_at x k) c.self.view_is

pub returns-clause-linked : goal.returns-clause-linked
returns-clause-linked c = linked c
