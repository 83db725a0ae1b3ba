use Rattle.std.proofs.Common.{◌≡◌, false, ◌∙◌, ap, subst, sym}
use Rattle.std.proofs.lemmas.Bool.{false≢true, not-true}
use Rattle.oct_key.specs.CubeOf.{cube_of}
use Rattle.oct_key.proofs.Blocks.{block_in_map}
use Rattle.oct_odds.specs.Update.{class_of}
use Rattle.oct_arena.specs.Nodes.{stored_in}
use Rattle.oct_tree.specs.Classes.{classes_in}
use Rattle.oct_tree.specs.Tree.{node_in}
use Rattle.oct_query.specs.Extent.{is_sought}
use Rattle.oct_query.specs.declared.sought.Sought.TheVariants.{Occupied}
use Rattle.oct_query.proofs.LeafBoxes.{fresh_none}
use Rattle.oct_query.proofs.leaf_list.holds_none.Goals as goal

pub returns-then-tidiness : goal.returns-then-tidiness
returns-then-tidiness c = record {
  none = λ is k held. (let t = c.args.tree.now in
      let class = c.class-greatest.ensures
      ∙ ap (λ o. class_of o c.stored.result) c.odds.ensures
      ∙ ap (class_of t.odds) (c.stored.ensures.exact ∙ ap stored_in c.node.ensures.exact) in
      let below : is_sought Occupied (class_of t.odds (stored_in (node_in t c.args.p))) ≡ false =
      ap (is_sought Occupied) (sym class) ∙ sym c.is_sought.ensures
      ∙ not-true c.is_sought.result is in
      subst (λ s. is_sought s (classes_in t k) ≡ false) (sym c.in-Occupied.is)
      (fresh_none t c.args.p (cube_of c.args.block) c.tidiness.ensures.linked
      (c.tidiness.ensures.so.fresh c.if-tidiness.true) c.requires.place c.requires.block
      (block_in_map c.args.block) below k held));
}

pub returns-in_default : goal.returns-in_default
returns-in_default c = record { none = λ is k held. absurd (false≢true is) }
