use Rattle.std.proofs.Common.{refl, sym, subst}
use Rattle.oct_key.specs.Block.{root_block}
use Rattle.oct_tree.specs.Tree.{Tree}
use Rattle.oct_tree.specs.Passes.{IsPassed}
use Rattle.oct_inner.specs.Passes.{IsFreshAt, IsRefreshing}
use Rattle.oct_inner.proofs.Refreshes.{refreshed_fresh, pruned_kept}
use Rattle.oct_inner.proofs.refreshing.refresh.Goals as goal

pub note-requires : goal.note-requires
note-requires c =
    let passed = c.refresh_place.ensures root_block refl in
    record {
      fresh = λ _. refreshed_fresh c.args.tree.now c.refresh_place.new.tree passed;
      pruned = λ is. pruned_kept c.args.tree.now c.refresh_place.new.tree c.requires.linked
          passed.kept.nodes (c.tidiness-known.ensures.so.pruned is);
    }

-- the pass of the whole map
passed : (c : goal.After-note)
    → IsPassed IsFreshAt IsRefreshing c.args.tree.now c.note.new.self root_block
passed c =
    subst (λ (u : Tree). IsPassed IsFreshAt IsRefreshing c.args.tree.now u root_block)
    (sym c.note.ensures.same) (c.refresh_place.ensures root_block refl)

pub returns-clause-fresh : goal.returns-clause-fresh
returns-clause-fresh c = refreshed_fresh c.args.tree.now c.note.new.self (passed c)

pub returns-clause-values : goal.returns-clause-values
returns-clause-values c = (passed c).kept.values

pub returns-clause-nodes : goal.returns-clause-nodes
returns-clause-nodes c = (passed c).kept.nodes

pub returns-clause-pruned : goal.returns-clause-pruned
returns-clause-pruned c =
    pruned_kept c.args.tree.now c.note.new.self c.requires.linked (passed c).kept.nodes

pub returns-clause-same : goal.returns-clause-same
returns-clause-same c = (passed c).kept.fresh
