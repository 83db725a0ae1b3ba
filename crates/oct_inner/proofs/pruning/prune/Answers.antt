use Rattle.std.proofs.Common.{refl, sym, subst}
use Rattle.oct_key.specs.Block.{root_block}
use Rattle.oct_tree.specs.Tree.{Tree}
use Rattle.oct_tree.specs.Passes.{IsPassed}
use Rattle.oct_inner.specs.Passes.{IsPrunedAt, IsPruning}
use Rattle.oct_inner.proofs.Prunes.{pruned_whole}
use Rattle.oct_inner.proofs.pruning.prune.Goals as goal

pub note-requires : goal.note-requires
note-requires c =
    let passed = c.prune_place.ensures root_block refl in
    record {
      fresh = λ is. passed.kept.fresh (c.tidiness-known.ensures.so.fresh is);
      pruned = λ _. pruned_whole c.args.tree.now c.prune_place.new.tree passed;
    }

-- the pass of the whole map
passed : (c : goal.After-note)
    → IsPassed IsPrunedAt IsPruning c.args.tree.now c.note.new.self root_block
passed c =
    subst (λ (u : Tree). IsPassed IsPrunedAt IsPruning c.args.tree.now u root_block)
    (sym c.note.ensures.same) (c.prune_place.ensures root_block refl)

pub returns-clause-formed : goal.returns-clause-formed
returns-clause-formed c = (passed c).formed

pub returns-clause-pruned : goal.returns-clause-pruned
returns-clause-pruned c = pruned_whole c.args.tree.now c.note.new.self (passed c)

pub returns-clause-values : goal.returns-clause-values
returns-clause-values c = (passed c).kept.values

pub returns-clause-groups : goal.returns-clause-groups
returns-clause-groups c = (passed c).kept.groups

pub returns-clause-fresh : goal.returns-clause-fresh
returns-clause-fresh c = (passed c).kept.fresh

pub returns-clause-same : goal.returns-clause-same
returns-clause-same c = (passed c).kept.pruned
