use Rattle.std.proofs.Common.{ap, ◌∙◌}
use Rattle.oct_tree.specs.Tree.{Tree}
use Rattle.oct_file_tasks.proofs.Canonicals.{filled_classes}
use Rattle.oct_file_tasks.proofs.Merges.{filled_values}
use Rattle.oct_file_tasks.proofs.file_tree.tree_of.Goals as goal

pub returns-clause-classes : goal.returns-clause-classes
returns-clause-classes c = λ k in_map.
    filled_classes c.new-tree.result c.reserve.new.self c.fill.new.tree c.args.file.now
    (ap (λ (t : Tree). t.odds) c.new-tree.ensures.exact ∙ c.default.ensures) c.reserve.ensures.kept
    c.requires.accepted c.fill.ensures.values c.fill.ensures.odds k in_map

pub returns-clause-values : goal.returns-clause-values
returns-clause-values c = λ k in_map.
    filled_values c.new-tree.result c.reserve.new.self c.fill.new.tree c.args.file.now
    (ap (λ (t : Tree). t.odds) c.new-tree.ensures.exact ∙ c.default.ensures) c.reserve.ensures.kept
    c.requires.accepted c.fill.ensures.values k in_map

pub returns-clause-res : goal.returns-clause-res
returns-clause-res c = c.fill.ensures.res ∙ c.reserve.ensures.kept.res
    ∙ ap (λ (t : Tree). t.res) c.new-tree.ensures.exact ∙ c.res.ensures

pub returns-clause-odds : goal.returns-clause-odds
returns-clause-odds c = c.fill.ensures.odds ∙ c.reserve.ensures.kept.odds
    ∙ ap (λ (t : Tree). t.odds) c.new-tree.ensures.exact ∙ c.default.ensures
