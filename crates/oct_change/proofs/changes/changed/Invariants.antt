use Rattle.std.proofs.Common.{◌≡◌, ◌++◌}
use Rattle.std.specs.List.{filter_map}
use Rattle.oct_tree.specs.Tree.{value_at}
use Rattle.oct_values.specs.Classes.{classes_of}
use Rattle.oct_change.proofs.Reports.{entry_change}
use Rattle.oct_change.proofs.changes.changed.Given as goal

abbrev pub invariant-loop-key : goal.invariant-loop-key
invariant-loop-key l =
    l.changes ++ filter_map (entry_change (classes_of l.tree.odds (value_at l.tree))) l.key-iterator
    ≡ filter_map (entry_change (classes_of l.tree.odds (value_at l.tree))) l.first.entries
