use Rattle.oct_tree.specs.Tree.{value_at}
use Rattle.oct_values.specs.Classes.{classes_of}
use Rattle.oct_change.specs.Notes.{marked_by}
use Rattle.oct_change.proofs.Reports.{reported_ok}
use Rattle.oct_change.proofs.Exact.{one_report_ok}
use Rattle.oct_change.proofs.changes.Changes.report.Goals as goal

pub returns-clause-changes : goal.returns-clause-changes
returns-clause-changes c = reported_ok c.changed.result c.args.self.now.notes
    (classes_of c.args.tree.now.odds (value_at c.args.tree.now)) c.in_ok-first.first
    c.first_of_each.ensures.in_map c.in_ok-first.ensures.first c.changed.ensures.ordered
    c.changed.ensures.changes

pub returns-clause-exact : goal.returns-clause-exact
returns-clause-exact c = one_report_ok c.changed.result
    (marked_by c.args.self.now.notes (classes_of c.args.tree.now.odds (value_at c.args.tree.now)))
    (classes_of c.args.tree.now.odds (value_at c.args.tree.now)) (returns-clause-changes c)
