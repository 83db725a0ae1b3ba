use Rattle.std.proofs.Common.{rules}
use Rattle.oct_tree.specs.Tree.{value_at}
use Rattle.oct_values.specs.Classes.{classes_of}
use Rattle.oct_change.proofs.Noting.{noted_one}
use Rattle.oct_change.proofs.changes.Changes.note_class.Goals as goal

pub returns-clause-noted : goal.returns-clause-noted
returns-clause-noted c =
    noted_one (classes_of c.args.tree.now.odds (value_at c.args.tree.now)) c.args.self.now.notes
    c.note.new.self.notes c.args.key _ (search rules) c.note.ensures.notes
