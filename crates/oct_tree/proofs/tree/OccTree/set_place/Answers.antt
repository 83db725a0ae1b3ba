use Rattle.oct_tree.proofs.Parts.{tree_of}
use Rattle.oct_tree.proofs.Steps.{IsSetStep, set_call}
use Rattle.oct_tree.proofs.Tidied.{none_known}
use Rattle.oct_tree.proofs.tree.OccTree.set_place.Goals as goal

right : (c : goal.After-write)
    → IsSetStep c.args.self.now
    (tree_of c.write.new.arena c.write.new.root c.self.inside.res c.self.inside.odds)
    c.args.p c.args.n
right c =
    set_call _ _ c.args.p c.args.n c.write.new.arena c.write.new.root c.self.view_is
    c.self.invariant.linked c.requires.place c.requires.before c.requires.node c.requires.within
    c.write.ensures.groups c.write.ensures.root

pub invariant_of-self : goal.invariant_of-self
invariant_of-self c = record { linked = (right c).linked; so = none_known _ }

pub returns-clause-written : goal.returns-clause-written
returns-clause-written c = (right c).written

pub returns-clause-values : goal.returns-clause-values
returns-clause-values c = (right c).values

pub returns-clause-outside : goal.returns-clause-outside
returns-clause-outside c = (right c).outside

pub returns-clause-linked : goal.returns-clause-linked
returns-clause-linked c = (right c).linked
