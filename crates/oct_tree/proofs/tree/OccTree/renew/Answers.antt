use Rattle.std.proofs.Common.{◌∙◌, sym, subst, rules}
use Rattle.std.proofs.lemmas.Int.{to_z-of_z}
use mir.Val.{SFits}
use mir.Syntax.{w32}
use Rattle.oct_tree.specs.Nodes.{IsGreatest}
use Rattle.oct_tree.proofs.Parts.{tree_of}
use Rattle.oct_tree.proofs.Steps.{IsRenewStep, renew_call}
use Rattle.oct_tree.proofs.Tidied.{none_known}
use Rattle.oct_tree.proofs.tree.OccTree.renew.Goals as goal

right : (c : goal.After-write)
    → IsRenewStep c.args.self.now
    (tree_of c.write.new.arena c.write.new.root c.self.inside.res c.self.inside.odds) c.args.p
right c =
    let fits : SFits w32 c.greatest-value.result = search rules in
    renew_call _ _ c.args.p c.in-Inner.id c.in-Inner.field-0 _ c.write.new.arena c.write.new.root
    c.self.view_is c.self.invariant.linked c.requires.place (sym c.read.ensures ∙ c.in-Inner.is)
    (subst (IsGreatest c.self.inside.arena c.in-Inner.id.number)
    (sym (to_z-of_z w32 c.greatest-value.result fits)) c.greatest-value.ensures)
    c.write.ensures.groups c.write.ensures.root

pub invariant_of-self : goal.invariant_of-self
invariant_of-self c = record { linked = (right c).linked; so = none_known _ }

pub returns-clause-renewed : goal.returns-clause-renewed
returns-clause-renewed c = (right c).renewed

pub returns-clause-values : goal.returns-clause-values
returns-clause-values c = (right c).values

pub returns-clause-outside : goal.returns-clause-outside
returns-clause-outside c = (right c).outside

pub returns-clause-linked : goal.returns-clause-linked
returns-clause-linked c = (right c).linked
