use Rattle.std.proofs.Common.{◌∙◌, sym, refl}
use Rattle.oct_arena.specs.declared.node.Node.TheVariants.{Absent}
use Rattle.oct_tree.proofs.Parts.{tree_of}
use Rattle.oct_tree.proofs.Steps.{IsCollapseStep, collapse_call, live_call}
use Rattle.oct_tree.proofs.Tidied.{none_known}
use Rattle.oct_tree.proofs.tree.OccTree.drop_absent.Goals as goal

pub is_absent-requires : goal.is_absent-requires
is_absent-requires c =
    live_call _ _ c.args.p c.in-Inner.id c.in-Inner.field-0 c.self.view_is
    c.self.invariant.linked c.requires (sym c.read.ensures ∙ c.in-Inner.is)

pub give_back-requires-clause-live : goal.give_back-requires-clause-live
give_back-requires-clause-live c =
    live_call _ _ c.args.p c.in-Inner.id c.in-Inner.field-0 c.self.view_is
    c.self.invariant.linked c.requires (sym c.read.ensures ∙ c.in-Inner.is)

right : (c : goal.After-give_back)
    → IsCollapseStep c.args.self.now
    (tree_of c.give_back.new.arena c.give_back.new.root c.self.inside.res c.self.inside.odds)
    c.args.p
right c =
    collapse_call _ _ c.args.p c.in-Inner.id c.in-Inner.field-0 Absent c.give_back.new.arena
    c.give_back.new.root c.self.view_is c.self.invariant.linked c.requires
    (sym c.read.ensures ∙ c.in-Inner.is) refl (c.is_absent.ensures.0 c.if-not-is_absent.false)
    c.give_back.ensures.groups c.give_back.ensures.root

pub invariant_of-self : goal.invariant_of-self
invariant_of-self c = record { linked = (right c).linked; so = none_known _ }

pub returns-clause-collapsed : goal.returns-clause-collapsed
returns-clause-collapsed c = (right c).collapsed

pub returns-clause-values : goal.returns-clause-values
returns-clause-values c = (right c).values

pub returns-clause-outside : goal.returns-clause-outside
returns-clause-outside c = (right c).outside

pub returns-clause-linked : goal.returns-clause-linked
returns-clause-linked c = (right c).linked
