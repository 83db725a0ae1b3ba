use Rattle.std.proofs.Common.{sym, refl, subst, rules}
use Rattle.std.proofs.lemmas.Bool.{false≢true}
use Rattle.std.proofs.lemmas.Int.{to_z-of_z}
use mir.Val.{SFits}
use mir.Syntax.{w32}
use Rattle.oct_tree.specs.Nodes.{IsGreatest}
use Rattle.oct_tree.proofs.Parts.{tree_of}
use Rattle.oct_tree.proofs.Steps.{IsCollapseStep, IsRenewStep, collapse_call, renew_call, live_call}
use Rattle.oct_tree.proofs.Steps.{linked_at, can_collapse, cannot_collapse}
use Rattle.oct_tree.proofs.Tidied.{none_known}
use Rattle.oct_tree.proofs.tree.OccTree.settle_group.Goals as goal

pub read_group-requires : goal.read_group-requires
read_group-requires c =
    let at = linked_at _ _ c.args.p c.args.id c.self.view_is c.requires.inner in
    live_call _ _ c.args.p c.args.id at.0 c.self.view_is c.self.invariant.linked c.requires.place
    at.1

pub give_back-requires-clause-live : goal.give_back-requires-clause-live
give_back-requires-clause-live c =
    let at = linked_at _ _ c.args.p c.args.id c.self.view_is c.requires.inner in
    live_call _ _ c.args.p c.args.id at.0 c.self.view_is c.self.invariant.linked c.requires.place
    at.1

collapsed : (c : goal.After-give_back)
    → IsCollapseStep c.args.self.now
    (tree_of c.give_back.new.arena c.give_back.new.root c.self.inside.res c.self.inside.odds)
    c.args.p
collapsed c =
    let at = linked_at _ _ c.args.p c.args.id c.self.view_is c.requires.inner in
    collapse_call _ _ c.args.p c.args.id at.0 c.in-Alike.node c.give_back.new.arena
    c.give_back.new.root c.self.view_is c.self.invariant.linked c.requires.place at.1
    c.in-Alike.ensures.0 c.in-Alike.ensures.1 c.give_back.ensures.groups c.give_back.ensures.root

renewed : (c : goal.After-write)
    → IsRenewStep c.args.self.now
    (tree_of c.write.new.arena c.write.new.root c.self.inside.res c.self.inside.odds) c.args.p
renewed c =
    let at = linked_at _ _ c.args.p c.args.id c.self.view_is c.requires.inner in
    let fits : SFits w32 c.in-Varied.value = search rules in
    renew_call _ _ c.args.p c.args.id at.0 _ c.write.new.arena c.write.new.root c.self.view_is
    c.self.invariant.linked c.requires.place at.1
    (subst (IsGreatest c.self.inside.arena c.args.id.number)
    (sym (to_z-of_z w32 c.in-Varied.value fits)) c.in-Varied.ensures.1)
    c.write.ensures.groups c.write.ensures.root

pub invariant_of-self : goal.invariant_of-self
invariant_of-self c = record { linked = (collapsed c).linked; so = none_known _ }

pub invariant_of-self-in-Varied : goal.invariant_of-self-in-Varied
invariant_of-self-in-Varied c = record { linked = (renewed c).linked; so = none_known _ }

pub returns-in-Alike-clause-when : goal.returns-in-Alike-clause-when
returns-in-Alike-clause-when c =
    let at = linked_at _ _ c.args.p c.args.id c.self.view_is c.requires.inner in (
      λ _. can_collapse _ _ c.args.p c.args.id at.0 c.in-Alike.node c.self.view_is at.1
          c.in-Alike.ensures.0 c.in-Alike.ensures.1,
      λ _. refl,
    )

pub returns-in-Alike-clause-collapsed : goal.returns-in-Alike-clause-collapsed
returns-in-Alike-clause-collapsed c = (collapsed c).collapsed

pub returns-in-Alike-clause-values : goal.returns-in-Alike-clause-values
returns-in-Alike-clause-values c = (collapsed c).values

pub returns-in-Alike-clause-outside : goal.returns-in-Alike-clause-outside
returns-in-Alike-clause-outside c = (collapsed c).outside

pub returns-in-Alike-clause-linked : goal.returns-in-Alike-clause-linked
returns-in-Alike-clause-linked c = (collapsed c).linked

pub returns-in-Varied-clause-when : goal.returns-in-Varied-clause-when
returns-in-Varied-clause-when c =
    let at = linked_at _ _ c.args.p c.args.id c.self.view_is c.requires.inner in (
      λ t. absurd (false≢true t),
      λ can. absurd (cannot_collapse _ _ c.args.p c.args.id at.0 c.self.view_is at.1
          c.in-Varied.ensures.0 can),
    )

pub returns-in-Varied-clause-renewed : goal.returns-in-Varied-clause-renewed
returns-in-Varied-clause-renewed c = (renewed c).renewed

pub returns-in-Varied-clause-values : goal.returns-in-Varied-clause-values
returns-in-Varied-clause-values c = (renewed c).values

pub returns-in-Varied-clause-outside : goal.returns-in-Varied-clause-outside
returns-in-Varied-clause-outside c = (renewed c).outside

pub returns-in-Varied-clause-linked : goal.returns-in-Varied-clause-linked
returns-in-Varied-clause-linked c = (renewed c).linked
