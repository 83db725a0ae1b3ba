use Rattle.std.proofs.Common.{subst, rules}
use Rattle.std.proofs.lemmas.Int.{to_z-of_z}
use mir.Val.{SFits}
use mir.Syntax.{w32}
use Rattle.oct_tree.proofs.Parts.{tree_of}
use Rattle.oct_tree.proofs.Paths.{above_voxels}
use Rattle.oct_tree.proofs.Steps.{IsSplitStep, split_call}
use Rattle.oct_tree.proofs.Tidied.{none_known}
use Rattle.oct_tree.proofs.tree.OccTree.split_to.Goals as goal

pub split-requires-clause-home : goal.split-requires-clause-home
split-requires-clause-home c =
    above_voxels
    (tree_of c.self.inside.arena c.self.inside.root c.self.inside.res c.self.inside.odds)
    c.args.p c.self.invariant.linked

right : (c : goal.After-split)
    → IsSplitStep c.args.self.now
    (tree_of c.split.new.arena c.split.new.root c.self.inside.res c.self.inside.odds)
    c.args.p c.split.result c.args.value
right c =
    let fits : SFits w32 c.args.value = search rules in
    subst (IsSplitStep c.args.self.now
    (tree_of c.split.new.arena c.split.new.root c.self.inside.res c.self.inside.odds)
    c.args.p c.split.result)
    (to_z-of_z w32 c.args.value fits)
    (split_call _ _ c.args.p c.split.result _ c.split.new.arena c.split.new.root
    c.self.view_is c.self.invariant.linked c.requires.place c.requires.node c.requires.depth
    c.split.ensures.vacant c.split.ensures.within c.split.ensures.groups c.split.ensures.root)

pub invariant_of-self : goal.invariant_of-self
invariant_of-self c = record { linked = (right c).linked; so = none_known _ }

pub returns-clause-split : goal.returns-clause-split
returns-clause-split c = (right c).split

pub returns-clause-values : goal.returns-clause-values
returns-clause-values c = (right c).values

pub returns-clause-outside : goal.returns-clause-outside
returns-clause-outside c = (right c).outside

pub returns-clause-linked : goal.returns-clause-linked
returns-clause-linked c = (right c).linked
