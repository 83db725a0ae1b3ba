use Rattle.std.proofs.Common.{◌≡◌, ◌∙◌, ◌<◌, sym, arith, rules, None}
use Rattle.oct_arena.specs.declared.node.Node.TheVariants.{Inner}
use Rattle.oct_arena.specs.Nodes.{link_of}
use Rattle.oct_tree.specs.Tree.{node_in}
use Rattle.oct_tree.proofs.Paths.{not_inner, place_block}
use Rattle.oct_inner.specs.Passes.{IsPrunedAt, IsPruning}
use Rattle.oct_tree.proofs.Within.{passed_leaf, child_place, child_lower, passing_child}
use Rattle.oct_inner.proofs.Prunes.{pruned_local, leaf_pruned, pruning_refl, pruning_trans}
use Rattle.oct_inner.proofs.Prunes.{pruned_place}
use Rattle.oct_inner.proofs.pruning.+prune_place.Goals as goal

pub returns-in_default : goal.returns-in_default
returns-in_default t c b e =
    let none : link_of (node_in c.args.tree.now c.args.p) ≡ None = not_inner _
    (λ v id h. c.in_default.not-Inner v id (c.node.ensures.exact ∙ h)) in
    passed_leaf IsPrunedAt IsPruning c.args.tree.now c.args.p b (pruning_refl c.args.tree.now)
    c.requires.formed c.requires.place e none (leaf_pruned c.args.tree.now c.args.p none)

pub prune_place-requires : goal.prune_place-requires
prune_place-requires t c =
    let (b, e) = place_block c.args.tree.now c.args.p c.requires.place in
    let s = c.loop-i.invariant b e in
    let link : node_in c.args.tree.now c.args.p ≡ Inner c.in-Inner.field-0 c.in-Inner.id =
    sym c.node.ensures.exact ∙ c.in-Inner.is in
    let below : c.loop-i.i < 8 = omega arith in
    let lower =
    child_lower IsPrunedAt IsPruning c.args.tree.now c.loop-i.tree c.args.p c.in-Inner.id
    c.in-Inner.field-0 c.loop-i.i c.loop-i.i b e link s in
    let d = c.decreases in (
      search rules,
      (
        s.formed,
        child_place IsPrunedAt IsPruning c.args.tree.now c.loop-i.tree c.args.p c.in-Inner.id
            c.in-Inner.field-0 c.loop-i.i c.loop-i.i b link below s,
      ),
    )

pub loop-i-preserved : goal.loop-i-preserved
loop-i-preserved t c b e =
    let link : node_in c.args.tree.now c.args.p ≡ Inner c.in-Inner.field-0 c.in-Inner.id =
    sym c.node.ensures.exact ∙ c.in-Inner.is in
    passing_child IsPrunedAt IsPruning pruned_local pruning_trans c.args.tree.now c.loop-i.tree
    c.prune_place.new.tree c.args.p c.in-Inner.id c.in-Inner.field-0 c.loop-i.i b
    c.requires.formed.linked (omega arith) link (c.loop-i.invariant b e) c.prune_place.ensures

pub returns : goal.returns
returns t c b e =
    let link : node_in c.args.tree.now c.args.p ≡ Inner c.in-Inner.field-0 c.in-Inner.id =
    sym c.node.ensures.exact ∙ c.in-Inner.is in
    pruned_place c.args.tree.now c.loop-i.tree c.collapse.new.self c.args.p c.in-Inner.id
    c.in-Inner.field-0 c.loop-i.i b c.collapse.result c.requires.formed.linked (omega arith) link
    (c.loop-i.invariant b e) c.collapse.ensures.when c.collapse.ensures.collapsed
    c.collapse.ensures.kept c.collapse.ensures.values c.collapse.ensures.outside
    c.collapse.ensures.linked
