use Rattle.std.proofs.Common.{rules, ◌≡◌, ◌∙◌, sym, ap, subst, arith}
use Rattle.oct_key.specs.Voxel.{IsInMap}
use Rattle.oct_arena.specs.Entries.{Groups, IsLive, node_at}
use Rattle.oct_arena.specs.Nodes.{link_of}
use Rattle.oct_tree.specs.Tree.{reach}
use Rattle.oct_tree.proofs.Paths.{reach_zero, reach_suc, not_inner, step_live, step_linked}
use Rattle.oct_export.proofs.Columns.{voxel_leaf}
use Rattle.oct_export.proofs.strip.patch_at.Goals as goal

pub loop-depth-init : goal.loop-depth-init
loop-depth-init c = c.root-node.ensures.exact ∙ sym (reach_zero _ _)

pub patch_under-requires-clause-leaf : goal.patch_under-requires-clause-leaf
patch_under-requires-clause-leaf c = not_inner _ c.in_default.not-Inner

pub node-node-requires-clause-live : goal.node-node-requires-clause-live
node-node-requires-clause-live c =
    subst (λ (gs : Groups). IsLive gs c.in-Inner.id.number) (sym c.arena.ensures.exact)
    (step_live c.args.tree.now c.args.k c.arena.ensures.linked c.loop-depth.depth
    c.in-Inner.id.number (ap link_of (sym c.loop-depth.invariant ∙ c.in-Inner.is)))

pub loop-depth-preserved : goal.loop-depth-preserved
loop-depth-preserved c =
    c.node-node.ensures.exact
    ∙ ap (λ (gs : Groups). node_at gs c.in-Inner.id.number c.child_index.result)
    c.arena.ensures.exact
    ∙ ap (node_at c.args.tree.now.groups c.in-Inner.id.number) c.child_index.ensures.exact
    ∙ sym (step_linked c.args.tree.now.groups _ c.in-Inner.id.number _
    (ap link_of (sym c.loop-depth.invariant ∙ c.in-Inner.is)))
    ∙ sym (reach_suc c.args.tree.now c.loop-depth.depth c.args.k)

pub patch_under-requires-2-clause-leaf : goal.patch_under-requires-2-clause-leaf
patch_under-requires-2-clause-leaf c =
    let voxel : IsInMap c.args.k = record { x = search rules; y = search rules; z = search rules }
    in
    let depth : c.loop-depth.depth ≡ 16 = omega arith in
    ap link_of (c.loop-depth.invariant ∙ ap (λ n. reach c.args.tree.now n c.args.k) depth)
    ∙ voxel_leaf c.args.tree.now c.args.k c.root-node.ensures.linked voxel
