use Rattle.std.proofs.Common.{◌≡◌, ◌∙◌, ap, arith}
use Rattle.oct_arena.specs.Entries.{spare}
use Rattle.oct_edit.proofs.Rooms.{missing_few}
use Rattle.oct_tree_tests.proofs.edits.voxel.hit_in_vain.Goals as goal

pub touch-requires-clause-room : goal.touch-requires-clause-room
touch-requires-clause-room g c =
    let few = missing_few c.args.tree.now.groups c.args.k in
    let there : c.spare.result ≡ spare c.args.tree.now.groups =
    c.spare.ensures.exact ∙ ap spare c.arena.ensures.exact in
    omega (arith, few, there)
