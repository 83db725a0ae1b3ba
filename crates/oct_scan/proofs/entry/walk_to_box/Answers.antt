use Rattle.oct_scan.proofs.Entries.{rest_of_way, whole_way}
use Rattle.oct_scan.proofs.entry.walk_to_box.Goals as goal

pub returns-then-holds : goal.returns-then-holds
returns-then-holds c =
    whole_way c.args.window.now c.args.view.now.start c.args.beam.voxel _ _ c.walk.ensures
    c.requires.way

pub returns-then-is_before : goal.returns-then-is_before
returns-then-is_before c =
    rest_of_way c.args.window.now c.args.view.now.start c.args.beam.voxel _ _
    c.walk_after-rest.ensures (c.is_before.ensures c.if-is_before.true) c.requires.way

pub returns-else-is_before : goal.returns-else-is_before
returns-else-is_before c =
    whole_way c.args.window.now c.args.view.now.start c.args.beam.voxel _ _
    c.walk-else-is_before.ensures c.requires.way
