use Rattle.oct_key.proofs.Nested.{lies_in_self}
use Rattle.oct_edit.proofs.Frames.{place_after}
use Rattle.oct_edit.proofs.way.close_over.Goals as goal

pub node-requires : goal.node-requires
node-requires c =
    let (b, is) = c.requires.block in
    let closed = c.close.ensures b is in
    (place_after c.args.tree.now c.close.new.tree c.args.p b b c.requires.linked c.requires.place is
    closed.local.outside (lies_in_self b)).0
