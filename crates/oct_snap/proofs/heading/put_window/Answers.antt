use Rattle.oct_snap.proofs.Heads.{window_put}
use Rattle.oct_snap.proofs.heading.put_window.Goals as goal

pub returns : goal.returns
returns c = window_put c.args.head.now.items _ _ _ _ _ _ _ c.put-2.ensures c.put_voxel.ensures
    c.put_voxel-2.ensures c.lo.ensures c.hi.ensures c.in-Some.is
