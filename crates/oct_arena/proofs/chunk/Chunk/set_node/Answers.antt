use Rattle.std.proofs.Common.{sym}
use Rattle.oct_arena.proofs.Chunks.{has_value}
use Rattle.oct_arena.proofs.chunk.Chunk.set_node.Goals as goal

pub get_mut-group-requires : goal.get_mut-group-requires
get_mut-group-requires c =
    let w = c.self.invariant in (
      sym w.placed,
      has_value c.self.inside.cells.values c.args.i (rw c.self.view_is c.requires.live),
    )
