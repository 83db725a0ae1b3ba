use Rattle.std.proofs.Common.{sym}
use Rattle.oct_arena.proofs.chunk.Chunk.write.Goals as goal

pub write-requires : goal.write-requires
write-requires c =
    let w = c.self.invariant in
    (sym w.placed, rw c.self.view_is c.requires.within, rw c.self.view_is c.requires.empty)
