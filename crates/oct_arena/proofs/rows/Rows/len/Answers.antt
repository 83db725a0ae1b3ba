use Rattle.std.proofs.Common.{rules, ◌≡◌, ◌*◌, ap, arith, length}
use Rattle.oct_arena.specs.Chunks.{joined}
use Rattle.oct_arena.proofs.Chunks.{length_joined}
use Rattle.oct_arena.proofs.rows.Rows.len.Goals as goal

pub returns : goal.returns
returns c =
    let cs = c.self.inside.chunks.items in
    let len : c.len.result ≡ length cs = search rules in
    let all : length (joined cs) ≡ 1024 * length cs = length_joined cs c.self.invariant.0 in
    let view : length (joined cs) ≡ length c.args.self.now = ap length c.self.view_is in
    omega arith
