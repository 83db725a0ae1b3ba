use Rattle.std.proofs.Common.{◌≡◌, ◌*◌}
use Rattle.oct_arena.specs.Entries.{vacant}
use Rattle.oct_arena.proofs.Copies.{IsCopied}
use Rattle.oct_arena.proofs.rows.Rows.copy.Given as goal

abbrev pub invariant-room : goal.invariant-room
invariant-room l = l.rows ≡ vacant (1024 * l._chunk)

abbrev pub invariant-copy : goal.invariant-copy
invariant-copy l = IsCopied l.self l.rows l.i
