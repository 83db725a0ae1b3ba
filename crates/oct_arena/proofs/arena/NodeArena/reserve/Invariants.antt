use Rattle.std.proofs.Common.{◌-◌}
use Rattle.oct_arena.specs.Entries.{spare}
use Rattle.oct_arena.proofs.Calls.{IsReserving}
use Rattle.oct_arena.proofs.arena.NodeArena.reserve.Given as goal

abbrev pub invariant-grow : goal.invariant-grow
invariant-grow l = IsReserving l.n l.initial.self l.self

abbrev pub decreases-grow : goal.decreases-grow
decreases-grow l = l.n - spare l.self
