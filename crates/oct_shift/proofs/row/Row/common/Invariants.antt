use Rattle.std.proofs.Common.{◌≡◌, ℕ, ◌<◌}
use Rattle.oct_shift.specs.Moving.{node_of_row}
use Rattle.oct_shift.proofs.row.Row.common.Given as goal

abbrev pub invariant-loop-j : goal.invariant-loop-j
invariant-loop-j l = record {
  done : (i : ℕ) → i < l.j → node_of_row l.self i ≡ l.first;
}
