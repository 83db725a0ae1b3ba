use Rattle.std.proofs.Common.{◌≡◌, ℕ, ◌<◌, length, slice_index_or}
use Rattle.oct_arena.specs.declared.node.Node.TheVariants.{Absent}
use Rattle.oct_shift.specs.Moving.{IsRootNode}
use Rattle.oct_shift.proofs.row.Row.whole_map.Given as goal

abbrev pub invariant-loop-j : goal.invariant-loop-j
invariant-loop-j l = record {
  done : (i : ℕ) → i < l.j → IsRootNode l.tree l.offset i (slice_index_or l.nodes i Absent);
  long : length l.nodes ≡ 8;
}
