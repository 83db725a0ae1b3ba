use Rattle.std.proofs.Common.{◌≡◌, ℕ, ◌<◌}
use Rattle.oct_arena.specs.Entries.{node_at}
use Rattle.oct_tree.proofs.nodes.common_node.Given as goal

abbrev pub invariant-loop-i : goal.invariant-loop-i
invariant-loop-i l =
    (j : ℕ) → j < l.i → node_at l.arena l.fn.id.number j ≡ node_at l.arena l.fn.id.number 0
