use Rattle.std.proofs.Common.{◌≡◌, ℕ, ◌<◌, length, slice_index_or}
use Rattle.oct_arena.specs.declared.node.Node.TheVariants.{Absent}
use Rattle.oct_tree.specs.Tree.{step}
use Rattle.oct_shift.specs.Moving.{from_child, from_node, node_of_row}
use Rattle.oct_shift.proofs.row.Row.child.Given as goal

abbrev pub invariant-loop-j : goal.invariant-loop-j
invariant-loop-j l = record {
  done : (i : ℕ) → i < l.j → slice_index_or l.nodes i Absent
      ≡ step l.tree.groups (node_of_row l.self (from_node l.way l.i i)) (from_child l.way l.i i);
  long : length l.nodes ≡ 8;
}
