use Rattle.std.proofs.Common.{◌≡◌, ◌+◌, ◌-◌, ◌*◌, ◌^◌, ◌≤◌}
use Rattle.oct_arena.specs.Entries.{node_at}
use Rattle.oct_query.specs.Under.{sum_below, nodes_under}
use Rattle.oct_query.proofs.nodes.+nodes_under.Given as goal

abbrev pub decreases-nodes_under : goal.decreases-nodes_under
decreases-nodes_under l = 16 - l.depth

abbrev pub invariant-loop-i : goal.invariant-loop-i
invariant-loop-i l = record {
  counted : l.nodes
      ≡ 1 + sum_below (λ i. nodes_under l.tree.groups (15 - l.depth)
      (node_at l.tree.groups l.id.number i)) l.i;
  few : l.nodes ≤ 1 + l.i * 9 ^ (15 - l.depth);
}
