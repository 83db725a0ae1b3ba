use Rattle.std.proofs.Common.{◌≡◌, ◌+◌, ◌-◌, ◌*◌, ◌^◌, ◌≤◌}
use Rattle.oct_key.specs.Block.{Cube}
use Rattle.oct_arena.specs.Entries.{home_at}
use Rattle.std.specs.Prelude.{Some}
use Rattle.oct_tree.specs.Tree.{value_at}
use Rattle.oct_query.proofs.LeastParts.{IsWalked}
use Rattle.oct_query.proofs.least.+part_under.Given as goal

abbrev pub decreases-part_under : goal.decreases-part_under
decreases-part_under l = 16 - l.depth

abbrev pub invariant-loop-i : goal.invariant-loop-i
invariant-loop-i l = record {
  walked : (b : Cube) → home_at l.tree.groups l.id.number ≡ Some b
      → IsWalked (value_at l.tree) b l.i l.value l.groups l.leaves;
  groups : l.groups ≤ 1 + l.i * 9 ^ (15 - l.depth);
  leaves : l.leaves ≤ 1 + l.i * 9 ^ (15 - l.depth);
}
