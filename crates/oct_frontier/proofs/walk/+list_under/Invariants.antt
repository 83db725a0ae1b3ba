use Rattle.std.proofs.Common.{◌≡◌, ◌-◌, ◌++◌}
use Rattle.std.specs.Prelude.{vec_capacity}
use Rattle.oct_key.specs.CubeOf.{cube_of}
use Rattle.oct_frontier.proofs.Founds.{found_first}
use Rattle.oct_frontier.proofs.walk.+list_under.Given as goal

abbrev pub decreases-list_under : goal.decreases-list_under
decreases-list_under l = 16 - l.patch.now.block.depth

abbrev pub invariant-loop-i : goal.invariant-loop-i
invariant-loop-i l = record {
  listed : l.keys.items ≡ l.fn.keys.items
      ++ found_first l.tree l.lo l.hi (cube_of l.patch.block) l.i;
  capacity : vec_capacity l.keys ≡ vec_capacity l.fn.keys;
}
