use Rattle.std.proofs.Common.{◌≡◌, ◌+◌, ◌-◌, length}
use Rattle.oct_key.specs.CubeOf.{cube_of}
use Rattle.oct_frontier.proofs.Founds.{found_first}
use Rattle.oct_frontier.proofs.walk.+count_under.Given as goal

abbrev pub decreases-count_under : goal.decreases-count_under
decreases-count_under l = 16 - l.patch.now.block.depth

abbrev pub invariant-loop-i : goal.invariant-loop-i
invariant-loop-i l = length (found_first l.tree l.lo l.hi (cube_of l.patch.block) l.i) + l.left
    ≡ l.room
