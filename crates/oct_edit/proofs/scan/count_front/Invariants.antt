use Rattle.std.proofs.Common.{◌-◌, ◌≤◌, length}
use Rattle.oct_edit.proofs.BrickFronts.{AreFront}
use Rattle.oct_edit.proofs.scan.count_front.Given as goal

abbrev pub invariant-front : goal.invariant-front
invariant-front l = (l.count ≤ length l.bricks) × AreFront l.depth l.i l.bricks l.count

abbrev pub decreases-front : goal.decreases-front
decreases-front l = length l.bricks - l.count
