use Rattle.std.proofs.Common.{◌≡◌, ℕ, ◌+◌, ◌*◌, ◌≤◌, Some, drop, get_or}
use Rattle.oct_brick.specs.declared.brick.Brick.{Brick}
use Rattle.oct_scan.specs.Codes.{bricks_after, brick_count}
use Rattle.oct_scan.proofs.need.count_blocks.Given as goal

abbrev pub invariant-loop-brick : goal.invariant-loop-brick
invariant-loop-brick l = record {
  counted : l.count + bricks_after l.last (drop l.brick-index l.bricks) ≡ brick_count l.bricks;
  bounded : l.count ≤ 23 * l.brick-index;
  last_is : (d : Brick) (before : ℕ) → l.last ≡ Some before
      → (i : ℕ) × (l.brick-index ≡ i + 1) × ((get_or l.bricks i d).code ≡ before);
}
