use Rattle.std.proofs.Common.{◌≡◌, ◌≤◌, ◌+◌, ◌-◌, ℕ}
use Rattle.oct_key.specs.Order.{numbers_from}
use Rattle.oct_tree.specs.Classes.{classes_in}
use Rattle.oct_export.specs.Bands.{shown}
use Rattle.oct_export.proofs.strip.strip_at.Given as goal

abbrev pub invariant-loop-z : goal.invariant-loop-z
invariant-loop-z l = record {
  low : l.lo ≤ l.z;
  high : l.z ≤ l.hi + 1;
  reach : l.x ≤ l.last;
  class : (n : ℕ) → l.x ≤ n → n ≤ l.last
      → shown (classes_in l.tree) n l.y (numbers_from l.lo (l.z - l.lo)) ≡ l.class;
}

abbrev pub decreases-loop-z : goal.decreases-loop-z
decreases-loop-z l = l.hi + 1 - l.z
