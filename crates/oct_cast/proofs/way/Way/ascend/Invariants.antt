use Rattle.std.proofs.Common.{◌≡◌, ℕ, ◌≤◌}
use Rattle.oct_key.specs.Morton.{code_prefix}
use Rattle.oct_cast.proofs.way.Way.ascend.Given as goal

abbrev pub invariant-up : goal.invariant-up
invariant-up l = record {
  depth : l.self.depth ≤ l.initial.self.depth;
  here : l.here ≡ code_prefix l.self.depth l.code;
  before : (before : ℕ) → l.initial.self.block ≡ code_prefix l.initial.self.depth before
      → l.self.block ≡ code_prefix l.self.depth before;
  groups : l.self.groups ≡ l.initial.self.groups;
  floor : l.self.floor ≡ l.initial.self.floor;
}

abbrev pub decreases-up : goal.decreases-up
decreases-up l = l.self.depth
