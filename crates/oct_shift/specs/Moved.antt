-- The tree of a moved map.
use Rattle.std.specs.Prelude.{◌≡◌, ◌+◌, ◌≤◌}
use Rattle.oct_key.specs.Values.{SameValues}
use Rattle.oct_values.specs.Counts.{group_count}
use Rattle.oct_arena.specs.Entries.{live, spare}
use Rattle.oct_tree.specs.Tree.{Tree, value_at}
use Rattle.oct_tree.specs.Shape.{IsFresh, IsPruned}
use Rattle.oct_shift.specs.declared.shift.Shift.{Shift}
use Rattle.oct_shift.specs.Shifted.{shifted}

-- The second tree is the first one, moved. It has the groups that its values need, memory for no
-- more than these, 16 and 1,023 entries, and none where it needs no group.
pub record IsMoved (s : Shift) (t u : Tree) : Type 0 where
  pub values : SameValues (shifted s (value_at t)) (value_at u)
  pub fresh : IsFresh u
  pub pruned : IsPruned u
  pub groups : live u.groups ≡ group_count (shifted s (value_at t))
  pub few : live u.groups + spare u.groups ≤ group_count (shifted s (value_at t)) + 1039
  pub none : group_count (shifted s (value_at t)) ≡ 0 → spare u.groups ≡ 0
  pub res : u.res ≡ t.res
  pub odds : u.odds ≡ t.odds
