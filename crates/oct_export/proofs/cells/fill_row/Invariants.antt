use Rattle.std.proofs.Common.{◌≡◌, ◌≤◌, ◌+◌, ◌-◌, length, take}
use Rattle.oct_tree.specs.Classes.{classes_in}
use Rattle.oct_export.specs.Grids.{cell_of}
use Rattle.oct_export.proofs.Rows.{row_front}
use Rattle.oct_export.proofs.cells.fill_row.Given as goal

abbrev pub invariant-loop-x : goal.invariant-loop-x
invariant-loop-x l = record {
  low : l.lo.x ≤ l.x;
  high : l.x ≤ l.hi.x + 1;
  long : length l.row ≡ l.hi.x + 1 - l.lo.x;
  front : take (l.x - l.lo.x) l.row
      ≡ row_front cell_of (classes_in l.tree) l.lo l.hi l.y (l.x - l.lo.x);
}

abbrev pub decreases-loop-x : goal.decreases-loop-x
decreases-loop-x l = l.hi.x + 1 - l.x
