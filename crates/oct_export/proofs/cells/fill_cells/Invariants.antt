use Rattle.std.proofs.Common.{◌≡◌, ◌+◌, ◌-◌, ◌*◌, length, take}
use Rattle.oct_tree.specs.Classes.{classes_in}
use Rattle.oct_export.proofs.GridRows.{rows_front}
use Rattle.oct_export.proofs.cells.fill_cells.Given as goal

abbrev pub invariant-loop-n : goal.invariant-loop-n
invariant-loop-n l = record {
  long : length l.cells ≡ (l.hi.x + 1 - l.lo.x) * (l.hi.y + 1 - l.lo.y);
  front : take (l.n * (l.hi.x + 1 - l.lo.x)) l.cells
      ≡ rows_front (classes_in l.tree) l.lo l.hi l.n;
}
