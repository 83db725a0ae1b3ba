use Rattle.std.proofs.Common.{◌≡◌, length}
use Rattle.oct_tree.specs.Classes.{classes_in}
use Rattle.oct_cast.specs.Cast.{cast_through}
use Rattle.oct_cast.specs.Way.{HasPassed}
use Rattle.oct_cast.proofs.ray.go_on.Given as goal

abbrev pub invariant-loop-code : goal.invariant-loop-code
invariant-loop-code l = record {
  passed : HasPassed l.tree l.ignore_unknown l.way;
  left : cast_through l.ignore_unknown (classes_in l.tree) l.walk
      ≡ cast_through l.ignore_unknown (classes_in l.tree) l.fn.walk;
}

abbrev pub decreases-loop-code : goal.decreases-loop-code
decreases-loop-code l = length l.walk
