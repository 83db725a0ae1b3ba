use Rattle.std.proofs.Common.{length}
use Rattle.oct_scan.specs.Marked.{AreMarked, IsTable, with_table}
use Rattle.oct_scan.proofs.marks.mark_steps.Given as goal

abbrev pub invariant-loop-code : goal.invariant-loop-code
invariant-loop-code l = record {
  marked : AreMarked l.fn.walk l.walk (with_table l.fn.pile l.fn.places)
      (with_table l.pile l.places);
  table : IsTable l.places;
}

abbrev pub decreases-loop-code : goal.decreases-loop-code
decreases-loop-code l = length l.walk
