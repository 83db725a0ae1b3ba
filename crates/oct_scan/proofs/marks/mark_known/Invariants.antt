use Rattle.std.proofs.Common.{length}
use Rattle.oct_scan.specs.Marked.{AreMarked, BesidePiles, IsTable}
use Rattle.oct_scan.proofs.marks.mark_known.Given as goal

abbrev pub invariant-loop-code : goal.invariant-loop-code
invariant-loop-code l = record {
  marked : BesidePiles (AreMarked l.initial.walk l.walk) l.initial.places l.places;
  table : IsTable l.places;
}

abbrev pub decreases-loop-code : goal.decreases-loop-code
decreases-loop-code l = length l.walk
