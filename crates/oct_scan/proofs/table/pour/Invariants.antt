use Rattle.oct_scan.proofs.Tabled.{ArePoured}
use Rattle.oct_scan.proofs.table.pour.Given as goal

abbrev pub invariant-loop-brick : goal.invariant-loop-brick
invariant-loop-brick l = ArePoured l.initial.pile l.places l.brick-index l.pile
