use Rattle.std.proofs.Common.{◌≡◌, length}
use Rattle.oct_tasks.specs.Words.{bytes_of, value_of}
use Rattle.oct_tasks.proofs.words.value_of.Given as goal

abbrev pub invariant-loop-rest : goal.invariant-loop-rest
invariant-loop-rest l = value_of l.name (bytes_of l.words) ≡ value_of l.name (bytes_of l.rest)

abbrev pub decreases-loop-rest : goal.decreases-loop-rest
decreases-loop-rest l = length l.rest
