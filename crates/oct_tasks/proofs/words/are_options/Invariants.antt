use Rattle.std.proofs.Common.{◌≡◌, length}
use Rattle.oct_tasks.specs.Words.{bytes_of, are_options}
use Rattle.oct_tasks.proofs.words.are_options.Given as goal

abbrev pub invariant-loop-rest : goal.invariant-loop-rest
invariant-loop-rest l = are_options (bytes_of l.words) ≡ are_options (bytes_of l.rest)

abbrev pub decreases-loop-rest : goal.decreases-loop-rest
decreases-loop-rest l = length l.rest
