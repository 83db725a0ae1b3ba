use Rattle.std.proofs.Common.{◌-◌, ◌≤◌, drop, length}
use Rattle.oct_num.proofs.NumberFronts.{IsReadOn}
use Rattle.oct_num.proofs.decimal.add_digits.Given as goal

abbrev pub invariant-loop-at : goal.invariant-loop-at
invariant-loop-at l =
    (l.from ≤ l.at) × (l.at ≤ length l.text)
    × IsReadOn l.front (drop l.from l.text) (l.at - l.from) l.value

abbrev pub decreases-loop-at : goal.decreases-loop-at
decreases-loop-at l = length l.text - l.at
