use Rattle.std.proofs.Common.{◌≡◌, ◌-◌, ◌++◌, ℕ, List}
use Rattle.oct_bt.specs.Records.{Entries}
use Rattle.oct_join.specs.Sides.{IsSide, side_text}
use Rattle.oct_join.proofs.Counting.{IsPassing}
use Rattle.oct_join.proofs.table.+side_length.Given as goal

abbrev pub decreases-side_length : goal.decreases-side_length
decreases-side_length l = 16 - l.depth

abbrev pub invariant-loop : goal.invariant-loop
invariant-loop l = (r : Entries) (tail : List ℕ) → IsSide l.depth l.code r
    → l.text ≡ side_text l.code r ++ tail
    → IsPassing l.depth l.code l.text r tail l.at l.left l.counter
