use Rattle.std.proofs.Common.{◌≡◌, ◌-◌, ◌++◌, ℕ, List}
use Rattle.oct_bt.specs.Records.{Entries, IsRecord, flat}
use Rattle.oct_bt.proofs.Tallies.{IsCounting}
use Rattle.oct_bt.proofs.voxels.+count_record.Given as goal

abbrev pub decreases-count_record : goal.decreases-count_record
decreases-count_record l = 16 - l.depth

abbrev pub invariant-loop : goal.invariant-loop
invariant-loop l = (r : Entries) (tail : List ℕ) → IsRecord l.depth r → l.codes ≡ flat r ++ tail
    → IsCounting l.depth l.codes l.next l.rest l.counter l.free l.occupied r tail
