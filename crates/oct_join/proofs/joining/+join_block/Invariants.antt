use Rattle.std.proofs.Common.{◌≡◌, ◌-◌, ◌+◌, ◌≤◌, ◌++◌, ℕ, List}
use Rattle.std.specs.Prelude.{vec_len, vec_capacity}
use Rattle.oct_bt.specs.Records.{Entries}
use Rattle.oct_join.specs.Merged.{merged_class}
use Rattle.oct_join.specs.Sides.{IsSide, side_text}
use Rattle.oct_join.proofs.Masks.{AreMerged}
use Rattle.oct_join.proofs.Walks.{IsJoining}
use Rattle.oct_join.proofs.joining.+join_block.Given as goal

abbrev pub decreases-join_block : goal.decreases-join_block
decreases-join_block l = 16 - l.depth

abbrev pub invariant-loop : goal.invariant-loop
invariant-loop l = record {
  joined : (r s : Entries) (p q : List ℕ) → IsSide l.depth l.a r
      → l.first ≡ side_text l.a r ++ p → IsSide l.depth l.b s → l.second ≡ side_text l.b s ++ q
      → IsJoining (merged_class l.rule) l.depth l.a l.b l.first l.second r s p q l.fn.out.items
      l.out.items l.read.first l.read.second l.first_codes l.second_codes l.codes l.unit l.counter;
  merged : AreMerged l.rule l.first_codes l.second_codes l.merged l.counter;
  few : vec_len l.out ≤ vec_len l.fn.out + l.read.first + l.read.second;
  room : vec_capacity l.out ≡ vec_capacity l.fn.out;
}
