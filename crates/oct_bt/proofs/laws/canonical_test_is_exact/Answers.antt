use Rattle.std.proofs.lemmas.Slice.Eq.{bytes_eq-Decides}
use Rattle.oct_bt.specs.Canonical.{canonical_data}
use Rattle.oct_bt.specs.DataClasses.{data_classes, is_canonical}
use Rattle.oct_bt.proofs.Tested.{tested}
use Rattle.oct_bt.proofs.laws.canonical_test_is_exact.Goals as goal

pub returns : goal.returns
unfolding is_canonical
returns c = record {
  meant = λ bytes. bytes_eq-Decides bytes (canonical_data (data_classes bytes));
  exact = tested;
}
