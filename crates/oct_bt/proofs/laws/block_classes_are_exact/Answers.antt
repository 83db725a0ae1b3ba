use Rattle.oct_bt.proofs.Alike.{class_of_all, class_of_each}
use Rattle.oct_bt.proofs.laws.block_classes_are_exact.Goals as goal

pub returns : goal.returns
returns c = record {
  exact = λ a b x ok. (
    λ is k held. class_of_each a b x k ok is held,
    λ all. class_of_all a b x ok all,
  );
}
