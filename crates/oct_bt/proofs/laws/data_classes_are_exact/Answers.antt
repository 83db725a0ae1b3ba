use Rattle.oct_bt.proofs.DataClassed.{data_classed}
use Rattle.oct_bt.proofs.laws.data_classes_are_exact.Goals as goal

pub returns : goal.returns
returns c = record { exact = data_classed }
