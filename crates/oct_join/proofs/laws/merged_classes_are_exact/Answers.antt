use Rattle.oct_join.proofs.Classes.{class_merged}
use Rattle.oct_join.proofs.laws.merged_classes_are_exact.Goals as goal

pub returns : goal.returns
returns c = record { exact = class_merged }
