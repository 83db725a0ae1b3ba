use Rattle.std.proofs.Common.{refl}
use Rattle.oct_tree.specs.Descents.{digits_from}
use Rattle.oct_tree.proofs.descent.Descent.new.Goals as goal

pub returns : goal.returns
unfolding digits_from
returns c = refl
