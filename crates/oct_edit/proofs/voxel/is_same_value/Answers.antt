use Rattle.oct_edit.proofs.Clamps.{same_values}
use Rattle.oct_edit.proofs.voxel.is_same_value.Goals as goal

pub returns : goal.returns
returns c = same_values c.args.a c.args.b c.eq.result c.eq.ensures
