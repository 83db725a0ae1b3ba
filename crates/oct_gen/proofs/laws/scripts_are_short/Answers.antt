use Rattle.oct_gen.proofs.Lengths.{script_short}
use Rattle.oct_gen.proofs.laws.scripts_are_short.Goals as goal

pub returns : goal.returns
returns c = script_short
