use Rattle.oct_cast.proofs.Ways.{code_below}
use Rattle.oct_cast.proofs.ray.stop_at.Goals as goal

pub from_morton-requires : goal.from_morton-requires
from_morton-requires c = code_below c.args.code c.requires.0 c.requires.1

pub from_morton-requires-in-Unknown : goal.from_morton-requires-in-Unknown
from_morton-requires-in-Unknown c = code_below c.args.code c.requires.0 c.requires.1
