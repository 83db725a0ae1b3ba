use Rattle.oct_bt.proofs.CodeMasks.{nonzero_is}
use Rattle.oct_bt.proofs.masks.nonzero.Goals as goal

pub returns : goal.returns
returns c = nonzero_is c.args.codes
