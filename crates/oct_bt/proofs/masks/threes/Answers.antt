use Rattle.oct_bt.proofs.CodeMasks.{threes_is}
use Rattle.oct_bt.proofs.masks.threes.Goals as goal

pub returns-clause-exact : goal.returns-clause-exact
returns-clause-exact c = threes_is c.args.codes
