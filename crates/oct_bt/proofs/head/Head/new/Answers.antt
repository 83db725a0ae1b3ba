use Rattle.oct_bt.proofs.HeadSteps.{fresh_head}
use Rattle.oct_bt.proofs.head.Head.new.Goals as goal

pub returns : goal.returns
returns c = fresh_head c.new.result.items c.new.ensures.items
