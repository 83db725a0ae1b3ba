use Rattle.oct_bt.proofs.HeadEnds.{opened_at}
use Rattle.oct_bt.proofs.reader.open.Goals as goal

pub returns-in-Ok : goal.returns-in-Ok
returns-in-Ok c =
    opened_at c.args.header c.in-Ok.header c.new-nodes.result c.start.result c.size.result
    c.in-Ok.is c.start.ensures c.size.ensures c.new-nodes.ensures.start c.new-nodes.ensures.size
    c.new-nodes.ensures.fresh
