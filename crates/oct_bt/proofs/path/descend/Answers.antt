use Rattle.oct_bt.proofs.Steps.{path_descends, lowered_is}
use Rattle.oct_bt.proofs.path.descend.Goals as goal

pub returns-then-deeper-gt0-clause-pending : goal.returns-then-deeper-gt0-clause-pending
returns-then-deeper-gt0-clause-pending c =
    path_descends c.args.path.now.items _ _ c.args.deeper
    (lowered_is c.args.path.now.items c.deref_mut.result.now c.len-top.result
    c.deref_mut.ensures.value c.len-top.ensures.value) c.push.ensures.items
