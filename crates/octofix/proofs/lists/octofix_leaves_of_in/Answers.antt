use Rattle.octofix.proofs.Tellings.{closed_told}
use Rattle.octofix.specs.Asked.{asked}
use Rattle.octofix.specs.Buffers.{IsSomeList}
use Rattle.octofix.specs.Lists.{leaves_sought_in}
use Rattle.octofix.proofs.lists.octofix_leaves_of_in.Goals as goal

pub returns-in-Err-clause-told : goal.returns-in-Err-clause-told
returns-in-Err-clause-told c =
    let handle = c.args.handle.now.slot.map in
    let answer = (leaves_sought_in c.args.sought c.args.low.now c.args.high.now) in
    closed_told handle answer (IsSomeList (asked handle answer)) c.in-Err.refusal c.tell.result
    c.args.blocks.now c.args.count.now c.in-Err.ensures.closed.1 c.in-Err.ensures.closed.0
    c.tell.ensures.code
