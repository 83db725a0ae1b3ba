use Rattle.octofix.proofs.Tellings.{closed_told}
use Rattle.octofix.specs.Asked.{asked}
use Rattle.octofix.specs.Buffers.{IsSomeList}
use Rattle.octofix.specs.Lists.{leaves_sought}
use Rattle.octofix.proofs.lists.octofix_leaves_of.Goals as goal

pub returns-in-Err-clause-told : goal.returns-in-Err-clause-told
returns-in-Err-clause-told c =
    let handle = c.args.handle.now.slot.map in
    let answer = (leaves_sought c.args.sought) in
    closed_told handle answer (IsSomeList (asked handle answer)) c.in-Err.refusal c.code.result
    c.args.blocks.now c.args.count.now c.in-Err.ensures.closed.1 c.in-Err.ensures.closed.0
    c.code.ensures.code
