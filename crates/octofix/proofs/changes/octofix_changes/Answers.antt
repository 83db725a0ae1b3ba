use Rattle.octofix.proofs.Tellings.{closed_told}
use Rattle.octofix.specs.Changes.{HasNotes, changes_in}
use Rattle.octofix.proofs.changes.octofix_changes.Goals as goal

pub returns-in-Err-clause-told : goal.returns-in-Err-clause-told
returns-in-Err-clause-told c =
    let handle = c.args.handle.now.slot.map in
    closed_told handle changes_in (HasNotes handle) c.in-Err.refusal c.code.result
    c.args.changed.now c.args.count.now c.in-Err.ensures.closed.1 c.in-Err.ensures.closed.0
    c.code.ensures.code
