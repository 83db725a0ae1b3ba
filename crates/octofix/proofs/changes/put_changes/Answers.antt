use Rattle.octofix.proofs.Fronts.{front_more, front_whole}
use Rattle.octofix.specs.Changes.{change_told}
use Rattle.octofix.proofs.changes.put_changes.Goals as goal

pub loop-i-preserved : goal.loop-i-preserved
loop-i-preserved c = front_more change_told c.args.found.now c.args.changes.now c.loop-i.changes
    c.loop-i.i _ c.of.result c.loop-i-test.true c.if-changes-found.false c.loop-i.invariant
    c.of.ensures

pub returns-clause-changes : goal.returns-clause-changes
returns-clause-changes c = front_whole change_told c.args.found.now c.args.changes.now
    c.loop-i.changes c.loop-i.i c.loop-i-test.false c.if-changes-found.false c.loop-i.invariant
