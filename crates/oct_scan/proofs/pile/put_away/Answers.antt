use Rattle.std.proofs.Common.{◌<◌, ◌^◌, rules}
use Rattle.oct_scan.proofs.Holding.{pushed_unhit, current_brick}
use Rattle.oct_scan.proofs.pile.put_away.Goals as goal

pub push-requires-clause-brick : goal.push-requires-clause-brick
push-requires-clause-brick c =
    let fits : c.args.brick.scanned < 2 ^ 64 = search rules in
    current_brick c.args.brick c.requires.current fits c.if-brick-ne0.true

pub returns-in_ok-push-clause-scanned : goal.returns-in_ok-push-clause-scanned
returns-in_ok-push-clause-scanned c = c.in_ok-push.ensures.scanned

pub returns-in_ok-push-clause-hits : goal.returns-in_ok-push-clause-hits
returns-in_ok-push-clause-hits c =
    pushed_unhit c.args.pile.now c.push.new.self c.args.brick c.in_ok-push.ensures.hits
    c.requires.current.unhit
