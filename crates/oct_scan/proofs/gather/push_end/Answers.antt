use Rattle.oct_scan.proofs.Holding.{end_scanned, end_hits, none_hit, around_below}
use Rattle.oct_scan.proofs.gather.push_end.Goals as goal

pub push-requires-clause-brick : goal.push-requires-clause-brick
push-requires-clause-brick c =
    c.with_hit.ensures.brick
    (around_below c.around.result.code c.args.end c.around.ensures.code c.requires.end)
    (none_hit c.around.result c.around.ensures.hits)

pub returns-in_ok-push-clause-scanned : goal.returns-in_ok-push-clause-scanned
returns-in_ok-push-clause-scanned c =
    end_scanned c.args.bricks.now c.push.new.self c.around.result c.with_hit.result
    c.args.end c.args.is_mute c.if-not-is_mute.true c.in_ok-push.ensures.scanned
    c.around.ensures.scanned c.with_hit.ensures.scanned

pub returns-in_ok-push-clause-hits : goal.returns-in_ok-push-clause-hits
returns-in_ok-push-clause-hits c =
    end_hits c.args.bricks.now c.push.new.self c.around.result c.with_hit.result
    c.args.end c.args.is_mute c.if-not-is_mute.true c.in_ok-push.ensures.hits c.around.ensures.hits
    c.with_hit.ensures.hits
