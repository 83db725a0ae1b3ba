use Rattle.std.proofs.Common.{rules, ◌≡◌, ◌≤◌, false, arith, length}
use Rattle.oct_odds.specs.Odds.{odds_of}
use Rattle.oct_snap.proofs.Fields.{res_there}
use Rattle.oct_snap.proofs.head.read_res.Goals as goal

pub returns-then-not-old : goal.returns-then-not-old
returns-then-not-old c =
    let many : 16 ≤ length c.args.bytes.now =
    (let few = c.if-bytes-lt16.false in omega (arith, few)) in
    let new : c.args.old ≡ false = search rules in
    res_there (odds_of c.args.odds) c.args.bytes.now c.args.old false c.in-Some.res
    c.read_odds.result many c.in-Some.ensures.some new
    (c.read_odds.ensures (odds_of c.args.odds))
