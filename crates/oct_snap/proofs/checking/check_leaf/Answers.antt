use Rattle.std.proofs.Common.{◌≡◌, ◌<◌, arith, length}
use Rattle.std.specs.Prelude.{slice_index}
use Rattle.oct_odds.specs.Odds.{odds_of}
use Rattle.oct_snap.proofs.Checks.{leaf_unknown}
use Rattle.oct_snap.proofs.checking.check_leaf.Goals as goal

pub returns : goal.returns
returns c =
    let inside : c.args.at < length c.args.bytes.now =
    (let before = c.requires in let end = c.if-at-bytes.false in grind (arith, before, end)) in
    let first : slice_index c.args.bytes.now c.args.at ≡ 0 =
    (let one = c.if-bytes-at-eq-VALUE.false in let more = c.if-bytes-at-gt-VALUE.false in
    grind (arith, one, more)) in
    leaf_unknown (odds_of c.args.odds.now) c.args.bytes.now c.args.at inside first
