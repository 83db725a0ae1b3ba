use Rattle.std.proofs.Common.{rules, ◌≡◌, ◌+◌, ◌≤◌, true, ◌∙◌, ap, sym, arith, length}
use Rattle.std.proofs.lemmas.Int.{to_z-of_z}
use mir.Val.{SFits}
use mir.Syntax.{w32}
use Rattle.oct_odds.specs.Odds.{odds_of}
use Rattle.oct_snap.specs.Reading.{is_within}
use Rattle.oct_snap.proofs.Checks.{value_ends, value_good}
use Rattle.oct_snap.proofs.checking.check_value.Goals as goal

pub returns-then-bytes-at-lt5 : goal.returns-then-bytes-at-lt5
returns-then-bytes-at-lt5 c =
    value_ends (odds_of c.args.odds.now) c.args.bytes.now c.args.at c.requires
    c.if-bytes-at-lt5.true

pub returns : goal.returns
returns c =
    let fits : SFits w32 c.number_at-value.result = search rules in
    let test : c.is_within.result ≡ true = search rules in
    let many = c.if-bytes-at-lt5.false in
    let some = c.requires in
    let inside : c.args.at + 5 ≤ length c.args.bytes.now = omega (arith, many, some) in
    value_good (odds_of c.args.odds.now) c.args.bytes.now c.args.at c.number_at-value.result _
    inside c.number_at-value.ensures
    (ap (is_within (odds_of c.args.odds.now)) (sym (to_z-of_z w32 c.number_at-value.result fits))
    ∙ sym c.is_within.ensures ∙ test)
    (to_z-of_z w32 c.number_at-value.result fits)
