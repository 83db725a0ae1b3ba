use Rattle.std.proofs.Common.{◌≡◌, rules}
use Rattle.oct_odds.specs.Odds.{odds_of}
use Rattle.octofix.proofs.Models.{good_model}
use Rattle.octofix.specs.Settings.{odds_from}
use Rattle.octofix.proofs.types.LogOdds.model.Goals as goal

pub returns-clause-none_bad : goal.returns-clause-none_bad
returns-clause-none_bad c =
    let told : odds_of c.in_ok-new.field-0 ≡ odds_from c.args.self = search rules in
    good_model c.new.result c.in_ok-new.field-0 (odds_of c.in_ok-new.field-0) _
    (odds_from c.args.self) c.in_ok-new.was c.new.ensures.none_bad c.in_ok-new.ensures.ok told
