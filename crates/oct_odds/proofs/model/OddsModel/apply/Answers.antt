use Rattle.std.proofs.Common.{rules}
use Rattle.oct_odds.specs.Odds.{odds_of}
use Rattle.oct_odds.proofs.Added.{sum_clamped}
use Rattle.oct_odds.proofs.model.OddsModel.apply.Goals as goal

pub returns-in-Add-clause-exact : goal.returns-in-Add-clause-exact
returns-in-Add-clause-exact c =
    sum_clamped (odds_of c.args.self.now) _ _ _ _ _ c.in-Add.is c.unwrap_or.ensures (search rules)
    (search rules) (search rules) c.clamped.ensures.exact (search rules)
