use Rattle.oct_odds.specs.Odds.{odds_of}
use Rattle.oct_odds.specs.Update.{IsWithin}
use Rattle.oct_key_tests.proofs.odds.repeat.Given as goal

-- the value so far lies within the bounds
abbrev pub invariant-loop-want : goal.invariant-loop-want
invariant-loop-want g l = IsWithin (odds_of l.model) l.value
