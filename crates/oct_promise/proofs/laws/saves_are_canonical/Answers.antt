use Rattle.oct_promise.proofs.SameFiles.{files_alike, files_least}
use Rattle.oct_promise.proofs.laws.saves_are_canonical.Goals as goal

pub returns-clause-equal : goal.returns-clause-equal
returns-clause-equal c = files_alike _ c.keep.ensures.set_up

pub returns-clause-least : goal.returns-clause-least
returns-clause-least c = files_least _ c.keep.ensures.set_up
