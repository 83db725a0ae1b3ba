use Rattle.oct_snap.proofs.TextsBack.{text_back, old_text_back}
use Rattle.oct_snap.proofs.laws.texts_are_accepted.Goals as goal

pub returns-clause-current : goal.returns-clause-current
returns-clause-current c =
    λ o res odds window values ok sound box within. text_back o res odds window values ok sound box
    within

pub returns-clause-old : goal.returns-clause-old
returns-clause-old c = λ o res values ok sound within. old_text_back o res values ok sound within
