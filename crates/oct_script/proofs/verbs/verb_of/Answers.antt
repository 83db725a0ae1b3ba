use Rattle.std.proofs.Common.{refl, Some}
use Rattle.oct_script.proofs.FirstWords.{found}
use Rattle.oct_script.proofs.verbs.verb_of.Goals as goal

pub returns-in_err-row : goal.returns-in_err-row
returns-in_err-row c =
    found _ _ _ _ _ c.first_words.ensures c.find_row.ensures
    (rw (c.in_err-row.was, c.from_residual.ensures) refl)

pub returns : goal.returns
returns c =
    found _ _ _ _ (Some c.in_ok-row.row.now.verb) c.first_words.ensures c.find_row.ensures
    (rw c.in_ok-row.was refl)
