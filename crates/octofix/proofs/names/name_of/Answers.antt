use Rattle.std.proofs.Common.{refl, Some}
use Rattle.octofix.proofs.Rows.{found}
use Rattle.octofix.proofs.names.name_of.Goals as goal

pub returns-in_err-row : goal.returns-in_err-row
returns-in_err-row c =
    found _ _ _ _ c.table.ensures c.find_row.ensures
    (rw (c.in_err-row.was, c.from_residual.ensures) refl)

pub returns : goal.returns
returns c =
    found _ _ _ (Some c.in_ok-row.row.now.text.now) c.table.ensures c.find_row.ensures
    (rw c.in_ok-row.was refl)
