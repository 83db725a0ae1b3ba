use Rattle.std.proofs.Common.{◌≡◌, ℕ, List, IfOk, subst}
use Rattle.oct_file_tasks.proofs.Merges.{rows_told}
use Rattle.oct_file_tasks.proofs.merging.table_of.Goals as goal

pub returns : goal.returns
returns c =
    subst (λ (rows : List ℕ). IfOk c.table_text.result (λ text. text.items ≡ rows))
    (rows_told c.args.pair.now c.args.window c.lo.result c.hi.result
    c.tabulate-table.result.counts c.tabulate-table.ensures.exact c.lo.ensures c.hi.ensures)
    c.table_text.ensures
