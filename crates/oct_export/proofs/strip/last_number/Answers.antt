use Rattle.std.proofs.Common.{rules}
use Rattle.oct_export.proofs.Columns.{end_fits, some_side}
use Rattle.oct_export.proofs.strip.last_number.Goals as goal

pub overflow_cast-result : goal.overflow_cast-result
overflow_cast-result c =
    let most = end_fits c.args.depth c.args.number c.requires.depth c.requires.number in
    let some = some_side c.args.depth c.args.number in
    search rules
