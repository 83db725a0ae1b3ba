use Rattle.std.proofs.Common.{rules}
use Rattle.oct_edit.proofs.Keeps.{end_in_map}
use Rattle.oct_edit.proofs.keep.first_within.Goals as goal

pub overflow_cast-first-2 : goal.overflow_cast-first-2
overflow_cast-first-2 c =
    let most = end_in_map c.args.n c.args.depth c.requires.depth c.requires.number in search rules
