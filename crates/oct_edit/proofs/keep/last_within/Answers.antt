use Rattle.std.proofs.Common.{rules}
use Rattle.oct_edit.proofs.Keeps.{end_in_map}
use Rattle.oct_edit.proofs.keep.last_within.Goals as goal

pub overflow_cast-last-2 : goal.overflow_cast-last-2
overflow_cast-last-2 c =
    let most = end_in_map c.args.n c.args.depth c.requires.depth c.requires.number in search rules
