use Rattle.std.proofs.Common.{refl}
use Rattle.oct_gen.specs.Lines.{text_from}
use Rattle.oct_gen.proofs.lines.ScriptLines.next_line.Goals as goal

pub returns-in-Over-clause-none : goal.returns-in-Over-clause-none
unfolding text_from
returns-in-Over-clause-none c = rw c.in-Over.is (refl, refl)
