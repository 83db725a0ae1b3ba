use Rattle.oct_gen.proofs.Steps.{header_step, header_some}
use Rattle.oct_gen.proofs.lines.ScriptLines.begin.Goals as goal

pub returns-clause-next : goal.returns-clause-next
returns-clause-next c = header_step _ _ _ _ _ c.seed.ensures c.header_line.ensures

pub returns-clause-some : goal.returns-clause-some
returns-clause-some c = header_some _ _ _ _ c.header_line.ensures
