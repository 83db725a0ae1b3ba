use Rattle.std.proofs.Common.{arith}
use Rattle.oct_gen.proofs.Steps.{end_step, point_step, point_some}
use Rattle.oct_gen.proofs.lines.ScriptLines.point_or_end.Goals as goal

pub returns-then-left-eq0-clause-next : goal.returns-then-left-eq0-clause-next
returns-then-left-eq0-clause-next c = end_step _ _ _ _ _ c.if-left-eq0.true c.end_line.ensures

pub returns-clause-next : goal.returns-clause-next
returns-clause-next c =
    point_step _ _ _ _ _ _ (omega (arith, c.if-left-eq0.false)) c.point_line.ensures.text
    c.point_line.ensures.state

pub returns-clause-some : goal.returns-clause-some
returns-clause-some c = point_some _ _ c.point_line.ensures.text
