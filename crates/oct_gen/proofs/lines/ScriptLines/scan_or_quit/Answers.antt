use Rattle.std.proofs.Common.{arith}
use Rattle.oct_gen.proofs.Steps.{quit_step, scan_step, scan_some}
use Rattle.oct_gen.proofs.lines.ScriptLines.scan_or_quit.Goals as goal

pub returns-then-self-eq0-clause-next : goal.returns-then-self-eq0-clause-next
returns-then-self-eq0-clause-next c = quit_step _ _ _ _ c.if-self-eq0.true c.quit_line.ensures

pub returns-clause-next : goal.returns-clause-next
returns-clause-next c =
    scan_step _ _ _ _ _ (omega (arith, c.if-self-eq0.false)) c.scan_line.ensures.text
    c.scan_line.ensures.state

pub returns-clause-some : goal.returns-clause-some
returns-clause-some c = scan_some _ _ c.scan_line.ensures.text
