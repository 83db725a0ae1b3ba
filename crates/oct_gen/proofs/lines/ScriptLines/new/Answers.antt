use Rattle.std.proofs.Common.{ap}
use Rattle.oct_gen.specs.Script.{script_of}
use Rattle.oct_gen.specs.Lines.{text_from}
use Rattle.oct_gen.proofs.lines.ScriptLines.new.Goals as goal

pub returns : goal.returns
unfolding text_from
returns c = ap (λ state. script_of state c.args.scans c.args.points) c.new.ensures
