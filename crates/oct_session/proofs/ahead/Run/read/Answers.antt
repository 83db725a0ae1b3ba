use Rattle.oct_session.proofs.EditRuns.{run_none}
use Rattle.oct_session.proofs.ahead.Run.read.Goals as goal

pub reading-init : goal.reading-init
reading-init c = run_none _ _ c.args.piece.now c.args.self.now c.requires.empty.0 c.requires.empty.1
