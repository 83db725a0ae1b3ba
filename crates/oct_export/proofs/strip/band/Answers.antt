use Rattle.std.proofs.Common.{sym, arith}
use Rattle.oct_export.proofs.strip.band.Goals as goal

pub returns : goal.returns
returns c = sym (c.strip_at.ensures.class c.args.x (omega arith) c.strip_at.ensures.reach)
