use Rattle.std.proofs.Common.{rules}
use Rattle.oct_scan.specs.Beam.{sighting_of}
use Rattle.oct_scan.proofs.Faults.{no_fault}
use Rattle.oct_scan.proofs.judge.judged_beams.Goals as goal

pub returns-in-Err-clause-memory : goal.returns-in-Err-clause-memory
returns-in-Err-clause-memory c e = (
  no_fault c.args.res c.args.most (sighting_of c.args.scan.now) (search rules)
      c.in_ok-judge-in-Err.ensures.inside c.in_ok-judge-in-Err.ensures.within,
  c.in-Err.ensures.memory (search (rules, e)),
)
