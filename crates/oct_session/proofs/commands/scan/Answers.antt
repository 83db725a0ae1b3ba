use Rattle.std.proofs.Common.{sym, ap, Err}
use Rattle.oct_scan.specs.Beam.{sighting_of}
use Rattle.oct_session.specs.Standing.{with_reply}
use Rattle.oct_session.proofs.Replying.{scan_done, scan_refused}
use Rattle.oct_session.proofs.RunningOut.{scan_runs_out}
use Rattle.oct_session.proofs.commands.scan.Goals as goal

pub returns-in-Ok-scan-clause-scanned : goal.returns-in-Ok-scan-clause-scanned
returns-in-Ok-scan-clause-scanned c =
    let edited = c.in-Ok-scan.ensures.edited in
    scan_done c.args.map.now c.scan.new.self c.args.pending (sighting_of c.in-Ok.scan)
    c.is_lazy-lazy.result c.in-Ok-scan.done
    (sym c.in-Ok.ensures.zero) c.in-Ok.ensures.sighting c.is_lazy-lazy.ensures
    c.in-Ok-scan.ensures.answer edited.values edited.stale
    (λ eager. (edited.eager eager).pruned)
    (record { ground = c.scan.ensures.setup; mark = c.scan.ensures.mark })

pub returns-clause-scanned : goal.returns-clause-scanned
returns-clause-scanned c =
    let refused = c.in-Err.ensures.refused in
    scan_refused (with_reply c.refuse.result c.refuse.new.reply) c.args.map.now c.scan.new.self
    c.args.pending (sighting_of c.in-Ok.scan) c.in-Err.fault
    (sym c.in-Ok.ensures.zero) c.in-Ok.ensures.sighting c.refuse.ensures.ok c.refuse.ensures.some
    c.in-Err.ensures.answer refused.values refused.stale
    refused.pruned (record { ground = c.scan.ensures.setup; mark = c.scan.ensures.mark })

pub returns-clause-memory : goal.returns-clause-memory
returns-clause-memory c =
    scan_runs_out c.refuse.result c.args.map.now c.args.pending (sighting_of c.in-Ok.scan)
    c.in-Err.fault (sym c.in-Ok.ensures.zero) c.in-Ok.ensures.sighting c.refuse.ensures.err
    (λ memory. c.in-Err.ensures.memory (ap Err memory))
