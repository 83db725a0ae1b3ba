use Rattle.oct_session.proofs.Replying.{counts_done}
use Rattle.oct_session.proofs.commands.count.Goals as goal

pub returns : goal.returns
returns c =
    let counted = c.counts-counts.ensures in
    counts_done c.args.map.now c.counts-counts.new.self c.counts-counts.result counted.groups
    counted.nodes counted.values counted.stale counted.pruned
    (record { ground = counted.setup; mark = counted.mark })
