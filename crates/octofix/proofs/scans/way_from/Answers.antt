use Rattle.std.proofs.Common.{refl}
use Rattle.octofix.specs.InMap.{way_from}
use Rattle.octofix.proofs.InMap.{ends_there}
use Rattle.octofix.proofs.scans.way_from.Goals as goal

pub returns-clause-ends : goal.returns-clause-ends
returns-clause-ends c =
    ends_there c.args.there c.args.to (way_from c.args.there c.args.to) refl
