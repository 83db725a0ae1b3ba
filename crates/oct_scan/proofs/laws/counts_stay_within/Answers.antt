use Rattle.oct_scan.proofs.MetCounts.{hits_few, frees_few}
use Rattle.oct_scan.proofs.laws.counts_stay_within.Goals as goal

pub returns-clause-hits : goal.returns-clause-hits
returns-clause-hits c = hits_few

pub returns-clause-frees : goal.returns-clause-frees
returns-clause-frees c = frees_few
