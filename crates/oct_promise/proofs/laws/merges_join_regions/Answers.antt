use Rattle.oct_promise.proofs.RegionFiles.{classes_joined, classes_covered, values_joined}
use Rattle.oct_promise.proofs.RegionFiles.{values_covered}
use Rattle.oct_promise.proofs.laws.merges_join_regions.Goals as goal

pub returns-clause-joined : goal.returns-clause-joined
returns-clause-joined c = classes_joined

pub returns-clause-whole : goal.returns-clause-whole
returns-clause-whole c = classes_covered

pub returns-clause-values_joined : goal.returns-clause-values_joined
returns-clause-values_joined c = values_joined

pub returns-clause-values_whole : goal.returns-clause-values_whole
returns-clause-values_whole c = values_covered
