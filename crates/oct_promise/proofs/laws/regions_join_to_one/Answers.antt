use Rattle.oct_promise.proofs.RegionFiles.{merges_done, regions_join}
use Rattle.oct_promise.proofs.laws.regions_join_to_one.Goals as goal

pub returns-clause-done : goal.returns-clause-done
returns-clause-done c = merges_done _ c.keep.ensures.set_up

pub returns-clause-joined : goal.returns-clause-joined
returns-clause-joined c = regions_join _ c.keep.ensures.set_up
