use Rattle.oct_promise.proofs.EditsDone.{refresh_done, prune_done}
use Rattle.oct_promise.proofs.laws.upkeep_changes_no_value.Goals as goal

pub returns-clause-refresh : goal.returns-clause-refresh
returns-clause-refresh c = refresh_done

pub returns-clause-prune : goal.returns-clause-prune
returns-clause-prune c = prune_done
