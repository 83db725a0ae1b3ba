use Rattle.oct_promise.proofs.Written.{begun}
use Rattle.oct_promise.proofs.laws.faults_leave_a_prefix.Goals as goal

pub returns : goal.returns
returns c = begun
