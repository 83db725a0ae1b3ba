use Rattle.oct_promise.proofs.MarksLive.{marked_exactly}
use Rattle.oct_promise.proofs.laws.marks_live.Goals as goal

pub returns : goal.returns
returns c = λ o files lines classes. marked_exactly o files classes lines
