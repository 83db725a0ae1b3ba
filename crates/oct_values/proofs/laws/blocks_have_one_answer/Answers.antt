use Rattle.oct_values.proofs.Largest.{answer_exactly}
use Rattle.oct_values.proofs.laws.blocks_have_one_answer.Goals as goal

pub returns : goal.returns
returns c = λ values b answer ok. answer_exactly values b answer ok
