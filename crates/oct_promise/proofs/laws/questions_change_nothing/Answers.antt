use Rattle.oct_promise.proofs.Questions.{question_rests, counts_prunes}
use Rattle.oct_promise.proofs.laws.questions_change_nothing.Goals as goal

pub returns-clause-asked : goal.returns-clause-asked
returns-clause-asked c = λ o files bytes before line question asks is.
    question_rests o files bytes before line question asks is

pub returns-clause-counts : goal.returns-clause-counts
returns-clause-counts c = counts_prunes
