use Rattle.std.proofs.Common.{Err, refl}
use Rattle.oct_file_tasks.specs.OverStore.{found_reply}
use Rattle.oct_file_tasks.proofs.PairTexts.{some_line}
use Rattle.oct_file_tasks.proofs.merging.answer.Goals as goal

pub returns-in-Ok-clause-ends : goal.returns-in-Ok-clause-ends
returns-in-Ok-clause-ends g c = rw c.in-Ok.is c.answer_pair.ensures.ends

pub returns-in-Err-clause-ends : goal.returns-in-Err-clause-ends
returns-in-Err-clause-ends g c = rw c.in-Err.is
    (c.send.ensures.ends (found_reply c.args.asks (Err c.in-Err.reason)) c.no_pair_text.ensures
    (some_line c.in-Err.reason) refl)
