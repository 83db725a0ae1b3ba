use Rattle.std.proofs.Common.{refl}
use Rattle.oct_file_tasks.specs.Refusals.{refused}
use Rattle.oct_file_tasks.proofs.PairTexts.{some_refusal}
use Rattle.oct_file_tasks.proofs.sending.send_refusal.Goals as goal

pub returns-clause-ends : goal.returns-clause-ends
returns-clause-ends g c =
    c.send.ensures.ends (refused c.args.refusal) c.line_of.ensures (some_refusal c.args.refusal)
    refl
