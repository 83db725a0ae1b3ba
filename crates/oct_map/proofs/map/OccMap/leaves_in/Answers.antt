use Rattle.std.proofs.Common.{◌≡◌, List, [], Ok, Err, refl, ap, subst}
use Rattle.std.specs.Prelude.{Result, IsOk}
use Rattle.oct_odds.specs.Odds.{Odds}
use Rattle.oct_query.specs.Shown.{Shown}
use Rattle.oct_query.specs.declared.sought.Sought.TheVariants.{Known}
use Rattle.oct_query.proofs.LeafBoxes.{all_known}
use Rattle.oct_map.specs.Answers.{IsAnswerOrMemory}
use Rattle.oct_map.specs.Leaves.{leaves_in_answer, sought_answer}
use Rattle.oct_map.specs.Map.{ground_of, values_of}
use Rattle.oct_map.specs.declared.fault.MapFault.{MapFault}
use Rattle.oct_map.specs.declared.fault.MapFault.TheVariants.{Memory}
use Rattle.oct_map.proofs.map.OccMap.leaves_in.Goals as goal

-- where known ones are sought, all leaves of an answer are
all_sought : (odds : Odds) (answer : Result (List Shown) MapFault)
    → sought_answer odds Known answer ≡ answer
all_sought odds (Ok leaves) = ap Ok (all_known odds leaves)
all_sought odds (Err fault) = refl

pub returns-clause-answer : goal.returns-clause-answer
returns-clause-answer c =
    let m = c.args.self.now in
    subst (λ answer. IsAnswerOrMemory answer c.leaves_of_in.result)
    (all_sought m.tree.odds
    (leaves_in_answer (ground_of m) (values_of m) c.args.lo c.args.hi))
    c.leaves_of_in.ensures.answer

pub returns-clause-memory : goal.returns-clause-memory
returns-clause-memory c =
    let m = c.args.self.now in
    subst (λ (answer : Result (List Shown) MapFault). c.leaves_of_in.result ≡ Err Memory
    → IsOk answer × (answer ≡ Ok [] → ⊥))
    (all_sought m.tree.odds
    (leaves_in_answer (ground_of m) (values_of m) c.args.lo c.args.hi))
    c.leaves_of_in.ensures.memory
