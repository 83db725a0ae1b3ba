use Rattle.oct_script.proofs.NameBytes.{front_text}
use Rattle.oct_script.proofs.name.Name.as_str.Goals as goal

pub returns-in-Err : goal.returns-in-Err
returns-in-Err c =
    absurd (c.in-Err.ensures.cases.0
    (front_text _ _ _ c.split_at.ensures.front c.count_kept.ensures.count c.self.invariant.1))
