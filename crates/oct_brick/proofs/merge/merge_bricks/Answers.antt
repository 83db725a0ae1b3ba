use Rattle.std.proofs.Common.{ℕ, List, ◌↔◌, Contains, IfOk, subst}
use Rattle.oct_brick.specs.declared.brick.Brick.{Brick}
use Rattle.oct_brick.specs.Bricks.{scanned_codes, hit_codes}
use Rattle.oct_brick.proofs.merge.merge_bricks.Goals as goal

pub returns-clause-scanned : goal.returns-clause-scanned
returns-clause-scanned c =
    subst (λ (bs : List Brick). IfOk c.merge_by_keys.result (λ merged. (code : ℕ)
    → Contains (scanned_codes bs) code ↔ Contains (scanned_codes merged.items) code))
    c.deref-2.ensures.value c.merge_by_keys.ensures.scanned

pub returns-clause-hits : goal.returns-clause-hits
returns-clause-hits c =
    subst (λ (bs : List Brick). IfOk c.merge_by_keys.result (λ merged. (code : ℕ)
    → Contains (hit_codes bs) code ↔ Contains (hit_codes merged.items) code))
    c.deref-2.ensures.value c.merge_by_keys.ensures.hits
