use Rattle.std.proofs.Common.{◌≡◌, rules, length, refl, ◌∙◌, ap}
use Rattle.oct_scan.specs.Codes.{brick_count}
use Rattle.oct_scan.proofs.Settling.{settled, settled_none}
use Rattle.oct_scan.proofs.bricks.merge_update.Goals as goal

pub returns-clause-settled : goal.returns-clause-settled
returns-clause-settled c =
    λ s h held part. settled c.args.bricks.items c.in_ok-bricks.bricks.items s h _ held part
    c.in_ok-bricks.ensures.scanned c.in_ok-bricks.ensures.hits c.in_ok-bricks.ensures.bricks
    c.in_ok-bricks.ensures.ascend refl refl
    (c.count_blocks-need.ensures ∙ ap brick_count c.deref.ensures.value)

pub returns-then-is_empty-clause-settled : goal.returns-then-is_empty-clause-settled
returns-then-is_empty-clause-settled c = λ s h held part.
    (let none : length c.args.bricks.items ≡ 0 = search rules in
    settled_none c.args.bricks.items s h none held part)
