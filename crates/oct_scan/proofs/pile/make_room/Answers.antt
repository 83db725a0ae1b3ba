use Rattle.std.proofs.Common.{◌≡◌, length, subst, rules}
use Rattle.oct_scan.specs.Piled.{AreFew}
use Rattle.oct_scan.proofs.FewBricks.{kept_from, few_merged}
use Rattle.oct_scan.proofs.pile.make_room.Goals as goal

pub returns-in_ok-bricks-clause-scanned : goal.returns-in_ok-bricks-clause-scanned
returns-in_ok-bricks-clause-scanned c =
    let same : c.replace-unmerged.result.items ≡ c.args.bricks.now.items = search rules in
    kept_from (λ b. b.scanned) c.args.bricks.now.items c.replace-unmerged.result.items
    c.in_ok-bricks.field-0.items same c.in_ok-bricks.ensures.scanned

pub returns-in_ok-bricks-clause-hits : goal.returns-in_ok-bricks-clause-hits
returns-in_ok-bricks-clause-hits c =
    let same : c.replace-unmerged.result.items ≡ c.args.bricks.now.items = search rules in
    kept_from (λ b. b.hits) c.args.bricks.now.items c.replace-unmerged.result.items
    c.in_ok-bricks.field-0.items same c.in_ok-bricks.ensures.hits

pub returns-in_ok-bricks-clause-few : goal.returns-in_ok-bricks-clause-few
returns-in_ok-bricks-clause-few c =
    let long : length c.in_ok-bricks.field-0.items ≡ c.len-then-len-saturating_add.result =
    search rules in
    subst (λ n. AreFew n c.in_ok-bricks.field-0.items) long
    (few_merged c.in_ok-bricks.field-0.items c.in_ok-bricks.ensures.ascend)
