use Rattle.std.proofs.Common.{rules, ap, to_z-of_z, SFits, w32}
use Rattle.oct_odds.specs.Odds.{Odds}
use Rattle.oct_cast.proofs.Floors.{fresh_floor}
use Rattle.oct_cast.proofs.ray.floor_of.Goals as goal

pub returns-then-tidiness : goal.returns-then-tidiness
returns-then-tidiness c =
    let fits : SFits w32 c.odds.result.thr = search rules in
    simp to_z-of_z (fresh_floor c.args.tree.now c.args.ignore_unknown c.odds.result.thr
    (c.tidiness.ensures.so.fresh c.if-tidiness.true) c.if-ignore_unknown.true
    (ap (λ (o : Odds). o.thr) c.odds.ensures))
