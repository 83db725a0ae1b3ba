use Rattle.std.proofs.Common.{bit_and}
use Rattle.oct_ray.specs.Near.{AreNow}
use Rattle.oct_ray.proofs.NearWalks.{are_now, x_now, y_now, z_now}
use Rattle.oct_ray.proofs.near.NearAxes.cross_next.Goals as goal
use Rattle.oct_ray.proofs.near.NearAxes.cross_next.Goals.{After-not_after-else-self-lt-TOGETHER-2-2}

pub cross-requires-clause-now : goal.cross-requires-clause-now
cross-requires-clause-now c =
    x_now c.args.self.now c.if-self-gt-TOGETHER.true c.if-self-gt-TOGETHER-2.true

pub cross-requires-clause-stay : goal.cross-requires-clause-stay
cross-requires-clause-stay c =
    c.requires.stay _ _ _
    (x_now c.args.self.now c.if-self-gt-TOGETHER.true c.if-self-gt-TOGETHER-2.true)

pub cross-requires-then-self-gt-TOGETHER-3-clause-now :
    goal.cross-requires-then-self-gt-TOGETHER-3-clause-now
cross-requires-then-self-gt-TOGETHER-3-clause-now c =
    y_now c.args.self.now c.if-self-lt-TOGETHER.true c.if-self-gt-TOGETHER-3.true

pub cross-requires-then-self-gt-TOGETHER-3-clause-stay :
    goal.cross-requires-then-self-gt-TOGETHER-3-clause-stay
cross-requires-then-self-gt-TOGETHER-3-clause-stay c =
    c.requires.stay _ _ _
    (y_now c.args.self.now c.if-self-lt-TOGETHER.true c.if-self-gt-TOGETHER-3.true)

pub cross-requires-then-self-lt-TOGETHER-3-clause-now :
    goal.cross-requires-then-self-lt-TOGETHER-3-clause-now
cross-requires-then-self-lt-TOGETHER-3-clause-now c =
    z_now c.args.self.now c.if-self-lt-TOGETHER-2.true c.if-self-lt-TOGETHER-3.true

pub cross-requires-then-self-lt-TOGETHER-3-clause-stay :
    goal.cross-requires-then-self-lt-TOGETHER-3-clause-stay
cross-requires-then-self-lt-TOGETHER-3-clause-stay c =
    c.requires.stay _ _ _
    (z_now c.args.self.now c.if-self-lt-TOGETHER-2.true c.if-self-lt-TOGETHER-3.true)

-- which axes cross next
now : (c : After-not_after-else-self-lt-TOGETHER-2-2) → AreNow c.args.self.now
    (bit_and c.not_before.result c.not_before-else-self-lt-TOGETHER-2.result)
    (bit_and c.not_before-else-self-lt-TOGETHER-2-2.result c.not_after.result)
    (bit_and c.not_after-else-self-lt-TOGETHER-2.result
    c.not_after-else-self-lt-TOGETHER-2-2.result)
now c =
    are_now c.args.self.now _ _ _ _ _ _ c.not_before.ensures
    c.not_before-else-self-lt-TOGETHER-2.ensures c.not_before-else-self-lt-TOGETHER-2-2.ensures
    c.not_after.ensures c.not_after-else-self-lt-TOGETHER-2.ensures
    c.not_after-else-self-lt-TOGETHER-2-2.ensures

pub cross-requires-else-self-lt-TOGETHER-2-clause-now :
    goal.cross-requires-else-self-lt-TOGETHER-2-clause-now
cross-requires-else-self-lt-TOGETHER-2-clause-now c =
    let at = goal.at.cross-requires-else-self-lt-TOGETHER-2-clause-now c in
    now at.After-not_after-else-self-lt-TOGETHER-2-2

pub cross-requires-else-self-lt-TOGETHER-2-clause-stay :
    goal.cross-requires-else-self-lt-TOGETHER-2-clause-stay
cross-requires-else-self-lt-TOGETHER-2-clause-stay c =
    let at = goal.at.cross-requires-else-self-lt-TOGETHER-2-clause-stay c in
    c.requires.stay _ _ _ (now at.After-not_after-else-self-lt-TOGETHER-2-2)

pub returns-else-self-lt-TOGETHER-2 : goal.returns-else-self-lt-TOGETHER-2
returns-else-self-lt-TOGETHER-2 c = record {
  x_now = _;
  y_now = _;
  z_now = _;
  now = now (goal.at.returns-else-self-lt-TOGETHER-2 c).After-not_after-else-self-lt-TOGETHER-2-2;
  step = c.cross-else-self-lt-TOGETHER-2.ensures;
}
