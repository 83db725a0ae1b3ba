use Rattle.std.proofs.Common.{arith, ◌^◌}
use Rattle.oct_num.proofs.Roots.{least_above, least_at}
use Rattle.oct_num.proofs.root.ceil_sqrt.Goals as goal
use Rattle.oct_num.proofs.root.ceil_sqrt.Goals.{then-floor-n, else-floor-n}

pub returns-clause-least : goal.returns-clause-least
returns-clause-least c = elim c.if-floor-n.branch [
  | then-floor-n w ↦ λ root h. rw w.root-is
      (least_above c.args.n c.isqrt-floor.result root w.if-floor-n.true h)
  | else-floor-n w ↦ λ root h. rw w.root-is
      (least_at c.args.n c.isqrt-floor.result root c.isqrt-floor.ensures.square_le h)
]

pub returns-clause-reach : goal.returns-clause-reach
returns-clause-reach c = returns-clause-least c (2 ^ 56) (omega (arith, c.requires))
