use Rattle.std.proofs.Common.{arith, ◌∙◌}
use Rattle.oct_key.proofs.Faces.{key_at-Holds, holds_if_some, outside_if_none}
use Rattle.oct_key.proofs.resolution.Res.key_of.Goals as goal

pub returns-clause-holds : goal.returns-clause-holds
returns-clause-holds c =
    rw (← c.self.view_is) (holds_if_some _ _ _ (omega (arith, c.self.invariant)) c.key_at.ensures)

pub returns-clause-only : goal.returns-clause-only
returns-clause-only c =
    rw (← c.self.view_is)
    (λ k in_map h. c.key_at.ensures
    ∙ key_at-Holds _ _ k (omega (arith, c.self.invariant)) in_map h)

pub returns-clause-outside : goal.returns-clause-outside
returns-clause-outside c =
    rw (← c.self.view_is) (outside_if_none _ _ _ (omega (arith, c.self.invariant)) c.key_at.ensures)
