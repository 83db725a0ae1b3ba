use Rattle.std.proofs.Common.{ℕ, ◌-◌, ◌<◌, ◌∙◌, ap, arith}
use Rattle.oct_key.specs.Morton.{gathered}
use Rattle.oct_key.proofs.Interleavings.{gathered_below}
use Rattle.oct_key.proofs.Carries.{dilated_is, is_dilated}
use Rattle.oct_key.proofs.dilated.Dilated.decrement.Goals as goal

below : (bits : ℕ) → gathered 16 bits - 1 < 65536
below bits = (let l = gathered_below 16 bits in omega (arith, l))

pub invariant_of-self : goal.invariant_of-self
invariant_of-self c =
    is_dilated c.bits_before-self-inside.result (gathered 16 c.self.inside.bits - 1)
    c.bits_before-self-inside.ensures (below c.self.inside.bits)

pub returns : goal.returns
returns c =
    dilated_is c.bits_before-self-inside.result (gathered 16 c.self.inside.bits - 1)
    c.bits_before-self-inside.ensures (below c.self.inside.bits)
    ∙ ap (λ (n : ℕ). n - 1) c.self.view_is
