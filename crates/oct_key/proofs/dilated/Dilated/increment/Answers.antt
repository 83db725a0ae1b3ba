use Rattle.std.proofs.Common.{ℕ, ◌≡◌, ◌+◌, ◌<◌, ◌∙◌, ap, arith}
use Rattle.oct_key.specs.Morton.{gathered}
use Rattle.oct_key.proofs.Carries.{dilated_is, is_dilated}
use Rattle.oct_key.proofs.dilated.Dilated.increment.Goals as goal

below : (v n : ℕ) → n + 1 < 65536 → v ≡ n → v + 1 < 65536
below v n l e = omega (arith, l, e)

pub invariant_of-self : goal.invariant_of-self
invariant_of-self c =
    is_dilated c.bits_after-self-inside.result (gathered 16 c.self.inside.bits + 1)
    c.bits_after-self-inside.ensures (below _ _ c.requires c.self.view_is)

pub returns : goal.returns
returns c =
    dilated_is c.bits_after-self-inside.result (gathered 16 c.self.inside.bits + 1)
    c.bits_after-self-inside.ensures (below _ _ c.requires c.self.view_is)
    ∙ ap (λ (n : ℕ). n + 1) c.self.view_is
