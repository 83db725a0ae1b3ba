use Rattle.std.proofs.Common.{ℕ, ◌≡◌, ◌+◌, ◌-◌, ◌<◌, ◌∙◌, Bool, true, if◌then◌else◌, ap}
use Rattle.oct_key.specs.Morton.{gathered}
use Rattle.oct_key.proofs.Interleavings.{gathered_below}
use Rattle.oct_key.proofs.Carries.{dilated_is, is_dilated, stepped_below}
use Rattle.oct_key.proofs.dilated.Dilated.step.Goals as goal

below : (rises : Bool) (bits now v : ℕ) → gathered 16 bits ≡ v → (rises ≡ true → v + now < 65536)
    → (if rises then gathered 16 bits + now else gathered 16 bits - now) < 65536
below rises bits now v e up =
    stepped_below rises (gathered 16 bits) now (gathered_below 16 bits) (λ r. rw e (up r))

pub bits_stepped-self-inside-requires-clause-down :
    goal.bits_stepped-self-inside-requires-clause-down
bits_stepped-self-inside-requires-clause-down c = λ e. rw c.self.view_is (c.requires.down e)

pub invariant_of-self : goal.invariant_of-self
invariant_of-self c =
    is_dilated c.bits_stepped-self-inside.result _ c.bits_stepped-self-inside.ensures
    (below c.args.rises c.self.inside.bits c.args.now _ c.self.view_is c.requires.up)

pub returns : goal.returns
returns c =
    dilated_is c.bits_stepped-self-inside.result _ c.bits_stepped-self-inside.ensures
    (below c.args.rises c.self.inside.bits c.args.now _ c.self.view_is c.requires.up)
    ∙ ap (λ (n : ℕ). if c.args.rises then n + c.args.now else n - c.args.now) c.self.view_is
