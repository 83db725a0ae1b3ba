use Rattle.std.proofs.Common.{◌≡◌, ◌≢◌, ℕ, Some, sym, subst, refl, inl, inr, ◌==◌}
use Rattle.std.specs.Prelude.{if◌then◌else◌}
use Rattle.std.proofs.lemmas.Bool.{cases_Bool, eqb-true}
use Rattle.oct_key.specs.Block.{block_of}
use Rattle.oct_odds.specs.declared.event.Event.{Event}
use Rattle.oct_values.specs.Events.{event_at}
use Rattle.oct_edit.specs.Steps.{IsTouched}
use Rattle.oct_edit.proofs.scan.BrickUpdate.apply_bit.Goals as goal

set_bit : (n : ℕ) (miss hit : Event) → n ≢ 0 → (if n == 0 then miss else hit) ≡ hit
set_bit n miss hit some = elim (cases_Bool (n == 0)) [
  | inl e ↦ absurd (some (eqb-true n 0 e))
  | inr e ↦ rw e refl
]

clear_bit : (n : ℕ) (miss hit : Event) → n ≡ 0 → (if n == 0 then miss else hit) ≡ miss
clear_bit n miss hit none = rw none refl

pub returns-then-self-bit-ne0-clause-touched : goal.returns-then-self-bit-ne0-clause-touched
returns-then-self-bit-ne0-clause-touched c k lazy v e =
    subst (λ event. IsTouched c.args.tree.now c.apply_at.new.tree (block_of 16 k)
    (event_at (Some k) event) lazy)
    (sym (set_bit _ c.args.self.now.miss c.args.self.now.hit c.if-self-bit-ne0.true))
    (c.apply_at.ensures.touched k lazy v e)

pub returns-else-self-bit-ne0-clause-touched : goal.returns-else-self-bit-ne0-clause-touched
returns-else-self-bit-ne0-clause-touched c k lazy v e =
    subst (λ event. IsTouched c.args.tree.now c.apply_at-else-self-bit-ne0.new.tree (block_of 16 k)
    (event_at (Some k) event) lazy)
    (sym (clear_bit _ c.args.self.now.miss c.args.self.now.hit c.if-self-bit-ne0.false))
    (c.apply_at-else-self-bit-ne0.ensures.touched k lazy v e)
