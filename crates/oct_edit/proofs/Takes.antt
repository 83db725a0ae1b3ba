-- Which voxels take something from their events, in trees and events that agree on them.
use Rattle.std.proofs.Common.{◌≡◌, sym, subst, ◌∙◌, ap}
use Rattle.std.specs.Prelude.{IsSome, is_some}
use Rattle.oct_key.specs.Voxel.{Voxel}
use Rattle.oct_key.specs.Values.{Values}
use Rattle.oct_odds.specs.Odds.{Odds}
use Rattle.oct_odds.specs.Update.{Value}
use Rattle.oct_odds.specs.declared.event.Event.{Event}
use Rattle.oct_values.specs.Events.{Events}
use Rattle.oct_edit.specs.Saturated.{IsSaturated, TakesFrom}

saturated_alike : (o p : Odds) (event : Event) (v w : Value) → o ≡ p → v ≡ w
    → IsSaturated o event v → IsSaturated p event w
saturated_alike o p event v w odds same h =
    subst (λ (a : Odds). IsSaturated a event w) odds (subst (IsSaturated o event) same h)

-- a voxel that takes something does so wherever its event, its value and the log-odds are the same
pub takes_alike : (o p : Odds) (d e : Events) (v w : Values) (k : Voxel) → o ≡ p → d k ≡ e k
    → v k ≡ w k → TakesFrom o d v k → TakesFrom p e w k
takes_alike o p d e v w k odds event value (taken, is, more) = (
  taken,
  sym event ∙ is,
  λ h. more (saturated_alike p o taken (w k) (v k) (sym odds) (sym value) h),
)

-- it has an event
pub takes_event : (o : Odds) (events : Events) (values : Values) (k : Voxel)
    → TakesFrom o events values k → IsSome (events k)
takes_event o events values k (event, is, more) = ap is_some is
