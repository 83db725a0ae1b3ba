-- What no command of a session changes.
use Rattle.std.proofs.Common.{◌≡◌, [], ◌∷◌, refl, ◌∙◌}
use Rattle.oct_map.specs.Ground.{Ground}
use Rattle.oct_session.specs.History.{History, State, Action, Edited, Boxed, Scanned, Refreshed}
use Rattle.oct_session.specs.History.{Pruned, Cleared, Likened, Replaced, Restored, Tracked}
use Rattle.oct_session.specs.History.{Untracked, Limited, Unlimited, after, after_all, start_state}
use Rattle.oct_session.specs.History.{state_after}
use Rattle.oct_session.specs.Setup.{Setup, ground_in}

-- the second has the resolution and the limits of the first
pub record HasLimitsOf (g h : Ground) : Type 0 where
  pub res : h.res ≡ g.res
  pub groups : h.max_groups ≡ g.max_groups
  pub cells : h.max_cells ≡ g.max_cells

same_limits : (g : Ground) → HasLimitsOf g g
same_limits g = record { res = refl; groups = refl; cells = refl }

action_limits : (s : State) (a : Action) → HasLimitsOf s.base (after s a).base
action_limits s (Edited p e lazy) = same_limits s.base
action_limits s (Boxed lo hi e) = same_limits s.base
action_limits s (Scanned seen lazy) = same_limits s.base
action_limits s Refreshed = same_limits s.base
action_limits s Pruned = same_limits s.base
action_limits s Cleared = same_limits s.base
action_limits s Likened = same_limits s.base
action_limits s (Replaced classes) = same_limits s.base
action_limits s (Restored q) = record { res = refl; groups = refl; cells = refl }
action_limits s Tracked = same_limits s.base
action_limits s Untracked = same_limits s.base
action_limits s (Limited lo hi) = record { res = refl; groups = refl; cells = refl }
action_limits s Unlimited = record { res = refl; groups = refl; cells = refl }

history_limits : (s : State) (h : History) → HasLimitsOf s.base (after_all s h).base
history_limits s [] = same_limits s.base
history_limits s (a ∷ h) =
    let one = action_limits s a in
    let more = history_limits (after s a) h in
    record {
      res = more.res ∙ one.res;
      groups = more.groups ∙ one.groups;
      cells = more.cells ∙ one.cells;
    }

-- each state of a session has the limits that it was set up with
pub limits_of : (o : Setup) (h : History) → HasLimitsOf (ground_in o) (state_after o h).base
limits_of o h = history_limits (start_state o) h
