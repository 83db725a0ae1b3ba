-- The plain fold: what a session has after the commands that were accepted.
use Rattle.std.specs.Prelude.{List, fold, Some, None, Bool, true, false, Option, not, ◌||◌, ◌&&◌}
use Rattle.oct_key.specs.Voxel.{Voxel, key_at}
use Rattle.oct_key.specs.Values.{Values}
use Rattle.oct_key.specs.declared.point.Point.{Point}
use Rattle.oct_map.specs.Ground.{Ground}
use Rattle.oct_map.specs.Outcome.{outcome_of, corner_events, corner_box}
use Rattle.oct_map.specs.Restores.{ground_after}
use Rattle.oct_odds.specs.Odds.{Odds}
use Rattle.oct_odds.specs.Update.{Value}
use Rattle.oct_odds.specs.declared.event.Class.{Class}
use Rattle.oct_odds.specs.declared.event.Class.TheVariants.{Unknown, Free, Occupied}
use Rattle.oct_odds.specs.declared.event.Event.{Event}
use Rattle.oct_odds.specs.declared.event.Event.TheVariants as event
use Rattle.oct_scan.specs.Beam.{Sighting}
use Rattle.oct_snap.specs.Reading.{Snapshot}
use Rattle.oct_snap.specs.Reading as snapshot
use Rattle.oct_values.specs.Classes.{Classes, classes_of}
use Rattle.oct_values.specs.Events.{Events, event_at, after_event, updated}
use Rattle.oct_script.specs.declared.command.Edit.{Edit}
use Rattle.oct_script.specs.declared.command.Edit.TheVariants.{Hit, Miss, Add, Set, Forget}
use Rattle.oct_session.specs.Setup.{Setup, ground_in}

-- what an accepted command did, with all that it read: an edit of the voxel that holds a point,
-- lazy or not, an edit of each voxel of the box whose corners hold two points, a scan, lazy or not,
-- a refresh, a prune, a clear, maximum likelihood, the load of a file of these classes, the restore
-- of a snapshot, a mark set or taken away, a limit of scans to the box whose corners hold two
-- points, or its end
pub data Action : Type 0 where
  Edited : Point → Edit → Bool → Action
  Boxed : Point → Point → Edit → Action
  Scanned : Sighting → Bool → Action
  Refreshed : Action
  Pruned : Action
  Cleared : Action
  Likened : Action
  Replaced : Classes → Action
  Restored : Snapshot → Action
  Tracked : Action
  Untracked : Action
  Limited : Point → Point → Action
  Unlimited : Action

-- what the accepted commands did, from the first on
abbrev pub History : Type 0
History = List Action

-- the event of an edit, by the log-odds in force
abbrev pub edit_event : Odds → Edit → Event
edit_event odds Hit = event.Add odds.hit
edit_event odds Miss = event.Add odds.miss
edit_event odds (Add change) = event.Add change
edit_event odds (Set value) = event.Set value
edit_event odds Forget = event.Forget

-- the event of a load on a voxel of this class in the file
abbrev pub class_event : Odds → Class → Event
class_event odds Unknown = event.Forget
class_event odds Free = event.Set odds.min
class_event odds Occupied = event.Set odds.max

-- the event of a restore on a voxel that has this value in the snapshot
abbrev pub value_event : Value → Event
value_event None = event.Forget
value_event (Some value) = event.Set value

-- what an action does to each part of a state: to what the map's answers read beside the values; to
-- each voxel, by what they read before it, an event or nothing; to the mark, by the classes before
-- it; to whether inner values may be out of date; and to whether the map is pruned
pub record Transition : Type 0 where
  pub base : Ground → Ground
  pub events : Ground → Events
  pub marked : Classes → Option Classes → Option Classes
  pub is_stale : Bool → Bool
  pub is_pruned : Bool → Bool

-- that of nothing done
abbrev pub unchanging : Transition
unchanging = record {
  base = λ g. g;
  events = λ g k. None;
  marked = λ now mark. mark;
  is_stale = λ was. was;
  is_pruned = λ was. was;
}

-- that of these events, after which, where they were lazy, inner values may be out of date and the
-- map may not be pruned
abbrev pub editing : (Ground → Events) → Bool → Transition
editing events lazy = record unchanging {
  events = events;
  is_stale = λ was. was || lazy;
  is_pruned = λ was. was && not lazy;
}

-- that of these events on each voxel, after which inner values are right, the map is pruned, and
-- its mark is taken away
abbrev pub replacing : (Ground → Ground) → (Ground → Events) → Transition
replacing base events = record {
  base = base;
  events = events;
  marked = λ now mark. None;
  is_stale = λ was. false;
  is_pruned = λ was. true;
}

-- what each action does, by the log-odds in force: a restore takes over log-odds and box of its
-- snapshot, if it has them, and a limit sets the box to which scans are restricted
abbrev pub transition : Action → Transition
transition (Edited p edit lazy) =
    editing (λ g. event_at (key_at g.res p) (edit_event g.odds edit)) lazy
transition (Boxed lo hi edit) = record unchanging {
  events = λ g. corner_events (key_at g.res lo) (key_at g.res hi) (edit_event g.odds edit);
}
transition (Scanned sighting lazy) = editing (λ g. outcome_of g sighting) lazy
transition Refreshed = record unchanging { is_stale = λ was. false }
transition Pruned = record unchanging { is_pruned = λ was. true }
transition Cleared = replacing (λ g. g) (λ g k. Some event.Forget)
transition Likened = record unchanging {
  events = λ g k. Some event.Likely;
  is_stale = λ was. false;
  is_pruned = λ was. true;
}
transition (Replaced classes) =
    replacing (λ g. g) (λ g k. Some (class_event g.odds (classes k)))
transition (Restored s) = replacing (λ g. ground_after g s.head)
    (λ g k. Some (value_event (snapshot.values_of s k)))
transition Tracked = record unchanging { marked = λ now mark. Some now }
transition Untracked = record unchanging { marked = λ now mark. None }
transition (Limited lo hi) = record unchanging {
  base = λ g. record g { update_box = corner_box (key_at g.res lo) (key_at g.res hi) };
}
transition Unlimited = record unchanging { base = λ g. record g { update_box = None } }

-- what a session has between two commands: what the map's answers read beside the values, the value
-- of each voxel, its class at the mark, where one stands, whether inner values may be out of date,
-- and whether the map is pruned
pub record State : Type 0 where
  pub base : Ground
  pub values : Values
  pub marked : Option Classes
  pub is_stale : Bool
  pub is_pruned : Bool

-- before the first command: each voxel is unknown
abbrev pub start_state : Setup → State
start_state o =
    record {
      base = ground_in o;
      values = λ k. None;
      marked = None;
      is_stale = false;
      is_pruned = true;
    }

-- after an action: each voxel has the value after its own event, by the log-odds that are in force
-- from then on
abbrev pub after : State → Action → State
after s action = record {
  base = (transition action).base s.base;
  values = updated ((transition action).base s.base).odds ((transition action).events s.base)
      s.values;
  marked = (transition action).marked (classes_of s.base.odds s.values) s.marked;
  is_stale = (transition action).is_stale s.is_stale;
  is_pruned = (transition action).is_pruned s.is_pruned;
}

-- after some commands
abbrev pub after_all : State → History → State
after_all s history = fold after s history

-- after a history
abbrev pub state_after : Setup → History → State
state_after o history = after_all (start_state o) history

-- the value of each voxel after a history
abbrev pub value_after : Setup → History → Values
value_after o history = (state_after o history).values

-- one voxel alone: what the map's answers read beside the values, and its value
pub record Alone : Type 0 where
  pub base : Ground
  pub value : Value

-- one voxel alone after an action, by its own event
abbrev pub alone_by : Voxel → Alone → Action → Alone
alone_by k alone action = record {
  base = (transition action).base alone.base;
  value = after_event ((transition action).base alone.base).odds
      ((transition action).events alone.base k) alone.value;
}

-- one voxel alone after a history: the fold of its own events, from unknown on; a law says that
-- `value_after` has this value
abbrev pub alone_after : Setup → History → Voxel → Value
alone_after o history k =
    (fold (alone_by k) (record { base = ground_in o; value = None }) history).value
