-- The promise, line by line of a script: what the answer of a session says of space and of files.
-- The laws of src/laws.rt say that it holds, for all options, files and scripts.
use Rattle.std.specs.Prelude.{◌≡◌, ◌<◌, ◌||◌, ℕ, List, Option, IsSome, Bool, None, false}
use Rattle.oct_bt.specs.Classes.{value_for}
use Rattle.oct_cast.specs.Cast.{IsRight}
use Rattle.oct_cast.specs.declared.outcome.Cast.{Cast}
use Rattle.oct_change.specs.Changes.{AreChanges}
use Rattle.oct_change.specs.declared.kind.Change.{Change}
use Rattle.oct_io.specs.Files.{Files}
use Rattle.oct_key.specs.Block.{Cube, IsBlock, HoldsVoxel}
use Rattle.oct_key.specs.Boxes.{IsInWindow}
use Rattle.oct_key.specs.Values.{SameValues}
use Rattle.oct_key.specs.Voxel.{Voxel, IsInMap, Holds, key_at}
use Rattle.oct_key.specs.declared.point.Point.{Point}
use Rattle.oct_map.specs.Outcome.{hit_event, miss_event}
use Rattle.oct_odds.specs.Update.{Value, applied}
use Rattle.oct_scan.specs.Beam.{Sighting}
use Rattle.oct_scan.specs.Scanned.{IsHit, IsFreed, IsScanned}
use Rattle.oct_script.specs.Lines.{Line}
use Rattle.oct_script.specs.declared.reply.Refusal.TheVariants.{NotTracked, Stale}
use Rattle.oct_script.specs.declared.reply.Reply.TheVariants.{Casted, Changed, Refused}
use Rattle.oct_session.specs.Commands.{value_reply}
use Rattle.oct_session.specs.History.{State}
use Rattle.oct_session.specs.Setup.{Setup}
use Rattle.oct_values.specs.Classes.{Classes}
use Rattle.oct_values.specs.Depths.{IsLargestIn}
use Rattle.oct_promise.specs.Lines.{classes_in, state_behind, Replies}
use Rattle.oct_promise.specs.Marks.{IsLeftStale, IsMarkedBehind}

-- A scan adds its hit to each voxel of the box in which an uncut beam ends, and its miss to each
-- one that a beam passes through and that isn't hit; other voxels, box, log-odds and mark stay. A
-- lazy one leaves inner values behind.
pub record IsScanDone (scan : Sighting) (lazy : Bool) (old new : State) : Type 0 where
  pub hit : (k : Voxel) → IsInWindow old.base.update_box k → IsHit old.base.res scan k
      → new.values k ≡ applied old.base.odds (hit_event old.base.odds scan.odds) (old.values k)
  pub freed : (k : Voxel) → IsInWindow old.base.update_box k → IsFreed old.base.res scan k
      → new.values k ≡ applied old.base.odds (miss_event old.base.odds scan.odds) (old.values k)
  pub kept : (k : Voxel) → ¬ IsScanned old.base.res old.base.update_box scan k
      → new.values k ≡ old.values k
  pub beside : (new.base ≡ old.base) × (new.marked ≡ old.marked)
  pub stale : new.is_stale ≡ (old.is_stale || lazy)

-- a restore gives back each voxel's value, the log-odds and the box of scans, without a mark
pub record IsGivenBack (old new : State) : Type 0 where
  pub values : SameValues new.values old.values
  pub odds : new.base.odds ≡ old.base.odds
  pub update_box : new.base.update_box ≡ old.base.update_box
  pub beside : (new.marked ≡ None) × (new.is_stale ≡ false)

-- A load leaves each voxel the class that the file has for it, with the value that is surest of it
-- by the log-odds in force, and no mark. Log-odds, limits and the box of scans stay.
pub record IsLoaded (read : Classes) (old new : State) : Type 0 where
  pub classes : (k : Voxel) → IsInMap k → classes_in new k ≡ read k
  pub values : (k : Voxel) → IsInMap k → new.values k ≡ value_for old.base.odds (read k)
  pub beside : (new.base ≡ old.base) × (new.marked ≡ None) × (new.is_stale ≡ false)

module _ (o : Setup) (files : Option Files) where
  -- `get` answers the greatest known value of the block, or unknown where none is known
  abbrev pub GetsGreatest : List ℕ → List Line → Point → ℕ → Type 0
  GetsGreatest bytes before p depth = (k : Voxel) (b : Cube) → IsInMap k → Holds o.res k p
      → IsBlock b → b.depth ≡ depth → HoldsVoxel b k
      → (depth < 16 → ¬ IsLeftStale o files before)
      → ((value : Value) × IsLargestIn (state_behind o files before).values b value
      × Replies o files bytes before (value_reply (state_behind o files before).base.odds value))

  -- but above a voxel it is refused while the map is stale
  abbrev pub NeedsRefresh : List ℕ → List Line → Point → ℕ → Type 0
  NeedsRefresh bytes before p depth = (k : Voxel) → IsInMap k → Holds o.res k p → depth < 16
      → IsLeftStale o files before → Replies o files bytes before (Refused Stale)

  -- `cast` answers the first voxel that stops it, with its class, or clear where none does
  abbrev pub CastsFirst : List ℕ → List Line → Point → Point → Bool → Type 0
  CastsFirst bytes before from to ignore = IsSome (key_at o.res from) → IsSome (key_at o.res to)
      → ((found : Cast)
      × IsRight o.res from to ignore (classes_in (state_behind o files before)) found
      × Replies o files bytes before (Casted found))

  -- `changes` answers how classes differ from those at the mark, where one stands
  abbrev pub TellsChanges : List ℕ → List Line → Type 0
  TellsChanges bytes before = (earlier : List Line) → IsMarkedBehind o files before earlier
      → ((changes : List Change)
      × AreChanges (classes_in (state_behind o files earlier))
      (classes_in (state_behind o files before)) changes
      × Replies o files bytes before (Changed changes))

  -- and is refused where none does
  abbrev pub NeedsMark : List ℕ → List Line → Type 0
  NeedsMark bytes before =
      ((earlier : List Line) → ¬ IsMarkedBehind o files before earlier)
      → Replies o files bytes before (Refused NotTracked)
