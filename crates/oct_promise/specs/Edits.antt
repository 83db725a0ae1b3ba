-- What each command but a scan and a load, which stand in Promise.antt, makes of a state, voxel by
-- voxel. How long a mark lives, and when a map is stale, stands in Marks.antt.
use Rattle.std.specs.Prelude.{◌≡◌, ◌||◌, Some, None, Bool, true, false}
use Rattle.oct_bt.specs.Classes.{value_for}
use Rattle.oct_key.specs.Boxes.{IsBox, IsInBox}
use Rattle.oct_key.specs.Voxel.{Voxel, IsInMap, Holds}
use Rattle.oct_key.specs.declared.point.Point.{Point}
use Rattle.oct_odds.specs.Odds.{Odds}
use Rattle.oct_odds.specs.Update.{Value, clamped, applied}
use Rattle.oct_odds.specs.declared.event.Event.TheVariants as event
use Rattle.oct_script.specs.declared.command.Edit.{Edit}
use Rattle.oct_script.specs.declared.command.Edit.TheVariants.{Hit, Miss, Add, Set, Forget}
use Rattle.oct_session.specs.History.{State}
use Rattle.oct_snap.specs.Reading.{Snapshot, values_of}
use Rattle.oct_promise.specs.Lines.{classes_in}

-- the voxel of the map that holds the point
abbrev pub IsAt : State → Point → Voxel → Type 0
IsAt s p k = IsInMap k × Holds s.base.res k p

-- A voxel's value after an edit. `hit` adds the log-odds of a hit that are in force, `miss` those
-- of a miss, `add` its own number, to 0 where the voxel is unknown; the sum is clamped to the
-- bounds. `set` leaves its own number, clamped, and `forget` an unknown voxel.
abbrev pub edited : Odds → Edit → Value → Value
edited odds Hit value = applied odds (event.Add odds.hit) value
edited odds Miss value = applied odds (event.Add odds.miss) value
edited odds (Add number) value = applied odds (event.Add number) value
edited odds (Set number) value = Some (clamped odds number)
edited odds Forget value = None

-- an edit changes the voxel of its point, and nothing else; a lazy one leaves inner values behind
pub record IsEdited (p : Point) (edit : Edit) (lazy : Bool) (old new : State) : Type 0 where
  pub inside : (k : Voxel) × IsAt old p k
  pub there : (k : Voxel) → IsAt old p k → new.values k ≡ edited old.base.odds edit (old.values k)
  pub kept : (k : Voxel) → ¬ IsAt old p k → new.values k ≡ old.values k
  pub beside : (new.base ≡ old.base) × (new.marked ≡ old.marked)
  pub stale : new.is_stale ≡ (old.is_stale || lazy)

-- the two points lie in these voxels of the map, the corners of a box
pub record AreCorners (s : State) (from to : Point) (lo hi : Voxel) : Type 0 where
  pub low : IsAt s from lo
  pub high : IsAt s to hi
  pub ordered : IsBox lo hi

-- an edit of a box changes each of its voxels, those of both corners too, and nothing else
pub record IsBoxEdited (from to : Point) (edit : Edit) (old new : State) : Type 0 where
  pub inside : (lo : Voxel) × (hi : Voxel) × AreCorners old from to lo hi
  pub there : (lo hi k : Voxel) → AreCorners old from to lo hi → IsInBox lo hi k
      → new.values k ≡ edited old.base.odds edit (old.values k)
  pub kept : (lo hi k : Voxel) → AreCorners old from to lo hi → ¬ IsInBox lo hi k
      → new.values k ≡ old.values k
  pub beside : (new.base ≡ old.base) × (new.marked ≡ old.marked) × (new.is_stale ≡ old.is_stale)

-- `refresh` brings inner values up to date, and changes nothing else
abbrev pub IsRefreshed : State → State → Type 0
IsRefreshed old new = new ≡ record old { is_stale = false }

-- `prune` leaves the tree no more groups than its values need, and changes nothing else
abbrev pub IsPruned : State → State → Type 0
IsPruned old new = new ≡ record old { is_pruned = true }

-- `maxlik` leaves each voxel its class, with the value that is surest of it
pub record IsSurest (old new : State) : Type 0 where
  pub values : (k : Voxel) → new.values k ≡ value_for old.base.odds (classes_in old k)
  pub beside : (new.base ≡ old.base) × (new.marked ≡ old.marked) × (new.is_stale ≡ false)

-- `clear` leaves each voxel unknown and no mark; log-odds, box and limits stay
pub record IsCleared (old new : State) : Type 0 where
  pub values : (k : Voxel) → new.values k ≡ None
  pub beside : (new.base ≡ old.base) × (new.marked ≡ None) × (new.is_stale ≡ false)

-- A restore leaves each voxel the value that the snapshot has for it, and no mark. Its log-odds and
-- its box of scans are in force then; the older version has neither, and leaves both. Limits stay.
pub record IsRestored (read : Snapshot) (old new : State) : Type 0 where
  pub values : (k : Voxel) → IsInMap k → new.values k ≡ values_of read k
  pub older : read.head.version ≡ 1 → new.base ≡ old.base
  pub newer : read.head.version ≡ 2 → new.base ≡ record old.base {
    odds = read.head.odds;
    update_box = read.head.window;
  }
  pub beside : (new.marked ≡ None) × (new.is_stale ≡ false)

-- `limit` sets the box of scans to that of two points, and changes nothing else
pub record IsLimitedTo (from to : Point) (old new : State) : Type 0 where
  pub box : (lo : Voxel) × (hi : Voxel) × AreCorners old from to lo hi × (new ≡ record old {
    base = record old.base { update_box = Some (record { lo = lo; hi = hi }) };
  })

-- `nolimit` takes it away, `track` marks the classes of now, and `untrack` takes the mark away
abbrev pub IsUnlimited : State → State → Type 0
IsUnlimited old new = new ≡ record old { base = record old.base { update_box = None } }

abbrev pub IsMarked : State → State → Type 0
IsMarked old new = new ≡ record old { marked = Some (classes_in old) }

abbrev pub IsUnmarked : State → State → Type 0
IsUnmarked old new = new ≡ record old { marked = None }
