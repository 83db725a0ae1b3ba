-- What has changed from one class for each voxel to another.
use Rattle.std.specs.Prelude.{◌≡◌, ◌↔◌, List, map, All, Contains, Option, Some, None, option_map}
use Rattle.std.specs.List.{filter_map}
use Rattle.std.specs.List.Sorted.{IsStrictlySortedBy}
use Rattle.oct_key.specs.Voxel.{Voxel, IsInMap}
use Rattle.oct_key.specs.Order.{key_cmp, voxels_in_order}
use Rattle.oct_odds.specs.declared.event.Class.{Class}
use Rattle.oct_odds.specs.declared.event.Class.TheVariants.{Unknown, Free, Occupied}
use Rattle.oct_values.specs.Classes.{Classes}
use Rattle.oct_change.specs.declared.kind.Kind.{Kind}
use Rattle.oct_change.specs.declared.kind.Kind.TheVariants as kind
use Rattle.oct_change.specs.declared.kind.Change.{Change}

-- how a voxel changes from one class to another, if it does
abbrev pub kind_between : Class → Class → Option Kind
kind_between Unknown Unknown = None
kind_between Unknown Free = Some kind.New
kind_between Unknown Occupied = Some kind.New
kind_between Free Unknown = Some kind.Lost
kind_between Occupied Unknown = Some kind.Lost
kind_between Free Free = None
kind_between Free Occupied = Some kind.Occupied
kind_between Occupied Free = Some kind.Freed
kind_between Occupied Occupied = None

-- the change of a voxel from one class to another, if there is one
abbrev pub change_of : Voxel → Class → Class → Option Change
change_of k before after =
    option_map (λ kind. record { key = k; kind = kind }) (kind_between before after)

-- the changes from one class for each voxel to another, by ascending x, y and z
abbrev pub changes_between : Classes → Classes → List Change
changes_between before after = filter_map (λ k. change_of k (before k) (after k)) voxels_in_order

-- These are the changes from one class for each voxel to another: each voxel of the map whose class
-- differs, with the kind of its change, and no other, by ascending x, y and z.
pub record AreChanges (before after : Classes) (changes : List Change) : Type 0 where
  pub rise : IsStrictlySortedBy key_cmp (map (λ (change : Change). change.key) changes)
  pub inside : All (λ (change : Change). IsInMap change.key) changes
  pub exact : (k : Voxel) → IsInMap k → (kind : Kind) →
      Contains changes (record { key = k; kind = kind })
      ↔ (kind_between (before k) (after k) ≡ Some kind)
