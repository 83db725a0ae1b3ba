-- What a block adds to node data, beside its own code.
use Rattle.std.specs.Prelude.{◌≡◌, ℕ, Option, Some, None}
use Rattle.oct_key.specs.Block.{Cube}
use Rattle.oct_odds.specs.declared.event.Class.{Class}
use Rattle.oct_odds.specs.declared.event.Class.TheVariants as class
use Rattle.oct_values.specs.Classes.{Classes, class_of_block}
use Rattle.oct_bt.specs.declared.counting.BlockCount.{BlockCount}
use Rattle.oct_bt.specs.declared.counting.Kind.{Kind}
use Rattle.oct_bt.specs.declared.counting.Kind.TheVariants.{Unknown, Free, Occupied, Several}
use Rattle.oct_bt.specs.Canonical.{data_of_child, data_below}
use Rattle.oct_bt.specs.Mixtures.{IsCounted}

-- the class of all voxels of a block of this kind, if it has one
abbrev pub class_of_kind : Kind → Option Class
class_of_kind Unknown = Some class.Unknown
class_of_kind Free = Some class.Free
class_of_kind Occupied = Some class.Occupied
class_of_kind Several = None

-- the kind of a block that stands this many depths above the voxels, and what its own data has, if
-- it has data
pub record IsBlockCount (classes : Classes) (depths : ℕ) (b : Cube) (count : BlockCount)
    : Type 0 where
  pub kind : class_of_block classes b ≡ class_of_kind count.kind
  pub counted : IsCounted (data_of_child (class_of_block classes b) (data_below classes depths b))
      count.known count.records
