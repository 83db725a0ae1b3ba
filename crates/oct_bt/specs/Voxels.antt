-- How many voxels of a class the records of a block give it.
use Rattle.std.specs.Prelude.{◌≡◌, ℕ, suc, ◌+◌, ◌-◌, ◌^◌, length, if◌then◌else◌}
use Rattle.oct_odds.specs.declared.event.Class.{Class}
use Rattle.oct_odds.specs.declared.event.Class.TheVariants.{Free, Occupied}
use Rattle.oct_values.specs.Classes.{is_same_class}
use Rattle.oct_bt.specs.Records.{Entries, End, Plain, Record, flat}

-- how many voxels of the first class a child of a block of this depth has, all of whose voxels are
-- of the second
abbrev pub leaf_voxels : Class → ℕ → Class → ℕ
leaf_voxels class depth c = if is_same_class c class then 8 ^ (15 - depth) else 0

-- how many voxels of a class these entries of a block of this depth give it
unfoldable pub class_voxels : Class → ℕ → Entries → ℕ
class_voxels class depth End = 0
class_voxels class depth (Plain c later) =
    leaf_voxels class depth c + class_voxels class depth later
class_voxels class depth (Record r later) =
    class_voxels class (suc depth) r + class_voxels class depth later

-- these are the voxels and the bytes of the record of a block of this depth
pub record IsRecordCount (depth : ℕ) (r : Entries) (free occupied bytes : ℕ) : Type 0 where
  pub free_voxels : free ≡ class_voxels Free depth r
  pub occupied_voxels : occupied ≡ class_voxels Occupied depth r
  pub text_bytes : bytes ≡ length (flat r)
