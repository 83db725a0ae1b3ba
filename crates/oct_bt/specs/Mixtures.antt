-- What the voxels of a block are: of one class, or the first of them of one and then one of
-- another.
use Rattle.std.specs.Prelude.{◌≡◌, ◌≢◌, ℕ, zero, suc, ◌*◌, ◌/◌, ◌%◌, ◌^◌, ◌<◌, Option, Some}
use Rattle.std.specs.Prelude.{None, List, [], length, ⊤}
use Rattle.oct_key.specs.Voxel.{Voxel}
use Rattle.oct_key.specs.Block.{Cube, child_of, lowest_voxel}
use Rattle.oct_odds.specs.declared.event.Class.{Class}
use Rattle.oct_bt.specs.declared.mixture.Mixture.{Mixture}
use Rattle.oct_bt.specs.declared.mixture.Mixture.TheVariants.{Pure, Mixed}
use Rattle.oct_values.specs.Classes.{Classes, class_of_block}
use Rattle.oct_odds.specs.declared.event.Class.TheVariants.{Unknown, Free, Occupied}
use Rattle.oct_bt.specs.Records.{code_bytes}
use Rattle.oct_bt.specs.Canonical.{known_codes}

-- the voxel at the end of a way down from a block, as many depths as it stands above the voxels:
-- the child indices, the first one in the lowest three bits
unfoldable pub voxel_on : ℕ → Cube → ℕ → Voxel
voxel_on zero b way = lowest_voxel b
voxel_on (suc depths) b way = voxel_on depths (child_of b (way % 8)) (way / 8)

-- the voxels of the block before the one at the end of this way are of this class
abbrev pub IsPureBefore : Classes → Class → ℕ → Cube → ℕ → Type 0
IsPureBefore classes x zero b way = ⊤
IsPureBefore classes x (suc depths) b way =
    ((i : ℕ) → i < way % 8 → class_of_block classes (child_of b i) ≡ Some x)
    × IsPureBefore classes x depths (child_of b (way % 8)) (way / 8)

-- the way leads to the first voxel of the block that isn't of this class
pub record IsFirstOther (classes : Classes) (x : Class) (depths : ℕ) (b : Cube)
    (way : ℕ) : Type 0 where
  pub before : IsPureBefore classes x depths b way
  pub other : classes (voxel_on depths b way) ≢ x
  pub short : way < 8 ^ depths

-- the way to the first voxel that isn't of this class, or none where all are
abbrev pub IsSearched : Classes → Class → ℕ → Cube → Option ℕ → Type 0
IsSearched classes x depths b None = class_of_block classes b ≡ Some x
IsSearched classes x depths b (Some way) = IsFirstOther classes x depths b way

-- the mixture is that of the block
abbrev pub IsMixtureOf : Classes → ℕ → Cube → Mixture → Type 0
IsMixtureOf classes depths b (Pure x) = class_of_block classes b ≡ Some x
IsMixtureOf classes depths b (Mixed x way) = (0 < way) × IsFirstOther classes x depths b way

-- the class of all voxels of a block of this mixture, if it has one
abbrev pub class_of_mixture : Mixture → Option Class
class_of_mixture (Pure x) = Some x
class_of_mixture (Mixed x way) = None

-- how many nodes a block of this class, or of several, has itself
abbrev pub entry_nodes : Option Class → ℕ
entry_nodes None = 1
entry_nodes (Some Unknown) = 0
entry_nodes (Some Free) = 1
entry_nodes (Some Occupied) = 1

-- node data has this many codes that aren't 0, and this many records
pub record IsCounted (bytes : List ℕ) (nodes number : ℕ) : Type 0 where
  pub known : known_codes bytes ≡ nodes
  pub records : length bytes ≡ 2 * number

-- the node data of a map that is all of this class
abbrev pub leaves_text : Class → List ℕ
leaves_text Unknown = []
leaves_text Free = code_bytes 21845
leaves_text Occupied = code_bytes 43690
