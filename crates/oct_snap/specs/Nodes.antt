-- The nodes of a snapshot: of a block of one value, or of the eight nodes of its children.
use Rattle.std.specs.Prelude.{◌≡◌, ℕ, zero, suc, ◌+◌, ℤ, Bool, true, false, ◌&&◌, List, [], ◌∷◌}
use Rattle.std.specs.Prelude.{◌++◌, Some, None, ⊤}
use Rattle.std.specs.Int.{w32, cast_unsigned, to_be_bytes}
use Rattle.oct_key.specs.Voxel.{Voxel}
use Rattle.oct_key.specs.Block.{child_index_of}
use Rattle.oct_odds.specs.Odds.{Odds}
use Rattle.oct_odds.specs.Update.{Value, IsWithin}
use Rattle.oct_values.specs.Counts.{is_same_value}

-- nodes in a row: no more, the one of a block whose voxels all have this value and those after it,
-- or the one of a block of several values, by the nodes of its children, and those after it
pub data Nodes : Type 0 where
  End : Nodes
  Whole : Value → Nodes → Nodes
  Parted : Nodes → Nodes → Nodes

-- nodes in a row, and then others
unfoldable pub joined : Nodes → Nodes → Nodes
joined End later = later
joined (Whole value more) later = Whole value (joined more later)
joined (Parted inner more) later = Parted inner (joined more later)

-- a number in four bytes, the highest first, in two's complement
abbrev pub number_bytes : ℤ → List ℕ
number_bytes n = to_be_bytes w32 (cast_unsigned w32 n)

-- the text of the node of a block whose voxels all have this value
abbrev pub whole_text : Value → List ℕ
whole_text None = 0 ∷ []
whole_text (Some n) = 1 ∷ number_bytes n

-- the text of nodes in a row
unfoldable pub text_of : Nodes → List ℕ
text_of End = []
text_of (Whole value later) = whole_text value ++ text_of later
text_of (Parted inner later) = 2 ∷ (text_of inner ++ text_of later)

-- whether all nodes in a row are of this value
unfoldable pub are_all : Value → Nodes → Bool
are_all value End = true
are_all value (Whole other later) = is_same_value value other && are_all value later
are_all value (Parted inner later) = false

-- whether all nodes in a row are of one value
unfoldable pub are_alike : Nodes → Bool
are_alike End = true
are_alike (Whole value later) = are_all value later
are_alike (Parted inner later) = false

-- This many nodes of blocks that stand this number of depths above the voxels: known values lie
-- within the bounds, and a node with nodes of its own is of no voxel, and has eight that aren't all
-- of one value.
abbrev pub AreNodes : Odds → ℕ → ℕ → Nodes → Type 0
AreNodes odds depths zero End = ⊤
AreNodes odds depths (suc n) (Whole value later) =
    IsWithin odds value × AreNodes odds depths n later
AreNodes odds (suc depths) (suc n) (Parted inner later) =
    AreNodes odds depths 8 inner × (are_alike inner ≡ false) × AreNodes odds (suc depths) n later
AreNodes odds depths _ _ = ⊥

-- how many nodes have nodes of their own, in a row and below it
unfoldable pub group_total : Nodes → ℕ
group_total End = 0
group_total (Whole value later) = group_total later
group_total (Parted inner later) = 1 + group_total inner + group_total later

-- the value that node i, of a block of this depth, gives a voxel of the block
unfoldable pub value_in : ℕ → Nodes → ℕ → Voxel → Value
value_in depth End i k = None
value_in depth (Whole value later) zero k = value
value_in depth (Whole value later) (suc i) k = value_in depth later i k
value_in depth (Parted inner later) zero k =
    value_in (suc depth) inner (child_index_of depth k) k
value_in depth (Parted inner later) (suc i) k = value_in depth later i k
