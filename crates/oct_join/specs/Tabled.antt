-- A block of two files, and what was counted of it: the working words of a table.
use Rattle.std.specs.Prelude.{◌≡◌, ◌+◌, ◌^◌, ◌<◌, ℕ, List, ◌++◌, length, slice_index_or}
use Rattle.oct_key.specs.Voxel.{Voxel}
use Rattle.oct_key.specs.Block.{Cube}
use Rattle.oct_merge.specs.Pairs.{pairs_in}
use Rattle.oct_bt.specs.Records.{Entries, class_by}
use Rattle.oct_join.specs.Sides.{IsSide, side_text}
use Rattle.oct_join.specs.declared.table.Read.{Read}

-- how many voxels of a box have the two classes of a place, in a block with these entries
abbrev pub pairs_by : Voxel → Voxel → Entries → Entries → ℕ → Cube → ℕ
pairs_by lo hi r s n c = pairs_in lo hi (class_by c.depth r) (class_by c.depth s) n c

-- both texts begin with what the block has in them, and the table has room for the block
pub record AreAtHand (lo hi : Voxel) (c : Cube) (a b : ℕ) (first second counts : List ℕ)
    : Type 0 where
  pub r : Entries
  pub s : Entries
  pub p : List ℕ
  pub q : List ℕ
  pub side : IsSide c.depth a r
  pub other_side : IsSide c.depth b s
  pub text : first ≡ side_text a r ++ p
  pub other_text : second ≡ side_text b s ++ q
  pub room : (n : ℕ) → n < 9 → slice_index_or counts n 0 + pairs_by lo hi r s n c < 2 ^ 64

-- the block's voxels that lie in the box are counted, and all that it has in both texts is read
pub record IsTabled (lo hi : Voxel) (c : Cube) (a b : ℕ) (r s : Entries) (old new : List ℕ)
    (read : Read) : Type 0 where
  pub counted : (n : ℕ) → n < 9
      → slice_index_or new n 0 ≡ slice_index_or old n 0 + pairs_by lo hi r s n c
  pub first : read.first ≡ length (side_text a r)
  pub second : read.second ≡ length (side_text b s)
