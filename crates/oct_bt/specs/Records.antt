-- Whole records: the entries of a block's children, each a class or a record of its own.
use Rattle.std.specs.Prelude.{ℕ, zero, suc, ◌+◌, ◌*◌, ◌/◌, ◌%◌, ◌<◌, List, [], ◌∷◌, ◌++◌, length, ⊤}
use Rattle.oct_key.specs.Voxel.{Voxel}
use Rattle.oct_key.specs.Block.{child_index_of}
use Rattle.oct_odds.specs.declared.event.Class.{Class}
use Rattle.oct_odds.specs.declared.event.Class.TheVariants.{Unknown, Free, Occupied}

-- entries in a row: no more, one that is a class and those after it, or one that is a record, by
-- its own entries, and those after it
pub data Entries : Type 0 where
  End : Entries
  Plain : Class → Entries → Entries
  Record : Entries → Entries → Entries

-- this many entries of a block of this depth; a record among them is of a child, which is no voxel,
-- and has eight entries
abbrev pub AreEntries : ℕ → ℕ → Entries → Type 0
AreEntries depth zero End = ⊤
AreEntries depth (suc n) (Plain class later) = AreEntries depth n later
AreEntries depth (suc n) (Record r later) =
    (depth < 15) × AreEntries (suc depth) 8 r × AreEntries depth n later
AreEntries depth _ _ = ⊥

-- the record of a block of this depth has eight entries
abbrev pub IsRecord : ℕ → Entries → Type 0
IsRecord depth r = AreEntries depth 8 r

-- the code of a class
abbrev pub class_code : Class → ℕ
class_code Unknown = 0
class_code Free = 1
class_code Occupied = 2

-- the codes of entries, two bits for each, the first one in the lowest
unfoldable pub codes_of : Entries → ℕ
codes_of End = 0
codes_of (Plain class later) = class_code class + 4 * codes_of later
codes_of (Record r later) = 3 + 4 * codes_of later

-- sixteen bits of codes as two bytes, the lowest bits first
abbrev pub code_bytes : ℕ → List ℕ
code_bytes codes = codes % 256 ∷ codes / 256 ∷ []

-- the text of the records among entries, in order
unfoldable pub bodies_of : Entries → List ℕ
bodies_of End = []
bodies_of (Plain class later) = bodies_of later
bodies_of (Record r later) = (code_bytes (codes_of r) ++ bodies_of r) ++ bodies_of later

-- the text of a record: the two bytes of its codes, and the text of the records among its entries
abbrev pub flat : Entries → List ℕ
flat r = code_bytes (codes_of r) ++ bodies_of r

-- the number of entries that aren't unknown, over the entries and all records in them
unfoldable pub known_entries : Entries → ℕ
known_entries End = 0
known_entries (Plain Unknown later) = known_entries later
known_entries (Plain Free later) = 1 + known_entries later
known_entries (Plain Occupied later) = 1 + known_entries later
known_entries (Record r later) = 1 + known_entries r + known_entries later

-- the number of records among entries and in them
unfoldable pub record_count : Entries → ℕ
record_count End = 0
record_count (Plain class later) = record_count later
record_count (Record r later) = 1 + record_count r + record_count later

-- the number of records that a text of records has, two bytes for each
abbrev pub record_total : List ℕ → ℕ
record_total bytes = length bytes / 2

-- the class that entry i gives a voxel of a block of this depth
unfoldable pub class_in : ℕ → Entries → ℕ → Voxel → Class
class_in depth End i k = Unknown
class_in depth (Plain class later) zero k = class
class_in depth (Plain class later) (suc i) k = class_in depth later i k
class_in depth (Record r later) zero k = class_in (suc depth) r (child_index_of (suc depth) k) k
class_in depth (Record r later) (suc i) k = class_in depth later i k

-- the class that the record of a block of this depth gives a voxel of the block: that of the entry
-- which covers it
abbrev pub class_by : ℕ → Entries → Voxel → Class
class_by depth r k = class_in depth r (child_index_of depth k) k
