-- The reading of node data, byte by byte from the left.
use Rattle.std.specs.Prelude.{◌≡◌, ℕ, zero, suc, ◌+◌, ◌<◌, nat_eq, nat_lt, ◌&&◌, List, [], ◌∷◌}
use Rattle.std.specs.Prelude.{◌++◌, length, replicate, count_by, fold, Option, Some, None, Result}
use Rattle.std.specs.Prelude.{Ok, Err, if◌then◌else◌, ◌⊎◌}
use Rattle.std.specs.List.{All}
use Rattle.oct_bt.specs.declared.fault.BtFault.{BtFault}
use Rattle.oct_bt.specs.declared.fault.BtFault.TheVariants.{TooDeep, Truncated, TrailingBytes}
use Rattle.oct_bt.specs.declared.fault.BtFault.TheVariants.{SizeMismatch}
use Rattle.oct_key.specs.Voxel.{Voxel, IsInMap}
use Rattle.oct_odds.specs.declared.event.Class.TheVariants.{Unknown}
use Rattle.oct_values.specs.Classes.{Classes}
use Rattle.oct_bt.specs.Records.{Entries, IsRecord, flat, known_entries, class_by}
use Rattle.oct_bt.specs.Canonical.{codes_in, node_total}

-- What the reading has come to: the depths of the records that are still to come, the next one
-- first; the first byte of the next one where that has come; and the bytes of the whole records
-- before it. Or the fault at which it has stopped.
pub data Progress : Type 0 where
  Reads : List ℕ → Option ℕ → List ℕ → Progress
  Stopped : BtFault → Progress

-- how many children these two bytes say to have records of their own
abbrev pub records_in : ℕ → ℕ → ℕ
records_in first second = count_by (λ code. nat_eq code 3) (codes_in first ++ codes_in second)

-- after a whole record of a block of this depth come those of its children; a voxel has none
abbrev pub after_record : ℕ → ℕ → List ℕ → List ℕ → ℕ → ℕ → Progress
after_record start depth others records first second =
    if nat_eq depth 15 && nat_lt 0 (records_in first second)
    then Stopped (TooDeep (start + length records))
    else Reads (replicate (records_in first second) (suc depth) ++ others) None
    (records ++ first ∷ second ∷ [])

-- one more byte, where the node data starts at this place of the file
abbrev pub after_byte : ℕ → Progress → ℕ → Progress
after_byte start (Reads [] half records) byte = Stopped (TrailingBytes (start + length records))
after_byte start (Reads (depth ∷ others) None records) byte =
    Reads (depth ∷ others) (Some byte) records
after_byte start (Reads (depth ∷ others) (Some first) records) byte =
    after_record start depth others records first byte
after_byte start (Stopped fault) byte = Stopped fault

-- how many bytes are kept: those of the whole records
abbrev pub data_kept : Progress → ℕ
data_kept (Reads depths half records) = length records
data_kept (Stopped fault) = 0

-- before the first byte: the root's record is to come, where the size isn't 0
abbrev pub at_first : ℕ → Progress
at_first zero = Reads [] None []
at_first (suc n) = Reads (0 ∷ []) None []

-- what the reading of these bytes has come to
unfoldable pub after_bytes : ℕ → ℕ → List ℕ → Progress
after_bytes start size bytes = fold (after_byte start) (at_first size) bytes

-- what node data of this many bytes is where it ends here: the bytes of its records, or the first
-- fault
abbrev pub judged : ℕ → ℕ → ℕ → Progress → Result (List ℕ) BtFault
judged start size total (Stopped fault) = Err fault
judged start size total (Reads (depth ∷ others) half records) = Err (Truncated (start + total))
judged start size total (Reads [] half records) =
    if nat_eq size (node_total records) then Ok records
    else Err (SizeMismatch size (node_total records))

-- the reading of node data that starts at this place of a file
unfoldable pub read_nodes : ℕ → ℕ → List ℕ → Result (List ℕ) BtFault
read_nodes start size bytes = judged start size (length bytes) (after_bytes start size bytes)

-- Node data of a size is accepted: it is empty and the size 0, or it is the text of a record of the
-- whole map, and the size is one more than the number of its entries that aren't unknown.
abbrev pub IsAccepted : ℕ → List ℕ → Type 0
IsAccepted size bytes =
    ((size ≡ 0) × (bytes ≡ []))
    ⊎ ((r : Entries) × IsRecord 0 r × (bytes ≡ flat r) × (size ≡ 1 + known_entries r))

-- a reader of node data: where the data starts in its file, the size that it is to have, and what
-- the reading has come to
pub record Reading : Type 0 where
  pub start : ℕ
  pub size : ℕ
  pub progress : Progress

-- the reader has read these bytes
abbrev pub HasRead : Reading → List ℕ → Type 0
HasRead reading bytes = reading.progress ≡ after_bytes reading.start reading.size bytes

-- what some bytes come to
abbrev pub IsReached : ℕ → ℕ → Progress → Type 0
IsReached start size progress =
    (bytes : List ℕ) × All (λ b. b < 256) bytes × (progress ≡ after_bytes start size bytes)

-- a fault at which the reading has stopped, or else what it has come to
abbrev pub progress_by : Option BtFault → Progress → Progress
progress_by (Some fault) progress = Stopped fault
progress_by None progress = progress

-- Node data stands for these classes: it is empty and all voxels are unknown, or it is the text of
-- a record that gives each voxel its class.
abbrev pub IsDataOf : Classes → List ℕ → Type 0
IsDataOf classes bytes =
    ((bytes ≡ []) × ((k : Voxel) → IsInMap k → classes k ≡ Unknown))
    ⊎ ((r : Entries) × IsRecord 0 r × (bytes ≡ flat r)
    × ((k : Voxel) → IsInMap k → class_by 0 r k ≡ classes k))
