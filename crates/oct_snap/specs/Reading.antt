-- What a snapshot is read as: its fields and its nodes, or the first fault that its bytes complete.
use Rattle.std.specs.Prelude.{codes, ℕ, zero, suc, ◌+◌, ℤ, Bool, true, false, ◌&&◌, nat_eq, nat_le}
use Rattle.std.specs.Prelude.{nat_lt, int_le, List, [], ◌∷◌, length, drop, slice_index, Option}
use Rattle.std.specs.Prelude.{Some, None, Result, Ok, Err, if◌then◌else◌}
use Rattle.std.specs.Int.{w16, w32, w64, cast_signed, from_be_bytes}
use Rattle.std.specs.List.{starts_with}
use Rattle.oct_key.specs.Voxel.{Voxel}
use Rattle.oct_key.specs.Values.{Values}
use Rattle.oct_key.specs.Boxes.{Window, is_box}
use Rattle.oct_odds.specs.Odds.{Odds, odds, first_bad_field}
use Rattle.oct_odds.specs.declared.model.OddsField.{OddsField}
use Rattle.oct_odds.specs.declared.model.OddsField.TheVariants.{Hit, Miss, Min, Max, Thr}
use Rattle.oct_snap.specs.declared.fault.SnapFault.{SnapFault}
use Rattle.oct_snap.specs.declared.fault.SnapFault.TheVariants.{BadMagic, Truncated, TrailingBytes}
use Rattle.oct_snap.specs.declared.fault.SnapFault.TheVariants.{BadSnapshot}
use Rattle.oct_snap.specs.Nodes.{Nodes, End, Whole, Parted, joined, are_alike, value_in}

-- ---- nodes

-- nodes that were read, the place after them in the file, and the bytes from there on
pub record Found : Type 0 where
  pub nodes : Nodes
  pub at : ℕ
  pub rest : List ℕ

-- these three as one
abbrev pub found : Nodes → ℕ → List ℕ → Found
found nodes at rest = record { nodes = nodes; at = at; rest = rest }

-- a reader: from a place of the file and the bytes from there on, the nodes that stand there, or
-- the fault
abbrev pub Reader : Type 0
Reader = ℕ → List ℕ → Result Found SnapFault

-- a number in four bytes
abbrev pub number_of : List ℕ → ℤ
number_of bytes = cast_signed w32 (from_be_bytes w32 bytes)

-- whether a number lies within the bounds
abbrev pub is_within : Odds → ℤ → Bool
is_within o n = int_le o.min n && int_le n o.max

-- the node of a value that begins at this place, by the bytes after its first one: the file may
-- end before the four bytes, and the value may lie outside the bounds
abbrev pub value_node : Odds → Reader
value_node o at (a ∷ b ∷ c ∷ d ∷ rest) =
    if is_within o (number_of (a ∷ b ∷ c ∷ d ∷ []))
    then Ok (found (Whole (Some (number_of (a ∷ b ∷ c ∷ d ∷ []))) End) (at + 5) rest)
    else Err (BadSnapshot at)
value_node o at few = Err (Truncated (at + 1 + length few))

-- the node of several values that begins at this place, by its eight nodes: they may not be all of
-- one value
abbrev pub parted_node : ℕ → Result Found SnapFault → Result Found SnapFault
parted_node at (Err fault) = Err fault
parted_node at (Ok inner) =
    if are_alike inner.nodes then Err (BadSnapshot at)
    else Ok (found (Parted inner.nodes End) inner.at inner.rest)

-- The node that begins at this place, by its first byte: 0 for unknown, 1 for a value, and 2 for a
-- block of several values, whose eight nodes stand after the byte. How these eight are read is the
-- first argument, which `read_node` fills in with the reader of the depth below. A voxel has no
-- such nodes, and a 2 is a fault there.
abbrev pub next_node : Option Reader → Odds → Reader
next_node inner o at [] = Err (Truncated at)
next_node inner o at (zero ∷ rest) = Ok (found (Whole None End) (at + 1) rest)
next_node inner o at (suc zero ∷ rest) = value_node o at rest
next_node None o at (suc (suc zero) ∷ rest) = Err (BadSnapshot at)
next_node (Some eight) o at (suc (suc zero) ∷ rest) = parted_node at (eight (at + 1) rest)
next_node inner o at (suc (suc (suc more)) ∷ rest) = Err (BadSnapshot at)

-- what follows a node, where there is one
abbrev pub after_node : (Found → Result Found SnapFault) → Result Found SnapFault
    → Result Found SnapFault
after_node go (Err fault) = Err fault
after_node go (Ok f) = go f

-- this many nodes more, one after the other
unfoldable pub read_row : Reader → ℕ → Found → Result Found SnapFault
read_row next zero s = Ok s
read_row next (suc n) s =
    after_node (λ f. read_row next n (found (joined s.nodes f.nodes) f.at f.rest))
    (next s.at s.rest)

-- the node of a block that stands this many depths above the voxels
unfoldable pub read_node : Odds → ℕ → Reader
read_node o zero at rest = next_node None o at rest
read_node o (suc depths) at rest =
    next_node (Some (λ at rest. read_row (read_node o depths) 8 (found End at rest))) o at rest

-- ---- the fields before the nodes

-- the fields of a snapshot: its resolution, its version, its log-odds and its box, and the place
-- after them
pub record Fields : Type 0 where
  pub res : ℕ
  pub version : ℕ
  pub odds : Odds
  pub window : Option Window
  pub start : ℕ

-- these five as one
abbrev pub fields : ℕ → ℕ → Odds → Option Window → ℕ → Fields
fields res version o window start =
    record { res = res; version = version; odds = o; window = window; start = start }

-- the number in four bytes at a place of a file
abbrev pub number_at : List ℕ → ℕ → ℤ
number_at file at = number_of (slice_index file at ∷ slice_index file (at + 1)
    ∷ slice_index file (at + 2) ∷ slice_index file (at + 3) ∷ [])

-- the number in two bytes at a place of a file
abbrev pub axis_at : List ℕ → ℕ → ℕ
axis_at file at = from_be_bytes w16 (slice_index file at ∷ slice_index file (at + 1) ∷ [])

-- the voxel at a place of a file
abbrev pub voxel_at : List ℕ → ℕ → Voxel
voxel_at file at =
    record { x = axis_at file at; y = axis_at file (at + 2); z = axis_at file (at + 4) }

-- the box of a file whose box is there
abbrev pub read_corners : List ℕ → ℕ → Odds → Bool → Result Fields SnapFault
read_corners file res o true =
    Ok (fields res 2 o (Some (record { lo = voxel_at file 37; hi = voxel_at file 43 })) 49)
read_corners file res o false = Err (BadSnapshot 37)

-- the box, by the byte that says whether there is one
abbrev pub read_window : List ℕ → ℕ → Odds → ℕ → Result Fields SnapFault
read_window file res o zero = Ok (fields res 2 o None 37)
read_window file res o (suc zero) =
    if nat_lt (length file) 49 then Err (Truncated (length file))
    else read_corners file res o (is_box (voxel_at file 37) (voxel_at file 43))
read_window file res o (suc (suc more)) = Err (BadSnapshot 36)

-- the place of a number of the log-odds
abbrev pub field_place : OddsField → ℕ
field_place Hit = 16
field_place Miss = 20
field_place Min = 24
field_place Max = 28
field_place Thr = 32

-- the log-odds of a file
abbrev pub odds_at : List ℕ → Odds
odds_at file = odds (number_at file 16) (number_at file 20) (number_at file 24)
    (number_at file 28) (number_at file 32)

-- the log-odds, by the first of their numbers that is at fault
abbrev pub read_odds : List ℕ → ℕ → Option OddsField → Result Fields SnapFault
read_odds file res (Some field) = Err (BadSnapshot (field_place field))
read_odds file res None =
    if nat_lt (length file) 37 then Err (Truncated (length file))
    else read_window file res (odds_at file) (slice_index file 36)

-- what stands after the resolution: nothing in the older version
abbrev pub read_version : Odds → List ℕ → ℕ → Bool → Result Fields SnapFault
read_version o file res true = Ok (fields res 1 o None 16)
read_version o file res false =
    if nat_lt (length file) 36 then Err (Truncated (length file))
    else read_odds file res (first_bad_field (odds_at file))

-- the resolution of a file
abbrev pub res_at : List ℕ → ℕ
res_at file = from_be_bytes w64 (slice_index file 8 ∷ slice_index file 9 ∷ slice_index file 10
    ∷ slice_index file 11 ∷ slice_index file 12 ∷ slice_index file 13 ∷ slice_index file 14
    ∷ slice_index file 15 ∷ [])

-- whether a number of nanometres is a resolution
abbrev pub is_resolution : ℕ → Bool
is_resolution edge = nat_le 100000 edge && nat_le edge 100000000000

-- the resolution, and what stands after it
abbrev pub read_res : Odds → List ℕ → Bool → Result Fields SnapFault
read_res o file old =
    if nat_lt (length file) 16 then Err (Truncated (length file))
    else if is_resolution (res_at file) then read_version o file (res_at file) old
    else Err (BadSnapshot 8)

-- the fields of a file, where these are the log-odds of one that has none
unfoldable pub read_fields : Odds → List ℕ → Result Fields SnapFault
read_fields o file =
    if starts_with nat_eq file (codes "OCTSNAP1") then read_res o file true
    else if starts_with nat_eq file (codes "OCTSNAP2") then read_res o file false
    else Err BadMagic

-- ---- a whole snapshot

-- a snapshot that was read: its fields, and the node of the map
pub record Snapshot : Type 0 where
  pub head : Fields
  pub nodes : Nodes

-- what stands after the node of the map: nothing
abbrev pub ended_by : Fields → Nodes → ℕ → List ℕ → Result Snapshot SnapFault
ended_by head nodes at [] = Ok (record { head = head; nodes = nodes })
ended_by head nodes at (byte ∷ bytes) = Err (TrailingBytes at)

-- the snapshot of these fields, by what was read as the node of the map
abbrev pub with_nodes : Fields → Result Found SnapFault → Result Snapshot SnapFault
with_nodes head (Err fault) = Err fault
with_nodes head (Ok f) = ended_by head f.nodes f.at f.rest

-- the snapshot of a file, by what was read as its fields
abbrev pub with_fields : List ℕ → Result Fields SnapFault → Result Snapshot SnapFault
with_fields file (Err fault) = Err fault
with_fields file (Ok head) =
    with_nodes head (read_node head.odds 16 head.start (drop head.start file))

-- the reading of a snapshot, where these are the log-odds of one that has none
unfoldable pub read_snapshot : Odds → List ℕ → Result Snapshot SnapFault
read_snapshot o file = with_fields file (read_fields o file)

-- the values that a snapshot gives the voxels
abbrev pub values_of : Snapshot → Values
values_of s k = value_in 0 s.nodes 0 k
