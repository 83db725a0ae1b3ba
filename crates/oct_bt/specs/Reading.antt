-- What a reader holds of a file, of which it keeps neither the lines nor the records' places.
use Rattle.std.specs.Prelude.{codes, ◌≡◌, ℕ, ◌+◌, ◌<◌, Bool, true, false, ◌&&◌, nat_lt, List, []}
use Rattle.std.specs.Prelude.{◌∷◌, ◌++◌, length, drop, fold, Option, Some, None, Result, Ok, Err}
use Rattle.std.specs.Prelude.{if◌then◌else◌}
use Rattle.std.specs.List.{slice_split}
use Rattle.oct_bt.specs.declared.fault.BtFault.{BtFault}
use Rattle.oct_bt.specs.NodeData.{Progress, after_bytes, after_byte, at_first, data_kept}
use Rattle.oct_num.specs.Metres.{metres_of}
use Rattle.oct_num.specs.Whole.{natural_of}
use Rattle.oct_bt.specs.Header.{is_octree, resolution_of, Fields, Header, HeaderLine, is_line_feed}
use Rattle.oct_bt.specs.Header.{lines_of, line_of, is_named, is_data_line, fields_of, judged_fields}
use Rattle.oct_bt.specs.Header.{first_line_fault, unless_faulty, no_data_line, data_line, head_of}
use Rattle.oct_bt.specs.Header.{header_of}

-- ---- the head of a file, while no data line has ended

-- the last of parts between line feeds
unfoldable pub unended : List (List ℕ) → List ℕ
unended [] = []
unended (part ∷ []) = part
unended (part ∷ next ∷ parts) = unended (next ∷ parts)

-- whether a line feed has come
abbrev pub has_ended : List (List ℕ) → Bool
has_ended [] = false
has_ended (part ∷ []) = false
has_ended (part ∷ next ∷ parts) = true

-- how many bytes have come; whether the first line has ended, and then what is wrong with it; the
-- fields so far; and the bytes of the line that hasn't ended
pub record Head : Type 0 where
  pub total : ℕ
  pub begun : Bool
  pub first_line : Option BtFault
  pub fields : Fields
  pub line : List ℕ

-- what these first bytes of a file come to, where no data line has ended in them
abbrev pub heading_of : List ℕ → Head
heading_of head = record {
  total = length head;
  begun = has_ended (slice_split is_line_feed head);
  first_line = if has_ended (slice_split is_line_feed head) then first_line_fault head else None;
  fields = fields_of (lines_of head);
  line = unended (slice_split is_line_feed head);
}

-- ---- a file

-- a head; or the fault of a header; or a header, and what the reading of the node data has come to;
-- or nothing, after memory has run out
pub data FileProgress : Type 0 where
  Heading : Head → FileProgress
  Refused : BtFault → FileProgress
  Body : Header → Progress → FileProgress
  Spent : FileProgress

-- what a file whose data line has ended comes to, by its header
abbrev pub body_of : List ℕ → Result Header BtFault → FileProgress
body_of file (Err fault) = Refused fault
body_of file (Ok header) =
    Body header (after_bytes header.start header.size (drop header.start file))

-- what a file with this head comes to, by its data line
abbrev pub progress_at : List ℕ → List ℕ → Option HeaderLine → FileProgress
progress_at file head None = Heading (heading_of head)
progress_at file head (Some line) = body_of file (header_of head)

-- what these bytes of a file come to
unfoldable pub file_progress : List ℕ → FileProgress
file_progress file = progress_at file (head_of file) (data_line (head_of file))

-- the reader has been fed exactly this text
abbrev pub StandsFor : FileProgress → List ℕ → Type 0
StandsFor progress file = progress ≡ file_progress file

-- ---- one byte more

-- the fields, where a line of these words has ended after them
abbrev pub with_line : Fields → HeaderLine → Fields
with_line fields line = record {
  id = if is_named (codes "id") line then Some (is_octree line.value) else fields.id;
  res =
      if is_named (codes "res") line then Some (resolution_of (metres_of line.value))
      else fields.res;
  size = if is_named (codes "size") line then Some (natural_of line.value) else fields.size;
}

-- a head whose line goes on with a byte
abbrev pub longer_line : Head → ℕ → Head
longer_line head byte = record {
  total = head.total + 1;
  begun = head.begun;
  first_line = head.first_line;
  fields = head.fields;
  line = head.line ++ byte ∷ [];
}

-- a head whose line has ended and isn't the data line
abbrev pub ended_line : Head → Head
ended_line head = record {
  total = head.total + 1;
  begun = true;
  first_line = if head.begun then head.first_line else first_line_fault head.line;
  fields = if head.begun then with_line head.fields (line_of head.line 0) else head.fields;
  line = [];
}

-- the header of a head whose data line has ended
abbrev pub closed_head : Head → Result Header BtFault
closed_head head = unless_faulty head.first_line (judged_fields (head.total + 1) head.fields)

-- what a file comes to at the end of its data line
abbrev pub opened : Result Header BtFault → FileProgress
opened (Err fault) = Refused fault
opened (Ok header) = Body header (at_first header.size)

-- what a head has become, where the data line ended with this header, or where none ended
abbrev pub after_take : Option (Result Header BtFault) → Head → FileProgress
after_take None head = Heading head
after_take (Some header) head = opened header

-- a head, after a line feed
abbrev pub after_line_feed : Head → FileProgress
after_line_feed head =
    if head.begun && is_data_line (line_of head.line 0) then opened (closed_head head)
    else Heading (ended_line head)

-- a head, after a byte; beyond the most that a head has it stays as it is
abbrev pub after_head_byte : Head → ℕ → FileProgress
after_head_byte head byte =
    if nat_lt head.total 65536 then
    (if is_line_feed byte then after_line_feed head else Heading (longer_line head byte))
    else Heading head

-- a file, after a byte
abbrev pub after_file_byte : FileProgress → ℕ → FileProgress
after_file_byte (Heading head) byte = after_head_byte head byte
after_file_byte (Refused fault) byte = Refused fault
after_file_byte (Body header progress) byte = Body header (after_byte header.start progress byte)
after_file_byte Spent byte = Spent

-- how many bytes of a file are kept: those of the header's line that hasn't ended, and later those
-- of the whole records
abbrev pub bytes_kept : FileProgress → ℕ
bytes_kept (Heading head) = length head.line
bytes_kept (Refused fault) = 0
bytes_kept (Body header progress) = data_kept progress
bytes_kept Spent = 0

-- a byte is kept: there is more to keep after it
abbrev pub IsKept : FileProgress → ℕ → Type 0
IsKept progress byte = bytes_kept progress < bytes_kept (after_file_byte progress byte)

-- some byte of a piece is kept
abbrev pub KeepsSome : FileProgress → List ℕ → Type 0
KeepsSome progress piece = (front : List ℕ) × (byte : ℕ) × (rest : List ℕ)
    × (piece ≡ front ++ byte ∷ rest)
    × IsKept (fold after_file_byte progress front) byte

-- the first fault if there is one, else the other
abbrev pub fault_or : Option BtFault → BtFault → BtFault
fault_or (Some fault) other = fault
fault_or None other = other

-- the fault of a file that ends in its head
abbrev pub head_fault : Head → BtFault
head_fault head =
    fault_or (if head.begun then head.first_line else first_line_fault head.line)
    (no_data_line head.total)
