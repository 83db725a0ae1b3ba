-- The header of a file: its lines up to the data line, and what they say.
use Rattle.std.specs.Prelude.{codes, bytes_eq, ℕ, ◌+◌, ◌-◌, ℤ, pos, negsuc, nat_eq, nat_lt, nat_le}
use Rattle.std.specs.Prelude.{Bool, true, false, not, ◌&&◌, ◌||◌, List, [], ◌∷◌, length, take, drop}
use Rattle.std.specs.Prelude.{take_while, slice_index, fold, Option, Some, None, option_map, Result}
use Rattle.std.specs.Prelude.{Ok, Err, if◌then◌else◌}
use Rattle.std.specs.List.{slice_split, find, prefix_len, starts_with}
use Rattle.oct_num.specs.Metres.{metres_of}
use Rattle.oct_num.specs.Whole.{natural_of}
use Rattle.oct_num.specs.declared.metres.NumFault.{NumFault}
use Rattle.oct_bt.specs.declared.fault.BtFault.{BtFault}
use Rattle.oct_bt.specs.declared.fault.BtFault.TheVariants.{NotOctomap, FloatTree, WrongId}
use Rattle.oct_bt.specs.declared.fault.BtFault.TheVariants.{MissingField, BadField, HeaderTooLong}
use Rattle.oct_bt.specs.declared.fault.HeaderWord.TheVariants.{Id, Res, Size, Data}

-- ---- lines and words

-- the byte that ends a line
abbrev pub is_line_feed : ℕ → Bool
is_line_feed b = nat_eq b 10

-- a space or a tab
abbrev pub is_blank : ℕ → Bool
is_blank b = nat_eq b 32 || nat_eq b 9

-- any other byte is part of a word
abbrev pub is_in_word : ℕ → Bool
is_in_word b = not (is_blank b)

-- a text without the carriage return at its end, if there is one; an empty text has none, since a
-- byte that isn't there is read as 0
abbrev pub trimmed : List ℕ → List ℕ
trimmed text =
    if nat_eq (slice_index text (length text - 1)) 13 then take (length text - 1) text else text

-- a text without the blanks at its front
abbrev pub without_blanks : List ℕ → List ℕ
without_blanks text = drop (prefix_len is_blank text) text

-- the first word of a text, empty where there is none
abbrev pub first_word : List ℕ → List ℕ
first_word text = take_while is_in_word (without_blanks text)

-- what stands after the first word
abbrev pub after_word : List ℕ → List ℕ
after_word text = drop (prefix_len is_in_word (without_blanks text)) (without_blanks text)

-- a line by its first word and its second, and the place of the first byte after its line feed
pub record HeaderLine : Type 0 where
  pub name : List ℕ
  pub value : List ℕ
  pub after : ℕ

-- the line that a text is, whose line feed stands before this place
abbrev pub line_of : List ℕ → ℕ → HeaderLine
line_of text after = record {
  name = first_word (trimmed text);
  value = first_word (after_word (trimmed text));
  after = after;
}

-- the lines that end in these parts between line feeds, the first of which begins at this place;
-- the last part hasn't ended
unfoldable pub lines_from : ℕ → List (List ℕ) → List HeaderLine
lines_from at [] = []
lines_from at (part ∷ []) = []
lines_from at (part ∷ next ∷ parts) =
    line_of part (at + length part + 1) ∷ lines_from (at + length part + 1) (next ∷ parts)

-- the lines after the first one that have ended in these bytes
abbrev pub lines_of : List ℕ → List HeaderLine
lines_of bytes = drop 1 (lines_from 0 (slice_split is_line_feed bytes))

-- whether the first word of a line is this name
abbrev pub is_named : List ℕ → HeaderLine → Bool
is_named name line = bytes_eq line.name name

-- whether the node data begins after a line
abbrev pub is_data_line : HeaderLine → Bool
is_data_line line = is_named (codes "data") line

-- ---- fields

-- the value of a field among lines: of several lines of its name the last one counts
abbrev pub value_among : List ℕ → List HeaderLine → Option (List ℕ)
value_among name lines =
    fold (λ found line. if is_named name line then Some line.value else found) None lines

-- the nanometres of a resolution from 0.0001 to 100 metres
abbrev pub resolution_of : Result ℤ NumFault → Option ℕ
resolution_of (Err fault) = None
resolution_of (Ok (negsuc n)) = None
resolution_of (Ok (pos n)) = if nat_le 100000 n && nat_le n 100000000000 then Some n else None

-- the fields that are there: whether the id is the one of these files, the nanometres of the
-- resolution and the number of nodes, each none where its value isn't of its form
pub record Fields : Type 0 where
  pub id : Option Bool
  pub res : Option (Option ℕ)
  pub size : Option (Option ℕ)

-- whether this is the id of the files
abbrev pub is_octree : List ℕ → Bool
is_octree value = bytes_eq value (codes "OcTree")

-- the fields that these lines say
abbrev pub fields_of : List HeaderLine → Fields
fields_of lines = record {
  id = option_map is_octree (value_among (codes "id") lines);
  res = option_map (λ value. resolution_of (metres_of value)) (value_among (codes "res") lines);
  size = option_map natural_of (value_among (codes "size") lines);
}

-- what a header says: the nanometres of the resolution, the number of nodes, and where the node
-- data begins
pub record Header : Type 0 where
  pub res : ℕ
  pub size : ℕ
  pub start : ℕ

-- the header, where all but the size is judged
abbrev pub judged_size : ℕ → ℕ → Option (Option ℕ) → Result Header BtFault
judged_size start res None = Err (MissingField Size)
judged_size start res (Some None) = Err (BadField Size)
judged_size start res (Some (Some size)) = Ok (record { res = res; size = size; start = start })

-- where the resolution and the size are to be judged
abbrev pub judged_res : ℕ → Option (Option ℕ) → Option (Option ℕ) → Result Header BtFault
judged_res start None size = Err (MissingField Res)
judged_res start (Some None) size = Err (BadField Res)
judged_res start (Some (Some res)) size = judged_size start res size

-- where all three are
abbrev pub judged_id : ℕ → Option Bool → Option (Option ℕ) → Option (Option ℕ)
    → Result Header BtFault
judged_id start None res size = Err (MissingField Id)
judged_id start (Some false) res size = Err WrongId
judged_id start (Some true) res size = judged_res start res size

-- the header of these fields, or its first fault, in the order id, resolution, size
abbrev pub judged_fields : ℕ → Fields → Result Header BtFault
judged_fields start fields = judged_id start fields.id fields.res fields.size

-- ---- the header

-- what is wrong with the first line of a file, by which it says what it is
abbrev pub first_line_fault : List ℕ → Option BtFault
first_line_fault text =
    if starts_with nat_eq text (codes "# Octomap OcTree binary file") then None
    else if starts_with nat_eq text (codes "# Octomap OcTree file") then Some FloatTree
    else Some NotOctomap

-- only the first 65,536 bytes of a file are looked at for its header
abbrev pub head_of : List ℕ → List ℕ
head_of file = take 65536 file

-- the data line: the first line of this name after the first line of the file
abbrev pub data_line : List ℕ → Option HeaderLine
data_line head = find is_data_line (lines_of head)

-- the fields before it
abbrev pub head_fields : List ℕ → Fields
head_fields head = fields_of (take_while (λ line. not (is_data_line line)) (lines_of head))

-- a fault of the first line goes before all others
abbrev pub unless_faulty : Option BtFault → Result Header BtFault → Result Header BtFault
unless_faulty (Some fault) header = Err fault
unless_faulty None header = header

-- the fault of a head without a data line
abbrev pub no_data_line : ℕ → BtFault
no_data_line total = if nat_lt total 65536 then MissingField Data else HeaderTooLong

-- the header of a head whose first line has no fault, by its data line
abbrev pub header_at : List ℕ → Option HeaderLine → Result Header BtFault
header_at head None = Err (no_data_line (length head))
header_at head (Some line) = judged_fields line.after (head_fields head)

-- the header of a file by these first bytes of it, or its first fault
unfoldable pub header_of : List ℕ → Result Header BtFault
header_of head = unless_faulty (first_line_fault head) (header_at head (data_line head))
