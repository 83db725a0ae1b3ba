-- A whole file: how it is written, and what it is read as.
use Rattle.std.specs.Prelude.{codes, ℕ, nat_lt, List, [], ◌∷◌, ◌++◌, drop, Result, Ok, Err}
use Rattle.std.specs.Prelude.{if◌then◌else◌}
use Rattle.std.specs.Fmt.{decimal}
use Rattle.oct_num.specs.MetresText.{metres_text}
use Rattle.oct_bt.specs.declared.fault.BtFault.{BtFault}
use Rattle.oct_bt.specs.declared.fault.BtFault.TheVariants.{NotOctomap, MissingField, Truncated}
use Rattle.oct_bt.specs.declared.fault.HeaderWord.TheVariants.{Data}
use Rattle.oct_values.specs.Classes.{Classes}
use Rattle.oct_bt.specs.Canonical.{canonical_data, canonical_size}
use Rattle.oct_bt.specs.NodeData.{read_nodes}
use Rattle.oct_bt.specs.Header.{Header, head_of, header_of}
use Rattle.std.specs.Prelude.{pos}

-- ---- what is written

-- lines, each ended by a line feed
unfoldable pub text_of_lines : List (List ℕ) → List ℕ
text_of_lines [] = []
text_of_lines (line ∷ lines) = line ++ (10 ∷ text_of_lines lines)

-- the lines of a header with these texts of the size and of the resolution
abbrev pub header_lines : List ℕ → List ℕ → List (List ℕ)
header_lines size res =
    codes "# Octomap OcTree binary file"
    ∷ codes "# (feel free to add / change comments, but leave the first line as it is!)"
    ∷ codes "#"
    ∷ codes "id OcTree"
    ∷ (codes "size " ++ size)
    ∷ (codes "res " ++ res)
    ∷ codes "data"
    ∷ []

-- the header of a number of nodes and of a resolution in nanometres
unfoldable pub header_text : ℕ → ℕ → List ℕ
header_text nodes res = text_of_lines (header_lines (decimal nodes) (metres_text (pos res)))

-- the canonical file of a resolution and a class for each voxel
unfoldable pub bt_text : ℕ → Classes → List ℕ
bt_text res classes = header_text (canonical_size classes) res ++ canonical_data classes

-- ---- what is read

-- a file that was read: the nanometres of its resolution, the bytes of its records, two for each
-- with a code of two bits for each child, and the number of its nodes
pub record FileRead : Type 0 where
  pub res : ℕ
  pub codes : List ℕ
  pub nodes : ℕ

-- the file of a header and the records that were read after it
abbrev pub file_with : Header → Result (List ℕ) BtFault → Result FileRead BtFault
file_with header (Ok records) =
    Ok (record { res = header.res; codes = records; nodes = header.size })
file_with header (Err fault) = Err fault

-- what a file is read as after its header
abbrev pub after_header : List ℕ → Result Header BtFault → Result FileRead BtFault
after_header file (Err fault) = Err fault
after_header file (Ok header) =
    file_with header (read_nodes header.start header.size (drop header.start file))

-- the reading of a whole file, or its first fault
unfoldable pub reading : List ℕ → Result FileRead BtFault
reading file = after_header file (header_of (head_of file))

-- a file that was read, written again: a header of the writer's form, and the same records
abbrev pub file_text : FileRead → List ℕ
file_text file = header_text file.nodes file.res ++ file.codes

-- the fault of a canonical file whose header has this many bytes, where only n of its first
-- bytes are there
abbrev pub front_fault : ℕ → ℕ → BtFault
front_fault header n =
    if nat_lt n 28 then NotOctomap
    else if nat_lt n header then MissingField Data
    else Truncated n
