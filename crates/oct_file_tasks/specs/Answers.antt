-- The answers of tasks over a file, as functions of its bytes, and the texts of those that are
-- never refused.
use Rattle.std.specs.Prelude.{◌++◌, ℕ, pos, codes, decimal, List, [], length, nat_lt, count_by}
use Rattle.std.specs.Prelude.{Bool, true, false, Result, Ok, Err, if◌then◌else◌}
use Rattle.oct_num.specs.MetresText.{metres_text}
use Rattle.oct_key.specs.Block.{root_block}
use Rattle.oct_odds.specs.declared.event.Class.{Class}
use Rattle.oct_odds.specs.declared.event.Class.TheVariants.{Free, Occupied}
use Rattle.oct_values.specs.Blocks.{voxels_of}
use Rattle.oct_bt.specs.declared.fault.BtFault.{BtFault}
use Rattle.oct_values.specs.Classes.{Classes, is_same_class}
use Rattle.oct_bt.specs.DataClasses.{data_classes, is_canonical}
use Rattle.oct_bt.specs.FaultText.{fault_text}
use Rattle.oct_bt.specs.File.{FileRead, bt_text, reading}
use Rattle.oct_bt.specs.Records.{record_total}
use Rattle.oct_io.specs.Answer.{Answer}
use Rattle.oct_io.specs.declared.status.Status.TheVariants.{Done, BadFile, TooLong}

-- the line of a refusal
abbrev pub refusal_line : BtFault → List ℕ
refusal_line fault = codes "refused " ++ fault_text fault ++ codes "\n"

-- the answer to what was read, by that to a file
abbrev pub answer_to : (FileRead → Answer) → Result FileRead BtFault → Answer
answer_to of_file (Ok file) = of_file file
answer_to of_file (Err fault) = record { text = refusal_line fault; status = BadFile }

-- the answer to an input: nothing where it has too many bytes
unfoldable pub task_answer : (FileRead → Answer) → ℕ → List ℕ → Answer
task_answer of_file max_bytes bytes =
    if nat_lt max_bytes (length bytes) then record { text = []; status = TooLong }
    else answer_to of_file (reading bytes)

-- the answer to a file that is this text of it
abbrev pub done_with : (FileRead → List ℕ) → FileRead → Answer
done_with text file = record { text = text file; status = Done }

-- the canonical file of the resolution and the classes of a file
abbrev pub canonical_text : FileRead → List ℕ
canonical_text file = bt_text file.res (data_classes file.codes)

-- whether what was read is a file whose node data is canonical
abbrev pub is_canonical_file : Result FileRead BtFault → Bool
is_canonical_file (Ok file) = is_canonical file.codes
is_canonical_file (Err fault) = false

-- the number of voxels of the map that are of a class
unfoldable pub voxel_count : Class → Classes → ℕ
voxel_count class classes = count_by (λ k. is_same_class (classes k) class) (voxels_of root_block)

-- the word for whether something is so
abbrev pub yes_or_no : Bool → List ℕ
yes_or_no true = codes "yes"
yes_or_no false = codes "no"

-- a line of a word and what it says
abbrev pub line : List ℕ → List ℕ → List ℕ
line word said = word ++ said ++ codes "\n"

-- six lines: the resolution in metres, the number of nodes, of records, of free voxels and of
-- occupied ones, and whether the node data is the canonical one
abbrev pub report : FileRead → List ℕ
report file =
    line (codes "res ") (metres_text (pos file.res))
    ++ line (codes "size ") (decimal file.nodes)
    ++ line (codes "records ") (decimal (record_total file.codes))
    ++ line (codes "free ") (decimal (voxel_count Free (data_classes file.codes)))
    ++ line (codes "occupied ") (decimal (voxel_count Occupied (data_classes file.codes)))
    ++ line (codes "canonical ") (yes_or_no (is_canonical file.codes))
