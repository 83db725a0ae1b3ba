-- Out of memory is no fault of a file.
use Rattle.std.specs.Prelude.{nat_eq, nat_lt, ◌&&◌, fold, replicate, ⊤, if◌then◌else◌}
use Rattle.std.specs.List.{starts_with}
use Rattle.std.proofs.Common.{◌≡◌, ℕ, zero, suc, ◌+◌, Bool, true, false, List, [], ◌∷◌, ◌++◌}
use Rattle.std.proofs.Common.{length, drop, Option, Some, None, Result, Ok, Err, subst, sym, codes}
use Rattle.oct_bt.specs.declared.fault.BtFault.{BtFault}
use Rattle.oct_bt.specs.declared.fault.BtFault.TheVariants.{Memory, MissingField, HeaderTooLong}
use Rattle.oct_bt.specs.declared.fault.BtFault.TheVariants.{NotOctomap, FloatTree, TooDeep}
use Rattle.oct_bt.specs.declared.fault.BtFault.TheVariants.{SizeMismatch}
use Rattle.oct_bt.specs.declared.fault.HeaderWord.TheVariants.{Data}
use Rattle.oct_bt.specs.Canonical.{node_total}
use Rattle.oct_bt.specs.File.{FileRead, file_with, after_header, reading}
use Rattle.oct_bt.specs.Header.{Header, HeaderLine, judged_size, judged_res, judged_id}
use Rattle.oct_bt.specs.Header.{first_line_fault, head_of, head_fields, data_line, unless_faulty}
use Rattle.oct_bt.specs.Header.{header_at, header_of}
use Rattle.oct_bt.specs.NodeData.{Progress, Reads, Stopped, records_in, after_byte, at_first}
use Rattle.oct_bt.specs.NodeData.{after_bytes, judged, read_nodes}

-- a fault is one of a file
abbrev IsOfFile : BtFault → Type 0
IsOfFile Memory = ⊥
IsOfFile other = ⊤

-- and so is that of a result, if it has one
abbrev IsTold : {T : Type 0} → Result T BtFault → Type 0
IsTold (Ok x) = ⊤
IsTold (Err fault) = IsOfFile fault

-- that of a beginning
abbrev IsMarked : Option BtFault → Type 0
IsMarked None = ⊤
IsMarked (Some fault) = IsOfFile fault

-- and that at which a reading has stopped
abbrev IsGoingOn : Progress → Type 0
IsGoingOn (Reads pending half records) = ⊤
IsGoingOn (Stopped fault) = IsOfFile fault

holds_of_either : {A : Type 0} (P : A → Type 0) (test : Bool) (x y : A) → P x → P y
    → P (if test then x else y)
holds_of_either P true x y one other = one
holds_of_either P false x y one other = other

-- ---- node data

more_read : (start : ℕ) (p : Progress) (byte : ℕ) → IsGoingOn p
    → IsGoingOn (after_byte start p byte)
more_read start (Stopped fault) byte on = on
more_read start (Reads [] half records) byte on = tt
more_read start (Reads (depth ∷ others) None records) byte on = tt
more_read start (Reads (depth ∷ others) (Some first) records) byte on =
    holds_of_either IsGoingOn (nat_eq depth 15 && nat_lt 0 (records_in first byte))
    (Stopped (TooDeep (start + length records)))
    (Reads (replicate (records_in first byte) (suc depth) ++ others) None
    (records ++ first ∷ byte ∷ [])) tt tt

all_read : (start : ℕ) (bytes : List ℕ) (p : Progress) → IsGoingOn p
    → IsGoingOn (fold (after_byte start) p bytes)
all_read start [] p on = on
all_read start (b ∷ bytes) p on =
    all_read start bytes (after_byte start p b) (more_read start p b on)

at_first_on : (size : ℕ) → IsGoingOn (at_first size)
at_first_on zero = tt
at_first_on (suc n) = tt

judged_told : (start size total : ℕ) (p : Progress) → IsGoingOn p
    → IsTold (judged start size total p)
judged_told start size total (Stopped fault) on = on
judged_told start size total (Reads (depth ∷ others) half records) on = tt
judged_told start size total (Reads [] half records) on =
    holds_of_either IsTold (nat_eq size (node_total records)) (Ok records)
    (Err (SizeMismatch size (node_total records))) tt tt

nodes_told : (start size : ℕ) (bytes : List ℕ) → IsTold (read_nodes start size bytes)
unfolding read_nodes after_bytes
nodes_told start size bytes =
    judged_told start size (length bytes) (fold (after_byte start) (at_first size) bytes)
    (all_read start bytes (at_first size) (at_first_on size))

-- ---- the header

size_told : (start res : ℕ) (size : Option (Option ℕ)) → IsTold (judged_size start res size)
size_told start res None = tt
size_told start res (Some None) = tt
size_told start res (Some (Some size)) = tt

res_told : (start : ℕ) (res size : Option (Option ℕ)) → IsTold (judged_res start res size)
res_told start None size = tt
res_told start (Some None) size = tt
res_told start (Some (Some res)) size = size_told start res size

id_told : (start : ℕ) (id : Option Bool) (res size : Option (Option ℕ))
    → IsTold (judged_id start id res size)
id_told start None res size = tt
id_told start (Some false) res size = tt
id_told start (Some true) res size = res_told start res size

header_at_told : (head : List ℕ) (line : Option HeaderLine) → IsTold (header_at head line)
header_at_told head None =
    holds_of_either IsOfFile (nat_lt (length head) 65536) (MissingField Data) HeaderTooLong tt tt
header_at_told head (Some line) =
    id_told line.after (head_fields head).id (head_fields head).res (head_fields head).size

marked_told : (mark : Option BtFault) (header : Result Header BtFault) → IsMarked mark
    → IsTold header → IsTold (unless_faulty mark header)
marked_told None header mark told = told
marked_told (Some fault) header mark told = mark

mark_told : (text : List ℕ) → IsMarked (first_line_fault text)
mark_told text =
    holds_of_either IsMarked (starts_with nat_eq text (codes "# Octomap OcTree binary file")) None
    (if starts_with nat_eq text (codes "# Octomap OcTree file") then Some FloatTree
    else Some NotOctomap) tt
    (holds_of_either IsMarked (starts_with nat_eq text (codes "# Octomap OcTree file")) (Some
    FloatTree)
    (Some NotOctomap) tt tt)

header_told : (head : List ℕ) → IsTold (header_of head)
unfolding header_of
header_told head =
    marked_told (first_line_fault head) (header_at head (data_line head)) (mark_told head)
    (header_at_told head (data_line head))

-- ---- the file

file_told : (header : Header) (records : Result (List ℕ) BtFault) → IsTold records
    → IsTold (file_with header records)
file_told header (Ok records) told = tt
file_told header (Err fault) told = told

after_told : (file : List ℕ) (header : Result Header BtFault) → IsTold header
    → IsTold (after_header file header)
after_told file (Err fault) told = told
after_told file (Ok header) told =
    file_told header (read_nodes header.start header.size (drop header.start file))
    (nodes_told header.start header.size (drop header.start file))

reading_told : (file : List ℕ) → IsTold (reading file)
unfolding reading
reading_told file =
    after_told file (header_of (head_of file)) (header_told (head_of file))

-- no file is read as one for which memory runs out
pub reading_wants_nothing : (file : List ℕ) → Err Memory ≡ reading file → ⊥
reading_wants_nothing file is =
    subst (λ (r : Result FileRead BtFault). IsTold r) (sym is) (reading_told file)
