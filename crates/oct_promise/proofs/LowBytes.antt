-- Of the numbers that stand for the bytes of a file, node data reads the low eight bits alone.
use Rattle.std.proofs.Common.{◌≡◌, ℕ, zero, suc, ◌+◌, ◌/◌, ◌%◌, ◌<◌, ◌≤◌, List, [], ◌∷◌, ◌++◌}
use Rattle.std.proofs.Common.{length, drop, Bool, true, false, cond, ◌&&◌, nat_lt, Some, None}
use Rattle.std.proofs.Common.{Result, Ok, Err, inl, inr, refl, sym, ap, subst, ◌∙◌, arith}
use Rattle.std.specs.Prelude.{nat_eq, fold, map, replicate, option_map, not, count_by}
use Rattle.std.specs.List.{All, flat_map}
use Rattle.std.proofs.lemmas.Bool.{eq-eqb}
use Rattle.oct_odds.specs.declared.event.Class.{Class}
use Rattle.oct_odds.specs.declared.event.Class.TheVariants.{Unknown, Free, Occupied}
use Rattle.oct_bt.specs.declared.fault.BtFault.{BtFault}
use Rattle.oct_bt.specs.declared.fault.BtFault.TheVariants.{TooDeep, TrailingBytes, SizeMismatch}
use Rattle.oct_bt.specs.Canonical.{canonical_data, codes_in, node_total}
use Rattle.oct_bt.specs.DataClasses.{Split, with_plain, with_record, split_entries, split_record}
use Rattle.oct_bt.specs.DataClasses.{data_classes}
use Rattle.oct_bt.specs.File.{FileRead, file_with, after_header, reading}
use Rattle.oct_bt.specs.Header.{Header, head_of, header_of}
use Rattle.oct_bt.specs.NodeData.{Progress, Reads, Stopped, records_in, after_record, after_byte}
use Rattle.oct_bt.specs.NodeData.{after_bytes, at_first, judged, read_nodes, IsAccepted}
use Rattle.oct_bt.specs.NodeData.{IsDataOf}
use Rattle.oct_bt.specs.Records.{record_total, class_by}
use Rattle.oct_bt.proofs.DataClassed.{data_classed}
use Rattle.oct_bt.proofs.Standing.{least_of_all}
use Rattle.oct_bt.proofs.Walks.{accepts_only, judged_ok}
use Rattle.oct_key.specs.Voxel.{Voxel, IsInMap}
use Rattle.oct_odds.specs.Update.{Value}
use Rattle.oct_values.specs.Classes.{Classes}
use Rattle.oct_values.specs.Counts.{group_count}
use Rattle.oct_values.proofs.Uniform.{same_group_count}
use Rattle.oct_promise.proofs.LoadedGroups.{groups_of_data}

abbrev low : ℕ → ℕ
low byte = byte % 256

abbrev lows : List ℕ → List ℕ
lows bytes = map low bytes

lows_length : (bytes : List ℕ) → length (lows bytes) ≡ length bytes
lows_length [] = refl
lows_length (byte ∷ bytes) = (let rest = lows_length bytes in omega (arith, rest))

lows_append : (xs ys : List ℕ) → lows (xs ++ ys) ≡ lows xs ++ lows ys
lows_append [] ys = refl
lows_append (x ∷ xs) ys = ap (λ l. low x ∷ l) (lows_append xs ys)

lows_below : (bytes : List ℕ) → All (λ b. b < 256) (lows bytes)
lows_below [] k d l = absurd (omega arith)
lows_below (byte ∷ bytes) zero d l = (let x : byte % 256 < 256 = omega arith in x)
lows_below (byte ∷ bytes) (suc k) d l = lows_below bytes k d (omega arith)

-- the codes of a byte are those of its low bits
codes_low : (byte : ℕ) → codes_in (low byte) ≡ codes_in byte
codes_low byte =
    let a : byte % 256 % 4 ≡ byte % 4 = omega arith in
    let b : byte % 256 / 4 % 4 ≡ byte / 4 % 4 = omega arith in
    let c : byte % 256 / 16 % 4 ≡ byte / 16 % 4 = omega arith in
    let d : byte % 256 / 64 % 4 ≡ byte / 64 % 4 = omega arith in
    rw (a, b, c, d) refl

records_low : (a b : ℕ) → records_in (low a) (low b) ≡ records_in a b
records_low a b = ap (λ codes. count_by (λ code. nat_eq code 3) (codes ++ codes_in (low b)))
    (codes_low a) ∙ ap (λ codes. count_by (λ code. nat_eq code 3) (codes_in a ++ codes))
    (codes_low b)

all_codes_low : (bytes : List ℕ) → flat_map codes_in (lows bytes) ≡ flat_map codes_in bytes
all_codes_low [] = refl
all_codes_low (byte ∷ bytes) =
    ap (λ codes. codes ++ flat_map codes_in (lows bytes)) (codes_low byte)
    ∙ ap (λ more. codes_in byte ++ more) (all_codes_low bytes)

total_low : (bytes : List ℕ) → node_total (lows bytes) ≡ node_total bytes
total_low [] = refl
total_low (byte ∷ bytes) =
    ap (λ codes. 1 + count_by (λ code. not (nat_eq code 0)) codes) (all_codes_low (byte ∷ bytes))

-- what a reading has come to, of the low bits
low_of : Progress → Progress
low_of (Reads depths half records) = Reads depths (option_map low half) (lows records)
low_of (Stopped fault) = Stopped fault

record_low : (start depth : ℕ) (others records : List ℕ) (first byte : ℕ) →
    after_record start depth others (lows records) (low first) (low byte)
    ≡ low_of (after_record start depth others records first byte)
unfolding low_of
record_low start depth others records first byte =
    ap (λ n. cond (nat_eq depth 15 && nat_lt 0 n)
    (Stopped (TooDeep (start + length (lows records))))
    (Reads (replicate n (suc depth) ++ others) None (lows records ++ low first ∷ low byte ∷ [])))
    (records_low first byte)
    ∙ by_test (nat_eq depth 15 && nat_lt 0 (records_in first byte))
  where
    by_test : (deep : Bool) → cond deep (Stopped (TooDeep (start + length (lows records))))
        (Reads (replicate (records_in first byte) (suc depth) ++ others) None
        (lows records ++ low first ∷ low byte ∷ []))
        ≡ low_of (cond deep (Stopped (TooDeep (start + length records)))
        (Reads (replicate (records_in first byte) (suc depth) ++ others) None
        (records ++ first ∷ byte ∷ [])))
    by_test true = ap (λ n. Stopped (TooDeep (start + n))) (lows_length records)
    by_test false = ap (Reads (replicate (records_in first byte) (suc depth) ++ others) None)
        (sym (lows_append records (first ∷ byte ∷ [])))

byte_low : (start : ℕ) (p : Progress) (byte : ℕ)
    → after_byte start (low_of p) (low byte) ≡ low_of (after_byte start p byte)
unfolding low_of
byte_low start (Reads [] half records) byte =
    ap (λ n. Stopped (TrailingBytes (start + n))) (lows_length records)
byte_low start (Reads (depth ∷ others) None records) byte = refl
byte_low start (Reads (depth ∷ others) (Some first) records) byte =
    record_low start depth others records first byte
byte_low start (Stopped fault) byte = refl

bytes_low : (start : ℕ) (p : Progress) (bytes : List ℕ)
    → fold (after_byte start) (low_of p) (lows bytes) ≡ low_of (fold (after_byte start) p bytes)
bytes_low start p [] = refl
bytes_low start p (byte ∷ bytes) =
    ap (λ q. fold (after_byte start) q (lows bytes)) (byte_low start p byte)
    ∙ bytes_low start (after_byte start p byte) bytes

first_low : (size : ℕ) → low_of (at_first size) ≡ at_first size
unfolding low_of
first_low zero = refl
first_low (suc n) = refl

-- a reading that accepts node data accepts the low bits of it
nodes_low : (start size : ℕ) (bytes records : List ℕ) → read_nodes start size bytes ≡ Ok records
    → read_nodes start size (lows bytes) ≡ Ok (lows records)
unfolding read_nodes after_bytes low_of
nodes_low start size bytes records e =
    let (half, ends, total) =
    judged_ok start size (length bytes) (fold (after_byte start) (at_first size) bytes) records e in
    let ends_low : fold (after_byte start) (at_first size) (lows bytes)
    ≡ Reads [] (option_map low half) (lows records) =
    ap (λ p. fold (after_byte start) p (lows bytes)) (sym (first_low size))
    ∙ bytes_low start (at_first size) bytes ∙ ap low_of ends in
    ap (judged start size (length (lows bytes))) ends_low
    ∙ ap (λ b. cond b (Ok (lows records)) (Err (SizeMismatch size (node_total (lows records)))))
    (same_total total)
  where
    same_total : size ≡ node_total records → nat_eq size (node_total (lows records)) ≡ true
    same_total total = eq-eqb size (node_total (lows records)) (total ∙ sym (total_low records))

accepted_low : (start size : ℕ) (bytes records : List ℕ) → read_nodes start size bytes ≡ Ok records
    → IsAccepted size (lows records)
accepted_low start size bytes records e =
    let (same, accepted) = accepts_only start size (lows bytes) (lows records) (lows_below bytes)
    (nodes_low start size bytes records e) in
    subst (IsAccepted size) (sym same) accepted

-- the classes of node data are those of the low bits
low_split : Split → Split
low_split split = record { entries = split.entries; rest = lows split.rest }

entries_low : (first : List ℕ → Split)
    → ((text : List ℕ) → first (lows text) ≡ low_split (first text)) → (codes text : List ℕ)
    → split_entries first codes (lows text) ≡ low_split (split_entries first codes text)
unfolding split_entries low_split
entries_low first same [] text = refl
entries_low first same (zero ∷ codes) text =
    ap (with_plain Unknown) (entries_low first same codes text)
entries_low first same (suc zero ∷ codes) text =
    ap (with_plain Free) (entries_low first same codes text)
entries_low first same (suc (suc zero) ∷ codes) text =
    ap (with_plain Occupied) (entries_low first same codes text)
entries_low first same (suc (suc (suc more)) ∷ codes) text =
    ap (λ (split : Split). with_record split (split_entries first codes split.rest)) (same text)
    ∙ ap (with_record (low_split (first text))) (entries_low first same codes (first text).rest)

record_low_split : (depths : ℕ) (text : List ℕ)
    → split_record depths (lows text) ≡ low_split (split_record depths text)
unfolding split_record low_split
record_low_split zero text = refl
record_low_split (suc depths) [] = refl
record_low_split (suc depths) (first ∷ []) = refl
record_low_split (suc depths) (first ∷ second ∷ text) =
    ap (λ codes. split_entries (split_record depths) (codes ++ codes_in (low second)) (lows text))
    (codes_low first)
    ∙ ap (λ codes. split_entries (split_record depths) (codes_in first ++ codes) (lows text))
    (codes_low second)
    ∙ entries_low (split_record depths) (record_low_split depths)
    (codes_in first ++ codes_in second) text

classes_low : (bytes : List ℕ) (k : Voxel) → data_classes (lows bytes) k ≡ data_classes bytes k
unfolding data_classes low_split
classes_low [] k = refl
classes_low (byte ∷ bytes) k =
    ap (λ (split : Split). class_by 0 split.entries k) (record_low_split 16 (byte ∷ bytes))

-- the values that are given to the classes of accepted node data need no more groups than it has
-- records
groups_of_nodes : (start size : ℕ) (bytes records : List ℕ) (value : Class → Value)
    → read_nodes start size bytes ≡ Ok records →
    group_count (λ k. value (data_classes records k)) ≤ record_total records
groups_of_nodes start size bytes records value e =
    let few = groups_of_data (data_classes (lows records)) value (lows records)
    (data_classed size (lows records) (accepted_low start size bytes records e)) in
    let same = same_group_count (λ k. value (data_classes (lows records) k))
    (λ k. value (data_classes records k)) (λ k in_map. ap value (classes_low records k)) in
    let long : record_total (lows records) ≡ record_total records =
    ap (λ n. n / 2) (lows_length records) in
    omega (arith, few, same, long)

not_ok : {A E : Type 0} (e : E) (x : A) → Err e ≡ Ok x → ⊥
not_ok e x h = cc

codes_ok : Result FileRead BtFault → List ℕ
codes_ok (Ok read) = read.codes
codes_ok (Err fault) = []

-- the codes of a file that was read are the node data behind its header
nodes_of_file : (file : List ℕ) (read : FileRead) → reading file ≡ Ok read
    → (header : Header)
    × (read_nodes header.start header.size (drop header.start file) ≡ Ok read.codes)
unfolding reading codes_ok
nodes_of_file file read h = by_header (header_of (head_of file)) h
  where
    by_nodes : (header : Header) (nodes : Result (List ℕ) BtFault)
        → read_nodes header.start header.size (drop header.start file) ≡ nodes
        → file_with header nodes ≡ Ok read
        → read_nodes header.start header.size (drop header.start file) ≡ Ok read.codes
    by_nodes header (Err fault) is e = absurd (not_ok fault read e)
    by_nodes header (Ok records) is e = is ∙ ap Ok (ap codes_ok e)

    by_header : (header : Result Header BtFault) → after_header file header ≡ Ok read
        → (header : Header)
        × (read_nodes header.start header.size (drop header.start file) ≡ Ok read.codes)
    by_header (Err fault) e = absurd (not_ok fault read e)
    by_header (Ok header) e = (
      header,
      by_nodes header (read_nodes header.start header.size (drop header.start file)) refl e,
    )

-- and need no more groups than it has records, as the values of its classes
pub groups_of_file : (file : List ℕ) (read : FileRead) (value : Class → Value)
    → reading file ≡ Ok read
    → group_count (λ k. value (data_classes read.codes k)) ≤ record_total read.codes
groups_of_file file read value h =
    let (header, is) = nodes_of_file file read h in
    groups_of_nodes header.start header.size (drop header.start file) read.codes value is

-- no canonical data of its classes is longer
pub data_of_file : (file : List ℕ) (read : FileRead) (classes : Classes) → reading file ≡ Ok read
    → ((k : Voxel) → IsInMap k → data_classes read.codes k ≡ classes k)
    → length (canonical_data classes) ≤ length read.codes
data_of_file file read classes h same =
    let (header, is) = nodes_of_file file read h in
    let front : List ℕ = lows read.codes in
    let stands = data_classed header.size front
    (accepted_low header.start header.size (drop header.start file) read.codes is) in
    let least = (least_of_all classes front (data_for (data_classes front) classes front
    (λ k in_map. classes_low read.codes k ∙ same k in_map) stands)).0 in
    let long = lows_length read.codes in
    omega (arith, least, long)
  where
    data_for : (c e : Classes) (bytes : List ℕ) → ((k : Voxel) → IsInMap k → c k ≡ e k)
        → IsDataOf c bytes → IsDataOf e bytes
    data_for c e bytes alike (inl (empty, all)) =
        inl (empty, λ k in_map. sym (alike k in_map) ∙ all k in_map)
    data_for c e bytes alike (inr (r, is, text, gives)) =
        inr (r, is, text, λ k in_map. gives k in_map ∙ alike k in_map)
