-- The records of a file are no longer than the file.
use Rattle.std.proofs.Common.{◌≡◌, ℕ, zero, suc, ◌≤◌, Bool, true, false, List, [], ◌∷◌, length}
use Rattle.std.proofs.Common.{drop, refl, sym, ◌∙◌, ap, arith, length-drop, Result, Ok, Err}
use Rattle.std.specs.Prelude.{nat_eq, fold}
use Rattle.oct_bt.specs.declared.fault.BtFault.{BtFault}
use Rattle.oct_bt.specs.declared.fault.BtFault.TheVariants.{SizeMismatch}
use Rattle.oct_bt.specs.Canonical.{node_total}
use Rattle.oct_bt.specs.NodeData.{Progress, Reads, Stopped, after_byte, at_first, after_bytes}
use Rattle.oct_bt.specs.NodeData.{judged, read_nodes}
use Rattle.oct_bt.specs.Header.{Header, head_of, header_of}
use Rattle.oct_bt.specs.File.{FileRead, file_with, after_header, reading}
use Rattle.oct_bt.proofs.Endings.{half_length, taken_by, is_going, length_read}

not_ok : {A E : Type 0} (e : E) (x : A) → Err e ≡ Ok x → ⊥
not_ok e x h = cc

unwrapped : {A E : Type 0} → A → Result A E → A
unwrapped other (Ok x) = x
unwrapped other (Err e) = other

ok_same : {A E : Type 0} (x : A) (r : Result A E) (y : A) → Ok x ≡ r → r ≡ Ok y → x ≡ y
unfolding unwrapped
ok_same x r y same h = ap (unwrapped x) same ∙ ap (unwrapped x) h

first_none : (size : ℕ) → taken_by (at_first size) ≡ 0
unfolding taken_by half_length
first_none zero = refl
first_none (suc n) = refl

judged_short : (start size total : ℕ) (p : Progress) (records : List ℕ)
    → (is_going p ≡ true → taken_by p ≡ total)
    → judged start size total p ≡ Ok records → length records ≤ total
unfolding taken_by half_length is_going
judged_short start size total (Stopped fault) records long h = absurd (not_ok fault records h)
judged_short start size total (Reads (d ∷ others) half whole) records long h = absurd (cc)
judged_short start size total (Reads [] half whole) records long h =
    by_test (nat_eq size (node_total whole)) refl
  where
    by_test : (same : Bool) → nat_eq size (node_total whole) ≡ same → length records ≤ total
    by_test true e = (
        let is : whole ≡ records =
        ok_same whole (judged start size total (Reads [] half whole)) records (rw e refl) h in
        let size : length whole ≡ length records = ap length is in
        let all = long refl in
        omega (arith, size, all))
    by_test false e =
        absurd (not_ok (SizeMismatch size (node_total whole)) records (sym (rw e refl) ∙ h))

pub nodes_short : (start size : ℕ) (bytes records : List ℕ) → read_nodes start size bytes
    ≡ Ok records → length records ≤ length bytes
unfolding read_nodes after_bytes
nodes_short start size bytes records h =
    judged_short start size (length bytes) (fold (after_byte start) (at_first size) bytes) records
    (λ going. (let more = length_read bytes start (at_first size) going in let none =
    first_none size in omega (arith, more, none))) h

pub reading_short : (file : List ℕ) (read : FileRead) → reading file ≡ Ok read
    → length read.codes ≤ length file
unfolding reading
reading_short file read h = by_header (header_of (head_of file)) h
  where
    by_nodes : (header : Header) (nodes : Result (List ℕ) BtFault)
        → read_nodes header.start header.size (drop header.start file) ≡ nodes
        → file_with header nodes ≡ Ok read → length read.codes ≤ length file
    by_nodes header (Err fault) is e = absurd (not_ok fault read e)
    by_nodes header (Ok records) is e = (
        let short = nodes_short header.start header.size (drop header.start file) records is in
        let left = length-drop header.start file in
        let same : length records ≡ length read.codes = ap (λ (f : FileRead). length f.codes)
        (ok_same (record { res = header.res; codes = records; nodes = header.size })
        (file_with header (Ok records)) read refl e) in
        omega (arith, short, left, same))

    by_header : (header : Result Header BtFault) → after_header file header ≡ Ok read
        → length read.codes ≤ length file
    by_header (Err fault) e = absurd (not_ok fault read e)
    by_header (Ok header) e =
        by_nodes header (read_nodes header.start header.size (drop header.start file)) refl e
