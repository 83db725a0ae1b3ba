-- A canonical file of which only a front is there.
use Rattle.std.proofs.Common.{◌≡◌, pos, ◌^◌, ℕ, zero, suc, ◌+◌, ◌-◌, ◌<◌, ◌≤◌, Bool, true, false}
use Rattle.std.proofs.Common.{Some, None, List, [], ◌∷◌, ◌++◌, length, take, drop, refl, sym, subst}
use Rattle.std.proofs.Common.{◌∙◌, ap, arith, Ok, Err, length-append, append_assoc}
use Rattle.std.specs.Prelude.{codes, nat_eq, nat_lt, nat_le, not, ◌&&◌, fold}
use Rattle.std.proofs.lemmas.Bool.{leb-true, leb-false, le-leb, and_parts, false≢true}
use Rattle.std.proofs.lemmas.List.Elements.{All-take}
use Rattle.std.specs.List.{All, slice_split, find, starts_with}
use Rattle.std.proofs.Math.Seq.{take-append-add}
use Rattle.std.proofs.lemmas.List.{take-append-le, take-append-drop, length-take}
use Rattle.std.proofs.lemmas.List.{length-drop}
use Rattle.std.proofs.lemmas.List.Sums.{fold-append}
use Rattle.std.proofs.lemmas.List.Splits.{slice_split_none, slice_split_at}
use Rattle.oct_bt.specs.declared.fault.BtFault.{BtFault}
use Rattle.oct_bt.specs.declared.fault.BtFault.TheVariants.{Truncated}
use Rattle.oct_bt.specs.NodeData.{Progress, Reads, Stopped, at_first, after_byte, after_bytes}
use Rattle.oct_bt.specs.NodeData.{judged, read_nodes}
use Rattle.oct_num.specs.MetresText.{metres_text}
use Rattle.oct_key.specs.Voxel.{IsResolution}
use Rattle.oct_values.specs.Classes.{Classes}
use Rattle.oct_bt.specs.declared.fault.BtFault.TheVariants.{NotOctomap, MissingField}
use Rattle.oct_bt.specs.declared.fault.HeaderWord.TheVariants.{Data}
use Rattle.oct_bt.specs.Canonical.{canonical_data, canonical_size}
use Rattle.oct_bt.specs.Header.{is_line_feed, is_data_line, first_line_fault, header_of}
use Rattle.oct_bt.specs.Header.{header_at, data_line, lines_from, unless_faulty}
use Rattle.oct_bt.specs.File.{text_of_lines, header_lines, header_text, bt_text, reading}
use Rattle.oct_bt.specs.File.{after_header, file_with, front_fault}
use Rattle.oct_bt.proofs.FilesBack.{HeaderTexts, header_texts, after_written}
use Rattle.oct_bt.proofs.Sizes.{accepted_few}
use Rattle.oct_bt.proofs.Standing.{canonical_accepted, canonical_reads}
use Rattle.oct_bt.proofs.WrittenHeaders.{IsFieldText, no_feeds, size_name, res_name}
use Rattle.oct_bt.proofs.HeadSteps.{whole_head}
use Rattle.oct_bt.proofs.Walks.{stays_stopped}

-- ---- node data

fault_is_none : (start size total : ℕ) (fault : BtFault) (whole : List ℕ)
    → judged start size total (Stopped fault) ≡ Ok whole → ⊥
fault_is_none start size total fault whole e = cc

-- a reading that a further byte takes to its end was under way before it
under_way : (start size total n : ℕ) (p : Progress) (b : ℕ) (more whole : List ℕ)
    → judged start size total (fold (after_byte start) p (b ∷ more)) ≡ Ok whole
    → judged start size n p ≡ Err (Truncated (start + n))
under_way start size total n (Stopped fault) b more whole ends =
    absurd (fault_is_none start size total fault whole (ap (judged start size total)
    (sym (stays_stopped start fault more)) ∙ ends))
under_way start size total n (Reads [] half records) b more whole ends =
    absurd (fault_is_none start size total _ whole (ap (judged start size total)
    (sym (stays_stopped start _ more)) ∙ ends))
under_way start size total n (Reads (depth ∷ others) half records) b more whole ends = refl

-- a front of node data that is accepted is truncated where it ends
pub front_of_data : (start size : ℕ) (bytes whole : List ℕ) (n : ℕ) → read_nodes start size bytes
    ≡ Ok whole → n < length bytes
    → read_nodes start size (take n bytes) ≡ Err (Truncated (start + n))
unfolding read_nodes after_bytes
front_of_data start size bytes whole n ends few = by_rest (drop n bytes) refl
  where
    all : length (take n bytes) ≡ n
    all = (let size = length-take n bytes in omega (arith, size, few))

    by_rest : (rest : List ℕ) → drop n bytes ≡ rest → read_nodes start size (take n bytes)
        ≡ Err (Truncated (start + n))
    by_rest [] is =
        absurd (let long = length-drop n bytes in let none : length (drop n bytes) ≡ 0 =
        ap length is in omega (arith, long, none, few))
    by_rest (b ∷ more) is =
        (let parts : take n bytes ++ (b ∷ more) ≡ bytes = ap (λ t. take n bytes ++ t) (sym is)
        ∙ take-append-drop n bytes in
        let joined = fold-append (after_byte start) (at_first size) (take n bytes) (b ∷ more) in
        ap (λ (m : ℕ). judged start size m (fold (after_byte start) (at_first size) (take n bytes)))
        all
        ∙ under_way start size (length bytes) n (fold (after_byte start) (at_first size)
        (take n bytes)) b more whole
        (ap (judged start size (length bytes))
        (sym joined ∙ ap (fold (after_byte start) (at_first size)) parts) ∙ ends))

-- ---- lines

-- how a front of lines is cut: some lines have ended in it, and a piece of the next one stands
-- there
pub record IsFront (lines : List (List ℕ)) (front : List ℕ) : Type 0 where
  pub ended : ℕ
  pub piece : List ℕ
  pub some : ended < length lines
  pub parts : slice_split is_line_feed front ≡ take ended lines ++ piece ∷ []

pub front_of_lines : (lines : List (List ℕ)) (n : ℕ)
    → All (λ line. All (λ b. is_line_feed b ≡ false) line) lines
    → n < length (text_of_lines lines) → IsFront lines (take n (text_of_lines lines))
unfolding text_of_lines
front_of_lines [] n free few = absurd (omega (arith, few))
front_of_lines (line ∷ lines) n free few =
    by_length (nat_le n (length line)) refl
    (λ m l. front_of_lines lines m (λ k d l. free (suc k) d (omega arith)) l)
  where
    here : All (λ b. is_line_feed b ≡ false) line
    here = free 0 [] (omega arith)

    by_length : (t : Bool) → nat_le n (length line) ≡ t
        → ((m : ℕ) → m < length (text_of_lines lines)
        → IsFront lines (take m (text_of_lines lines)))
        → IsFront (line ∷ lines) (take n (line ++ (10 ∷ text_of_lines lines)))
    by_length true e more =
        (let short = leb-true n (length line) e in
        let is : take n (line ++ (10 ∷ text_of_lines lines)) ≡ take n line =
        take-append-le n line (10 ∷ text_of_lines lines) short in
        record {
          ended = 0;
          piece = take n line;
          some = omega arith;
          parts = ap (slice_split is_line_feed) is ∙ slice_split_none is_line_feed (take n line)
              (All-take (λ b. is_line_feed b ≡ false) n line here);
        })
    by_length false e more =
        (let long = leb-false n (length line) e in
        let at : n ≡ length line + suc (n - (length line + 1)) = omega (arith, long) in
        let is : take n (line ++ (10 ∷ text_of_lines lines))
        ≡ line ++ (10 ∷ take (n - (length line + 1)) (text_of_lines lines)) =
        ap (λ (n : ℕ). take n (line ++ (10 ∷ text_of_lines lines))) at
        ∙ take-append-add line (10 ∷ text_of_lines lines) (suc (n - (length line + 1))) in
        let size = length-append line (10 ∷ text_of_lines lines) in
        let rest = more (n - (length line + 1)) (omega (arith, long, few, size)) in
        record {
          ended = suc rest.ended;
          piece = rest.piece;
          some = (let l = rest.some in omega (arith, l));
          parts = ap (slice_split is_line_feed) is
              ∙ slice_split_at is_line_feed line 10 (take (n - (length line + 1))
              (text_of_lines lines)) here refl
              ∙ ap (λ t. line ∷ t) rest.parts;
        })

-- ---- the beginning

-- the first bytes of a file
abbrev marker : List ℕ
marker = codes "# Octomap OcTree binary file"

-- a test of each number below another one
each_below : ℕ → (ℕ → Bool) → Bool
each_below zero test = true
each_below (suc n) test = test n && each_below n test

below_passes : (n : ℕ) (test : ℕ → Bool) (i : ℕ) → each_below n test ≡ true → i < n → test i ≡ true
unfolding each_below
below_passes zero test i all few = absurd (omega (arith, few))
below_passes (suc n) test i all few =
    let parts = and_parts (test n) (each_below n test) all in
    by_place (nat_lt i n) refl (below_passes n test i parts.1) parts.0
  where
    by_place : (t : Bool) → nat_lt i n ≡ t → (i < n → test i ≡ true) → test n ≡ true → test i ≡ true
    by_place true e less last = less (leb-true (suc i) n e)
    by_place false e less last = (let more = leb-false (suc i) n e in
        let same : i ≡ n = omega (arith, more, few) in ap test same ∙ last)

-- a front that is shorter than the marker is neither it nor that of another tree
is_unmarked : ℕ → Bool
is_unmarked n =
    not (starts_with nat_eq (take n marker) marker) && not (starts_with nat_eq (take n marker)
    (codes "# Octomap OcTree file"))

all_unmarked : each_below 28 is_unmarked ≡ true
unfolding each_below is_unmarked
all_unmarked = refl

short_mark : (n : ℕ) → n < 28 → first_line_fault (take n marker) ≡ Some NotOctomap
unfolding is_unmarked
short_mark n few =
    let tests = and_parts (not (starts_with nat_eq (take n marker) marker))
    (not (starts_with nat_eq (take n marker) (codes "# Octomap OcTree file")))
    (below_passes 28 is_unmarked n all_unmarked few) in
    rw (not_true _ tests.0, not_true _ tests.1) refl
  where
    not_true : (t : Bool) → not t ≡ true → t ≡ false
    not_true true e = absurd (false≢true e)
    not_true false e = refl

long_mark : (rest : List ℕ) → first_line_fault (marker ++ rest) ≡ None
long_mark rest = refl

-- ---- a header that isn't whole

-- no data line has ended in a front of the lines of a header
no_data : (d e : ℕ) (ds es front : List ℕ) → IsFieldText (d ∷ ds) → IsFieldText (e ∷ es)
    → IsFront (header_lines (d ∷ ds) (e ∷ es)) front → data_line front ≡ None
unfolding lines_from
no_data d e ds es front s r f =
    ap (λ parts. find is_data_line (drop 1 (lines_from 0 parts))) f.parts ∙ by_count f.ended f.some
  where
    by_count : (m : ℕ) → m < length (header_lines (d ∷ ds) (e ∷ es))
        → find is_data_line
        (drop 1 (lines_from 0 (take m (header_lines (d ∷ ds) (e ∷ es)) ++ f.piece ∷ []))) ≡ None
    by_count zero few = refl
    by_count (suc zero) few = refl
    by_count (suc (suc zero)) few = refl
    by_count (suc (suc (suc zero))) few = refl
    by_count (suc (suc (suc (suc zero)))) few = refl
    by_count (suc (suc (suc (suc (suc zero))))) few = rw (size_name d ds s) refl
    by_count (suc (suc (suc (suc (suc (suc zero)))))) few =
        rw (size_name d ds s, res_name e es r) refl
    by_count (suc (suc (suc (suc (suc (suc (suc m))))))) few = absurd (omega (arith, few))

-- one that isn't begun as these files are
pub front_unmarked : (front : List ℕ) (fault : BtFault) → length front ≤ 65536
    → first_line_fault front ≡ Some fault → reading front ≡ Err fault
unfolding reading header_of
front_unmarked front fault few mark =
    ap (λ head. after_header front (unless_faulty (first_line_fault head)
    (header_at head (data_line head)))) (whole_head front few)
    ∙ ap (λ m. after_header front (unless_faulty m (header_at front (data_line front)))) mark

-- no bytes at all
pub nothing_read : reading [] ≡ Err NotOctomap
nothing_read = front_unmarked [] NotOctomap (omega arith) refl

-- one without a data line
pub front_unended : (front : List ℕ) → length front < 65536 → first_line_fault front ≡ None
    → data_line front ≡ None → reading front ≡ Err (MissingField Data)
unfolding reading header_of
front_unended front few mark line =
    let short : nat_lt (length front) 65536 ≡ true = le-leb (suc (length front)) 65536 few in
    ap (λ head. after_header front (unless_faulty (first_line_fault head)
    (header_at head (data_line head)))) (whole_head front (omega (arith, few)))
    ∙ ap (λ m. after_header front (unless_faulty m (header_at front (data_line front)))) mark
    ∙ ap (λ l. after_header front (header_at front l)) line
    ∙ rw short refl

-- ---- a file

-- a front of a file with these texts in its header
front_by_texts : (size res : ℕ) (t : HeaderTexts size res) (bytes whole : List ℕ) (n : ℕ)
    → ((start : ℕ) → read_nodes start size bytes ≡ Ok whole)
    → n < length (text_of_lines (header_lines (t.d ∷ t.ds) (t.e ∷ t.es)) ++ bytes)
    → reading (take n (text_of_lines (header_lines (t.d ∷ t.ds) (t.e ∷ t.es)) ++ bytes))
    ≡ Err (front_fault (length (text_of_lines (header_lines (t.d ∷ t.ds) (t.e ∷ t.es)))) n)
unfolding text_of_lines
front_by_texts size res t bytes whole n reads few =
    by_tests (nat_lt n 28) (nat_lt n (length lines)) refl refl
  where
    lines : List ℕ
    lines = text_of_lines (header_lines (t.d ∷ t.ds) (t.e ∷ t.es))

    taken : length (take n (lines ++ bytes)) ≡ n
    taken = (let size = length-take n (lines ++ bytes) in omega (arith, size, few))

    parts : marker ++ drop 28 lines ≡ lines
    parts = take-append-drop 28 lines

    begins : (m : ℕ) → 28 ≤ m → take m lines ≡ marker ++ take (m - 28) (drop 28 lines)
    begins m more = (let at : m ≡ 28 + (m - 28) = omega (arith, more) in
        ap (take m) (sym parts) ∙ ap (λ (n : ℕ). take n (marker ++ drop 28 lines)) at
        ∙ take-append-add marker (drop 28 lines) (m - 28))

    by_tests : (p q : Bool) → nat_lt n 28 ≡ p → nat_lt n (length lines) ≡ q
        → reading (take n (lines ++ bytes)) ≡ Err (front_fault (length lines) n)
    by_tests true q short within =
        (let less = leb-true (suc n) 28 short in
        let is : take n (lines ++ bytes) ≡ take n marker =
        ap (λ l. take n (l ++ bytes)) (sym parts)
        ∙ ap (take n) (append_assoc marker (drop 28 lines) bytes)
        ∙ take-append-le n marker (drop 28 lines ++ bytes) (omega (arith, less)) in
        front_unmarked (take n (lines ++ bytes)) NotOctomap (omega (arith, taken, less))
        (ap first_line_fault is ∙ short_mark n less)
        ∙ rw short refl)
    by_tests false true short within =
        (let less = leb-true (suc n) (length lines) within in
        let more = leb-false (suc n) 28 short in
        let is : take n (lines ++ bytes) ≡ take n lines =
        take-append-le n lines bytes (omega (arith, less)) in
        let few' = t.few in
        front_unended (take n (lines ++ bytes)) (omega (arith, taken, less, few'))
        (ap first_line_fault (is ∙ begins n (omega (arith, more)))
        ∙ long_mark (take (n - 28) (drop 28 lines)))
        (ap data_line is ∙ no_data t.d t.e t.ds t.es (take n lines) t.size_field t.res_field
        (front_of_lines (header_lines (t.d ∷ t.ds) (t.e ∷ t.es)) n
        (no_feeds (t.d ∷ t.ds) (t.e ∷ t.es) t.size_field t.res_field) less))
        ∙ rw (short, within) refl)
    by_tests false false short within =
        (let more = leb-false (suc n) (length lines) within in
        let at : n ≡ length lines + (n - length lines) = omega (arith, more) in
        let size_all = length-append lines bytes in
        let rest : n - length lines < length bytes = omega (arith, more, few, size_all) in
        ap (λ (n : ℕ). reading (take n (lines ++ bytes))) at
        ∙ ap reading (take-append-add lines bytes (n - length lines))
        ∙ after_written size res t (take (n - length lines) bytes)
        ∙ ap (file_with (record { res = res; size = size; start = length lines }))
        (front_of_data (length lines) size bytes whole (n - length lines)
        (reads (length lines)) rest)
        ∙ ap (λ (n : ℕ). Err (Truncated n)) (sym at)
        ∙ rw (short, within) refl)

pub front_read : (res : ℕ) (c : Classes) (n : ℕ) → IsResolution res → n < length (bt_text res c)
    → reading (take n (bt_text res c))
    ≡ Err (front_fault (length (header_text (canonical_size c) res)) n)
unfolding bt_text header_text
front_read res c n is few =
    let small : canonical_size c < 10 ^ 16 = accepted_few (canonical_size c) (canonical_data c)
    (canonical_accepted c) in
    let t = header_texts (canonical_size c) res small is in
    subst (λ a. Refused a (metres_text (pos res))) (sym t.size_is)
    (subst (λ b. Refused (t.d ∷ t.ds) b) (sym t.res_is)
    (λ few. front_by_texts (canonical_size c) res t (canonical_data c)
    (canonical_data c) n (canonical_reads c) few)) few
  where
    Refused : List ℕ → List ℕ → Type 0
    Refused a b = n < length (text_of_lines (header_lines a b) ++ canonical_data c)
        → reading (take n (text_of_lines (header_lines a b) ++ canonical_data c))
        ≡ Err (front_fault (length (text_of_lines (header_lines a b))) n)
