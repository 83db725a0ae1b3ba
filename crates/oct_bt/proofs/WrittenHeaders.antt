-- A header that is written is read.
use Rattle.std.proofs.Common.{◌≡◌, ℕ, suc, ◌+◌, ◌-◌, ◌<◌, ◌≤◌, Bool, true, false, Some, None, List}
use Rattle.std.proofs.Common.{[], ◌∷◌, ◌++◌, length, take, drop, refl, ◌∙◌, ap, arith, append_assoc}
use Rattle.std.proofs.Common.{Ok}
use Rattle.std.specs.Prelude.{codes, take_while, nat_eq, not, ◌&&◌, slice_index}
use Rattle.std.specs.List.{slice_split, All, onto_first, find, prefix_len}
use Rattle.std.proofs.lemmas.Bool.{false≢true}
use Rattle.std.proofs.lemmas.List.Elements.{All-append, All-cons, All-nil}
use Rattle.std.proofs.lemmas.List.Splits.{slice_split-cons_yes, slice_split-cons_no}
use Rattle.std.proofs.Math.Seq.{take-append-add}
use Rattle.oct_num.specs.Metres.{metres_of}
use Rattle.oct_num.specs.Whole.{natural_of}
use Rattle.oct_bt.specs.Header.{HeaderLine, is_line_feed, is_blank, is_in_word, trimmed, first_word}
use Rattle.oct_bt.specs.Header.{after_word, lines_from, lines_of, is_data_line, fields_of}
use Rattle.oct_bt.specs.Header.{judged_fields, judged_res, first_line_fault, unless_faulty}
use Rattle.oct_bt.specs.Header.{data_line, head_fields, header_at, head_of, resolution_of}
use Rattle.oct_bt.specs.Header.{header_of}
use Rattle.oct_bt.specs.File.{text_of_lines, header_lines}
use Rattle.oct_bt.proofs.Headers.{some_part, no_feed}

-- a line without line feeds
split_line : (line rest : List ℕ) → All (λ b. is_line_feed b ≡ false) line
    → slice_split is_line_feed (line ++ (10 ∷ rest)) ≡ line ∷ slice_split is_line_feed rest
split_line [] rest none = slice_split-cons_yes is_line_feed 10 rest refl
split_line (b ∷ line) rest none =
    slice_split-cons_no is_line_feed b (line ++ (10 ∷ rest)) (none 0 0 (omega arith))
    ∙ ap (onto_first b) (split_line line rest (λ k d l. none (suc k) d (omega arith)))

-- lines without line feeds, and more bytes
pub split_lines : (lines : List (List ℕ)) (rest : List ℕ)
    → All (λ line. All (λ b. is_line_feed b ≡ false) line) lines
    → slice_split is_line_feed (text_of_lines lines ++ rest)
    ≡ lines ++ slice_split is_line_feed rest
unfolding text_of_lines
split_lines [] rest none = refl
split_lines (line ∷ lines) rest none =
    ap (slice_split is_line_feed) (append_assoc line (10 ∷ text_of_lines lines) rest)
    ∙ split_line line (text_of_lines lines ++ rest) (none 0 [] (omega arith))
    ∙ ap (λ t. line ∷ t) (split_lines lines rest (λ k d l. none (suc k) d (omega arith)))

tested : (line : List ℕ) → no_feed line ≡ true → All (λ b. is_line_feed b ≡ false) line
unfolding no_feed
tested [] h = All-nil (λ b. is_line_feed b ≡ false)
tested (b ∷ line) h = by_test (is_line_feed b) refl h (λ g. tested line g)
  where
    by_test : (t : Bool) → is_line_feed b ≡ t → (not t && no_feed line) ≡ true
        → (no_feed line ≡ true → All (λ b. is_line_feed b ≡ false) line)
        → All (λ b. is_line_feed b ≡ false) (b ∷ line)
    by_test true e h rest = absurd (false≢true h)
    by_test false e h rest = All-cons (λ b. is_line_feed b ≡ false) b line e (rest h)

-- a line whose last byte is no carriage return
untrimmed : (text : List ℕ) → 0 < length text → All (λ b. nat_eq b 13 ≡ false) text
    → trimmed text ≡ text
untrimmed text some none =
    let last : nat_eq (slice_index text (length text - 1)) 13 ≡ false =
    none (length text - 1) 0 (omega arith) in
    rw last refl

-- a test that closed texts without a carriage return pass by computing
no_return : List ℕ → Bool
no_return [] = true
no_return (b ∷ text) = not (nat_eq b 13) && no_return text

unreturned : (text : List ℕ) → no_return text ≡ true → All (λ b. nat_eq b 13 ≡ false) text
unfolding no_return
unreturned [] h = All-nil (λ b. nat_eq b 13 ≡ false)
unreturned (b ∷ text) h = by_test (nat_eq b 13) refl h (λ g. unreturned text g)
  where
    by_test : (t : Bool) → nat_eq b 13 ≡ t → (not t && no_return text) ≡ true
        → (no_return text ≡ true → All (λ b. nat_eq b 13 ≡ false) text)
        → All (λ b. nat_eq b 13 ≡ false) (b ∷ text)
    by_test true e h rest = absurd (false≢true h)
    by_test false e h rest = All-cons (λ b. nat_eq b 13 ≡ false) b text e (rest h)

-- a text of digits and points
pub record IsFieldText (text : List ℕ) : Type 0 where
  pub no_feed : All (λ b. is_line_feed b ≡ false) text
  pub no_return : All (λ b. nat_eq b 13 ≡ false) text
  pub no_blank : All (λ b. is_blank b ≡ false) text

-- all of a text without blanks is its first word
all_taken : (text : List ℕ) → All (λ b. is_blank b ≡ false) text → take_while is_in_word text ≡ text
all_taken [] none = refl
all_taken (b ∷ text) none =
    let first : is_blank b ≡ false = none 0 0 (omega arith) in
    let more : 1 + prefix_len is_in_word text ≡ suc (prefix_len is_in_word text) = omega arith in
    rw (first, more) (ap (λ t. b ∷ t) (all_taken text (λ k d l. none (suc k) d (omega arith))))

value_is : (d : ℕ) (ds : List ℕ) → IsFieldText (d ∷ ds) → first_word (32 ∷ d ∷ ds) ≡ d ∷ ds
value_is d ds s =
    let first : is_blank d ≡ false = s.no_blank 0 0 (omega arith) in
    let blanks : prefix_len is_blank (32 ∷ d ∷ ds) ≡ 1 = rw first refl in
    ap (λ (n : ℕ). take_while is_in_word (drop n (32 ∷ d ∷ ds))) blanks
    ∙ all_taken (d ∷ ds) s.no_blank

-- the lines of the size and of the resolution
size_untrimmed : (d : ℕ) (ds : List ℕ) → IsFieldText (d ∷ ds) → trimmed (codes "size " ++ (d ∷ ds))
    ≡ codes "size " ++ (d ∷ ds)
unfolding no_return
size_untrimmed d ds s = untrimmed (codes "size " ++ (d ∷ ds)) (omega arith)
    (All-append (λ b. nat_eq b 13 ≡ false) (codes "size ") (d ∷ ds)
    (unreturned (codes "size ") refl) s.no_return)

res_untrimmed : (d : ℕ) (ds : List ℕ) → IsFieldText (d ∷ ds) → trimmed (codes "res " ++ (d ∷ ds))
    ≡ codes "res " ++ (d ∷ ds)
unfolding no_return
res_untrimmed d ds s = untrimmed (codes "res " ++ (d ∷ ds)) (omega arith)
    (All-append (λ b. nat_eq b 13 ≡ false) (codes "res ") (d ∷ ds)
    (unreturned (codes "res ") refl) s.no_return)

pub size_name : (d : ℕ) (ds : List ℕ) → IsFieldText (d ∷ ds)
    → first_word (trimmed (codes "size " ++ (d ∷ ds))) ≡ codes "size"
size_name d ds s = ap first_word (size_untrimmed d ds s)

size_value : (d : ℕ) (ds : List ℕ) → IsFieldText (d ∷ ds)
    → first_word (after_word (trimmed (codes "size " ++ (d ∷ ds)))) ≡ d ∷ ds
size_value d ds s = ap (λ t. first_word (after_word t)) (size_untrimmed d ds s) ∙ value_is d ds s

pub res_name : (d : ℕ) (ds : List ℕ) → IsFieldText (d ∷ ds)
    → first_word (trimmed (codes "res " ++ (d ∷ ds))) ≡ codes "res"
res_name d ds s = ap first_word (res_untrimmed d ds s)

res_value : (d : ℕ) (ds : List ℕ) → IsFieldText (d ∷ ds)
    → first_word (after_word (trimmed (codes "res " ++ (d ∷ ds)))) ≡ d ∷ ds
res_value d ds s = ap (λ t. first_word (after_word t)) (res_untrimmed d ds s) ∙ value_is d ds s

-- no line of a header has a line feed
pub no_feeds : (size res : List ℕ) → IsFieldText size → IsFieldText res
    → All (λ line. All (λ b. is_line_feed b ≡ false) line) (header_lines size res)
unfolding no_feed
no_feeds size res s r =
    All-cons Free (codes "# Octomap OcTree binary file")
    (codes "# (feel free to add / change comments, but leave the first line as it is!)" ∷ codes
    "#" ∷ codes "id OcTree" ∷ (codes "size " ++ size) ∷ (codes "res " ++ res) ∷ codes "data"
    ∷ []) (tested (codes "# Octomap OcTree binary file") refl)
    (All-cons Free
    (codes "# (feel free to add / change comments, but leave the first line as it is!)")
    (codes "#" ∷ codes "id OcTree" ∷ (codes "size " ++ size) ∷ (codes "res " ++ res) ∷ codes
    "data" ∷ [])
    (tested (codes "# (feel free to add / change comments, but leave the first line as it is!)")
    refl)
    (All-cons Free (codes "#")
    (codes "id OcTree" ∷ (codes "size " ++ size) ∷ (codes "res " ++ res) ∷ codes "data" ∷ [])
    (tested (codes "#") refl)
    (All-cons Free (codes "id OcTree")
    ((codes "size " ++ size) ∷ (codes "res " ++ res) ∷ codes "data" ∷ [])
    (tested (codes "id OcTree") refl)
    (All-cons Free (codes "size " ++ size) ((codes "res " ++ res) ∷ codes "data" ∷ [])
    (All-append (λ b. is_line_feed b ≡ false)
    (codes "size ") size (tested (codes "size ") refl) s.no_feed)
    (All-cons Free (codes "res " ++ res) (codes "data" ∷ [])
    (All-append (λ b. is_line_feed b ≡ false)
    (codes "res ") res (tested (codes "res ") refl) r.no_feed)
    (All-cons Free (codes "data") [] (tested (codes "data") refl)
    (All-nil Free)))))))
  where
    Free : List ℕ → Type 0
    Free line = All (λ b. is_line_feed b ≡ false) line

-- where the node data begins after a header
abbrev pub header_length : List ℕ → List ℕ → ℕ
header_length size res =
    0 + length (codes "# Octomap OcTree binary file") + 1
    + length (codes "# (feel free to add / change comments, but leave the first line as it is!)")
    + 1
    + length (codes "#") + 1 + length (codes "id OcTree") + 1 + length (codes "size " ++ size) + 1
    + length (codes "res " ++ res) + 1 + length (codes "data") + 1

-- the data line is found, and the fields before it
abbrev lines_in : List ℕ → List ℕ → List ℕ → List (List ℕ) → List HeaderLine
lines_in size res p ps = drop 1 (lines_from 0 (header_lines size res ++ (p ∷ ps)))

data_line_found : (d e : ℕ) (ds es p : List ℕ) (ps : List (List ℕ)) → IsFieldText (d ∷ ds)
    → IsFieldText (e ∷ es)
    → find is_data_line (lines_in (d ∷ ds) (e ∷ es) p ps)
    ≡ Some (record { name = codes "data"; value = []; after = header_length (d ∷ ds) (e ∷ es) })
unfolding lines_from
data_line_found d e ds es p ps s r = rw (size_name d ds s, res_name e es r) refl

found_fields : (d e : ℕ) (ds es p : List ℕ) (ps : List (List ℕ)) → IsFieldText (d ∷ ds)
    → IsFieldText (e ∷ es)
    → fields_of (take_while (λ line. not (is_data_line line)) (lines_in (d ∷ ds) (e ∷ es) p ps))
    ≡ record {
      id = Some true;
      res = Some (resolution_of (metres_of (e ∷ es)));
      size = Some (natural_of (d ∷ ds));
    }
unfolding lines_from
found_fields d e ds es p ps s r =
    rw (size_name d ds s, res_name e es r, size_value d ds s, res_value e es r) refl

-- the first bytes of lines and more
take_lines : (lines : List (List ℕ)) (rest : List ℕ) (n : ℕ) → length (text_of_lines lines) ≤ n
    → (short : List ℕ) × (take n (text_of_lines lines ++ rest) ≡ text_of_lines lines ++ short)
take_lines lines rest n l =
    let at : n ≡ length (text_of_lines lines) + (n - length (text_of_lines lines)) =
    omega arith in (
      take (n - length (text_of_lines lines)) rest,
      ap (λ (n : ℕ). take n (text_of_lines lines ++ rest)) at
          ∙ take-append-add (text_of_lines lines) rest (n - length (text_of_lines lines)),
    )

-- the lines of a file that begins with a header
file_lines : (size res rest : List ℕ) → IsFieldText size → IsFieldText res
    → length (text_of_lines (header_lines size res)) ≤ 65536
    → (p : List ℕ) × (ps : List (List ℕ))
    × (lines_of (head_of (text_of_lines (header_lines size res) ++ rest)) ≡ lines_in size res p ps)
file_lines size res rest s r few =
    let (short, is) = take_lines (header_lines size res) rest 65536 few in
    let (p, ps, parts) = some_part short in (
      p,
      ps,
      ap lines_of is ∙ ap (λ t. drop 1 (lines_from 0 t))
          (split_lines (header_lines size res) short (no_feeds size res s r))
          ∙ ap (λ t. drop 1 (lines_from 0 (header_lines size res ++ t))) parts,
    )

first_line_faultless : (size res rest : List ℕ)
    → first_line_fault (head_of (text_of_lines (header_lines size res) ++ rest)) ≡ None
unfolding text_of_lines
first_line_faultless size res rest = refl

-- a header that is written is read, whatever follows it
pub header_written : (d e : ℕ) (ds es rest : List ℕ) (n edge : ℕ) → IsFieldText (d ∷ ds)
    → IsFieldText (e ∷ es)
    → length (text_of_lines (header_lines (d ∷ ds) (e ∷ es))) ≤ 65536 → natural_of (d ∷ ds) ≡ Some n
    → resolution_of (metres_of (e ∷ es)) ≡ Some edge
    → header_of (head_of (text_of_lines (header_lines (d ∷ ds) (e ∷ es)) ++ rest))
    ≡ Ok (record { res = edge; size = n; start = header_length (d ∷ ds) (e ∷ es) })
unfolding header_of
header_written d e ds es rest n edge s r few number resolution =
    let (p, ps, lines) = file_lines (d ∷ ds) (e ∷ es) rest s r few in
    by_head (head_of (text_of_lines (header_lines (d ∷ ds) (e ∷ es)) ++ rest))
    (first_line_faultless (d ∷ ds) (e ∷ es) rest)
    (ap (find is_data_line) lines ∙ data_line_found d e ds es p ps s r)
    (ap (λ ls. fields_of (take_while (λ line. not (is_data_line line)) ls)) lines
    ∙ found_fields d e ds es p ps s r)
  where
    by_head : (head : List ℕ) → first_line_fault head ≡ None
        → data_line head ≡ Some (record {
          name = codes "data";
          value = [];
          after = header_length (d ∷ ds) (e ∷ es);
        })
        → head_fields head ≡ record {
          id = Some true;
          res = Some (resolution_of (metres_of (e ∷ es)));
          size = Some (natural_of (d ∷ ds));
        }
        → header_of head ≡ Ok (record {
          res = edge;
          size = n;
          start = header_length (d ∷ ds) (e ∷ es);
        })
    by_head head mark line fields =
        ap (λ m. unless_faulty m (header_at head (data_line head))) mark
        ∙ ap (header_at head) line
        ∙ ap (judged_fields (header_length (d ∷ ds) (e ∷ es))) fields
        ∙ ap (λ o. judged_res (header_length (d ∷ ds) (e ∷ es)) (Some o)
        (Some (natural_of (d ∷ ds)))) resolution
        ∙ ap (λ o. judged_res (header_length (d ∷ ds) (e ∷ es)) (Some (Some edge)) (Some o)) number
