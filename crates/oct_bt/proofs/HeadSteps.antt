-- What one byte more does to a head.
use Rattle.std.proofs.Common.{◌≡◌, ℕ, zero, suc, ◌+◌, ◌<◌, ◌≤◌, Bool, true, false, cond, Option}
use Rattle.std.proofs.Common.{Some, None, inl, inr, List, [], ◌∷◌, ◌++◌, length, take, drop, refl}
use Rattle.std.proofs.Common.{sym, subst, ◌∙◌, ap, arith, append-nil, length-append, lt-ltb, Result}
use Rattle.std.proofs.Common.{Ok, Err}
use Rattle.std.specs.Prelude.{is_some, not, fold, take_while, codes, nat_lt, ◌&&◌, option_map, ⊤}
use Rattle.std.specs.List.{slice_split, find, prefix_len, onto_first}
use Rattle.std.proofs.lemmas.Bool.{false≢true, le-ltb, cases_lt}
use Rattle.std.proofs.lemmas.List.{take-append-le, drop-append-le, length-take, length-take-le}
use Rattle.std.proofs.Math.ListN.{drop_of_length-le}
use Rattle.std.proofs.lemmas.List.Sums.{fold_push}
use Rattle.std.proofs.lemmas.List.Splits.{slice_split-cons_yes, slice_split-cons_no}
use Rattle.oct_num.specs.Metres.{metres_of}
use Rattle.oct_num.specs.Whole.{natural_of}
use Rattle.oct_bt.specs.declared.fault.BtFault.{BtFault}
use Rattle.oct_bt.specs.Header.{HeaderLine, Fields, Header, is_line_feed, line_of, lines_from}
use Rattle.oct_bt.specs.Header.{lines_of, is_named, is_data_line, value_among, resolution_of}
use Rattle.oct_bt.specs.Header.{is_octree, fields_of, judged_fields, judged_id, first_line_fault}
use Rattle.oct_bt.specs.Header.{unless_faulty, header_at, header_of, head_fields, head_of}
use Rattle.oct_bt.specs.Header.{data_line}
use Rattle.oct_bt.specs.NodeData.{after_byte, after_bytes, at_first}
use Rattle.oct_bt.specs.Reading.{Head, Heading, Body, unended, has_ended, heading_of, longer_line}
use Rattle.oct_bt.specs.Reading.{ended_line, with_line, closed_head, opened, after_line_feed}
use Rattle.oct_bt.specs.Reading.{after_head_byte, after_file_byte, body_of, progress_at}
use Rattle.oct_bt.specs.Reading.{file_progress}
use Rattle.std.proofs.lemmas.List.Folds.{find-append}
use Rattle.std.specs.Option.{option_or}
use Rattle.oct_bt.proofs.Headers.{joined_parts, some_part, split_joined, first_part, mark_first}
use Rattle.oct_bt.proofs.Headers.{take_one}
use Rattle.oct_bt.proofs.Headers.{mark_stays, data_line_stays, header_stays}

-- ---- parts between line feeds, when a byte comes

-- how many bytes parts and the line feeds between them have
span : List (List ℕ) → ℕ
span [] = 0
span (p ∷ []) = length p
span (p ∷ q ∷ ps) = length p + 1 + span (q ∷ ps)

span_onto : (x : ℕ) (p : List ℕ) (ps : List (List ℕ)) → span (onto_first x (p ∷ ps))
    ≡ suc (span (p ∷ ps))
unfolding span
span_onto x p [] = refl
span_onto x p (q ∷ ps) = omega arith

span_split : (xs : List ℕ) → span (slice_split is_line_feed xs) ≡ length xs
unfolding span
span_split [] = refl
span_split (x ∷ xs) = by_test (is_line_feed x) refl (some_part xs) (span_split xs)
  where
    by_test : (t : Bool) → is_line_feed x ≡ t → (p : List ℕ) × (ps : List (List ℕ))
        × (slice_split is_line_feed xs ≡ p ∷ ps)
        → span (slice_split is_line_feed xs) ≡ length xs → span (slice_split is_line_feed (x ∷ xs))
        ≡ suc (length xs)
    by_test true e (p, ps, is) rest =
        (let more : span ([] ∷ p ∷ ps) ≡ 0 + 1 + span (p ∷ ps) = refl in
        let same : span (p ∷ ps) ≡ length xs = ap span (sym is) ∙ rest in
        ap span (slice_split-cons_yes is_line_feed x xs e ∙ ap (λ t. [] ∷ t) is)
        ∙ omega (arith, more, same))
    by_test false e (p, ps, is) rest =
        (ap span (slice_split-cons_no is_line_feed x xs e ∙ ap (onto_first x) is) ∙ span_onto x p ps
        ∙ ap (λ (n : ℕ). suc n) (ap span (sym is) ∙ rest))

-- a byte that is no line feed
split_byte : (xs : List ℕ) (b : ℕ) → is_line_feed b ≡ false
    → slice_split is_line_feed (xs ++ b ∷ []) ≡ joined_parts (slice_split is_line_feed xs)
    ((b ∷ []) ∷ [])
split_byte xs b e = split_joined xs (b ∷ []) ∙ ap (joined_parts (slice_split is_line_feed xs))
    (slice_split-cons_no is_line_feed b [] e)

-- a line feed
split_feed : (xs : List ℕ) (b : ℕ) → is_line_feed b ≡ true → slice_split is_line_feed (xs ++ b ∷ [])
    ≡ joined_parts (slice_split is_line_feed xs) ([] ∷ [] ∷ [])
split_feed xs b e = split_joined xs (b ∷ []) ∙ ap (joined_parts (slice_split is_line_feed xs))
    (slice_split-cons_yes is_line_feed b [] e)

longer_unended : (p : List ℕ) (ps : List (List ℕ)) (b : ℕ)
    → unended (joined_parts (p ∷ ps) ((b ∷ []) ∷ [])) ≡ unended (p ∷ ps) ++ b ∷ []
unfolding joined_parts unended
longer_unended p [] b = refl
longer_unended p (q ∷ []) b = refl
longer_unended p (q ∷ r ∷ ps) b = longer_unended q (r ∷ ps) b

longer_ended : (p : List ℕ) (ps : List (List ℕ)) (b : ℕ)
    → has_ended (joined_parts (p ∷ ps) ((b ∷ []) ∷ [])) ≡ has_ended (p ∷ ps)
unfolding joined_parts
longer_ended p [] b = refl
longer_ended p (q ∷ []) b = refl
longer_ended p (q ∷ r ∷ ps) b = refl

longer_lines : (p : List ℕ) (ps : List (List ℕ)) (at b : ℕ)
    → lines_from at (joined_parts (p ∷ ps) ((b ∷ []) ∷ [])) ≡ lines_from at (p ∷ ps)
unfolding joined_parts lines_from
longer_lines p [] at b = refl
longer_lines p (q ∷ []) at b = refl
longer_lines p (q ∷ r ∷ ps) at b = ap (λ t. line_of p (at + length p + 1) ∷ t)
    (longer_lines q (r ∷ ps) (at + length p + 1) b)

fed_unended : (p : List ℕ) (ps : List (List ℕ)) → unended (joined_parts (p ∷ ps) ([] ∷ [] ∷ []))
    ≡ []
unfolding joined_parts unended
fed_unended p [] = refl
fed_unended p (q ∷ []) = refl
fed_unended p (q ∷ r ∷ ps) = fed_unended q (r ∷ ps)

fed_ended : (p : List ℕ) (ps : List (List ℕ)) → has_ended (joined_parts (p ∷ ps) ([] ∷ [] ∷ []))
    ≡ true
unfolding joined_parts
fed_ended p [] = refl
fed_ended p (q ∷ []) = refl
fed_ended p (q ∷ r ∷ ps) = refl

fed_lines : (p : List ℕ) (ps : List (List ℕ)) (at : ℕ)
    → lines_from at (joined_parts (p ∷ ps) ([] ∷ [] ∷ []))
    ≡ lines_from at (p ∷ ps) ++ line_of (unended (p ∷ ps)) (at + span (p ∷ ps) + 1) ∷ []
unfolding joined_parts lines_from unended span
fed_lines p [] at = ap (λ t. line_of t (at + length t + 1) ∷ []) (append-nil p)
fed_lines p (q ∷ []) at =
    (let place : at + length p + 1 + length (q ++ []) + 1 ≡ at + (length p + 1 + length q) + 1 =
    omega (arith, ap length (append-nil q)) in
    ap (λ t. line_of p (at + length p + 1) ∷ t)
    (ap (λ t. line_of t (at + length p + 1 + length (q ++ []) + 1) ∷ []) (append-nil q)
    ∙ ap (λ (n : ℕ). line_of q n ∷ []) place))
fed_lines p (q ∷ r ∷ ps) at =
    (let place : at + length p + 1 + span (q ∷ r ∷ ps) + 1
    ≡ at + (length p + 1 + span (q ∷ r ∷ ps)) + 1 = omega arith in
    ap (λ t. line_of p (at + length p + 1) ∷ t) (fed_lines q (r ∷ ps) (at + length p + 1)
    ∙ ap (λ (n : ℕ). lines_from (at + length p + 1)
    (q ∷ r ∷ ps) ++ line_of (unended (q ∷ r ∷ ps)) n ∷ []) place))

-- ---- the lines of a head, when a byte comes

lines_longer : (head : List ℕ) (b : ℕ) → is_line_feed b ≡ false → lines_of (head ++ b ∷ [])
    ≡ lines_of head
lines_longer head b e =
    let (p, ps, is) = some_part head in
    ap (λ t. drop 1 (lines_from 0 t))
    (split_byte head b e ∙ ap (λ t. joined_parts t ((b ∷ []) ∷ [])) is)
    ∙ ap (drop 1) (longer_lines p ps 0 b) ∙ sym (ap (λ t. drop 1 (lines_from 0 t)) is)

-- the line that a line feed ends
abbrev last_line : List ℕ → HeaderLine
last_line head = line_of (unended (slice_split is_line_feed head)) (length head + 1)

lines_begun : (head : List ℕ) (b : ℕ) → is_line_feed b ≡ true
    → has_ended (slice_split is_line_feed head) ≡ true
    → lines_of (head ++ b ∷ []) ≡ lines_of head ++ last_line head ∷ []
unfolding lines_from
lines_begun head b e begun =
    let (p, ps, is) = some_part head in
    ap (λ t. drop 1 (lines_from 0 t))
    (split_feed head b e ∙ ap (λ t. joined_parts t ([] ∷ [] ∷ [])) is)
    ∙ by_more p ps (ap has_ended (sym is) ∙ begun)
    ∙ ap (λ (n : ℕ). drop 1 (lines_from 0 (p ∷ ps)) ++ line_of (unended (p ∷ ps)) n ∷ [])
    (place p ps (ap span (sym is) ∙ span_split head))
    ∙ sym (ap (λ t. drop 1 (lines_from 0 t) ++ line_of (unended t) (length head + 1) ∷ []) is)
  where
    place : (p : List ℕ) (ps : List (List ℕ)) → span (p ∷ ps) ≡ length head → 0 + span (p ∷ ps) + 1
        ≡ length head + 1
    place p ps same = omega (arith, same)

    by_more : (p : List ℕ) (ps : List (List ℕ)) → has_ended (p ∷ ps) ≡ true
        → drop 1 (lines_from 0 (joined_parts (p ∷ ps) ([] ∷ [] ∷ [])))
        ≡ drop 1 (lines_from 0 (p ∷ ps)) ++ line_of (unended (p ∷ ps)) (0 + span (p ∷ ps) + 1) ∷ []
    by_more p [] begun = absurd (false≢true begun)
    by_more p (q ∷ ps) begun = ap (drop 1) (fed_lines p (q ∷ ps) 0) ∙ dropped p q ps
      where
        dropped : (p q : List ℕ) (ps : List (List ℕ))
            → drop 1 (lines_from 0 (p ∷ q ∷ ps) ++ line_of (unended (p ∷ q ∷ ps))
            (0 + span (p ∷ q ∷ ps) + 1) ∷ [])
            ≡ drop 1 (lines_from 0 (p ∷ q ∷ ps)) ++ line_of (unended (p ∷ q ∷ ps))
            (0 + span (p ∷ q ∷ ps) + 1) ∷ []
        dropped p q ps = refl

-- the first line feed ends the first line, which is none of these lines
lines_unbegun : (head : List ℕ) (b : ℕ) → is_line_feed b ≡ true
    → has_ended (slice_split is_line_feed head) ≡ false
    → (lines_of (head ++ b ∷ []) ≡ []) × (lines_of head ≡ [])
    × (unended (slice_split is_line_feed head) ≡ first_part (slice_split is_line_feed head))
unfolding joined_parts lines_from unended first_part
lines_unbegun head b e begun =
    let (p, ps, is) = some_part head in
    by_more p ps is (sym (ap has_ended (sym is) ∙ begun))
  where
    by_more : (p : List ℕ) (ps : List (List ℕ)) → slice_split is_line_feed head ≡ p ∷ ps
        → false ≡ has_ended (p ∷ ps)
        → (lines_of (head ++ b ∷ []) ≡ []) × (lines_of head ≡ [])
        × (unended (slice_split is_line_feed head) ≡ first_part (slice_split is_line_feed head))
    by_more p [] is begun = (
      ap (λ t. drop 1 (lines_from 0 t))
          (split_feed head b e ∙ ap (λ t. joined_parts t ([] ∷ [] ∷ [])) is),
      ap (λ t. drop 1 (lines_from 0 t)) is,
      ap unended is ∙ sym (ap first_part is),
    )
    by_more p (q ∷ ps) is begun = absurd (false≢true begun)

-- ---- fields, when a line ends

value_more : (name : List ℕ) (lines : List HeaderLine) (l : HeaderLine)
    → value_among name (lines ++ l ∷ []) ≡ cond (is_named name l) (Some l.value)
    (value_among name lines)
value_more name lines l =
    fold_push (λ found line. cond (is_named name line) (Some line.value) found) None lines l

mapped : {B : Type 0} (f : List ℕ → B) (t : Bool) (value : List ℕ) (o : Option (List ℕ))
    → option_map f (cond t (Some value) o) ≡ cond t (Some (f value)) (option_map f o)
mapped f true value o = refl
mapped f false value o = refl

fields_more : (lines : List HeaderLine) (l : HeaderLine) → fields_of (lines ++ l ∷ [])
    ≡ with_line (fields_of lines) l
fields_more lines l = rw (
  ap (option_map is_octree) (value_more (codes "id") lines l)
      ∙ mapped is_octree (is_named (codes "id") l) l.value (value_among (codes "id") lines),
  ap (option_map (λ value. resolution_of (metres_of value))) (value_more (codes "res") lines l)
      ∙ mapped (λ value. resolution_of (metres_of value))
      (is_named (codes "res") l) l.value (value_among (codes "res") lines),
  ap (option_map natural_of) (value_more (codes "size") lines l)
      ∙ mapped natural_of (is_named (codes "size") l) l.value (value_among (codes "size") lines),
) refl

-- ---- the head, when a byte comes

abbrev head_with : ℕ → Bool → Option BtFault → Fields → List ℕ → Head
head_with total begun mark fields line = record {
  total = total;
  begun = begun;
  first_line = mark;
  fields = fields;
  line = line;
}

heads_equal : (a b : Head) → a.total ≡ b.total → a.begun ≡ b.begun → a.first_line ≡ b.first_line
    → a.fields ≡ b.fields → a.line ≡ b.line → a ≡ b
heads_equal a b total begun mark fields line =
    ap (λ (n : ℕ). head_with n a.begun a.first_line a.fields a.line) total
    ∙ ap (λ t. head_with b.total t a.first_line a.fields a.line) begun
    ∙ ap (λ m. head_with b.total b.begun m a.fields a.line) mark
    ∙ ap (λ f. head_with b.total b.begun b.first_line f a.line) fields
    ∙ ap (λ l. head_with b.total b.begun b.first_line b.fields l) line

-- the mark of a head whose first line has ended, or hasn't
abbrev pub mark_in : Bool → List ℕ → Option BtFault
mark_in begun head = cond begun (first_line_fault head) None

marks_longer : (head ys : List ℕ) (t : Bool) → has_ended (slice_split is_line_feed head) ≡ t
    → mark_in t (head ++ ys) ≡ mark_in t head
marks_longer head ys true e = mark_stays head ys e
marks_longer head ys false e = refl

head_longer : (head : List ℕ) (b : ℕ) → is_line_feed b ≡ false → longer_line (heading_of head) b
    ≡ heading_of (head ++ b ∷ [])
head_longer head b e =
    let (p, ps, is) = some_part head in
    let ended : has_ended (slice_split is_line_feed (head ++ b ∷ []))
    ≡ has_ended (slice_split is_line_feed head) =
    ap has_ended (split_byte head b e ∙ ap (λ t. joined_parts t ((b ∷ []) ∷ [])) is)
    ∙ longer_ended p ps b ∙ sym (ap has_ended is) in
    let line : unended (slice_split is_line_feed (head ++ b ∷ []))
    ≡ unended (slice_split is_line_feed head) ++ b ∷ [] =
    ap unended (split_byte head b e ∙ ap (λ t. joined_parts t ((b ∷ []) ∷ [])) is)
    ∙ longer_unended p ps b ∙ sym (ap (λ t. unended t ++ b ∷ []) is) in
    let total : length head + 1 ≡ length (head ++ b ∷ []) = sym (length-append head (b ∷ [])) in
    let mark : mark_in (has_ended (slice_split is_line_feed head)) head
    ≡ mark_in (has_ended (slice_split is_line_feed (head ++ b ∷ []))) (head ++ b ∷ []) =
    sym (ap (λ t. mark_in t (head ++ b ∷ [])) ended ∙ marks_longer head (b ∷ [])
    (has_ended (slice_split is_line_feed head)) refl) in
    heads_equal (longer_line (heading_of head) b)
    (heading_of (head ++ b ∷ [])) total (sym ended) mark
    (ap fields_of (sym (lines_longer head b e))) (sym line)

-- what a line feed makes of a head where no data line ends
head_fed : (head : List ℕ) (b : ℕ) → is_line_feed b ≡ true → ended_line (heading_of head)
    ≡ heading_of (head ++ b ∷ [])
unfolding first_part joined_parts
head_fed head b e =
    let (p, ps, is) = some_part head in
    let ended : has_ended (slice_split is_line_feed (head ++ b ∷ [])) ≡ true =
    ap has_ended (split_feed head b e ∙ ap (λ t. joined_parts t ([] ∷ [] ∷ [])) is) ∙ fed_ended p ps
    in
    let line : unended (slice_split is_line_feed (head ++ b ∷ [])) ≡ [] =
    ap unended (split_feed head b e ∙ ap (λ t. joined_parts t ([] ∷ [] ∷ [])) is) ∙ fed_unended p ps
    in
    let total : length head + 1 ≡ length (head ++ b ∷ []) = sym (length-append head (b ∷ [])) in
    let mark : cond (has_ended (slice_split is_line_feed head))
    (mark_in (has_ended (slice_split is_line_feed head)) head)
    (first_line_fault (unended (slice_split is_line_feed head)))
    ≡ mark_in (has_ended (slice_split is_line_feed (head ++ b ∷ []))) (head ++ b ∷ []) =
    by_mark (has_ended (slice_split is_line_feed head)) refl
    ∙ sym (ap (λ t. mark_in t (head ++ b ∷ [])) ended) in
    let fields : cond (has_ended (slice_split is_line_feed head))
    (with_line (fields_of (lines_of head))
    (line_of (unended (slice_split is_line_feed head)) 0)) (fields_of (lines_of head))
    ≡ fields_of (lines_of (head ++ b ∷ [])) =
    by_fields (has_ended (slice_split is_line_feed head)) refl in
    heads_equal (ended_line (heading_of head))
    (heading_of (head ++ b ∷ [])) total (sym ended) mark fields (sym line)
  where
    by_mark : (t : Bool) → has_ended (slice_split is_line_feed head) ≡ t
        → cond t (mark_in t head) (first_line_fault (unended (slice_split is_line_feed head)))
        ≡ first_line_fault (head ++ b ∷ [])
    by_mark true begun = sym (mark_stays head (b ∷ []) begun)
    by_mark false begun =
        (let (none, empty, first) = lines_unbegun head b e begun in
        let (p, ps, is) = some_part head in
        ap first_line_fault first ∙ first_line p ps is (ap has_ended (sym is) ∙ begun)
        ∙ mark_first (head ++ b ∷ []))
      where
        first_line : (p : List ℕ) (ps : List (List ℕ)) → slice_split is_line_feed head ≡ p ∷ ps
            → has_ended (p ∷ ps) ≡ false
            → first_line_fault (first_part (slice_split is_line_feed head))
            ≡ first_line_fault (first_part (slice_split is_line_feed (head ++ b ∷ [])))
        first_line p [] is begun =
            ap (λ ps. first_line_fault (first_part ps)) is
            ∙ sym (ap (λ ps. first_line_fault (first_part ps))
            (split_feed head b e ∙ ap (λ t. joined_parts t ([] ∷ [] ∷ [])) is)
            ∙ ap first_line_fault (append-nil p))
        first_line p (q ∷ ps) is begun = absurd (false≢true (sym begun))

    by_fields : (t : Bool) → has_ended (slice_split is_line_feed head) ≡ t
        → cond t (with_line (fields_of (lines_of head))
        (line_of (unended (slice_split is_line_feed head)) 0)) (fields_of (lines_of head))
        ≡ fields_of (lines_of (head ++ b ∷ []))
    by_fields true begun =
        sym (ap fields_of (lines_begun head b e begun) ∙ fields_more (lines_of head)
        (last_line head))
    by_fields false begun =
        (let (none, empty, first) = lines_unbegun head b e begun in
        ap fields_of (empty ∙ sym none))

-- ---- the data line

found_last : (xs : List HeaderLine) (l : HeaderLine) → find is_data_line xs ≡ None
    → find is_data_line (xs ++ l ∷ []) ≡ cond (is_data_line l) (Some l) None
found_last xs l none = find-append is_data_line xs (l ∷ [])
    ∙ ap (λ o. option_or o (cond (is_data_line l) (Some l) None)) none

all_before : (xs : List HeaderLine) (l : HeaderLine) → find is_data_line xs ≡ None
    → is_data_line l ≡ true
    → take_while (λ line. not (is_data_line line)) (xs ++ l ∷ []) ≡ xs
all_before [] l none found_it = rw found_it refl
all_before (x ∷ xs) l none found_it = by_test (is_data_line x) refl (all_before xs l)
  where
    skipped : is_data_line x ≡ false → find is_data_line xs ≡ None
    skipped e = sym (ap (λ t. cond t (Some x) (find is_data_line xs)) e) ∙ none

    by_test : (t : Bool) → is_data_line x ≡ t
        → (find is_data_line xs ≡ None → is_data_line l ≡ true
        → take_while (λ line. not (is_data_line line)) (xs ++ l ∷ []) ≡ xs)
        → take_while (λ line. not (is_data_line line)) (x ∷ (xs ++ l ∷ [])) ≡ x ∷ xs
    by_test true e rest =
        absurd (false≢true
        (sym (ap is_some (sym (ap (λ t. cond t (Some x) (find is_data_line xs)) e) ∙ none))))
    by_test false e rest =
        rw e (take_one (prefix_len (λ line. not (is_data_line line)) (xs ++ l ∷ [])) x
        (xs ++ l ∷ []) ∙ ap (λ t. x ∷ t) (rest (skipped e) found_it))

-- the header that a data line closes
header_closed : (head : List ℕ) (b : ℕ) → is_line_feed b ≡ true
    → has_ended (slice_split is_line_feed head) ≡ true → data_line head ≡ None
    → is_data_line (last_line head) ≡ true → closed_head (heading_of head)
    ≡ header_of (head ++ b ∷ [])
unfolding header_of
header_closed head b e begun none found_it =
    let line : data_line (head ++ b ∷ []) ≡ Some (last_line head) =
    ap (find is_data_line) (lines_begun head b e begun) ∙ found_last (lines_of head)
    (last_line head) none ∙ ap (λ t. cond t (Some (last_line head)) None) found_it in
    let fields : head_fields (head ++ b ∷ []) ≡ fields_of (lines_of head) =
    ap fields_of (ap (take_while (λ line. not (is_data_line line))) (lines_begun head b e begun)
    ∙ all_before (lines_of head) (last_line head) none found_it) in
    ap (λ t. unless_faulty (mark_in t head)
    (judged_fields (length head + 1) (fields_of (lines_of head)))) begun
    ∙ ap (λ m. unless_faulty m (judged_fields (length head + 1) (fields_of (lines_of head))))
    (sym (mark_stays head (b ∷ []) begun))
    ∙ ap (λ f. unless_faulty (first_line_fault (head ++ b ∷ []))
    (judged_fields (length head + 1) f)) (sym fields)
    ∙ sym (ap (λ o. unless_faulty (first_line_fault (head ++ b ∷ []))
    (header_at (head ++ b ∷ []) o)) line)

-- where the node data begins
pub start_of : (start : ℕ) (mark : Option BtFault) (id : Option Bool) (res size : Option (Option ℕ))
    (header : Header)
    → unless_faulty mark (judged_id start id res size) ≡ Ok header → header.start ≡ start
start_of start (Some fault) id res size header is = absurd (cc)
start_of start None None res size header is = absurd (cc)
start_of start None (Some false) res size header is = absurd (cc)
start_of start None (Some true) None size header is = absurd (cc)
start_of start None (Some true) (Some None) size header is = absurd (cc)
start_of start None (Some true) (Some (Some r)) None header is = absurd (cc)
start_of start None (Some true) (Some (Some r)) (Some None) header is = absurd (cc)
start_of start None (Some true) (Some (Some r)) (Some (Some n)) header is = sym (ap said_start is)
  where
    said_start : Result Header BtFault → ℕ
    said_start (Ok header) = header.start
    said_start (Err fault) = 0

-- ---- a file, when a byte comes

opened_body : (file : List ℕ) (r : Result Header BtFault)
    → ((header : Header) → r ≡ Ok header → header.start ≡ length file) → opened r ≡ body_of file r
unfolding after_bytes
opened_body file (Err fault) starts = refl
opened_body file (Ok header) starts =
    let none : drop header.start file ≡ [] = ap (λ (n : ℕ). drop n file) (starts header refl)
    ∙ drop_of_length-le file (omega arith) in
    ap (λ rest. Body header (fold (after_byte header.start) (at_first header.size) rest)) (sym none)

-- the file is no longer than its head
short_step : (file : List ℕ) (b : ℕ) → length file < 65536 → data_line file ≡ None
    → after_head_byte (heading_of file) b ≡ progress_at (file ++ b ∷ []) (file ++ b ∷ [])
    (data_line (file ++ b ∷ []))
short_step file b short none =
    ap (λ t. cond t (cond (is_line_feed b) (after_line_feed (heading_of file))
    (Heading (longer_line (heading_of file) b))) (Heading (heading_of file)))
    (lt-ltb (length file) 65536 short)
    ∙ by_feed (is_line_feed b) refl
  where
    stays : Heading (heading_of (file ++ b ∷ [])) ≡ Heading (heading_of (file ++ b ∷ []))
    stays = refl

    by_feed : (t : Bool) → is_line_feed b ≡ t
        → cond t (after_line_feed (heading_of file)) (Heading (longer_line (heading_of file) b))
        ≡ progress_at (file ++ b ∷ []) (file ++ b ∷ []) (data_line (file ++ b ∷ []))
    by_feed false e =
        (let line : data_line (file ++ b ∷ []) ≡ None =
        ap (find is_data_line) (lines_longer file b e) ∙ none in
        ap Heading (head_longer file b e)
        ∙ sym (ap (progress_at (file ++ b ∷ []) (file ++ b ∷ [])) line))
    by_feed true e = by_begun (has_ended (slice_split is_line_feed file)) refl
      where
        by_begun : (t : Bool) → has_ended (slice_split is_line_feed file) ≡ t
            → after_line_feed (heading_of file) ≡ progress_at (file ++ b ∷ []) (file ++ b ∷ [])
            (data_line (file ++ b ∷ []))
        by_begun false begun =
            (let (empty, before, first) = lines_unbegun file b e begun in
            let line : data_line (file ++ b ∷ []) ≡ None = ap (find is_data_line) empty in
            ap (λ t. cond (t && is_data_line (line_of (unended (slice_split is_line_feed file)) 0))
            (opened (closed_head (heading_of file))) (Heading (ended_line (heading_of file))))
            begun
            ∙ ap Heading (head_fed file b e)
            ∙ sym (ap (progress_at (file ++ b ∷ []) (file ++ b ∷ [])) line))
        by_begun true begun =
            ap (λ t. cond (t && is_data_line (line_of (unended (slice_split is_line_feed file)) 0))
            (opened (closed_head (heading_of file))) (Heading (ended_line (heading_of file))))
            begun
            ∙ by_data (is_data_line (last_line file)) refl
          where
            by_data : (t : Bool) → is_data_line (last_line file) ≡ t
                → cond t (opened (closed_head (heading_of file)))
                (Heading (ended_line (heading_of file))) ≡ progress_at (file ++ b ∷ [])
                (file ++ b ∷ []) (data_line (file ++ b ∷ []))
            by_data true found_it =
                (let line : data_line (file ++ b ∷ []) ≡ Some (last_line file) =
                ap (find is_data_line) (lines_begun file b e begun) ∙ found_last (lines_of file)
                (last_line file) none ∙ ap (λ t. cond t (Some (last_line file)) None) found_it
                in
                let long : length file + 1 ≡ length (file ++ b ∷ []) =
                sym (length-append file (b ∷ [])) in
                opened_body (file ++ b ∷ []) (closed_head (heading_of file))
                (λ header is. start_of (length file + 1)
                (mark_in (has_ended (slice_split is_line_feed file)) file)
                (fields_of (lines_of file)).id (fields_of (lines_of file)).res
                (fields_of (lines_of file)).size header is ∙ long)
                ∙ ap (body_of (file ++ b ∷ [])) (header_closed file b e begun none found_it)
                ∙ sym (ap (progress_at (file ++ b ∷ []) (file ++ b ∷ [])) line))
            by_data false missed =
                (let line : data_line (file ++ b ∷ []) ≡ None =
                ap (find is_data_line) (lines_begun file b e begun) ∙ found_last (lines_of file)
                (last_line file) none ∙ ap (λ t. cond t (Some (last_line file)) None) missed in
                ap Heading (head_fed file b e)
                ∙ sym (ap (progress_at (file ++ b ∷ []) (file ++ b ∷ [])) line))

-- the head of a file that is no longer than that, and of one that is
pub whole_head : (file : List ℕ) → length file ≤ 65536 → head_of file ≡ file
whole_head file short = take_all_of file 65536 short
  where
    take_all_of : (xs : List ℕ) (n : ℕ) → length xs ≤ n → take n xs ≡ xs
    take_all_of [] zero l = refl
    take_all_of [] (suc n) l = refl
    take_all_of (x ∷ xs) zero l = absurd (omega arith)
    take_all_of (x ∷ xs) (suc n) l = ap (λ t. x ∷ t) (take_all_of xs n (omega arith))

head_step : (file : List ℕ) (b : ℕ) → data_line (head_of file) ≡ None
    → after_head_byte (heading_of (head_of file)) b ≡ file_progress (file ++ b ∷ [])
unfolding file_progress
head_step file b none = elim (cases_lt (length file) 65536) [
  | inl short ↦ (
      let here : head_of file ≡ file = whole_head file (omega arith) in
      let there : head_of (file ++ b ∷ []) ≡ file ++ b ∷ [] =
      whole_head (file ++ b ∷ []) (omega (arith, length-append file (b ∷ []))) in
      ap (λ head. after_head_byte (heading_of head) b) here
      ∙ short_step file b short (ap data_line (sym here) ∙ none)
      ∙ sym (ap (λ head. progress_at (file ++ b ∷ []) head (data_line head)) there))
  | inr long ↦ (
      let same : head_of (file ++ b ∷ []) ≡ head_of file = take-append-le 65536 file (b ∷ []) long
      in
      let full : nat_lt (length (head_of file)) 65536 ≡ false =
      le-ltb (length (head_of file)) 65536 (omega (arith, length-take-le 65536 file long)) in
      ap (λ t. cond t (cond (is_line_feed b) (after_line_feed (heading_of (head_of file)))
      (Heading (longer_line (heading_of (head_of file)) b)))
      (Heading (heading_of (head_of file)))) full
      ∙ sym (ap (λ head. progress_at (file ++ b ∷ []) head (data_line head)) same
      ∙ ap (progress_at (file ++ b ∷ []) (head_of file)) none))
]

-- ---- the node data, when a byte comes

-- lines end within their bytes
Within : ℕ → List HeaderLine → Type 0
Within n [] = ⊤
Within n (l ∷ ls) = (l.after ≤ n) × Within n ls

wider : (m n : ℕ) (ls : List HeaderLine) → m ≤ n → Within m ls → Within n ls
unfolding Within
wider m n [] more h = tt
wider m n (l ∷ ls) more (first, h) = (omega (arith, first, more), wider m n ls more h)

lines_within : (p : List ℕ) (ps : List (List ℕ)) (at : ℕ) → Within (at + span (p ∷ ps))
    (lines_from at (p ∷ ps))
unfolding Within span lines_from
lines_within p [] at = tt
lines_within p (q ∷ ps) at = (
  omega arith,
  wider (at + length p + 1 + span (q ∷ ps)) (at + (length p + 1 + span (q ∷ ps)))
      (lines_from (at + length p + 1) (q ∷ ps)) (omega arith)
      (lines_within q ps (at + length p + 1)),
)

found_within : (n : ℕ) (ls : List HeaderLine) (l : HeaderLine) → Within n ls → find is_data_line ls
    ≡ Some l → l.after ≤ n
unfolding Within
found_within n [] l h is = absurd (false≢true (ap is_some is))
found_within n (x ∷ ls) l (first, h) is =
    by_test (is_data_line x) refl (λ found. found_within n ls l h found)
  where
    after_in : Option HeaderLine → ℕ
    after_in (Some l) = l.after
    after_in None = 0

    by_test : (t : Bool) → is_data_line x ≡ t → (find is_data_line ls ≡ Some l → l.after ≤ n)
        → l.after ≤ n
    by_test true e rest =
        (let same : x.after ≡ l.after =
        ap after_in (sym (ap (λ t. cond t (Some x) (find is_data_line ls)) e) ∙ is) in
        omega (arith, same, first))
    by_test false e rest = rest (sym (ap (λ t. cond t (Some x) (find is_data_line ls)) e) ∙ is)

dropped_within : (n : ℕ) (ls : List HeaderLine) → Within n ls → Within n (drop 1 ls)
unfolding Within
dropped_within n [] h = tt
dropped_within n (l ∷ ls) (first, h) = h

-- the data line ends within the file
data_line_within : (file : List ℕ) (l : HeaderLine) → data_line (head_of file) ≡ Some l
    → l.after ≤ length file
data_line_within file l is =
    let (p, ps, parts) = some_part (head_of file) in
    let whole : 0 + span (p ∷ ps) ≤ length file =
    omega (arith, ap span (sym parts) ∙ span_split (head_of file), length-take 65536 file) in
    found_within (length file) (lines_of (head_of file)) l
    (subst (λ ps. Within (length file) (drop 1 (lines_from 0 ps))) (sym parts)
    (dropped_within (length file) (lines_from 0 (p ∷ ps))
    (wider (0 + span (p ∷ ps)) (length file)
    (lines_from 0 (p ∷ ps)) whole (lines_within p ps 0))))
    is

body_step : (file : List ℕ) (b : ℕ) (r : Result Header BtFault)
    → ((header : Header) → r ≡ Ok header → header.start ≤ length file)
    → after_file_byte (body_of file r) b ≡ body_of (file ++ b ∷ []) r
unfolding after_bytes
body_step file b (Err fault) starts = refl
body_step file b (Ok header) starts =
    let more : drop header.start (file ++ b ∷ []) ≡ drop header.start file ++ b ∷ [] =
    drop-append-le header.start file (b ∷ []) (starts header refl) in
    ap (Body header)
    (sym (fold_push (after_byte header.start) (at_first header.size) (drop header.start file) b)
    ∙ ap (λ rest. fold (after_byte header.start) (at_first header.size) rest) (sym more))

-- the start of a header that was read is where its data line ends
header_start : (head : List ℕ) (l : HeaderLine) (header : Header) → data_line head ≡ Some l
    → header_of head ≡ Ok header → header.start ≡ l.after
unfolding header_of
header_start head l header line is =
    start_of l.after (first_line_fault head)
    (head_fields head).id (head_fields head).res (head_fields head).size header
    (sym (ap (λ o. unless_faulty (first_line_fault head) (header_at head o)) line) ∙ is)

-- one byte more of a file
pub file_step : (file : List ℕ) (b : ℕ) → after_file_byte (file_progress file) b
    ≡ file_progress (file ++ b ∷ [])
unfolding file_progress
file_step file b = by_line (data_line (head_of file)) refl
  where
    by_line : (o : Option HeaderLine) → data_line (head_of file) ≡ o
        → after_file_byte (progress_at file (head_of file) o) b ≡ progress_at (file ++ b ∷ [])
        (head_of (file ++ b ∷ [])) (data_line (head_of (file ++ b ∷ [])))
    by_line None none = head_step file b none
    by_line (Some l) line =
        (body_step file b (header_of (head_of file))
        (λ header is. (let at = header_start (head_of file) l header line is in let within =
        data_line_within file l line in omega (arith, at, within)))
        ∙ ap (body_of (file ++ b ∷ [])) (sym (header_stays file (b ∷ []) l line))
        ∙ sym (ap (progress_at (file ++ b ∷ []) (head_of (file ++ b ∷ [])))
        (data_line_stays file (b ∷ []) l line)))

-- before the first byte
pub file_empty : Heading (heading_of []) ≡ file_progress []
unfolding file_progress lines_from
file_empty = refl

pub fresh_head : (line : List ℕ) → line ≡ []
    → head_with 0 false None (record { id = None; res = None; size = None }) line ≡ heading_of []
unfolding lines_from unended
fresh_head line is = ap (head_with 0 false None (record { id = None; res = None; size = None })) is
