-- Once its data line has ended, more bytes of a file leave its header as it is.
use Rattle.std.proofs.Common.{◌≡◌, ℕ, zero, suc, ◌+◌, ◌-◌, ◌<◌, Bool, true, false, cond, Some, None}
use Rattle.std.proofs.Common.{inl, inr, List, [], ◌∷◌, ◌++◌, length, take, drop, refl, sym, ◌∙◌, ap}
use Rattle.std.proofs.Common.{arith, append-nil}
use Rattle.std.specs.Prelude.{nat_eq, ◌&&◌, is_some, not, take_while, codes}
use Rattle.std.specs.List.{slice_split, onto_first, find, prefix_len}
use Rattle.std.proofs.lemmas.Bool.{false≢true, cases_lt}
use Rattle.std.specs.Option.{option_or}
use Rattle.std.proofs.lemmas.List.Folds.{find-append}
use Rattle.std.proofs.lemmas.List.Splits.{slice_split-cons_yes, slice_split-cons_no}
use Rattle.std.proofs.lemmas.List.{take-append-le}
use Rattle.std.proofs.Common.{eqb-true}
use Rattle.oct_bt.specs.declared.fault.BtFault.TheVariants.{NotOctomap, FloatTree}
use Rattle.oct_bt.specs.Header.{judged_fields, HeaderLine, is_line_feed, line_of, lines_from}
use Rattle.oct_bt.specs.Header.{lines_of, is_data_line, data_line, head_fields, fields_of, head_of}
use Rattle.oct_bt.specs.Header.{first_line_fault, unless_faulty, header_at, header_of}
use Rattle.oct_bt.specs.Reading.{has_ended}
use Rattle.std.specs.List.{starts_with}

-- parts, the last of which goes on with the first of others
unfoldable pub joined_parts : List (List ℕ) → List (List ℕ) → List (List ℕ)
joined_parts [] qs = qs
joined_parts (p ∷ []) [] = p ∷ []
joined_parts (p ∷ []) (q ∷ qs) = (p ++ q) ∷ qs
joined_parts (p ∷ r ∷ ps) qs = p ∷ joined_parts (r ∷ ps) qs

-- the parts of a list, and there is one
pub some_part : (xs : List ℕ) → (p : List ℕ) × (ps : List (List ℕ))
    × (slice_split is_line_feed xs ≡ p ∷ ps)
some_part [] = ([], [], refl)
some_part (x ∷ xs) = by_test (is_line_feed x) refl (some_part xs)
  where
    by_test : (t : Bool) → is_line_feed x ≡ t → (p : List ℕ) × (ps : List (List ℕ))
        × (slice_split is_line_feed xs ≡ p ∷ ps)
        → (p : List ℕ) × (ps : List (List ℕ)) × (slice_split is_line_feed (x ∷ xs) ≡ p ∷ ps)
    by_test true e after =
        ([], slice_split is_line_feed xs, slice_split-cons_yes is_line_feed x xs e)
    by_test false e (p, ps, is) =
        (x ∷ p, ps, slice_split-cons_no is_line_feed x xs e ∙ ap (onto_first x) is)

onto_joined : (x : ℕ) (p : List ℕ) (ps qs : List (List ℕ)) → onto_first x (joined_parts (p ∷ ps) qs)
    ≡ joined_parts ((x ∷ p) ∷ ps) qs
unfolding joined_parts
onto_joined x p [] [] = refl
onto_joined x p [] (q ∷ qs) = refl
onto_joined x p (r ∷ ps) qs = refl

-- the parts of joined lists
pub split_joined : (xs ys : List ℕ) → slice_split is_line_feed (xs ++ ys)
    ≡ joined_parts (slice_split is_line_feed xs) (slice_split is_line_feed ys)
unfolding joined_parts
split_joined [] ys = (let (q, qs, is) = some_part ys in is ∙ sym (ap (joined_parts ([] ∷ [])) is))
split_joined (x ∷ xs) ys = by_test (is_line_feed x) refl (some_part xs) (split_joined xs ys)
  where
    by_test : (t : Bool) → is_line_feed x ≡ t → (p : List ℕ) × (ps : List (List ℕ))
        × (slice_split is_line_feed xs ≡ p ∷ ps)
        → slice_split is_line_feed (xs ++ ys) ≡ joined_parts (slice_split is_line_feed xs)
        (slice_split is_line_feed ys)
        → slice_split is_line_feed (x ∷ (xs ++ ys))
        ≡ joined_parts (slice_split is_line_feed (x ∷ xs)) (slice_split is_line_feed ys)
    by_test true e (p, ps, is) rest =
        (slice_split-cons_yes is_line_feed x (xs ++ ys) e
        ∙ ap (λ t. [] ∷ t) (rest ∙ ap (λ t. joined_parts t (slice_split is_line_feed ys)) is)
        ∙ sym (ap (λ t. joined_parts t (slice_split is_line_feed ys))
        (slice_split-cons_yes is_line_feed x xs e ∙ ap (λ t. [] ∷ t) is)))
    by_test false e (p, ps, is) rest =
        (slice_split-cons_no is_line_feed x (xs ++ ys) e
        ∙ ap (onto_first x) (rest ∙ ap (λ t. joined_parts t (slice_split is_line_feed ys)) is)
        ∙ onto_joined x p ps (slice_split is_line_feed ys)
        ∙ sym (ap (λ t. joined_parts t (slice_split is_line_feed ys))
        (slice_split-cons_no is_line_feed x xs e ∙ ap (onto_first x) is)))

-- the lines that have ended in the front of parts stay
lines_from_joined : (ps qs : List (List ℕ)) (at : ℕ) → (more : List HeaderLine)
    × (lines_from at (joined_parts ps qs) ≡ lines_from at ps ++ more)
unfolding joined_parts lines_from
lines_from_joined [] qs at = (lines_from at qs, refl)
lines_from_joined (p ∷ []) [] at = ([], refl)
lines_from_joined (p ∷ []) (q ∷ qs) at = (lines_from at ((p ++ q) ∷ qs), refl)
lines_from_joined (p ∷ r ∷ ps) qs at =
    by_parts (joined_some r ps qs) (lines_from_joined (r ∷ ps) qs (at + length p + 1))
  where
    joined_some : (r : List ℕ) (ps qs : List (List ℕ)) → (t : List ℕ) × (ts : List (List ℕ))
        × (joined_parts (r ∷ ps) qs ≡ t ∷ ts)
    joined_some r [] [] = (r, [], refl)
    joined_some r [] (q ∷ qs) = (r ++ q, qs, refl)
    joined_some r (s ∷ ps) qs = (r, joined_parts (s ∷ ps) qs, refl)

    by_parts : (t : List ℕ) × (ts : List (List ℕ)) × (joined_parts (r ∷ ps) qs ≡ t ∷ ts)
        → (more : List HeaderLine)
        × (lines_from (at + length p + 1) (joined_parts (r ∷ ps) qs)
        ≡ lines_from (at + length p + 1) (r ∷ ps) ++ more)
        → (more : List HeaderLine) × (lines_from at (p ∷ joined_parts (r ∷ ps) qs)
        ≡ line_of p (at + length p + 1) ∷ (lines_from (at + length p + 1) (r ∷ ps) ++ more))
    by_parts (t, ts, is) (more, rest) = (
      more,
      ap (λ z. lines_from at (p ∷ z)) is
          ∙ ap (λ z. line_of p (at + length p + 1) ∷ lines_from (at + length p + 1) z) (sym is)
          ∙ ap (λ z. line_of p (at + length p + 1) ∷ z) rest,
    )

-- the lines after the first one that have ended in the front of bytes stay
lines_of_joined : (xs ys : List ℕ) → (more : List HeaderLine)
    × (lines_of (xs ++ ys) ≡ lines_of xs ++ more)
lines_of_joined xs ys = by_first (lines_from 0 (slice_split is_line_feed xs))
    (lines_from_joined (slice_split is_line_feed xs) (slice_split is_line_feed ys) 0)
  where
    by_first : (zs : List HeaderLine) → (more : List HeaderLine)
        × (lines_from 0 (joined_parts (slice_split is_line_feed xs) (slice_split is_line_feed ys))
        ≡ zs ++ more)
        → (more : List HeaderLine)
        × (drop 1 (lines_from 0 (slice_split is_line_feed (xs ++ ys))) ≡ drop 1 zs ++ more)
    by_first [] (more, is) =
        (drop 1 more, ap (λ t. drop 1 (lines_from 0 t)) (split_joined xs ys) ∙ ap (drop 1) is)
    by_first (z ∷ zs) (more, is) =
        (more, ap (λ t. drop 1 (lines_from 0 t)) (split_joined xs ys) ∙ ap (drop 1) is)

-- the head of a file that goes on begins with the head of the file
pub head_front : (file ys : List ℕ) → (zs : List ℕ) × (head_of (file ++ ys) ≡ head_of file ++ zs)
head_front file ys = elim (cases_lt (length file) 65536) [
  | inr long ↦ ([], take-append-le 65536 file ys long ∙ sym (append-nil (take 65536 file)))
  | inl short ↦ (
    take (65536 - length file) ys,
    take_over file ys 65536 short
        ∙ ap (λ t. t ++ take (65536 - length file) ys) (sym (take_all_of file 65536 short)),
  )
]
  where
    take_all_of : (xs : List ℕ) (n : ℕ) → length xs < n → take n xs ≡ xs
    take_all_of [] zero l = refl
    take_all_of [] (suc n) l = refl
    take_all_of (x ∷ xs) zero l = absurd (omega arith)
    take_all_of (x ∷ xs) (suc n) l = ap (λ t. x ∷ t) (take_all_of xs n (omega arith))

    take_over : (xs ys : List ℕ) (n : ℕ) → length xs < n → take n (xs ++ ys)
        ≡ xs ++ take (n - length xs) ys
    take_over [] ys n l = (let at : n ≡ n - 0 = omega arith in ap (λ (n : ℕ). take n ys) at)
    take_over (x ∷ xs) ys zero l = absurd (omega arith)
    take_over (x ∷ xs) ys (suc n) l =
        (let at : n - length xs ≡ suc n - suc (length xs) = omega arith in
        ap (λ t. x ∷ t) (take_over xs ys n (omega arith) ∙ ap (λ (n : ℕ). xs ++ take n ys) at))

-- and so do those of the head of a file
pub lines_stay : (file ys : List ℕ) → (more : List HeaderLine)
    × (lines_of (head_of (file ++ ys)) ≡ lines_of (head_of file) ++ more)
lines_stay file ys =
    let (zs, is) = head_front file ys in
    let (more, lines) = lines_of_joined (head_of file) zs in
    (more, ap lines_of is ∙ lines)

-- what is found in the front
find_stays : (p : HeaderLine → Bool) (xs ys : List HeaderLine) (l : HeaderLine) → find p xs ≡ Some l
    → find p (xs ++ ys) ≡ Some l
find_stays p xs ys l h = find-append p xs ys ∙ ap (λ o. option_or o (find p ys)) h

pub take_one : (n : ℕ) (x : HeaderLine) (xs : List HeaderLine)
    → take (1 + n) (x ∷ xs) ≡ x ∷ take n xs
take_one n x xs = (let e : 1 + n ≡ suc n = omega arith in ap (λ (n : ℕ). take n (x ∷ xs)) e)

before_stays : (p : HeaderLine → Bool) (xs ys : List HeaderLine) (l : HeaderLine)
    → find p xs ≡ Some l
    → take_while (λ x. not (p x)) (xs ++ ys) ≡ take_while (λ x. not (p x)) xs
before_stays p [] ys l h = absurd (false≢true (ap is_some h))
before_stays p (x ∷ xs) ys l h = by_test (p x) refl (before_stays p xs ys l)
  where
    skipped : (p : HeaderLine → Bool) (x : HeaderLine) (xs : List HeaderLine) (l : HeaderLine)
        → p x ≡ false → find p (x ∷ xs) ≡ Some l → find p xs ≡ Some l
    skipped p x xs l e h = sym (ap (λ t. cond t (Some x) (find p xs)) e) ∙ h

    by_test : (t : Bool) → p x ≡ t
        → (find p xs ≡ Some l → take_while (λ x. not (p x)) (xs ++ ys)
        ≡ take_while (λ x. not (p x)) xs)
        → take_while (λ x. not (p x)) (x ∷ (xs ++ ys)) ≡ take_while (λ x. not (p x)) (x ∷ xs)
    by_test true e after = rw e refl
    by_test false e after =
        (let found : find p xs ≡ Some l = skipped p x xs l e h in
        rw e (take_one (prefix_len (λ x. not (p x)) (xs ++ ys)) x (xs ++ ys)
        ∙ ap (λ t. x ∷ t) (after found) ∙ sym (take_one (prefix_len (λ x. not (p x)) xs) x xs)))

-- the data line and the fields before it stay
pub data_line_stays : (file ys : List ℕ) (l : HeaderLine) → data_line (head_of file) ≡ Some l
    → data_line (head_of (file ++ ys)) ≡ Some l
data_line_stays file ys l h =
    let (more, is) = lines_stay file ys in
    ap (find is_data_line) is ∙ find_stays is_data_line (lines_of (head_of file)) more l h

fields_stay : (file ys : List ℕ) (l : HeaderLine) → data_line (head_of file) ≡ Some l
    → head_fields (head_of (file ++ ys)) ≡ head_fields (head_of file)
fields_stay file ys l h =
    let (more, is) = lines_stay file ys in
    ap fields_of (ap (take_while (λ line. not (is_data_line line))) is
    ∙ before_stays is_data_line (lines_of (head_of file)) more l h)

-- ---- how a file begins

-- the first of parts
unfoldable pub first_part : List (List ℕ) → List ℕ
first_part [] = []
first_part (part ∷ parts) = part

-- a test that closed texts pass by computing
unfoldable pub no_feed : List ℕ → Bool
no_feed [] = true
no_feed (b ∷ text) = not (is_line_feed b) && no_feed text

-- whether a text begins with another one that has no line feed is seen in its first line
begins_first : (mark text : List ℕ) → no_feed mark ≡ true
    → starts_with nat_eq (first_part (slice_split is_line_feed text)) mark
    ≡ starts_with nat_eq text mark
unfolding no_feed first_part
begins_first [] text none = refl
begins_first (c ∷ mark) [] none = refl
begins_first (c ∷ mark) (x ∷ xs) none = by_test (is_line_feed x) refl (some_part xs)
    (begins_first mark xs)
  where
    split_none : (t : Bool) → is_line_feed c ≡ t → no_feed (c ∷ mark) ≡ true
        → (is_line_feed c ≡ false) × (no_feed mark ≡ true)
    split_none true e none = absurd (false≢true (ap (λ t. not t && no_feed mark) (sym e) ∙ none))
    split_none false e none = (e, ap (λ t. not t && no_feed mark) (sym e) ∙ none)

    by_test : (t : Bool) → is_line_feed x ≡ t → (p : List ℕ) × (ps : List (List ℕ))
        × (slice_split is_line_feed xs ≡ p ∷ ps)
        → (no_feed mark ≡ true → starts_with nat_eq (first_part (slice_split is_line_feed xs)) mark
        ≡ starts_with nat_eq xs mark)
        → starts_with nat_eq (first_part (slice_split is_line_feed (x ∷ xs))) (c ∷ mark)
        ≡ starts_with nat_eq (x ∷ xs) (c ∷ mark)
    by_test true e (p, ps, is) rest =
        (let feed : x ≡ 10 = eqb-true x 10 e in
        let other : nat_eq c x ≡ false = ap (λ (x : ℕ). nat_eq c x) feed
        ∙ (split_none (is_line_feed c) refl none).0 in
        ap (λ ps. starts_with nat_eq (first_part ps) (c ∷ mark))
        (slice_split-cons_yes is_line_feed x xs e)
        ∙ sym (ap (λ t. t && starts_with nat_eq xs mark) other))
    by_test false e (p, ps, is) rest =
        (ap (λ ps. starts_with nat_eq (first_part ps) (c ∷ mark))
        (slice_split-cons_no is_line_feed x xs e ∙ ap (onto_first x) is)
        ∙ ap (λ t. nat_eq c x && t)
        (ap (λ ps. starts_with nat_eq (first_part ps) mark) (sym is)
        ∙ rest (split_none (is_line_feed c) refl none).1))

pub mark_first : (text : List ℕ) → first_line_fault (first_part (slice_split is_line_feed text))
    ≡ first_line_fault text
unfolding no_feed
mark_first text =
    ap (λ t. cond t None
    (cond (starts_with nat_eq (first_part (slice_split is_line_feed text))
    (codes "# Octomap OcTree file")) (Some FloatTree) (Some NotOctomap)))
    (begins_first (codes "# Octomap OcTree binary file") text refl)
    ∙ ap (λ t. cond (starts_with nat_eq text (codes "# Octomap OcTree binary file")) None
    (cond t (Some FloatTree) (Some NotOctomap)))
    (begins_first (codes "# Octomap OcTree file") text refl)

-- once the first line has ended, what is wrong with it stays
pub mark_stays : (xs ys : List ℕ) → has_ended (slice_split is_line_feed xs) ≡ true
    → first_line_fault (xs ++ ys) ≡ first_line_fault xs
unfolding first_part joined_parts
mark_stays xs ys ended =
    sym (mark_first (xs ++ ys)) ∙ ap (λ ps. first_line_fault (first_part ps)) (split_joined xs ys)
    ∙ ap first_line_fault
    (first_stays (slice_split is_line_feed xs) (slice_split is_line_feed ys) ended)
    ∙ mark_first xs
  where
    first_stays : (ps qs : List (List ℕ)) → has_ended ps ≡ true → first_part (joined_parts ps qs)
        ≡ first_part ps
    first_stays [] qs ended = absurd (false≢true ended)
    first_stays (p ∷ []) qs ended = absurd (false≢true ended)
    first_stays (p ∷ r ∷ ps) qs ended = refl

-- where there is a data line, the first line has ended
pub data_line_ended : (head : List ℕ) (l : HeaderLine) → data_line head ≡ Some l
    → has_ended (slice_split is_line_feed head) ≡ true
unfolding lines_from
data_line_ended head l h = by_parts (slice_split is_line_feed head) h
  where
    by_parts : (ps : List (List ℕ)) → find is_data_line (drop 1 (lines_from 0 ps)) ≡ Some l
        → has_ended ps ≡ true
    by_parts [] h = absurd (false≢true (ap is_some h))
    by_parts (p ∷ []) h = absurd (false≢true (ap is_some h))
    by_parts (p ∷ q ∷ ps) h = refl

-- so the header stays
pub header_stays : (file ys : List ℕ) (l : HeaderLine) → data_line (head_of file) ≡ Some l
    → header_of (head_of (file ++ ys)) ≡ header_of (head_of file)
unfolding header_of
header_stays file ys l h =
    let (zs, is) = head_front file ys in
    let mark : first_line_fault (head_of (file ++ ys)) ≡ first_line_fault (head_of file) =
    ap first_line_fault is ∙ mark_stays (head_of file) zs (data_line_ended (head_of file) l h) in
    ap (λ m. unless_faulty m (header_at (head_of (file ++ ys)) (data_line (head_of (file ++ ys)))))
    mark
    ∙ ap (λ o. unless_faulty (first_line_fault (head_of file)) (header_at (head_of (file ++ ys)) o))
    (data_line_stays file ys l h)
    ∙ ap (λ f. unless_faulty (first_line_fault (head_of file)) (judged_fields l.after f))
    (fields_stay file ys l h)
    ∙ sym (ap (λ o. unless_faulty (first_line_fault (head_of file)) (header_at (head_of file) o)) h)
