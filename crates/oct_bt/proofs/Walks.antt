-- The reading of node data from the left goes along whole records, and accepts nothing else.
use Rattle.std.proofs.Common.{◌≡◌, ℕ, zero, suc, ◌+◌, ◌*◌, ◌/◌, ◌%◌, ◌<◌, ◌≤◌, ◌↔◌, inl, inr, Bool}
use Rattle.std.proofs.Common.{true, false, cond, Option, Some, None, Result, Ok, Err, List, [], ◌∷◌}
use Rattle.std.proofs.Common.{◌++◌, length, refl, sym, subst, ◌∙◌, ap, arith, append_assoc}
use Rattle.std.proofs.Common.{append-nil}
use Rattle.std.specs.Prelude.{nat_eq, nat_lt, ◌&&◌, count_by, fold, replicate, ⊤}
use Rattle.std.specs.List.{All}
use Rattle.std.proofs.lemmas.Bool.{false≢true, eqb-true, eq-eqb, lt-ltb}
use Rattle.std.proofs.Math.Arith.{lt_of_le-ne}
use Rattle.std.proofs.lemmas.Bool.Decides.{eqb_tells}
use Rattle.std.proofs.lemmas.List.Sums.{sum_by-cons, fold-append}
use Rattle.oct_odds.specs.declared.event.Class.TheVariants.{Unknown, Free, Occupied}
use Rattle.oct_bt.specs.declared.fault.BtFault.{BtFault}
use Rattle.oct_bt.specs.declared.fault.BtFault.TheVariants.{TooDeep, TrailingBytes, SizeMismatch}
use Rattle.oct_bt.specs.Records.{Entries, End, Plain, Record, AreEntries, IsRecord, codes_of}
use Rattle.oct_bt.specs.Records.{code_bytes, bodies_of, flat}
use Rattle.oct_bt.specs.Canonical.{codes_in, node_total}
use Rattle.oct_bt.specs.NodeData.{Progress, Reads, Stopped, records_in, after_record, after_byte}
use Rattle.oct_bt.specs.NodeData.{after_bytes, judged, read_nodes, IsAccepted}
use Rattle.oct_bt.proofs.Codes.{code_list, records_among, records_in_record, total_of_flat}

-- no entry of a block of depth 15 is a record
none_deeper : (es : Entries) (n : ℕ) → AreEntries 15 n es → records_among es ≡ 0
unfolding records_among
none_deeper End n h = refl
none_deeper (Plain c es) zero h = absurd h
none_deeper (Plain c es) (suc n) h = none_deeper es n h
none_deeper (Record r es) zero h = absurd h
none_deeper (Record r es) (suc n) (low, inner, h) = absurd (omega arith)

-- so the record of a block isn't too deep
pub not_too_deep : (r : Entries) (d : ℕ) → IsRecord d r
    → (nat_eq d 15 && nat_lt 0 (records_among r)) ≡ false
not_too_deep r d h = by_test (nat_eq d 15) refl
  where
    by_test : (deepest : Bool) → nat_eq d 15 ≡ deepest → (nat_eq d 15 && nat_lt 0 (records_among r))
        ≡ false
    by_test true e = (let at : d ≡ 15 = eqb-true d 15 e in
        let none : records_among r ≡ 0 = none_deeper r 8 (subst (λ d. IsRecord d r) at h) in
        rw (e, none) refl)
    by_test false e = rw e refl

-- a whole record, and what is to come after it
pub record_read : (r : Entries) (start d : ℕ) (others records : List ℕ) → IsRecord d r
    → after_record start d others records (codes_of r % 256) (codes_of r / 256)
    ≡ Reads (replicate (records_among r) (suc d) ++ others) None
    (records ++ code_bytes (codes_of r))
record_read r start d others records h = rw (records_in_record r d h, not_too_deep r d h) refl

-- the reading goes along the text of a record, once it goes along the text of the records in it
record_walk : (r : Entries) (start d : ℕ) (others records : List ℕ) → IsRecord d r
    → fold (after_byte start)
    (Reads (replicate (records_among r) (suc d) ++ others) None
    (records ++ code_bytes (codes_of r))) (bodies_of r)
    ≡ Reads others None ((records ++ code_bytes (codes_of r)) ++ bodies_of r)
    → fold (after_byte start) (Reads (d ∷ others) None records) (flat r)
    ≡ Reads others None (records ++ flat r)
record_walk r start d others records h bodies =
    ap (λ p. fold (after_byte start) p (bodies_of r)) (record_read r start d others records h)
    ∙ bodies ∙ ap (Reads others None) (append_assoc records (code_bytes (codes_of r)) (bodies_of r))

-- the reading goes along the texts of the records among entries
pub bodies_walk : (es : Entries) (start d n : ℕ) (others records : List ℕ) → AreEntries d n es
    → fold (after_byte start) (Reads (replicate (records_among es) (suc d) ++ others) None records)
    (bodies_of es)
    ≡ Reads others None (records ++ bodies_of es)
unfolding records_among bodies_of
bodies_walk End start d n others records h = ap (Reads others None) (sym (append-nil records))
bodies_walk (Plain c es) start d zero others records h = absurd h
bodies_walk (Plain c es) start d (suc n) others records h =
    bodies_walk es start d n others records h
bodies_walk (Record r es) start d zero others records h = absurd h
bodies_walk (Record r es) start d (suc n) others records (low, inner, h) =
    let first : fold (after_byte start)
    (Reads (suc d ∷ (replicate (records_among es) (suc d) ++ others)) None records) (flat r)
    ≡ Reads (replicate (records_among es) (suc d) ++ others) None (records ++ flat r) =
    record_walk r start (suc d) (replicate (records_among es) (suc d) ++ others) records inner
    (bodies_walk r start (suc d) 8 (replicate (records_among es) (suc d) ++ others)
    (records ++ code_bytes (codes_of r)) inner) in
    fold-append (after_byte start)
    (Reads (suc d ∷ (replicate (records_among es) (suc d) ++ others)) None records) (flat r)
    (bodies_of es)
    ∙ ap (λ p. fold (after_byte start) p (bodies_of es)) first
    ∙ bodies_walk es start d n others (records ++ flat r) h
    ∙ ap (Reads others None) (append_assoc records (flat r) (bodies_of es))

-- the reading goes along the text of a record
pub flat_walk : (r : Entries) (start d : ℕ) (others records : List ℕ) → IsRecord d r
    → fold (after_byte start) (Reads (d ∷ others) None records) (flat r)
    ≡ Reads others None (records ++ flat r)
flat_walk r start d others records h =
    record_walk r start d others records h
    (bodies_walk r start d 8 others (records ++ code_bytes (codes_of r)) h)

-- a reading that has stopped stays so
pub stays_stopped : (start : ℕ) (fault : BtFault) (bytes : List ℕ)
    → fold (after_byte start) (Stopped fault) bytes ≡ Stopped fault
stays_stopped start fault [] = refl
stays_stopped start fault (b ∷ bytes) = stays_stopped start fault bytes

-- text that is the texts of records of these depths
unfoldable pub IsParsed : List ℕ → List ℕ → Type 0
IsParsed [] bytes = bytes ≡ []
IsParsed (d ∷ others) bytes = (r : Entries) × (rest : List ℕ) × IsRecord d r
    × (bytes ≡ flat r ++ rest) × IsParsed others rest

-- depths of blocks that are no voxels
unfoldable pub Shallow : List ℕ → Type 0
Shallow [] = ⊤
Shallow (d ∷ others) = (d ≤ 15) × Shallow others

-- how many of these codes are 3
three_more : ℕ → ℕ → ℕ
three_more (suc (suc (suc zero))) n = suc n
three_more _ n = n

threes : List ℕ → ℕ
threes [] = 0
threes (c ∷ codes) = three_more c (threes codes)

threes_counted : (codes : List ℕ) → count_by (λ code. nat_eq code 3) codes ≡ threes codes
unfolding threes three_more
threes_counted [] = refl
threes_counted (c ∷ codes) = sum_by-cons (λ code. cond {A = ℕ} (nat_eq code 3) 1 0) c codes
    ∙ by_code c (threes_counted codes)
  where
    by_code : (c : ℕ) → count_by (λ code. nat_eq code 3) codes ≡ threes codes
        → cond {A = ℕ} (nat_eq c 3) 1 0 + count_by (λ code. nat_eq code 3) codes
        ≡ three_more c (threes codes)
    by_code zero h = omega arith
    by_code (suc zero) h = omega arith
    by_code (suc (suc zero)) h = omega arith
    by_code (suc (suc (suc zero))) h = omega arith
    by_code (suc (suc (suc (suc c)))) h = elim (eqb_tells (suc (suc (suc (suc c)))) 3) [
      | inl (e, at) ↦ absurd (omega arith)
      | inr (e, ne) ↦ (let none : cond {A = ℕ} (nat_eq (suc (suc (suc (suc c)))) 3) 1 0 ≡ 0 =
          rw e refl in omega (arith, none, h))
    ]

-- entries of these codes, whose records are the first texts of records
pub Assembled : List ℕ → ℕ → List ℕ → List ℕ → Type 0
Assembled codes d others bytes = (es : Entries) × (rest : List ℕ) × AreEntries d (length codes) es
    × (code_list es ≡ codes)
    × (bytes ≡ bodies_of es ++ rest) × IsParsed others rest

assembled : (codes : List ℕ) (d : ℕ) (others bytes : List ℕ) → All (λ c. c < 4) codes
    → (0 < threes codes → d < 15)
    → IsParsed (replicate (threes codes) (suc d) ++ others) bytes → Assembled codes d others bytes
unfolding threes three_more Assembled IsParsed code_list bodies_of
assembled [] d others bytes below low parsed = (End, bytes, tt, refl, refl, parsed)
assembled (zero ∷ codes) d others bytes below low parsed =
    let (es, rest, are, same, text, later) =
    assembled codes d others bytes (λ k e l. below (suc k) e (omega arith)) low parsed in
    (Plain Unknown es, rest, are, ap (λ codes. 0 ∷ codes) same, text, later)
assembled (suc zero ∷ codes) d others bytes below low parsed =
    let (es, rest, are, same, text, later) =
    assembled codes d others bytes (λ k e l. below (suc k) e (omega arith)) low parsed in
    (Plain Free es, rest, are, ap (λ codes. 1 ∷ codes) same, text, later)
assembled (suc (suc zero) ∷ codes) d others bytes below low parsed =
    let (es, rest, are, same, text, later) =
    assembled codes d others bytes (λ k e l. below (suc k) e (omega arith)) low parsed in
    (Plain Occupied es, rest, are, ap (λ codes. 2 ∷ codes) same, text, later)
assembled (suc (suc (suc zero)) ∷ codes) d others bytes below low (r, after, is, first, more) =
    let deep : d < 15 = low (omega arith) in
    let (es, rest, are, same, text, later) =
    assembled codes d others after (λ k e l. below (suc k) e (omega arith)) (λ some. deep) more
    in (
      Record r es,
      rest,
      (deep, is, are),
      ap (λ codes. 3 ∷ codes) same,
      first ∙ ap (λ t. flat r ++ t) text ∙ sym (append_assoc (flat r) (bodies_of es) rest),
      later,
    )
assembled (suc (suc (suc (suc c))) ∷ codes) d others bytes below low parsed =
    let first : suc (suc (suc (suc c))) < 4 = below 0 0 (omega arith) in
    absurd (omega arith)

-- the number of these codes, the first one in the lowest bits
number_of : List ℕ → ℕ
number_of [] = 0
number_of (c ∷ codes) = c + 4 * number_of codes

number_of_entries : (es : Entries) → number_of (code_list es) ≡ codes_of es
unfolding number_of code_list codes_of
number_of_entries End = refl
number_of_entries (Plain c es) = rw (number_of_entries es) refl
number_of_entries (Record r es) = rw (number_of_entries es) refl

-- two bytes are those of their codes
bytes_of_codes : (a b : ℕ) → a < 256 → b < 256 → code_bytes (number_of (codes_in a ++ codes_in b))
    ≡ a ∷ b ∷ []
unfolding number_of
bytes_of_codes a b la lb =
    let low : number_of (codes_in a ++ codes_in b) % 256 ≡ a = omega arith in
    let high : number_of (codes_in a ++ codes_in b) / 256 ≡ b = omega arith in
    rw (low, high) refl

codes_below : (a b : ℕ) → All (λ c. c < 4) (codes_in a ++ codes_in b)
codes_below a b zero d l = (let x : a % 4 < 4 = omega arith in x)
codes_below a b (suc zero) d l = (let x : a / 4 % 4 < 4 = omega arith in x)
codes_below a b (suc (suc zero)) d l = (let x : a / 16 % 4 < 4 = omega arith in x)
codes_below a b (suc (suc (suc zero))) d l = (let x : a / 64 % 4 < 4 = omega arith in x)
codes_below a b (suc (suc (suc (suc zero)))) d l = (let x : b % 4 < 4 = omega arith in x)
codes_below a b (suc (suc (suc (suc (suc zero))))) d l = (let x : b / 4 % 4 < 4 = omega arith in x)
codes_below a b (suc (suc (suc (suc (suc (suc zero)))))) d l =
    (let x : b / 16 % 4 < 4 = omega arith in x)
codes_below a b (suc (suc (suc (suc (suc (suc (suc zero))))))) d l =
    (let x : b / 64 % 4 < 4 = omega arith in x)
codes_below a b (suc (suc (suc (suc (suc (suc (suc (suc k)))))))) d l = absurd (omega arith)

-- one record read, where what follows it is texts of records
record_parsed : (a b d : ℕ) (others rest : List ℕ) → a < 256 → b < 256
    → (0 < records_in a b → d < 15)
    → IsParsed (replicate (records_in a b) (suc d) ++ others) rest
    → IsParsed (d ∷ others) (a ∷ b ∷ rest)
unfolding IsParsed Assembled
record_parsed a b d others rest la lb low parsed =
    let counted : records_in a b ≡ threes (codes_in a ++ codes_in b) =
    threes_counted (codes_in a ++ codes_in b) in
    let (r, after, are, same, text, later) =
    assembled (codes_in a ++ codes_in b) d others rest (codes_below a b)
    (λ some. low (omega arith))
    (subst (λ n. IsParsed (replicate n (suc d) ++ others) rest) counted parsed) in
    let codes : codes_of r ≡ number_of (codes_in a ++ codes_in b) = sym (number_of_entries r)
    ∙ ap number_of same in
    let bytes : code_bytes (codes_of r) ≡ a ∷ b ∷ [] = ap code_bytes codes
    ∙ bytes_of_codes a b la lb in (
      r,
      after,
      are,
      ap (λ t. a ∷ b ∷ t) text ∙ ap (λ t. (t ++ bodies_of r) ++ after) (sym bytes),
      later,
    )

-- the depths that are still to come, and what has been read
pending_of : Progress → List ℕ
pending_of (Reads pending half records) = pending
pending_of (Stopped fault) = 0 ∷ []

records_of : Progress → List ℕ
records_of (Reads pending half records) = records
records_of (Stopped fault) = []

not_stopped : (fault : BtFault) (half : Option ℕ) (whole : List ℕ)
    → Stopped fault ≡ Reads [] half whole → ⊥
unfolding pending_of
not_stopped fault half whole e =
    (let l : length (pending_of (Stopped fault)) ≡ 0 = ap (λ p. length (pending_of p)) e in
    absurd (omega arith))

not_pending : (d : ℕ) (others records whole : List ℕ) (half more : Option ℕ)
    → Reads (d ∷ others) half records ≡ Reads [] more whole → ⊥
unfolding pending_of
not_pending d others records whole half more e =
    (let l : length (d ∷ others) ≡ 0 = ap (λ p. length (pending_of p)) e in absurd (omega arith))

shallow_more : (n d : ℕ) (others : List ℕ) → (0 < n → d < 15) → Shallow others
    → Shallow (replicate n (suc d) ++ others)
unfolding Shallow
shallow_more zero d others low h = h
shallow_more (suc n) d others low h =
    (let deep : d < 15 = low (omega arith) in (deep, shallow_more n d others (λ some. deep) h))

-- the record isn't too deep: then its children's depth is at most 15
low_enough : (d n : ℕ) → d ≤ 15 → (nat_eq d 15 && nat_lt 0 n) ≡ false → 0 < n → d < 15
low_enough d n l test some = elim (eqb_tells d 15) [
  | inl (e, at) ↦ absurd (false≢true (sym test ∙ rw (e, lt-ltb 0 n some) refl))
  | inr (e, ne) ↦ lt_of_le-ne l ne
]

-- a reading that ends with no record to come has read texts of records
pub parsed_from : (bytes : List ℕ) (start : ℕ) (pending records whole : List ℕ) (half : Option ℕ)
    → All (λ b. b < 256) bytes → Shallow pending
    → fold (after_byte start) (Reads pending None records) bytes ≡ Reads [] half whole
    → IsParsed pending bytes × (whole ≡ records ++ bytes)
unfolding IsParsed Shallow pending_of records_of
parsed_from [] start [] records whole half below shallow e =
    (refl, sym (ap records_of e) ∙ sym (append-nil records))
parsed_from [] start (d ∷ others) records whole half below shallow e =
    absurd (not_pending d others records whole None half e)
parsed_from (a ∷ []) start [] records whole half below shallow e =
    absurd (not_stopped _ half whole e)
parsed_from (a ∷ []) start (d ∷ others) records whole half below shallow e =
    absurd (not_pending d others records whole (Some a) half e)
parsed_from (a ∷ b ∷ rest) start [] records whole half below shallow e =
    absurd (not_stopped _ half whole
    (sym (stays_stopped start (TrailingBytes (start + length records)) rest) ∙ e))
parsed_from (a ∷ b ∷ rest) start (d ∷ others) records whole half below (at_most, shallow) e =
    by_test (nat_eq d 15 && nat_lt 0 (records_in a b)) refl
    (λ pending records shallow e. parsed_from rest start pending records whole half
    (λ k x l. below (suc (suc k)) x (omega arith)) shallow e)
  where
    by_test : (deep : Bool) → (nat_eq d 15 && nat_lt 0 (records_in a b)) ≡ deep
        → ((pending records : List ℕ) → Shallow pending
        → fold (after_byte start) (Reads pending None records) rest ≡ Reads [] half whole
        → IsParsed pending rest × (whole ≡ records ++ rest))
        → IsParsed (d ∷ others) (a ∷ b ∷ rest) × (whole ≡ records ++ a ∷ b ∷ rest)
    by_test true test later = (
        let stops : after_record start d others records a b
        ≡ Stopped (TooDeep (start + length records)) = rw test refl in
        absurd (not_stopped _ half whole
        (sym (stays_stopped start (TooDeep (start + length records)) rest)
        ∙ ap (λ p. fold (after_byte start) p rest) (sym stops) ∙ e)))
    by_test false test later = (
        let goes : after_record start d others records a b
        ≡ Reads (replicate (records_in a b) (suc d) ++ others) None (records ++ a ∷ b ∷ []) =
        rw test refl in
        let low : 0 < records_in a b → d < 15 = low_enough d (records_in a b) at_most test in
        let (parsed, whole_is) = later (replicate (records_in a b) (suc d) ++ others)
        (records ++ a ∷ b ∷ []) (shallow_more (records_in a b) d others low shallow)
        (ap (λ p. fold (after_byte start) p rest) (sym goes) ∙ e) in (
          record_parsed a b d others rest (below 0 0 (omega arith))
              (below 1 0 (omega arith)) low parsed,
          whole_is
              ∙ append_assoc records (a ∷ b ∷ []) rest,
        ))

-- what is parsed for the whole map, where something is to come
pub parsed_root : (bytes : List ℕ) → IsParsed (0 ∷ []) bytes → (r : Entries) × IsRecord 0 r
    × (bytes ≡ flat r)
unfolding IsParsed
parsed_root bytes (r, rest, is, text, none) =
    (r, is, text ∙ ap (λ t. flat r ++ t) none ∙ append-nil (flat r))

-- the bytes that an answer accepts
ok_bytes : Result (List ℕ) BtFault → List ℕ
ok_bytes (Ok bytes) = bytes
ok_bytes (Err fault) = []

is_accepted : Result (List ℕ) BtFault → Bool
is_accepted (Ok bytes) = true
is_accepted (Err fault) = false

-- where an answer accepts, no record is to come, and the size is the number of nodes
pub judged_ok : (start size total : ℕ) (p : Progress) (records : List ℕ) → judged start size total p
    ≡ Ok records
    → (half : Option ℕ) × (p ≡ Reads [] half records) × (size ≡ node_total records)
unfolding ok_bytes is_accepted
judged_ok start size total (Stopped fault) records e = absurd (false≢true (ap is_accepted e))
judged_ok start size total (Reads (d ∷ others) half whole) records e =
    absurd (false≢true (ap is_accepted e))
judged_ok start size total (Reads [] half whole) records e =
    by_test (nat_eq size (node_total whole)) refl e
  where
    by_test : (same : Bool) → nat_eq size (node_total whole) ≡ same
        → cond {A = Result (List ℕ) BtFault} same (Ok whole)
        (Err (SizeMismatch size (node_total whole))) ≡ Ok records
        → (h : Option ℕ) × (Reads [] half whole ≡ Reads [] h records) × (size ≡ node_total records)
    by_test true test e = (let is : whole ≡ records = ap ok_bytes e in
        (half, ap (Reads [] half) is, eqb-true size (node_total whole) test ∙ ap node_total is))
    by_test false test e = absurd (false≢true (ap is_accepted e))

-- a reading that accepts has accepted node data
pub accepts_only : (start size : ℕ) (bytes records : List ℕ) → All (λ b. b < 256) bytes
    → read_nodes start size bytes ≡ Ok records
    → (records ≡ bytes) × IsAccepted size bytes
unfolding read_nodes after_bytes IsParsed Shallow
accepts_only start zero bytes records below e =
    let (half, ends, total) = judged_ok start zero (length bytes)
    (fold (after_byte start) (Reads [] None []) bytes) records e in
    let (none, whole) = parsed_from bytes start [] [] records half below tt ends in
    (whole, inl (refl, none))
accepts_only start (suc size) bytes records below e =
    let (half, ends, total) = judged_ok start (suc size) (length bytes)
    (fold (after_byte start) (Reads (0 ∷ []) None []) bytes) records e in
    let (parsed, whole) =
    parsed_from bytes start (0 ∷ []) [] records half below (omega arith, tt) ends in
    let (r, is, text) = parsed_root bytes parsed in
    (whole, inr (r, is, text, total ∙ ap node_total (whole ∙ text) ∙ total_of_flat r 0 is))

-- accepted node data is accepted
pub accepts : (start size : ℕ) (bytes : List ℕ) → IsAccepted size bytes
    → read_nodes start size bytes ≡ Ok bytes
unfolding read_nodes after_bytes
accepts start size bytes (inl (none, empty)) = rw (none, empty) refl
accepts start zero bytes (inr (r, is, text, total)) = absurd (omega arith)
accepts start (suc size) bytes (inr (r, is, text, total)) =
    let walk : fold (after_byte start) (Reads (0 ∷ []) None []) bytes ≡ Reads [] None bytes =
    ap (fold (after_byte start) (Reads (0 ∷ []) None [])) text ∙ flat_walk r start 0 [] [] is
    ∙ ap (Reads [] None) (sym text) in
    let same : nat_eq (suc size) (node_total bytes) ≡ true =
    eq-eqb (suc size) (node_total bytes)
    (total ∙ sym (total_of_flat r 0 is) ∙ ap node_total (sym text)) in
    rw (walk, same) refl

pub accepted_exactly : (start size : ℕ) (bytes records : List ℕ) → All (λ b. b < 256) bytes
    → read_nodes start size bytes ≡ Ok records ↔ ((records ≡ bytes) × IsAccepted size bytes)
accepted_exactly start size bytes records below = (
  accepts_only start size bytes records below,
  λ (same, accepted). accepts start size bytes accepted ∙ ap Ok (sym same),
)
