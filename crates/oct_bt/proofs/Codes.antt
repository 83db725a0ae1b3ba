-- Codes in bytes, one after another.
use Rattle.std.proofs.Common.{◌≡◌, ℕ, zero, suc, ◌+◌, ◌*◌, ◌/◌, ◌%◌, ◌<◌, cond, List, [], ◌∷◌, ◌++◌}
use Rattle.std.proofs.Common.{refl, ◌∙◌, ap, arith, append-nil}
use Rattle.std.specs.Prelude.{nat_eq, not, count_by}
use Rattle.std.specs.List.{flat_map}
use Rattle.std.proofs.lemmas.List.Sums.{sum_by-cons, sum_by-append}
use Rattle.std.proofs.lemmas.List.Concat.{flat_map-append}
use Rattle.oct_odds.specs.declared.event.Class.{Class}
use Rattle.oct_odds.specs.declared.event.Class.TheVariants.{Unknown, Free, Occupied}
use Rattle.oct_bt.specs.Records.{Entries, End, Plain, Record, AreEntries, IsRecord, class_code}
use Rattle.oct_bt.specs.Records.{codes_of, code_bytes, bodies_of, flat, known_entries}
use Rattle.oct_bt.specs.Canonical.{codes_in, known_codes, node_total}
use Rattle.oct_bt.specs.NodeData.{records_in}
use Rattle.oct_bt.proofs.Texts.{class_code_below}

-- the lowest codes of a number, two bits for each
unfoldable pub digits : ℕ → ℕ → List ℕ
digits zero c = []
digits (suc n) c = c % 4 ∷ digits n (c / 4)

-- the codes of entries, one by one
unfoldable pub code_list : Entries → List ℕ
code_list End = []
code_list (Plain c later) = class_code c ∷ code_list later
code_list (Record r later) = 3 ∷ code_list later

-- sixteen bits are eight codes
pub digits_in_bytes : (c : ℕ) → codes_in (c % 256) ++ codes_in (c / 256) ≡ digits 8 c
unfolding digits
digits_in_bytes c =
    let c1 : c % 256 % 4 ≡ c % 4 = omega arith in
    let c2 : c % 256 / 4 % 4 ≡ c / 4 % 4 = omega arith in
    let c3 : c % 256 / 16 % 4 ≡ c / 4 / 4 % 4 = omega arith in
    let c4 : c % 256 / 64 % 4 ≡ c / 4 / 4 / 4 % 4 = omega arith in
    let c5 : c / 256 % 4 ≡ c / 4 / 4 / 4 / 4 % 4 = omega arith in
    let c6 : c / 256 / 4 % 4 ≡ c / 4 / 4 / 4 / 4 / 4 % 4 = omega arith in
    let c7 : c / 256 / 16 % 4 ≡ c / 4 / 4 / 4 / 4 / 4 / 4 % 4 = omega arith in
    let c8 : c / 256 / 64 % 4 ≡ c / 4 / 4 / 4 / 4 / 4 / 4 / 4 % 4 = omega arith in
    rw (c1, c2, c3, c4, c5, c6, c7, c8) refl

-- the codes of entries are those of their number
pub digits_of_codes : (es : Entries) (d n : ℕ) → AreEntries d n es → digits n (codes_of es)
    ≡ code_list es
unfolding digits code_list codes_of
digits_of_codes End d zero h = refl
digits_of_codes End d (suc n) h = absurd h
digits_of_codes (Plain c es) d zero h = absurd h
digits_of_codes (Plain c es) d (suc n) h =
    let below : class_code c < 3 = class_code_below c in
    let first : (class_code c + 4 * codes_of es) % 4 ≡ class_code c = omega (arith, below) in
    let rest : (class_code c + 4 * codes_of es) / 4 ≡ codes_of es = omega (arith, below) in
    rw (first, rest, digits_of_codes es d n h) refl
digits_of_codes (Record r es) d zero h = absurd h
digits_of_codes (Record r es) d (suc n) (low, inner, h) =
    let first : (3 + 4 * codes_of es) % 4 ≡ 3 = omega arith in
    let rest : (3 + 4 * codes_of es) / 4 ≡ codes_of es = omega arith in
    rw (first, rest, digits_of_codes es d n h) refl

-- the codes of a record, in its two bytes
pub codes_of_record : (r : Entries) (d : ℕ) → IsRecord d r
    → codes_in (codes_of r % 256) ++ codes_in (codes_of r / 256) ≡ code_list r
codes_of_record r d h = digits_in_bytes (codes_of r) ∙ digits_of_codes r d 8 h

-- how many of the entries are records
unfoldable pub records_among : Entries → ℕ
records_among End = 0
records_among (Plain c later) = records_among later
records_among (Record r later) = suc (records_among later)

records_listed : (es : Entries) → count_by (λ code. nat_eq code 3) (code_list es) ≡ records_among es
unfolding code_list records_among
records_listed End = refl
records_listed (Plain c es) = sum_by-cons (λ code. cond {A = ℕ} (nat_eq code 3) 1 0) (class_code c)
    (code_list es) ∙ by_class c (records_listed es)
  where
    by_class : (c : Class) → count_by (λ code. nat_eq code 3) (code_list es) ≡ records_among es
        → cond {A = ℕ} (nat_eq (class_code c) 3) 1 0 + count_by (λ code. nat_eq code 3)
        (code_list es) ≡ records_among es
    by_class Unknown h = omega arith
    by_class Free h = omega arith
    by_class Occupied h = omega arith
records_listed (Record r es) =
    let rest : count_by (λ code. nat_eq code 3) (code_list es) ≡ records_among es =
    records_listed es in
    sum_by-cons (λ code. cond {A = ℕ} (nat_eq code 3) 1 0) 3 (code_list es) ∙ omega arith

-- the two bytes of a record say how many of its entries are records
pub records_in_record : (r : Entries) (d : ℕ) → IsRecord d r → records_in (codes_of r % 256)
    (codes_of r / 256) ≡ records_among r
records_in_record r d h = ap (count_by (λ code. nat_eq code 3)) (codes_of_record r d h)
    ∙ records_listed r

-- how many of the entries themselves aren't unknown
unfoldable pub known_among : Entries → ℕ
known_among End = 0
known_among (Plain Unknown later) = known_among later
known_among (Plain Free later) = suc (known_among later)
known_among (Plain Occupied later) = suc (known_among later)
known_among (Record r later) = suc (known_among later)

known_listed : (es : Entries) → count_by (λ code. not (nat_eq code 0)) (code_list es)
    ≡ known_among es
unfolding code_list known_among
known_listed End = refl
known_listed (Plain Unknown es) =
    (let rest = known_listed es in
    sum_by-cons (λ code. cond {A = ℕ} (not (nat_eq code 0)) 1 0) 0 (code_list es) ∙ omega arith)
known_listed (Plain Free es) =
    (let rest = known_listed es in
    sum_by-cons (λ code. cond {A = ℕ} (not (nat_eq code 0)) 1 0) 1 (code_list es) ∙ omega arith)
known_listed (Plain Occupied es) =
    (let rest = known_listed es in
    sum_by-cons (λ code. cond {A = ℕ} (not (nat_eq code 0)) 1 0) 2 (code_list es) ∙ omega arith)
known_listed (Record r es) =
    (let rest = known_listed es in
    sum_by-cons (λ code. cond {A = ℕ} (not (nat_eq code 0)) 1 0) 3 (code_list es) ∙ omega arith)

-- known codes of joined bytes
pub known_joined : (xs ys : List ℕ) → known_codes (xs ++ ys) ≡ known_codes xs + known_codes ys
known_joined xs ys = ap (count_by (λ code. not (nat_eq code 0))) (flat_map-append codes_in xs ys)
    ∙ sum_by-append (λ code. cond {A = ℕ} (not (nat_eq code 0)) 1 0) (flat_map codes_in xs)
    (flat_map codes_in ys)

-- of the two bytes of a record
known_in_bytes : (r : Entries) (d : ℕ) → IsRecord d r → known_codes (code_bytes (codes_of r))
    ≡ known_among r
known_in_bytes r d h =
    let two : flat_map codes_in (code_bytes (codes_of r))
    ≡ codes_in (codes_of r % 256) ++ codes_in (codes_of r / 256) =
    ap (λ t. codes_in (codes_of r % 256) ++ t) (append-nil (codes_in (codes_of r / 256))) in
    ap (count_by (λ code. not (nat_eq code 0))) (two ∙ codes_of_record r d h) ∙ known_listed r

-- the text of the records among entries has a code that isn't 0 for each entry in them that isn't
-- unknown
known_in_bodies : (es : Entries) (d n : ℕ) → AreEntries d n es
    → known_among es + known_codes (bodies_of es) ≡ known_entries es
unfolding known_among bodies_of known_entries
known_in_bodies End d n h = refl
known_in_bodies (Plain c es) d zero h = absurd h
known_in_bodies (Plain Unknown es) d (suc n) h = known_in_bodies es d n h
known_in_bodies (Plain Free es) d (suc n) h = (let rest = known_in_bodies es d n h in omega arith)
known_in_bodies (Plain Occupied es) d (suc n) h =
    (let rest = known_in_bodies es d n h in omega arith)
known_in_bodies (Record r es) d zero h = absurd h
known_in_bodies (Record r es) d (suc n) (low, inner, h) =
    let rest = known_in_bodies es d n h in
    let inside = known_in_bodies r (suc d) 8 inner in
    let bytes = known_in_bytes r (suc d) inner in
    let all = known_joined (flat r) (bodies_of es) in
    let record_text = known_joined (code_bytes (codes_of r)) (bodies_of r) in
    omega (arith, rest, inside, bytes, all, record_text)

-- the text of a record has a code that isn't 0 for each of its entries that isn't unknown
pub known_in_flat : (r : Entries) (d : ℕ) → IsRecord d r → known_codes (flat r) ≡ known_entries r
known_in_flat r d h =
    let all = known_joined (code_bytes (codes_of r)) (bodies_of r) in
    let bytes = known_in_bytes r d h in
    let inside = known_in_bodies r d 8 h in
    omega (arith, all, bytes, inside)

pub total_of_flat : (r : Entries) (d : ℕ) → IsRecord d r → node_total (flat r) ≡ 1 + known_entries r
total_of_flat r d h =
    (let known : known_codes (flat r) ≡ known_entries r = known_in_flat r d h in
    ap (λ (n : ℕ). 1 + n) known)
