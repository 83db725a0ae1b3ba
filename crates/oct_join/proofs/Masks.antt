-- Eight codes at once, by masks.
use Rattle.std.proofs.Common.{◌≡◌, ℕ, zero, suc, ◌+◌, ◌-◌, ◌*◌, ◌/◌, ◌%◌, ◌<◌, ◌≤◌, refl}
use Rattle.std.proofs.Common.{◌∙◌, ap, arith, bit_and, bit_or, []}
use Rattle.std.proofs.lemmas.Nat.{and_le_l, le_or_r, or_lt}
use Rattle.oct_odds.specs.declared.event.Class.{Class}
use Rattle.oct_odds.specs.declared.event.Class.TheVariants.{Unknown, Free, Occupied}
use Rattle.oct_merge.specs.declared.rule.Rule.{Rule}
use Rattle.oct_merge.specs.declared.rule.Rule.TheVariants.{Greatest, Least, First}
use Rattle.oct_bt.specs.Records.{Entries, End, Plain, Record, AreEntries, class_code}
use Rattle.oct_bt.specs.Records.{codes_of, bodies_of}
use Rattle.oct_bt.specs.Masks.{ones, threes}
use Rattle.oct_bt.proofs.CodeMasks.{and_four, or_four, three, threes_few, threes_next}
use Rattle.oct_bt.proofs.Texts.{class_code_below}
use Rattle.oct_join.specs.Joined.{joined, merged_codes}
use Rattle.oct_join.specs.Merged.{merged_class}

-- what a rule makes of two codes
abbrev pub merged_code : Rule → ℕ → ℕ → ℕ
merged_code Greatest x y = bit_or x y - three (bit_or x y)
merged_code Least x y = bit_or x y - 2 * three (bit_or x y)
merged_code First x y = bit_or x y - bit_and y (3 * three (bit_or x y))

-- (where o is the or of two codes, and p that of the others)
greatest_parts : (o p t s : ℕ) → t ≤ o → 2 * s ≤ p → o + 4 * p - (t + 4 * s) ≡ o - t + 4 * (p - s)
greatest_parts o p t s l k = omega (arith, l, k)

least_parts : (o p t s : ℕ) → 2 * t ≤ o → 2 * s ≤ p
    → o + 4 * p - 2 * (t + 4 * s) ≡ o - 2 * t + 4 * (p - 2 * s)
least_parts o p t s l k = omega (arith, l, k)

three_few : (x : ℕ) → x < 4 → 2 * three x ≤ x
three_few zero l = omega arith
three_few (suc zero) l = omega arith
three_few (suc (suc zero)) l = omega arith
three_few (suc (suc (suc zero))) l = omega arith
three_few (suc (suc (suc (suc x)))) l = absurd (omega (arith, l))

pub merged_next : (n : ℕ) (rule : Rule) (x y a b : ℕ) → x < 4 → y < 4
    → merged_codes (suc n) rule (x + 4 * a) (y + 4 * b)
    ≡ merged_code rule x y + 4 * merged_codes n rule a b
unfolding merged_codes
merged_next n Greatest x y a b lx ly =
    ap (λ (o : ℕ). o - threes (suc n) o) (or_four x y a b lx ly)
    ∙ ap (λ (t : ℕ). bit_or x y + 4 * bit_or a b - t)
    (threes_next n (bit_or x y) (bit_or a b) (or_lt 2 x y lx ly))
    ∙ greatest_parts (bit_or x y) (bit_or a b) (three (bit_or x y)) (threes n (bit_or a b))
    (let few = three_few (bit_or x y) (or_lt 2 x y lx ly) in omega (arith, few))
    (threes_few n (bit_or a b))
merged_next n Least x y a b lx ly =
    ap (λ (o : ℕ). o - 2 * threes (suc n) o) (or_four x y a b lx ly)
    ∙ ap (λ (t : ℕ). bit_or x y + 4 * bit_or a b - 2 * t)
    (threes_next n (bit_or x y) (bit_or a b) (or_lt 2 x y lx ly))
    ∙ least_parts (bit_or x y) (bit_or a b) (three (bit_or x y)) (threes n (bit_or a b))
    (three_few (bit_or x y) (or_lt 2 x y lx ly)) (threes_few n (bit_or a b))
merged_next n First x y a b lx ly =
    let t : ℕ = three (bit_or x y) in
    let s : ℕ = threes n (bit_or a b) in
    let small = or_lt 2 x y lx ly in
    let one = three_few (bit_or x y) small in
    let tripled : 3 * (t + 4 * s) ≡ 3 * t + 4 * (3 * s) = omega arith in
    let few = and_le_l y (3 * t) in
    let less = le_or_r x y in
    let others = and_le_l b (3 * s) in
    let more = le_or_r a b in
    ap (λ (o : ℕ). o - bit_and (y + 4 * b) (3 * threes (suc n) o)) (or_four x y a b lx ly)
    ∙ ap (λ (t : ℕ). bit_or x y + 4 * bit_or a b - bit_and (y + 4 * b) (3 * t))
    (threes_next n (bit_or x y) (bit_or a b) (or_lt 2 x y lx ly))
    ∙ ap (λ (t : ℕ). bit_or x y + 4 * bit_or a b - bit_and (y + 4 * b) t) tripled
    ∙ ap (λ (t : ℕ). bit_or x y + 4 * bit_or a b - t)
    (and_four y (3 * t) b (3 * s) ly (omega (arith, one, small)))
    ∙ omega (arith, few, less, others, more)

pub greatest_is : (a b both : ℕ) → both ≡ threes 8 (bit_or a b)
    → bit_or a b - both ≡ merged_codes 8 Greatest a b
unfolding merged_codes
greatest_is a b both is = ap (λ (t : ℕ). bit_or a b - t) is

pub least_is : (a b both : ℕ) → both ≡ threes 8 (bit_or a b)
    → bit_or a b - 2 * both ≡ merged_codes 8 Least a b
unfolding merged_codes
least_is a b both is = ap (λ (t : ℕ). bit_or a b - 2 * t) is

pub first_is : (a b both : ℕ) → both ≡ threes 8 (bit_or a b)
    → bit_or a b - bit_and b (3 * both) ≡ merged_codes 8 First a b
unfolding merged_codes
first_is a b both is = ap (λ (t : ℕ). bit_or a b - bit_and b (3 * t)) is

-- ---- the codes of entries

-- a code that is made of two classes is that of the class that the rule makes of them
pub classes_merged : (rule : Rule) (a b : Class)
    → merged_code rule (class_code a) (class_code b) ≡ class_code (merged_class rule a b)
classes_merged Greatest Unknown Unknown = refl
classes_merged Greatest Unknown Free = refl
classes_merged Greatest Unknown Occupied = refl
classes_merged Greatest Free Unknown = refl
classes_merged Greatest Free Free = refl
classes_merged Greatest Free Occupied = refl
classes_merged Greatest Occupied Unknown = refl
classes_merged Greatest Occupied Free = refl
classes_merged Greatest Occupied Occupied = refl
classes_merged Least Unknown Unknown = refl
classes_merged Least Unknown Free = refl
classes_merged Least Unknown Occupied = refl
classes_merged Least Free Unknown = refl
classes_merged Least Free Free = refl
classes_merged Least Free Occupied = refl
classes_merged Least Occupied Unknown = refl
classes_merged Least Occupied Free = refl
classes_merged Least Occupied Occupied = refl
classes_merged First Unknown Unknown = refl
classes_merged First Unknown Free = refl
classes_merged First Unknown Occupied = refl
classes_merged First Free Unknown = refl
classes_merged First Free Free = refl
classes_merged First Free Occupied = refl
classes_merged First Occupied Unknown = refl
classes_merged First Occupied Free = refl
classes_merged First Occupied Occupied = refl

-- leaves alone have no text
pub leaves_text : (es : Entries) (d n : ℕ) → AreEntries d n es → threes n (codes_of es) ≡ 0
    → bodies_of es ≡ []
unfolding codes_of bodies_of
leaves_text End d n are none = refl
leaves_text (Plain c es) d zero are none = absurd are
leaves_text (Plain c es) d (suc n) are none =
    let small = class_code_below c in
    let next : threes (suc n) (class_code c + 4 * codes_of es)
    ≡ three (class_code c) + 4 * threes n (codes_of es) =
    threes_next n (class_code c) (codes_of es) (omega (arith, small)) in
    leaves_text es d n are (omega (arith, next, none))
leaves_text (Record r es) d zero are none = absurd are
leaves_text (Record r es) d (suc n) are none =
    (let next : threes (suc n) (3 + 4 * codes_of es) ≡ 1 + 4 * threes n (codes_of es) =
    threes_next n 3 (codes_of es) (omega arith) in
    absurd (omega (arith, next, none)))

none_merged : (rule : Rule) → merged_codes 0 rule 0 0 ≡ 0
unfolding merged_codes threes ones
none_merged Greatest = refl
none_merged Least = refl
none_merged First = refl

-- and are joined by their codes
pub leaves_merged : (rule : Rule) (es fs : Entries) (d n : ℕ) → AreEntries d n es
    → AreEntries d n fs → threes n (codes_of es) ≡ 0 → threes n (codes_of fs) ≡ 0
    → merged_codes n rule (codes_of es) (codes_of fs)
    ≡ codes_of (joined (merged_class rule) es fs)
unfolding joined codes_of
leaves_merged rule End End d zero he hf none none' = none_merged rule
leaves_merged rule End (Plain y fs) d zero he hf none none' = absurd hf
leaves_merged rule End (Record s fs) d zero he hf none none' = absurd hf
leaves_merged rule End fs d (suc n) he hf none none' = absurd he
leaves_merged rule (Plain x es) fs d zero he hf none none' = absurd he
leaves_merged rule (Plain x es) End d (suc n) he hf none none' = absurd hf
leaves_merged rule (Plain x es) (Plain y fs) d (suc n) he hf none none' =
    let small = class_code_below x in
    let low = class_code_below y in
    let next = threes_next n (class_code x) (codes_of es) (omega (arith, small)) in
    let next' = threes_next n (class_code y) (codes_of fs) (omega (arith, low)) in
    merged_next n rule (class_code x) (class_code y) (codes_of es) (codes_of fs)
    (omega (arith, small)) (omega (arith, low))
    ∙ ap (λ (m : ℕ). merged_code rule (class_code x) (class_code y) + 4 * m)
    (leaves_merged rule es fs d n he hf (omega (arith, next, none)) (omega (arith, next', none')))
    ∙ ap (λ (m : ℕ). m + 4 * codes_of (joined (merged_class rule) es fs)) (classes_merged rule x y)
leaves_merged rule (Plain x es) (Record s fs) d (suc n) he hf none none' =
    (let next : threes (suc n) (3 + 4 * codes_of fs) ≡ 1 + 4 * threes n (codes_of fs) =
    threes_next n 3 (codes_of fs) (omega arith) in
    absurd (omega (arith, next, none')))
leaves_merged rule (Record r es) fs d n he hf none none' = absurd (no_record r es d n he none)
  where
    no_record : (r es : Entries) (d n : ℕ) → AreEntries d n (Record r es)
        → threes n (codes_of (Record r es)) ≡ 0 → ⊥
    no_record r es d zero are none = are
    no_record r es d (suc n) are none =
        (let next : threes (suc n) (3 + 4 * codes_of es) ≡ 1 + 4 * threes n (codes_of es) =
        threes_next n 3 (codes_of es) (omega arith) in
        omega (arith, next, none))

-- and have nothing but codes
pub leaves_bare : (with : Class → Class → Class) (es fs : Entries) (d n : ℕ) → AreEntries d n es
    → AreEntries d n fs → threes n (codes_of es) ≡ 0 → threes n (codes_of fs) ≡ 0
    → bodies_of (joined with es fs) ≡ []
unfolding joined codes_of bodies_of
leaves_bare with End fs d n he hf none none' = refl
leaves_bare with (Plain x es) End d n he hf none none' = refl
leaves_bare with (Plain x es) (Plain y fs) d zero he hf none none' = absurd he
leaves_bare with (Plain x es) (Plain y fs) d (suc n) he hf none none' =
    let small = class_code_below x in
    let low = class_code_below y in
    let next = threes_next n (class_code x) (codes_of es) (omega (arith, small)) in
    let next' = threes_next n (class_code y) (codes_of fs) (omega (arith, low)) in
    leaves_bare with es fs d n he hf (omega (arith, next, none)) (omega (arith, next', none'))
leaves_bare with (Plain x es) (Record s fs) d zero he hf none none' = absurd hf
leaves_bare with (Plain x es) (Record s fs) d (suc n) he hf none none' =
    (let next : threes (suc n) (3 + 4 * codes_of fs) ≡ 1 + 4 * threes n (codes_of fs) =
    threes_next n 3 (codes_of fs) (omega arith) in
    absurd (omega (arith, next, none')))
leaves_bare with (Record r es) fs d zero he hf none none' = absurd he
leaves_bare with (Record r es) fs d (suc n) he hf none none' =
    (let next : threes (suc n) (3 + 4 * codes_of es) ≡ 1 + 4 * threes n (codes_of es) =
    threes_next n 3 (codes_of es) (omega arith) in
    absurd (omega (arith, next, none)))

-- ---- the codes that are left, one after another

-- the codes of all that is left of both sides are made at once
pub record AreMerged (rule : Rule) (left other plain i : ℕ) : Type 0 where
  pub n : ℕ
  pub count : i + n ≡ 8
  pub codes : plain ≡ merged_codes n rule left other

pub merged_first : (rule : Rule) (left other plain : ℕ) → plain ≡ merged_codes 8 rule left other
    → AreMerged rule left other plain 0
merged_first rule left other plain is = record { n = 8; count = refl; codes = is }

code_few : (rule : Rule) (x y : ℕ) → x < 4 → y < 4 → merged_code rule x y < 4
code_few Greatest x y lx ly = (let few = or_lt 2 x y lx ly in omega (arith, few))
code_few Least x y lx ly = (let few = or_lt 2 x y lx ly in omega (arith, few))
code_few First x y lx ly = (let few = or_lt 2 x y lx ly in omega (arith, few))

-- the next code, and those after it
merged_parts : (n : ℕ) (rule : Rule) (left other plain : ℕ)
    → plain ≡ merged_codes (suc n) rule left other
    → (plain % 4 ≡ merged_code rule (left % 4) (other % 4))
    × (plain / 4 ≡ merged_codes n rule (left / 4) (other / 4))
merged_parts n rule left other plain is =
    let lx : left % 4 < 4 = omega arith in
    let ly : other % 4 < 4 = omega arith in
    let one : left ≡ left % 4 + 4 * (left / 4) = omega arith in
    let two : other ≡ other % 4 + 4 * (other / 4) = omega arith in
    let few = code_few rule (left % 4) (other % 4) lx ly in
    let parts : plain ≡ merged_code rule (left % 4) (other % 4)
    + 4 * merged_codes n rule (left / 4) (other / 4) =
    is ∙ ap (λ (m : ℕ). merged_codes (suc n) rule m other) one
    ∙ ap (λ (m : ℕ). merged_codes (suc n) rule (left % 4 + 4 * (left / 4)) m) two
    ∙ merged_next n rule (left % 4) (other % 4) (left / 4) (other / 4) lx ly in
    (omega (arith, parts, few), omega (arith, parts, few))

pub merged_step : (rule : Rule) (left other plain i : ℕ) → i < 8
    → AreMerged rule left other plain i
    → AreMerged rule (left / 4) (other / 4) (plain / 4) (i + 1)
merged_step rule left other plain i l j = by_count j.n j.count j.codes
  where
    by_count : (n : ℕ) → i + n ≡ 8 → plain ≡ merged_codes n rule left other
        → AreMerged rule (left / 4) (other / 4) (plain / 4) (i + 1)
    by_count zero count is = absurd (omega (arith, count, l))
    by_count (suc n) count is = record {
      n = n;
      count = omega (arith, count);
      codes = (merged_parts n rule left other plain is).1;
    }

pub merged_here : (rule : Rule) (left other plain i : ℕ) → i < 8
    → AreMerged rule left other plain i → (x y : Class) → left % 4 ≡ class_code x
    → other % 4 ≡ class_code y → plain % 4 ≡ class_code (merged_class rule x y)
merged_here rule left other plain i l j x y at_x at_y = by_count j.n j.count j.codes
  where
    by_count : (n : ℕ) → i + n ≡ 8 → plain ≡ merged_codes n rule left other
        → plain % 4 ≡ class_code (merged_class rule x y)
    by_count zero count is = absurd (omega (arith, count, l))
    by_count (suc n) count is =
        (merged_parts n rule left other plain is).0
        ∙ ap (λ (m : ℕ). merged_code rule m (other % 4)) at_x
        ∙ ap (merged_code rule (class_code x)) at_y ∙ classes_merged rule x y
