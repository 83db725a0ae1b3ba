-- The text of a record tells the record.
use Rattle.std.proofs.Common.{◌≡◌, ℕ, zero, suc, ◌/◌, ◌%◌, ◌<◌, List, [], ◌∷◌, ◌++◌, refl, sym, ◌∙◌}
use Rattle.std.proofs.Common.{ap, arith, append_assoc}
use Rattle.oct_odds.specs.declared.event.Class.{Class}
use Rattle.oct_odds.specs.declared.event.Class.TheVariants.{Unknown, Free, Occupied}
use Rattle.oct_bt.specs.Records.{Entries, End, Plain, Record, AreEntries, IsRecord, class_code}
use Rattle.oct_bt.specs.Records.{codes_of, code_bytes, bodies_of, flat}

-- the code of a class is 0, 1 or 2
pub class_code_below : (c : Class) → class_code c < 3
class_code_below Unknown = omega arith
class_code_below Free = omega arith
class_code_below Occupied = omega arith

-- and tells the class
pub class_of_code : (c e : Class) → class_code c ≡ class_code e → c ≡ e
class_of_code Unknown Unknown h = refl
class_of_code Unknown Free h = absurd (omega arith)
class_of_code Unknown Occupied h = absurd (omega arith)
class_of_code Free Unknown h = absurd (omega arith)
class_of_code Free Free h = refl
class_of_code Free Occupied h = absurd (omega arith)
class_of_code Occupied Unknown h = absurd (omega arith)
class_of_code Occupied Free h = absurd (omega arith)
class_of_code Occupied Occupied h = refl

-- the first element of a list, and the others
head_of : List ℕ → ℕ
head_of [] = 0
head_of (x ∷ xs) = x

tail_of : List ℕ → List ℕ
tail_of [] = []
tail_of (x ∷ xs) = xs

same_head : (x y : ℕ) (xs ys : List ℕ) → x ∷ xs ≡ y ∷ ys → x ≡ y
unfolding head_of
same_head x y xs ys e = ap head_of e

same_tail : (x y : ℕ) (xs ys : List ℕ) → x ∷ xs ≡ y ∷ ys → xs ≡ ys
unfolding tail_of
same_tail x y xs ys e = ap tail_of e

-- two bytes tell their codes, and what stands after them
pub same_codes : (c e : ℕ) (xs ys : List ℕ) → code_bytes c ++ xs ≡ code_bytes e ++ ys
    → (c ≡ e) × (xs ≡ ys)
same_codes c e xs ys h =
    let low : c % 256 ≡ e % 256 = same_head (c % 256) (e % 256) (c / 256 ∷ xs) (e / 256 ∷ ys) h in
    let rest : c / 256 ∷ xs ≡ e / 256 ∷ ys = same_tail (c % 256) (e % 256) (c / 256 ∷ xs)
    (e / 256 ∷ ys) h in
    let high : c / 256 ≡ e / 256 = same_head (c / 256) (e / 256) xs ys rest in
    (omega arith, same_tail (c / 256) (e / 256) xs ys rest)

-- what stands after the text of the first record among entries
pub behind_record : (r later : Entries) (rest : List ℕ)
    → bodies_of (Record r later) ++ rest
    ≡ code_bytes (codes_of r) ++ (bodies_of r ++ (bodies_of later ++ rest))
unfolding bodies_of
behind_record r later rest =
    append_assoc (flat r) (bodies_of later) rest ∙ append_assoc (code_bytes (codes_of r))
    (bodies_of r) (bodies_of later ++ rest)

-- entries of one number, of the same codes and with the same text in front of something, are the
-- same, and so is what stands after them
pub same_entries : (es fs : Entries) (d n : ℕ) (rest more : List ℕ) → AreEntries d n es
    → AreEntries d n fs → codes_of es ≡ codes_of fs
    → bodies_of es ++ rest ≡ bodies_of fs ++ more → (es ≡ fs) × (rest ≡ more)
unfolding codes_of bodies_of
same_entries End End d zero rest more he hf codes bodies = (refl, bodies)
same_entries End (Plain c fs) d zero rest more he hf codes bodies = absurd hf
same_entries End (Record q fs) d zero rest more he hf codes bodies = absurd hf
same_entries End fs d (suc n) rest more he hf codes bodies = absurd he
same_entries (Plain c es) fs d zero rest more he hf codes bodies = absurd he
same_entries (Plain c es) End d (suc n) rest more he hf codes bodies = absurd hf
same_entries (Plain c es) (Plain e fs) d (suc n) rest more he hf codes bodies =
    let c_below : class_code c < 3 = class_code_below c in
    let e_below : class_code e < 3 = class_code_below e in
    let (later, left) =
    same_entries es fs d n rest more he hf (omega (arith, codes, c_below, e_below)) bodies in
    let class : c ≡ e = class_of_code c e (omega (arith, codes, c_below, e_below)) in
    (rw (class, later) refl, left)
same_entries (Plain c es) (Record q fs) d (suc n) rest more he hf codes bodies =
    let c_below : class_code c < 3 = class_code_below c in
    absurd (omega (arith, codes, c_below))
same_entries (Record r es) fs d zero rest more he hf codes bodies = absurd he
same_entries (Record r es) End d (suc n) rest more he hf codes bodies = absurd hf
same_entries (Record r es) (Plain e fs) d (suc n) rest more he hf codes bodies =
    let e_below : class_code e < 3 = class_code_below e in
    absurd (omega (arith, codes, e_below))
same_entries (Record r es) (Record q fs) d (suc n) rest more (low, hr, he)
    (low', hq, hf) codes bodies =
    let texts = sym (behind_record r es rest) ∙ bodies ∙ behind_record q fs more in
    let (inner_codes, inner) = same_codes (codes_of r) (codes_of q)
    (bodies_of r ++ (bodies_of es ++ rest)) (bodies_of q ++ (bodies_of fs ++ more)) texts in
    let (inside, others) = same_entries r q (suc d) 8 (bodies_of es ++ rest)
    (bodies_of fs ++ more) hr hq inner_codes inner in
    let (later, left) = same_entries es fs d n rest more he hf (omega (arith, codes)) others in
    (rw (inside, later) refl, left)

-- a record is told by any text that begins with its own, and so is what stands after it
pub same_record : (r q : Entries) (d : ℕ) (rest more : List ℕ) → IsRecord d r → IsRecord d q
    → flat r ++ rest ≡ flat q ++ more
    → (r ≡ q) × (rest ≡ more)
same_record r q d rest more hr hq h =
    let texts = sym (append_assoc (code_bytes (codes_of r)) (bodies_of r) rest) ∙ h
    ∙ append_assoc (code_bytes (codes_of q)) (bodies_of q) more in
    let (codes, bodies) = same_codes (codes_of r) (codes_of q) (bodies_of r ++ rest)
    (bodies_of q ++ more) texts in
    same_entries r q d 8 rest more hr hq codes bodies
