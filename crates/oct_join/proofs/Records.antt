-- What two joined records are: a record, that gives each voxel the class made of its two.
use Rattle.std.proofs.Common.{◌≡◌, ℕ, zero, suc, ◌*◌, ◌<◌, Bool, true, false, Option, Some}
use Rattle.std.proofs.Common.{None, [], refl, sym, ◌∙◌, ap, arith, eqb-true}
use Rattle.std.proofs.Common.{inl, inr}
use Rattle.std.specs.Prelude.{nat_eq, if◌then◌else◌}
use Rattle.std.proofs.lemmas.Bool.Decides.{eqb_tells}
use Rattle.oct_key.specs.Voxel.{Voxel}
use Rattle.oct_key.specs.Block.{child_index_of}
use Rattle.oct_key.proofs.Blocks.{child_index_below}
use Rattle.oct_odds.specs.declared.event.Class.{Class}
use Rattle.oct_odds.specs.declared.event.Class.TheVariants.{Unknown, Free, Occupied}
use Rattle.oct_bt.specs.Records.{Entries, End, Plain, Record, AreEntries, IsRecord, class_code}
use Rattle.oct_bt.specs.Records.{codes_of, bodies_of, class_in, class_by}
use Rattle.oct_bt.proofs.Texts.{class_code_below, class_of_code}
use Rattle.oct_bt.proofs.Uniform.{repeated}
use Rattle.oct_join.specs.Joined.{one_class, child_before, closed, recoded, joined, alike}

-- ---- leaves of one class

some_same : (x y : Class) → Some x ≡ Some y → x ≡ y
some_same x y e = cc

-- codes that are of one class are eight times its own
pub one_class_codes : (codes : ℕ) (x : Class) → one_class codes ≡ Some x
    → codes ≡ repeated (class_code x) 8
unfolding one_class repeated
one_class_codes codes x is =
    by_tests (nat_eq codes 0) (nat_eq codes 21845) (nat_eq codes 43690) refl refl refl is
  where
    code : (c : Class) → Some c ≡ Some x → repeated (class_code c) 8 ≡ repeated (class_code x) 8
    code c e = ap (λ c. repeated (class_code c) 8) (some_same c x e)

    by_tests : (p q r : Bool) → nat_eq codes 0 ≡ p → nat_eq codes 21845 ≡ q
        → nat_eq codes 43690 ≡ r
        → (if p then Some Unknown else if q then Some Free else if r then Some Occupied else None)
        ≡ Some x → codes ≡ repeated (class_code x) 8
    by_tests true q r is_p is_q is_r is = eqb-true codes 0 is_p ∙ code Unknown is
    by_tests false true r is_p is_q is_r is = eqb-true codes 21845 is_q ∙ code Free is
    by_tests false false true is_p is_q is_r is = eqb-true codes 43690 is_r ∙ code Occupied is
    by_tests false false false is_p is_q is_r is = absurd (cc)

pub unknown_is : (codes : ℕ) → codes ≡ 0 → Some Unknown ≡ one_class codes
unfolding one_class
unknown_is codes is = sym (ap one_class is)

pub free_is : (codes : ℕ) → codes ≡ 21845 → Some Free ≡ one_class codes
unfolding one_class
free_is codes is = sym (ap one_class is)

pub occupied_is : (codes : ℕ) → codes ≡ 43690 → Some Occupied ≡ one_class codes
unfolding one_class
occupied_is codes is = sym (ap one_class is)

unequal : (n m : ℕ) → (n ≡ m → ⊥) → nat_eq n m ≡ false
unequal n m other = elim (eqb_tells n m) [ inl (e, at) ↦ absurd (other at) | inr (e, ne) ↦ e ]

pub none_is : (codes : ℕ) → (codes ≡ 0 → ⊥) → (codes ≡ 21845 → ⊥) → (codes ≡ 43690 → ⊥)
    → None ≡ one_class codes
unfolding one_class
none_is codes some free occupied =
    rw (unequal codes 0 some, unequal codes 21845 free, unequal codes 43690 occupied) refl

-- eight leaves of a class
pub alike_one : (x : Class) → one_class (codes_of (alike x 8)) ≡ Some x
unfolding one_class codes_of alike
alike_one Unknown = refl
alike_one Free = refl
alike_one Occupied = refl

pub alike_codes : (x : Class) → codes_of (alike x 8) ≡ class_code x * 21845
unfolding codes_of alike
alike_codes Unknown = refl
alike_codes Free = refl
alike_codes Occupied = refl

pub alike_are : (x : Class) (d n : ℕ) → AreEntries d n (alike x n)
unfolding alike
alike_are x d zero = tt
alike_are x d (suc n) = alike_are x d n

pub alike_bodies : (x : Class) (n : ℕ) → bodies_of (alike x n) ≡ []
unfolding alike bodies_of
alike_bodies x zero = refl
alike_bodies x (suc n) = alike_bodies x n

pub alike_class : (x : Class) (d n i : ℕ) (k : Voxel) → i < n → class_in d (alike x n) i k ≡ x
unfolding alike class_in
alike_class x d zero i k l = absurd (omega arith)
alike_class x d (suc n) zero k l = refl
alike_class x d (suc n) (suc i) k l = alike_class x d n i k (omega arith)

-- entries whose codes are those of one class are leaves of it: they have no text
pub leaves_bodies : (es : Entries) (x : Class) (d n : ℕ) → AreEntries d n es
    → codes_of es ≡ repeated (class_code x) n → bodies_of es ≡ []
unfolding codes_of bodies_of repeated
leaves_bodies End x d n are codes = refl
leaves_bodies (Plain c es) x d zero are codes = absurd are
leaves_bodies (Plain c es) x d (suc n) are codes =
    let small = class_code_below c in
    let few = class_code_below x in
    leaves_bodies es x d n are (omega (arith, small, few, codes))
leaves_bodies (Record r es) x d zero are codes = absurd are
leaves_bodies (Record r es) x d (suc n) are codes =
    (let few = class_code_below x in absurd (omega (arith, few, codes)))

-- and give all their voxels that class
pub leaves_class : (es : Entries) (x : Class) (d n i : ℕ) (k : Voxel) → AreEntries d n es
    → codes_of es ≡ repeated (class_code x) n → i < n → class_in d es i k ≡ x
unfolding codes_of class_in repeated
leaves_class End x d zero i k are codes l = absurd (omega arith)
leaves_class End x d (suc n) i k are codes l = absurd are
leaves_class (Plain c es) x d zero i k are codes l = absurd are
leaves_class (Plain c es) x d (suc n) zero k are codes l =
    let small = class_code_below c in
    let few = class_code_below x in
    class_of_code c x (omega (arith, small, few, codes))
leaves_class (Plain c es) x d (suc n) (suc i) k are codes l =
    let small = class_code_below c in
    let few = class_code_below x in
    leaves_class es x d n i k are (omega (arith, small, few, codes)) (omega arith)
leaves_class (Record r es) x d zero i k are codes l = absurd are
leaves_class (Record r es) x d (suc n) i k are codes l =
    (let few = class_code_below x in absurd (omega (arith, few, codes)))

-- ---- what is joined are entries

closed_are : (q later : Entries) (d n : ℕ) → d < 15 → IsRecord (suc d) q → AreEntries d n later
    → AreEntries d (suc n) (closed q later)
closed_are q later d n low is are = by_class (one_class (codes_of q))
  where
    by_class : (o : Option Class) → AreEntries d (suc n) (child_before o q later)
    by_class (Some c) = are
    by_class None = (low, is, are)

pub recoded_are : (to : Class → Class) (es : Entries) (d n : ℕ) → AreEntries d n es
    → AreEntries d n (recoded to es)
unfolding recoded
recoded_are to End d zero are = tt
recoded_are to End d (suc n) are = absurd are
recoded_are to (Plain c es) d zero are = absurd are
recoded_are to (Plain c es) d (suc n) are = recoded_are to es d n are
recoded_are to (Record r es) d zero are = absurd are
recoded_are to (Record r es) d (suc n) (low, inner, are) =
    closed_are (recoded to r) (recoded to es) d n low (recoded_are to r (suc d) 8 inner)
    (recoded_are to es d n are)

pub joined_are : (with : Class → Class → Class) (es fs : Entries) (d n : ℕ) → AreEntries d n es
    → AreEntries d n fs → AreEntries d n (joined with es fs)
unfolding joined
joined_are with End fs d zero he hf = tt
joined_are with End fs d (suc n) he hf = absurd he
joined_are with (Plain a es) fs d zero he hf = absurd he
joined_are with (Plain a es) End d (suc n) he hf = absurd hf
joined_are with (Plain a es) (Plain b fs) d (suc n) he hf = joined_are with es fs d n he hf
joined_are with (Plain a es) (Record s fs) d (suc n) he (low, inner, hf) =
    closed_are (recoded (with a) s) (joined with es fs) d n low
    (recoded_are (with a) s (suc d) 8 inner) (joined_are with es fs d n he hf)
joined_are with (Record r es) fs d zero he hf = absurd he
joined_are with (Record r es) End d (suc n) he hf = absurd hf
joined_are with (Record r es) (Plain b fs) d (suc n) (low, inner, he) hf =
    closed_are (recoded (λ a. with a b) r) (joined with es fs) d n low
    (recoded_are (λ a. with a b) r (suc d) 8 inner) (joined_are with es fs d n he hf)
joined_are with (Record r es) (Record s fs) d (suc n) (low, inner, he) (low', inner', hf) =
    closed_are (joined with r s) (joined with es fs) d n low
    (joined_are with r s (suc d) 8 inner inner') (joined_are with es fs d n he hf)

-- ---- and give each voxel the class made of its two

closed_first : (q later : Entries) (d : ℕ) (k : Voxel) (x : Class) → IsRecord (suc d) q
    → class_by (suc d) q k ≡ x → class_in d (closed q later) 0 k ≡ x
unfolding class_in
closed_first q later d k x is gives = by_class (one_class (codes_of q)) refl
  where
    by_class : (o : Option Class) → one_class (codes_of q) ≡ o
        → class_in d (child_before o q later) 0 k ≡ x
    by_class (Some c) one =
        sym (leaves_class q c (suc d) 8 (child_index_of (suc d) k) k is
        (one_class_codes (codes_of q) c one) (child_index_below (suc d) k)) ∙ gives
    by_class None one = gives

closed_later : (q later : Entries) (d i : ℕ) (k : Voxel)
    → class_in d (closed q later) (suc i) k ≡ class_in d later i k
unfolding class_in
closed_later q later d i k = by_class (one_class (codes_of q))
  where
    by_class : (o : Option Class)
        → class_in d (child_before o q later) (suc i) k ≡ class_in d later i k
    by_class (Some c) = refl
    by_class None = refl

pub recoded_gives : (to : Class → Class) (es : Entries) (d n i : ℕ) (k : Voxel) → AreEntries d n es
    → i < n → class_in d (recoded to es) i k ≡ to (class_in d es i k)
unfolding recoded class_in
recoded_gives to End d zero i k are l = absurd (omega arith)
recoded_gives to End d (suc n) i k are l = absurd are
recoded_gives to (Plain c es) d zero i k are l = absurd are
recoded_gives to (Plain c es) d (suc n) zero k are l = refl
recoded_gives to (Plain c es) d (suc n) (suc i) k are l =
    recoded_gives to es d n i k are (omega arith)
recoded_gives to (Record r es) d zero i k are l = absurd are
recoded_gives to (Record r es) d (suc n) zero k (low, inner, are) l =
    closed_first (recoded to r) (recoded to es) d k (to (class_by (suc d) r k))
    (recoded_are to r (suc d) 8 inner)
    (recoded_gives to r (suc d) 8 (child_index_of (suc d) k) k inner
    (child_index_below (suc d) k))
recoded_gives to (Record r es) d (suc n) (suc i) k (low, inner, are) l =
    closed_later (recoded to r) (recoded to es) d i k
    ∙ recoded_gives to es d n i k are (omega arith)

pub joined_gives : (with : Class → Class → Class) (es fs : Entries) (d n i : ℕ) (k : Voxel)
    → AreEntries d n es → AreEntries d n fs → i < n
    → class_in d (joined with es fs) i k ≡ with (class_in d es i k) (class_in d fs i k)
unfolding joined class_in
joined_gives with End fs d zero i k he hf l = absurd (omega arith)
joined_gives with End fs d (suc n) i k he hf l = absurd he
joined_gives with (Plain a es) fs d zero i k he hf l = absurd he
joined_gives with (Plain a es) End d (suc n) i k he hf l = absurd hf
joined_gives with (Plain a es) (Plain b fs) d (suc n) zero k he hf l = refl
joined_gives with (Plain a es) (Plain b fs) d (suc n) (suc i) k he hf l =
    joined_gives with es fs d n i k he hf (omega arith)
joined_gives with (Plain a es) (Record s fs) d (suc n) zero k he (low, inner, hf) l =
    closed_first (recoded (with a) s) (joined with es fs) d k (with a (class_by (suc d) s k))
    (recoded_are (with a) s (suc d) 8 inner)
    (recoded_gives (with a) s (suc d) 8 (child_index_of (suc d) k) k inner
    (child_index_below (suc d) k))
joined_gives with (Plain a es) (Record s fs) d (suc n) (suc i) k he (low, inner, hf) l =
    closed_later (recoded (with a) s) (joined with es fs) d i k
    ∙ joined_gives with es fs d n i k he hf (omega arith)
joined_gives with (Record r es) fs d zero i k he hf l = absurd he
joined_gives with (Record r es) End d (suc n) i k he hf l = absurd hf
joined_gives with (Record r es) (Plain b fs) d (suc n) zero k (low, inner, he) hf l =
    closed_first (recoded (λ a. with a b) r) (joined with es fs) d k
    (with (class_by (suc d) r k) b) (recoded_are (λ a. with a b) r (suc d) 8 inner)
    (recoded_gives (λ a. with a b) r (suc d) 8 (child_index_of (suc d) k) k inner
    (child_index_below (suc d) k))
joined_gives with (Record r es) (Plain b fs) d (suc n) (suc i) k (low, inner, he) hf l =
    closed_later (recoded (λ a. with a b) r) (joined with es fs) d i k
    ∙ joined_gives with es fs d n i k he hf (omega arith)
joined_gives with (Record r es) (Record s fs) d (suc n) zero k (low, inner, he)
    (low', inner', hf) l =
    closed_first (joined with r s) (joined with es fs) d k
    (with (class_by (suc d) r k) (class_by (suc d) s k))
    (joined_are with r s (suc d) 8 inner inner')
    (joined_gives with r s (suc d) 8 (child_index_of (suc d) k) k inner inner'
    (child_index_below (suc d) k))
joined_gives with (Record r es) (Record s fs) d (suc n) (suc i) k (low, inner, he)
    (low', inner', hf) l =
    closed_later (joined with r s) (joined with es fs) d i k
    ∙ joined_gives with es fs d n i k he hf (omega arith)
