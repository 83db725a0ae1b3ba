-- The codes of a mask, ascending.
use Rattle.std.proofs.Common.{◌≡◌, ◌≢◌, ℕ, zero, suc, ◌+◌, ◌-◌, ◌*◌, ◌/◌, ◌%◌, ◌^◌, ◌<◌, ◌↔◌, inl}
use Rattle.std.proofs.Common.{inr, List, [], ◌∷◌, ◌++◌, length, refl, sym, subst, ◌∙◌, ap, arith}
use Rattle.std.proofs.Common.{bit_and}
use lib.Count.{ones, ones_in}
use Rattle.std.specs.Prelude.{count_ones}
use Rattle.std.proofs.lemmas.Nat.{mod-pow-add, ones_cat}
use Rattle.std.proofs.Math.Nat.{div-div-eq-div-mul, pow-succ', div-one}
use Rattle.std.specs.List.{AllPairs, Contains}
use Rattle.std.specs.Int.{bit_at}
use Rattle.std.proofs.lemmas.Bool.{cases_eq}
use Rattle.std.proofs.lemmas.Bool.Decides.{eqb_tells}
use Rattle.std.proofs.lemmas.Nat.Bits.{bit_at_lowest, bit_at-suc}
use Rattle.std.proofs.lemmas.List.Kept.{AllPairs-cons}
use Rattle.oct_brick.specs.Masks.{HasCode, mask_codes, codes_of}
use Rattle.oct_brick.proofs.Lists.{contains_none, contains_here, contains_later, contains_cases}
use Rattle.oct_brick.proofs.Lists.{all_contained, pairs_nil}
use Rattle.oct_brick.proofs.Bits.{cleared_odd, cleared_even}

-- one bit more
pub codes_none : (first mask : ℕ) → mask_codes 0 first mask ≡ []
unfolding mask_codes
codes_none first mask = refl

pub codes_odd : (n first mask : ℕ) → mask % 2 ≡ 1
    → mask_codes (suc n) first mask ≡ first ∷ mask_codes n (first + 1) (mask / 2)
unfolding mask_codes
codes_odd n first mask e = elim (eqb_tells (mask % 2) 1) [
  | inl p ↦ rw p.0 refl
  | inr p ↦ absurd (p.1 e)
]

pub codes_even : (n first mask : ℕ) → mask % 2 ≢ 1
    → mask_codes (suc n) first mask ≡ mask_codes n (first + 1) (mask / 2)
unfolding mask_codes
codes_even n first mask e = elim (eqb_tells (mask % 2) 1) [
  | inl p ↦ absurd (e p.1)
  | inr p ↦ rw p.0 refl
]

-- a code of a mask is the first one and the place of a set bit
abbrev pub IsPlaced : ℕ → ℕ → ℕ → ℕ → Type 0
IsPlaced n first mask code = (i : ℕ) × (i < n) × (code ≡ first + i) × (bit_at mask i ≡ 1)

placed_later : (n first mask code : ℕ) → IsPlaced n (first + 1) (mask / 2) code
    → IsPlaced (suc n) first mask code
placed_later n first mask code h =
    (suc h.0, omega (arith, h.1), omega (arith, h.2), bit_at-suc mask h.0 ∙ h.3)

pub mask_within : (n first mask code : ℕ) → Contains (mask_codes n first mask) code
    → IsPlaced n first mask code
mask_within zero first mask code h =
    absurd (contains_none code (subst (λ l. Contains l code) (codes_none first mask) h))
mask_within (suc n) first mask code h = elim (cases_eq (mask % 2) 1) [
  | inl odd ↦ elim (contains_cases first code (mask_codes n (first + 1) (mask / 2))
      (subst (λ l. Contains l code) (codes_odd n first mask odd) h)) [
        | inl e ↦ (0, omega arith, omega (arith, e), bit_at_lowest mask ∙ odd)
        | inr k ↦ placed_later n first mask code (mask_within n (first + 1) (mask / 2) code k)
      ]
  | inr even ↦ placed_later n first mask code
      (mask_within n (first + 1) (mask / 2) code
      (subst (λ l. Contains l code) (codes_even n first mask even) h))
]

pub mask_listed : (n first mask i : ℕ) → i < n → bit_at mask i ≡ 1
    → Contains (mask_codes n first mask) (first + i)
mask_listed zero first mask i l e = absurd (omega (arith, l))
mask_listed (suc n) first mask zero l e =
    let odd : mask % 2 ≡ 1 = sym (bit_at_lowest mask) ∙ e in
    let start : first ≡ first + 0 = omega arith in
    subst (λ l. Contains l (first + 0)) (sym (codes_odd n first mask odd))
    (subst (Contains (first ∷ mask_codes n (first + 1) (mask / 2))) start
    (contains_here first (mask_codes n (first + 1) (mask / 2))))
mask_listed (suc n) first mask (suc i) l e =
    let next : first + 1 + i ≡ first + suc i = omega arith in
    let rest : Contains (mask_codes n (first + 1) (mask / 2)) (first + suc i) =
    subst (Contains (mask_codes n (first + 1) (mask / 2))) next
    (mask_listed n (first + 1) (mask / 2) i (omega (arith, l))
    (sym (bit_at-suc mask i) ∙ e)) in
    elim (cases_eq (mask % 2) 1) [
      | inl odd ↦ subst (λ l. Contains l (first + suc i)) (sym (codes_odd n first mask odd))
          (contains_later first (first + suc i) (mask_codes n (first + 1) (mask / 2)) rest)
      | inr even ↦ subst (λ l. Contains l (first + suc i)) (sym (codes_even n first mask even)) rest
    ]

-- the codes of a brick's mask are those that it has
pub codes_of_has : (brick mask code : ℕ)
    → Contains (codes_of brick mask) code ↔ HasCode brick mask code
codes_of_has brick mask code = (
  λ h. (let r = mask_within 64 (64 * brick) mask code h in
      let place : code % 64 ≡ r.0 = omega (arith, r.1, r.2) in
      record { inside = omega (arith, r.1, r.2); set = ap (bit_at mask) place ∙ r.3 }),
  λ h. (let whole : 64 * brick + code % 64 ≡ code = omega (arith, h.inside) in
      subst (Contains (codes_of brick mask)) whole
      (mask_listed 64 (64 * brick) mask (code % 64) (omega arith) h.set)),
)

-- they rise
pub mask_rises : (n first mask : ℕ) → AllPairs (λ a b. a < b) (mask_codes n first mask)
mask_rises zero first mask =
    subst (AllPairs (λ a b. a < b)) (sym (codes_none first mask)) (pairs_nil (λ a b. a < b))
mask_rises (suc n) first mask = elim (cases_eq (mask % 2) 1) [
  | inl odd ↦ subst (AllPairs (λ a b. a < b)) (sym (codes_odd n first mask odd))
      (AllPairs-cons (λ a b. a < b) first (mask_codes n (first + 1) (mask / 2))
      (all_contained (λ b. first < b) (mask_codes n (first + 1) (mask / 2))
      (λ b h. let r = mask_within n (first + 1) (mask / 2) b h in omega (arith, r.2)))
      (mask_rises n (first + 1) (mask / 2)))
  | inr even ↦ subst (AllPairs (λ a b. a < b)) (sym (codes_even n first mask even))
      (mask_rises n (first + 1) (mask / 2))
]

-- no bit, no code
pub no_codes : (n first : ℕ) → mask_codes n first 0 ≡ []
no_codes zero first = codes_none first 0
no_codes (suc n) first =
    codes_even n first 0 (λ e. absurd (omega (arith, e))) ∙ no_codes n (first + 1)

-- the lowest set bit gives the first code, and without it the mask gives the others
pub lowest_first : (n first mask p : ℕ) → p < n → 0 < mask → bit_at mask p ≡ 1
    → ((i : ℕ) → i < p → bit_at mask i ≡ 0)
    → mask_codes n first mask ≡ (first + p) ∷ mask_codes n first (bit_and mask (mask - 1))
lowest_first zero first mask p l some set low = absurd (omega (arith, l))
lowest_first (suc n) first mask zero l some set low =
    let odd : mask % 2 ≡ 1 = sym (bit_at_lowest mask) ∙ set in
    let whole : mask ≡ 2 * (mask / 2) + 1 = omega (arith, odd) in
    let less : bit_and mask (mask - 1) ≡ 2 * (mask / 2) =
    ap (λ (m : ℕ). bit_and m (m - 1)) whole ∙ cleared_odd (mask / 2) in
    let even : bit_and mask (mask - 1) % 2 ≢ 1 = λ e. omega (arith, e, less) in
    let half : bit_and mask (mask - 1) / 2 ≡ mask / 2 = omega (arith, less) in
    let start : first ≡ first + 0 = omega arith in
    codes_odd n first mask odd ∙ ap (λ (f : ℕ). f ∷ mask_codes n (first + 1) (mask / 2)) start
    ∙ ap (λ (l : List ℕ). (first + 0) ∷ l)
    (sym (codes_even n first (bit_and mask (mask - 1)) even
    ∙ ap (mask_codes n (first + 1)) half))
lowest_first (suc n) first mask (suc p) l some set low =
    let lowest : mask % 2 ≡ 0 = sym (bit_at_lowest mask) ∙ low 0 (omega arith) in
    let even : mask % 2 ≢ 1 = λ e. omega (arith, e, lowest) in
    let whole : mask ≡ 2 * (mask / 2) = omega (arith, lowest) in
    let more : 0 < mask / 2 = omega (arith, some, lowest) in
    let less : bit_and mask (mask - 1) ≡ 2 * bit_and (mask / 2) (mask / 2 - 1) =
    ap (λ (m : ℕ). bit_and m (m - 1)) whole ∙ cleared_even (mask / 2) more in
    let even' : bit_and mask (mask - 1) % 2 ≢ 1 = λ e. omega (arith, e, less) in
    let half : bit_and mask (mask - 1) / 2 ≡ bit_and (mask / 2) (mask / 2 - 1) =
    omega (arith, less) in
    let next : first + 1 + p ≡ first + suc p = omega arith in
    codes_even n first mask even
    ∙ lowest_first n (first + 1) (mask / 2) p (omega (arith, l)) more
    (sym (bit_at-suc mask p) ∙ set)
    (λ i k. sym (bit_at-suc mask i) ∙ low (suc i) (omega (arith, k)))
    ∙ ap (λ (c : ℕ). c ∷ mask_codes n (first + 1) (bit_and (mask / 2) (mask / 2 - 1))) next
    ∙ ap (λ (l : List ℕ). (first + suc p) ∷ l)
    (sym (codes_even n first (bit_and mask (mask - 1)) even'
    ∙ ap (mask_codes n (first + 1)) half))

-- the codes of a mask in two parts
pub codes_parted : (a n first mask : ℕ)
    → mask_codes (a + n) first mask
    ≡ mask_codes a first mask ++ mask_codes n (first + a) (mask / 2 ^ a)
codes_parted zero n first mask =
    let start : first + 0 ≡ first = omega arith in
    let whole : mask / 2 ^ 0 ≡ mask = div-one mask in
    let len : 0 + n ≡ n = omega arith in
    ap (λ (k : ℕ). mask_codes k first mask) len
    ∙ sym (ap (λ (l : List ℕ). l ++ mask_codes n (first + 0) (mask / 2 ^ 0))
    (codes_none first mask) ∙ ap (λ (f : ℕ). mask_codes n f (mask / 2 ^ 0)) start
    ∙ ap (mask_codes n first) whole)
codes_parted (suc a) n first mask =
    let len : suc a + n ≡ suc (a + n) = omega arith in
    let next : first + 1 + a ≡ first + suc a = omega arith in
    let half : mask / 2 / 2 ^ a ≡ mask / 2 ^ suc a =
    div-div-eq-div-mul mask 2 (2 ^ a) ∙ ap (λ (m : ℕ). mask / m) (sym (pow-succ' 2 a)) in
    let tail : mask_codes (a + n) (first + 1) (mask / 2)
    ≡ mask_codes a (first + 1) (mask / 2) ++ mask_codes n (first + suc a) (mask / 2 ^ suc a) =
    codes_parted a n (first + 1) (mask / 2)
    ∙ ap (λ (f : ℕ). mask_codes a (first + 1) (mask / 2) ++ mask_codes n f (mask / 2 / 2 ^ a))
    next
    ∙ ap (λ (m : ℕ). mask_codes a (first + 1) (mask / 2) ++ mask_codes n (first + suc a) m)
    half in
    ap (λ (k : ℕ). mask_codes k first mask) len
    ∙ elim (cases_eq (mask % 2) 1) [
      | inl odd ↦ codes_odd (a + n) first mask odd ∙ ap (λ (l : List ℕ). first ∷ l) tail
          ∙ ap (λ (l : List ℕ). l ++ mask_codes n (first + suc a) (mask / 2 ^ suc a))
          (sym (codes_odd a first mask odd))
      | inr even ↦ codes_even (a + n) first mask even ∙ tail
          ∙ ap (λ (l : List ℕ). l ++ mask_codes n (first + suc a) (mask / 2 ^ suc a))
          (sym (codes_even a first mask even))
    ]

low_split : (n mask : ℕ) → mask % 2 ^ suc n ≡ mask / 2 % 2 ^ n * 2 + mask % 2
low_split n mask =
    (let e : suc n ≡ n + 1 = omega arith in ap (λ (k : ℕ). mask % 2 ^ k) e ∙ mod-pow-add mask n 1)

-- without a bit among the lowest there is no code, and with one there is one
pub low_none : (n first mask : ℕ) → mask % 2 ^ n ≡ 0 → mask_codes n first mask ≡ []
low_none zero first mask e = codes_none first mask
low_none (suc n) first mask e =
    let split = low_split n mask in
    codes_even n first mask (λ odd. omega (arith, odd, split, e))
    ∙ low_none n (first + 1) (mask / 2) (omega (arith, split, e))

pub low_some : (n first mask : ℕ) → mask % 2 ^ n ≢ 0
    → (x : ℕ) × (xs : List ℕ) × (mask_codes n first mask ≡ x ∷ xs)
low_some zero first mask e = absurd (e (one_left mask))
  where
    one_left : (m : ℕ) → m % 2 ^ 0 ≡ 0
    one_left m = omega arith
low_some (suc n) first mask e = elim (cases_eq (mask % 2) 1) [
  | inl odd ↦ (first, mask_codes n (first + 1) (mask / 2), codes_odd n first mask odd)
  | inr even ↦
      let split = low_split n mask in
      let r = low_some n (first + 1) (mask / 2) (λ f. e (omega (arith, split, f, even))) in
      (r.0, r.1, codes_even n first mask even ∙ r.2)
]

pub one_bit : (r : ℕ) → r < 2 → count_ones r ≡ r
unfolding ones ones_in
one_bit zero l = refl
one_bit (suc zero) l = refl
one_bit (suc (suc r)) l = absurd (omega (arith, l))

-- a mask has as many codes as ones
pub codes_counted : (n first mask : ℕ) → mask < 2 ^ n
    → length (mask_codes n first mask) ≡ count_ones mask
codes_counted zero first mask l =
    let none : mask ≡ 0 = omega (arith, l) in
    ap length (codes_none first mask) ∙ sym (ap count_ones none ∙ one_bit 0 (omega arith))
codes_counted (suc n) first mask l =
    let twice = pow-succ' 2 n in
    let rest = codes_counted n (first + 1) (mask / 2) (omega (arith, l, twice)) in
    let split : count_ones mask ≡ count_ones (mask / 2) + mask % 2 =
    ap count_ones (halves mask) ∙ ones_cat 1 (mask / 2) (mask % 2) (omega arith)
    ∙ ap (λ (k : ℕ). count_ones (mask / 2) + k) (one_bit (mask % 2) (omega arith)) in
    elim (cases_eq (mask % 2) 1) [
      | inl odd ↦ omega (arith, ap length (codes_odd n first mask odd), rest, split, odd)
      | inr even ↦ omega (arith, ap length (codes_even n first mask even), rest, split, even)
    ]
  where
    halves : (m : ℕ) → m ≡ m / 2 * 2 ^ 1 + m % 2
    halves m = omega arith
