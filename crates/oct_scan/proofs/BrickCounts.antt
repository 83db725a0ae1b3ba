-- The blocks over the voxels of bricks, counted brick by brick.
use Rattle.std.proofs.Common.{◌≡◌, ◌≢◌, ℕ, zero, suc, ◌+◌, ◌*◌, ◌/◌, ◌%◌, ◌^◌, ◌<◌, ◌≤◌, inl, inr}
use Rattle.std.proofs.Common.{List, [], ◌∷◌, ◌++◌, Option, Some, None, length, get_or, drop, refl}
use Rattle.std.proofs.Common.{sym, subst, ◌∙◌, ap, arith, append_assoc, bit_xor}
use Rattle.std.specs.Prelude.{IfSome}
use Rattle.std.specs.List.{All}
use Rattle.std.proofs.lemmas.Bool.{cases_lt, cases_eq}
use Rattle.std.proofs.lemmas.Nat.{xor_lt}
use Rattle.std.proofs.Math.Nat.{pow-le-pow_right, pow-succ'}
use Rattle.std.proofs.lemmas.List.{drop_more, drop_all}
use Rattle.std.proofs.lemmas.List.Elements.{All-head, All-tail}
use Rattle.oct_brick.specs.declared.brick.Brick.{Brick}
use Rattle.oct_brick.specs.Masks.{mask_codes, codes_of, octet_count}
use Rattle.oct_brick.specs.Bricks.{scanned_codes, IsBrick, AreAscending}
use Rattle.oct_brick.proofs.OctetCounts.{octets_none, octets_zero, octets_some}
use Rattle.oct_brick.proofs.Merging.{same_default}
use Rattle.oct_brick.proofs.MaskCodes.{codes_none, codes_parted, low_none, low_some, mask_within}
use Rattle.oct_brick.proofs.BrickCodes.{by_cons}
use Rattle.oct_scan.specs.Codes.{levels_apart, blocks_added, blocks_after, block_count}
use Rattle.oct_scan.specs.Codes.{bricks_added, bricks_after, brick_count}
use Rattle.oct_scan.proofs.Levels.{levels_same_top, levels_other_top, levels_by_bit}
use Rattle.oct_scan.proofs.Counts.{blocks_after_step, blocks_after_none}
use Rattle.oct_brick.proofs.Lists.{all_contained, pairs_head, pairs_tail}

-- the codes of a list lie in one octet
abbrev AreInOctet : ℕ → List ℕ → Type 0
AreInOctet o cs = All (λ c. c / 8 ≡ o) cs

-- codes of the octet of the code before them add no block
same_octet : (o p : ℕ) (cs rest : List ℕ) → p / 8 ≡ o → AreInOctet o cs
    → (q : ℕ) × (q / 8 ≡ o) × (blocks_after (Some p) (cs ++ rest) ≡ blocks_after (Some q) rest)
same_octet o p [] rest e h = (p, e, refl)
same_octet o p (c ∷ cs) rest e h =
    let here : c / 8 ≡ o = All-head (λ c. c / 8 ≡ o) c cs h in
    let r = same_octet o c cs rest here (All-tail (λ c. c / 8 ≡ o) c cs h) in
    let none : levels_apart 15 p c ≡ 0 = levels_same_top 14 p c (e ∙ sym here) in
    (r.0, r.1, blocks_after_step (Some p) c (cs ++ rest) ∙ omega (arith, none, r.2))

-- on how many levels over its octets a code differs from another octet
other_octet : (o p c : ℕ) → c / 8 ≡ o → p / 8 ≢ o
    → levels_apart 15 p c ≡ 1 + levels_apart 14 (p / 8) o
other_octet o p c e ne = levels_other_top 14 p c (λ s. ne (s ∙ e))
    ∙ ap (λ (n : ℕ). 1 + levels_apart 14 (p / 8) n) e

eighth : (n : ℕ) → n / 64 ≡ n / 8 / 8
eighth n = omega arith

-- codes of another octet of the same brick add one block
next_octet : (o p : ℕ) (c : ℕ) (cs rest : List ℕ) → p / 64 ≡ o / 8 → p / 8 ≢ o
    → AreInOctet o (c ∷ cs) → (q : ℕ) × (q / 8 ≡ o)
    × (blocks_after (Some p) ((c ∷ cs) ++ rest) ≡ 1 + blocks_after (Some q) rest)
next_octet o p c cs rest brick ne h =
    let here : c / 8 ≡ o = All-head (λ c. c / 8 ≡ o) c cs h in
    let r = same_octet o c cs rest here (All-tail (λ c. c / 8 ≡ o) c cs h) in
    let none : levels_apart 14 (p / 8) o ≡ 0 =
    levels_same_top 13 (p / 8) o (sym (eighth p) ∙ brick) in (
      r.0,
      r.1,
      blocks_after_step (Some p) c (cs ++ rest)
          ∙ omega (arith, other_octet o p c here ne, none, r.2),
    )

-- the brick of a code, where there is one
abbrev brick_before : Option ℕ → Option ℕ
brick_before None = None
brick_before (Some p) = Some (p / 64)

-- the code before lies in another brick
abbrev IsOther : Option ℕ → ℕ → Type 0
IsOther None b = Unit {0}
IsOther (Some p) b = p / 64 ≢ b

first_added : (last : Option ℕ) (o b c : ℕ) → c / 8 ≡ o → o / 8 ≡ b → IsOther last b
    → blocks_added last c ≡ 1 + bricks_added (brick_before last) b
first_added None o b c e f other = refl
first_added (Some p) o b c e f other =
    let ne : p / 8 ≢ o = λ s. other (eighth p ∙ ap (λ (n : ℕ). n / 8) s ∙ f) in
    let ne' : p / 8 / 8 ≢ o / 8 = λ s. other (eighth p ∙ s ∙ f) in
    let deep : levels_apart 14 (p / 8) o ≡ 1 + levels_apart 13 (p / 8 / 8) (o / 8) =
    levels_other_top 13 (p / 8) o ne' in
    let same : levels_apart 13 (p / 8 / 8) (o / 8) ≡ levels_apart 13 (p / 64) b =
    ap (λ (n : ℕ). levels_apart 13 n (o / 8)) (sym (eighth p)) ∙ ap (levels_apart 13 (p / 64)) f in
    omega (arith, other_octet o p c e ne, deep, same)

-- codes of the first octet of another brick
first_octet : (last : Option ℕ) (o b c : ℕ) (cs rest : List ℕ) → o / 8 ≡ b → IsOther last b
    → AreInOctet o (c ∷ cs) → (q : ℕ) × (q / 8 ≡ o)
    × (blocks_after last ((c ∷ cs) ++ rest)
    ≡ 1 + bricks_added (brick_before last) b + blocks_after (Some q) rest)
first_octet last o b c cs rest f other h =
    let here : c / 8 ≡ o = All-head (λ c. c / 8 ≡ o) c cs h in
    let r = same_octet o c cs rest here (All-tail (λ c. c / 8 ≡ o) c cs h) in (
      r.0,
      r.1,
      blocks_after_step last c (cs ++ rest)
          ∙ omega (arith, first_added last o b c here f other, r.2),
    )

-- the codes of an octet's bits
octet_codes : (o mask : ℕ) → AreInOctet o (mask_codes 8 (8 * o) mask)
octet_codes o mask = all_contained (λ c. c / 8 ≡ o) (mask_codes 8 (8 * o) mask)
    (λ c h. let r = mask_within 8 (8 * o) mask c h in omega (arith, r.1, r.2))

-- an octet's codes and those of the octets after it
octets_parted : (n o mask : ℕ) (rest : List ℕ)
    → mask_codes (8 * suc n) (8 * o) mask ++ rest
    ≡ mask_codes 8 (8 * o) mask ++ (mask_codes (8 * n) (8 * (o + 1)) (mask / 256) ++ rest)
octets_parted n o mask rest =
    let size : 8 * suc n ≡ 8 + 8 * n = omega arith in
    let next : 8 * o + 8 ≡ 8 * (o + 1) = omega arith in
    ap (λ (l : List ℕ). l ++ rest)
    (ap (λ (k : ℕ). mask_codes k (8 * o) mask) size ∙ codes_parted 8 (8 * n) (8 * o) mask
    ∙ ap (λ (f : ℕ). mask_codes 8 (8 * o) mask ++ mask_codes (8 * n) f (mask / 256)) next)
    ∙ append_assoc (mask_codes 8 (8 * o) mask) (mask_codes (8 * n) (8 * (o + 1)) (mask / 256)) rest

-- without a bit in the octet
octet_empty : (n o mask : ℕ) (rest : List ℕ) → mask % 256 ≡ 0
    → mask_codes (8 * suc n) (8 * o) mask ++ rest
    ≡ mask_codes (8 * n) (8 * (o + 1)) (mask / 256) ++ rest
octet_empty n o mask rest e = octets_parted n o mask rest
    ∙ ap (λ (l : List ℕ). l ++ (mask_codes (8 * n) (8 * (o + 1)) (mask / 256) ++ rest))
    (low_none 8 (8 * o) mask e)

-- the octets after the code before, in its brick
inner_octets : (n o b p mask : ℕ) (rest : List ℕ) → o + n ≡ 8 * b + 8 → 8 * b ≤ o → p / 64 ≡ b
    → p / 8 < o → (q : ℕ) × (q / 64 ≡ b)
    × (blocks_after (Some p) (mask_codes (8 * n) (8 * o) mask ++ rest)
    ≡ octet_count n mask + blocks_after (Some q) rest)
inner_octets zero o b p mask rest size low brick below = (
  p,
  brick,
  ap (λ (l : List ℕ). blocks_after (Some p) (l ++ rest)) (codes_none (8 * o) mask)
      ∙ omega (arith, octets_none mask),
)
inner_octets (suc n) o b p mask rest size low brick below = elim (cases_eq (mask % 256) 0) [
  | inl none ↦
      let r = inner_octets n (o + 1) b p (mask / 256) rest (omega (arith, size))
      (omega (arith, low)) brick (omega (arith, below)) in (
        r.0,
        r.1,
        ap (blocks_after (Some p)) (octet_empty n o mask rest none) ∙ r.2
            ∙ ap (λ (k : ℕ). k + blocks_after (Some r.0) rest) (sym (octets_zero n mask none)),
      )
  | inr some ↦
      let within : o / 8 ≡ b = omega (arith, size, low) in
      let more : List ℕ = mask_codes (8 * n) (8 * (o + 1)) (mask / 256) ++ rest in
      let cs = low_some 8 (8 * o) mask some in
      let inside : AreInOctet o (cs.0 ∷ cs.1) = subst (AreInOctet o) cs.2 (octet_codes o mask) in
      let step = next_octet o p cs.0 cs.1 more (brick ∙ sym within) (λ e. omega (arith, e, below))
      inside in
      let r = inner_octets n (o + 1) b step.0 (mask / 256) rest (omega (arith, size))
      (omega (arith, low)) (eighth step.0 ∙ ap (λ (n : ℕ). n / 8) step.1 ∙ within)
      (omega (arith, step.1)) in (
        r.0,
        r.1,
        ap (blocks_after (Some p))
            (octets_parted n o mask rest ∙ ap (λ (l : List ℕ). l ++ more) cs.2) ∙ step.2
            ∙ omega (arith, r.2, octets_some n mask some),
      )
]

-- the octets of another brick, one of which has a bit
outer_octets : (n o b mask : ℕ) (last : Option ℕ) (rest : List ℕ) → o + n ≡ 8 * b + 8 → 8 * b ≤ o
    → IsOther last b → 0 < mask → mask < 256 ^ n
    → (q : ℕ) × (q / 64 ≡ b)
    × (blocks_after last (mask_codes (8 * n) (8 * o) mask ++ rest)
    ≡ bricks_added (brick_before last) b + octet_count n mask + blocks_after (Some q) rest)
outer_octets zero o b mask last rest size low other some fits = absurd (omega (arith, some, fits))
outer_octets (suc n) o b mask last rest size low other some fits = elim (cases_eq (mask % 256) 0) [
  | inl none ↦
      let less : mask / 256 < 256 ^ n =
      shorter mask (256 ^ n) (256 ^ suc n) (pow-succ' 256 n) fits in
      let r = outer_octets n (o + 1) b (mask / 256) last rest (omega (arith, size))
      (omega (arith, low)) other (omega (arith, none, some)) less in (
        r.0,
        r.1,
        ap (blocks_after last) (octet_empty n o mask rest none) ∙ r.2
            ∙ ap (λ (k : ℕ). bricks_added (brick_before last) b + k + blocks_after (Some r.0) rest)
            (sym (octets_zero n mask none)),
      )
  | inr bits ↦
      let within : o / 8 ≡ b = omega (arith, size, low) in
      let more : List ℕ = mask_codes (8 * n) (8 * (o + 1)) (mask / 256) ++ rest in
      let cs = low_some 8 (8 * o) mask bits in
      let inside : AreInOctet o (cs.0 ∷ cs.1) = subst (AreInOctet o) cs.2 (octet_codes o mask) in
      let step = first_octet last o b cs.0 cs.1 more within other inside in
      let r = inner_octets n (o + 1) b step.0 (mask / 256) rest (omega (arith, size))
      (omega (arith, low)) (eighth step.0 ∙ ap (λ (n : ℕ). n / 8) step.1 ∙ within)
      (omega (arith, step.1)) in (
        r.0,
        r.1,
        ap (blocks_after last)
            (octets_parted n o mask rest ∙ ap (λ (l : List ℕ). l ++ more) cs.2) ∙ step.2
            ∙ omega (arith, r.2, octets_some n mask bits),
      )
]
  where
    shorter : (m p q : ℕ) → q ≡ 256 * p → m < q → m / 256 < p
    shorter m p q e l = omega (arith, e, l)

-- a whole brick
whole_brick : (b mask : ℕ) (last : Option ℕ) (rest : List ℕ) → IsOther last b → 0 < mask
    → mask < 2 ^ 64 → (q : ℕ) × (q / 64 ≡ b)
    × (blocks_after last (codes_of b mask ++ rest)
    ≡ bricks_added (brick_before last) b + octet_count 8 mask + blocks_after (Some q) rest)
whole_brick b mask last rest other some fits =
    let r = outer_octets 8 (8 * b) b mask last rest refl (omega arith) other some fits in
    let first : 64 * b ≡ 8 * (8 * b) = omega arith in
    (r.0, r.1, ap (λ (f : ℕ). blocks_after last (mask_codes 64 f mask ++ rest)) first ∙ r.2)

bricks_step : (last : Option ℕ) (b : Brick) (bs : List Brick)
    → bricks_after last (b ∷ bs)
    ≡ bricks_added last b.code + octet_count 8 b.scanned + bricks_after (Some b.code) bs
unfolding bricks_after
bricks_step last b bs = refl

bricks_none : (last : Option ℕ) → bricks_after last [] ≡ 0
unfolding bricks_after
bricks_none last = refl

-- the code before lies in a brick before all
abbrev IsBefore : Option ℕ → List Brick → Type 0
IsBefore None bs = Unit {0}
IsBefore (Some p) bs = All (λ b. p / 64 < b.code) bs

is_other : (last : Option ℕ) (b : Brick) (bs : List Brick) → IsBefore last (b ∷ bs)
    → IsOther last b.code
is_other None b bs h = tt
is_other (Some p) b bs h =
    λ e. (let l = All-head (λ b. p / 64 < b.code) b bs h in omega (arith, l, e))

-- blocks over codes are blocks over bricks
pub bricks_counted : (bs : List Brick) (last : Option ℕ) → All IsBrick bs → AreAscending bs
    → IsBefore last bs → blocks_after last (scanned_codes bs) ≡ bricks_after (brick_before last) bs
bricks_counted [] last bricks apart before = blocks_after_none last
    ∙ sym (bricks_none (brick_before last))
bricks_counted (b ∷ bs) last bricks apart before =
    let brick : IsBrick b = All-head IsBrick b bs bricks in
    let r = whole_brick b.code b.scanned last (scanned_codes bs) (is_other last b bs before)
    brick.some brick.fits in
    let later : IsBefore (Some r.0) bs =
    subst (λ n. All (λ c. n < c.code) bs) (sym r.1)
    (pairs_head (λ a b. a.code < b.code) b bs apart) in
    let rest = bricks_counted bs (Some r.0) (All-tail IsBrick b bs bricks)
    (pairs_tail (λ a b. a.code < b.code) b bs apart) later in
    let same : bricks_after (Some (r.0 / 64)) bs ≡ bricks_after (Some b.code) bs =
    ap (λ (n : ℕ). bricks_after (Some n) bs) r.1 in
    ap (blocks_after last) (by_cons (λ b. b.scanned) b bs) ∙ r.2
    ∙ omega (arith, rest, same, bricks_step (brick_before last) b bs)

pub brick_count_is : (bs : List Brick) → All IsBrick bs → AreAscending bs
    → brick_count bs ≡ block_count (scanned_codes bs)
brick_count_is bs bricks apart = sym (bricks_counted bs None bricks apart tt)

-- a power of two below 2^42 has a small exponent
small_power : (r x : ℕ) → 2 ^ r ≤ x → x < 2 ^ 42 → r < 42
small_power r x low high = elim (cases_lt r 42) [
  | inl l ↦ l
  | inr l ↦ absurd (let grows : 2 ^ 42 ≤ 2 ^ r = pow-le-pow_right (omega arith) l in
      omega (arith, grows))
]

-- the levels on which two bricks of the map differ
pub levels_of_bricks : (a b r : ℕ) → a < b → b < 2 ^ 42 → 2 ^ r ≤ bit_xor a b
    → bit_xor a b < 2 * 2 ^ r → levels_apart 13 a b ≡ r / 3
levels_of_bricks a b r l below low high =
    levels_by_bit 13 a b r low high
    (small_power r (bit_xor a b) low (xor_lt 42 a b (omega arith) below))

-- what is counted so far and what is left are all, one brick further on
pub bricks_counted_step : (count added octets : ℕ) (last : Option ℕ) (bs : List Brick) (i : ℕ)
    (d : Brick) → i < length bs → added ≡ bricks_added last (get_or bs i d).code
    → octets ≡ octet_count 8 (get_or bs i d).scanned
    → count + bricks_after last (drop i bs) ≡ brick_count bs
    → count + (added + octets) + bricks_after (Some (get_or bs i d).code) (drop (i + 1) bs)
    ≡ brick_count bs
bricks_counted_step count added octets last bs i d l a o h =
    omega (
      arith,
      h,
      a,
      o,
      ap (bricks_after last) (drop_more bs i d l),
      bricks_step last (get_or bs i d) (drop (i + 1) bs),
    )

pub bricks_counted_all : (count : ℕ) (last : Option ℕ) (bs : List Brick) (i : ℕ) → length bs ≤ i
    → count + bricks_after last (drop i bs) ≡ brick_count bs → count ≡ brick_count bs
bricks_counted_all count last bs i l h =
    omega (arith, h, ap (bricks_after last) (drop_all i bs l), bricks_none last)

-- where a brick comes before, its code is smaller
pub brick_below : (bs : List Brick) (i : ℕ) (d : Brick) (last : Option ℕ) → AreAscending bs
    → i < length bs → ((before : ℕ) → last ≡ Some before
    → (j : ℕ) × (i ≡ j + 1) × ((get_or bs j d).code ≡ before))
    → IfSome last (λ before. before < (get_or bs i d).code)
brick_below bs i d None up l h = tt
brick_below bs i d (Some before) up l h =
    let r = h before refl in
    let rises = up r.0 i d (omega (arith, r.1)) l in
    omega (arith, rises, r.2)

-- the code of a brick of the list, whatever stands for one that isn't there
pub last_code : (bs : List Brick) (i : ℕ) (e d : Brick) (before : ℕ) → i < length bs
    → ◌≡◌ {A = Option ℕ} (Some (get_or bs i e).code) (Some before) → (get_or bs i d).code ≡ before
last_code bs i e d before l h =
    let same : (get_or bs i e).code ≡ before = cc in
    ap (λ (b : Brick). b.code) (same_default bs i e d l) ∙ same
