-- Lists of codes: what is left of one without another, and the voxels of codes.
use Rattle.std.proofs.Common.{◌≡◌, ◌≢◌, ℕ, ◌+◌, ◌^◌, ◌<◌, ◌≤◌, ◌↔◌, inl, inr, List, [], ◌∷◌, map}
use Rattle.std.proofs.Common.{length, refl, sym, subst, ◌∙◌, ap, arith}
use Rattle.std.specs.List.{All, AllPairs, Contains}
use Rattle.std.specs.List.Sorted.{IsStrictlyIncreasing}
use Rattle.std.specs.Cmp.{unsigned_Decides}
use Rattle.std.proofs.lemmas.Cmp.{nat_eq_equiv}
use Rattle.std.proofs.lemmas.Map.Made.{IsDistinct-from_AllPairs, is_member-Decides}
use Rattle.std.proofs.lemmas.Map.Made.{length-le_from_is_member}
use Rattle.std.proofs.lemmas.List.Elements.{All-contains, All-head, All-tail}
use Rattle.std.proofs.lemmas.List.Kept.{AllPairs-cons, AllPairs-from_increasing}
use Rattle.std.proofs.lemmas.Bool.Decides.{eqb_tells}
use Rattle.oct_key.specs.Voxel.{Voxel, IsInMap}
use Rattle.oct_key.specs.Morton.{morton_of}
use Rattle.oct_brick.specs.Voxels.{coded_voxel}
use Rattle.oct_brick.proofs.CodedVoxels.{coded_voxel-IsInMap, morton_of-coded_voxel}
use Rattle.oct_brick.proofs.CodedVoxels.{coded_voxel-morton_of}
use Rattle.oct_brick.proofs.Rising.{Rises, above_head, rises_tail, past_head}
use Rattle.oct_scan.specs.Codes.{difference}
use Rattle.oct_brick.proofs.Lists.{contains_none, contains_here, contains_later, contains_cases}
use Rattle.oct_brick.proofs.Lists.{contains_map, contains_from_map, all_contained, pairs_nil}

pub without_none : (xs : List ℕ) → difference xs [] ≡ xs
unfolding difference
without_none [] = refl
without_none (x ∷ xs) = ap (λ l. x ∷ l) (without_none xs)

nothing_is : (ys : List ℕ) → difference [] ys ≡ []
unfolding difference
nothing_is ys = refl

pub without_same : (x y : ℕ) (xs ys : List ℕ) → y ≡ x
    → difference (x ∷ xs) (y ∷ ys) ≡ difference xs ys
unfolding difference
without_same x y xs ys e = elim (eqb_tells y x) [ inl p ↦ rw p.0 refl | inr p ↦ absurd (p.1 e) ]

pub without_other : (x y : ℕ) (xs ys : List ℕ) → y ≢ x
    → difference (x ∷ xs) (y ∷ ys) ≡ x ∷ difference xs (y ∷ ys)
unfolding difference
without_other x y xs ys e = elim (eqb_tells y x) [ inl p ↦ absurd (e p.1) | inr p ↦ rw p.0 refl ]

-- what stands in a list that rises isn't below its first number
from_head : (x y c : ℕ) (ys : List ℕ) → Rises (y ∷ ys) → x < y → Contains (y ∷ ys) c → x < c
from_head x y c ys up l h =
    elim (contains_cases y c ys h)
    [ inl e ↦ omega arith | inr k ↦ omega (arith, above_head y ys c up k) ]

nothing_left : (ys : List ℕ) (c : ℕ) → Contains (difference [] ys) c → ⊥
unfolding difference
nothing_left ys c h = contains_none c h

-- the numbers of the second list are among those of the first
abbrev pub IsPart : List ℕ → List ℕ → Type 0
IsPart ys xs = (c : ℕ) → Contains ys c → Contains xs c

-- after an equal first number
part_same : (x y : ℕ) (xs ys : List ℕ) → Rises (y ∷ ys) → IsPart (y ∷ ys) (x ∷ xs) → y ≡ x
    → IsPart ys xs
part_same x y xs ys up part e =
    λ c h. past_head x c xs (part c (contains_later y c ys h))
    (omega (arith, above_head y ys c up h))

-- where the first numbers differ, the first one of the list is the smaller
part_below : (x y : ℕ) (xs ys : List ℕ) → Rises (x ∷ xs) → IsPart (y ∷ ys) (x ∷ xs) → y ≢ x → x < y
part_below x y xs ys up part ne =
    elim (contains_cases x y xs (part y (contains_here y ys)))
    [ inl e ↦ absurd (ne (sym e)) | inr k ↦ above_head x xs y up k ]

part_other : (x y : ℕ) (xs ys : List ℕ) → Rises (y ∷ ys) → IsPart (y ∷ ys) (x ∷ xs) → x < y
    → IsPart (y ∷ ys) xs
part_other x y xs ys up part l = λ c h. past_head x c xs (part c h) (from_head x y c ys up l h)

-- what is left of the one list has no number of the other
pub difference_from : (xs ys : List ℕ) (c : ℕ) → Rises xs → Rises ys → IsPart ys xs
    → Contains (difference xs ys) c → Contains xs c × ¬ Contains ys c
difference_from [] ys c up up' part h = absurd (nothing_left ys c h)
difference_from (x ∷ xs) [] c up up' part h =
    (subst (λ l. Contains l c) (without_none (x ∷ xs)) h, contains_none c)
difference_from (x ∷ xs) (y ∷ ys) c up up' part h = elim (eqb_tells y x) [
  | inl p ↦
      let r = difference_from xs ys c (rises_tail x xs up) (rises_tail y ys up')
      (part_same x y xs ys up' part p.1)
      (subst (λ l. Contains l c) (without_same x y xs ys p.1) h) in (
        contains_later x c xs r.0,
        λ k. elim (contains_cases y c ys k)
            [ inl s ↦ omega (arith, above_head x xs c up r.0, p.1, s) | inr k ↦ r.1 k ],
      )
  | inr p ↦
      let below : x < y = part_below x y xs ys up part p.1 in
      elim (contains_cases x c (difference xs (y ∷ ys))
      (subst (λ l. Contains l c) (without_other x y xs ys p.1) h)) [
        | inl s ↦ (
          subst (λ d. Contains (x ∷ xs) d) s (contains_here x xs),
          λ k. omega (arith, s, from_head x y c ys up' below k),
        )
        | inr k ↦
            let r = difference_from xs (y ∷ ys) c (rises_tail x xs up) up'
            (part_other x y xs ys up' part below) k in
            (contains_later x c xs r.0, r.1)
      ]
]

-- and each number that the other doesn't have
pub difference_listed : (xs ys : List ℕ) (c : ℕ) → Rises xs → Rises ys → IsPart ys xs
    → Contains xs c → ¬ Contains ys c → Contains (difference xs ys) c
difference_listed [] ys c up up' part h un = absurd (contains_none c h)
difference_listed (x ∷ xs) [] c up up' part h un =
    subst (λ l. Contains l c) (sym (without_none (x ∷ xs))) h
difference_listed (x ∷ xs) (y ∷ ys) c up up' part h un = elim (eqb_tells y x) [
  | inl p ↦ subst (λ l. Contains l c) (sym (without_same x y xs ys p.1))
      (elim (contains_cases x c xs h) [
        | inl s ↦ absurd (un (subst (λ d. Contains (y ∷ ys) d) (p.1 ∙ s) (contains_here y ys)))
        | inr k ↦ difference_listed xs ys c (rises_tail x xs up) (rises_tail y ys up')
            (part_same x y xs ys up' part p.1) k (λ m. un (contains_later y c ys m))
      ])
  | inr p ↦
      let below : x < y = part_below x y xs ys up part p.1 in
      subst (λ l. Contains l c) (sym (without_other x y xs ys p.1))
      (elim (contains_cases x c xs h) [
        | inl s ↦ subst (λ d. Contains (x ∷ difference xs (y ∷ ys)) d) s
            (contains_here x (difference xs (y ∷ ys)))
        | inr k ↦ contains_later x c (difference xs (y ∷ ys))
            (difference_listed xs (y ∷ ys) c (rises_tail x xs up) up'
            (part_other x y xs ys up' part below) k un)
      ])
]

-- with the other list it is as long as the one
pub difference_long : (xs ys : List ℕ) → Rises xs → Rises ys → IsPart ys xs
    → length (difference xs ys) + length ys ≡ length xs
difference_long [] [] up up' part = omega (arith, ap length (without_none []))
difference_long [] (y ∷ ys) up up' part = absurd (contains_none y (part y (contains_here y ys)))
difference_long (x ∷ xs) [] up up' part = omega (arith, ap length (without_none (x ∷ xs)))
difference_long (x ∷ xs) (y ∷ ys) up up' part = elim (eqb_tells y x) [
  | inl p ↦
      let rest = difference_long xs ys (rises_tail x xs up) (rises_tail y ys up')
      (part_same x y xs ys up' part p.1) in
      omega (arith, rest, ap length (without_same x y xs ys p.1))
  | inr p ↦
      let rest = difference_long xs (y ∷ ys) (rises_tail x xs up) up'
      (part_other x y xs ys up' part (part_below x y xs ys up part p.1)) in
      omega (arith, rest, ap length (without_other x y xs ys p.1))
]

-- a list that rises is no longer than a list that has its numbers
pub no_longer : (xs ys : List ℕ) → Rises xs → IsPart xs ys → length xs ≤ length ys
no_longer xs ys up part =
    let apart : AllPairs (λ m n. m ≢ n) xs = λ i j d l m e. let below = up i j d l m in
    omega (arith, below, e) in
    length-le_from_is_member nat_eq_equiv xs ys (IsDistinct-from_AllPairs unsigned_Decides xs apart)
    (λ c h. (is_member-Decides unsigned_Decides ys c).1
    (part c ((is_member-Decides unsigned_Decides xs c).0 h)))

-- and still rises
pub difference_rises : (xs ys : List ℕ) → Rises xs → Rises ys → IsPart ys xs
    → Rises (difference xs ys)
difference_rises [] ys up up' part = subst Rises (sym (nothing_is ys)) (pairs_nil (λ m n. m < n))
difference_rises (x ∷ xs) [] up up' part = subst Rises (sym (without_none (x ∷ xs))) up
difference_rises (x ∷ xs) (y ∷ ys) up up' part = elim (eqb_tells y x) [
  | inl p ↦ subst Rises (sym (without_same x y xs ys p.1))
      (difference_rises xs ys (rises_tail x xs up) (rises_tail y ys up')
      (part_same x y xs ys up' part p.1))
  | inr p ↦
      let below : x < y = part_below x y xs ys up part p.1 in
      let part' = part_other x y xs ys up' part below in
      subst Rises (sym (without_other x y xs ys p.1))
      (AllPairs-cons (λ m n. m < n) x (difference xs (y ∷ ys))
      (all_contained (λ n. x < n) (difference xs (y ∷ ys))
      (λ c h. above_head x xs c up
      (difference_from xs (y ∷ ys) c (rises_tail x xs up) up' part' h).0))
      (difference_rises xs (y ∷ ys) (rises_tail x xs up) up' part'))
]

pub increasing_from : (xs : List ℕ) → Rises xs → IsStrictlyIncreasing xs
increasing_from xs up = λ k l. up k (k + 1) 0 (omega arith) l

pub rises_from : (xs : List ℕ) → IsStrictlyIncreasing xs → Rises xs
rises_from xs up = AllPairs-from_increasing xs up

-- codes of the map and their voxels
pub codes_of_voxels : (cs : List ℕ) → All (λ c. c < 2 ^ 48) cs
    → map morton_of (map coded_voxel cs) ≡ cs
codes_of_voxels [] below = refl
codes_of_voxels (c ∷ cs) below =
    rw (
      morton_of-coded_voxel c (All-head (λ c. c < 2 ^ 48) c cs below),
      codes_of_voxels cs (All-tail (λ c. c < 2 ^ 48) c cs below),
    ) refl

pub voxels_in_map : (cs : List ℕ) → All IsInMap (map coded_voxel cs)
voxels_in_map cs = all_contained IsInMap (map coded_voxel cs)
    (λ k h. let r = contains_from_map coded_voxel cs k h in
    subst IsInMap r.2 (coded_voxel-IsInMap r.0))

-- a voxel of the map stands among the voxels of the codes exactly where its code is one of them
pub voxel_listed : (cs : List ℕ) (k : Voxel) → IsInMap k → Contains cs (morton_of k)
    → Contains (map coded_voxel cs) k
voxel_listed cs k on_k h =
    subst (λ m. Contains (map coded_voxel cs) m) (coded_voxel-morton_of k on_k)
    (contains_map coded_voxel cs (morton_of k) h)

pub code_listed : (cs : List ℕ) (k : Voxel) → All (λ c. c < 2 ^ 48) cs
    → Contains (map coded_voxel cs) k → Contains cs (morton_of k)
code_listed cs k below h =
    let r = contains_from_map coded_voxel cs k h in
    let e : r.0 ≡ morton_of k =
    sym (morton_of-coded_voxel r.0 (All-contains (λ c. c < 2 ^ 48) cs r.0 below r.1))
    ∙ ap morton_of r.2 in
    subst (Contains cs) e r.1

-- a bound of one list holds of a list with the same numbers
pub same_bound : (xs ys : List ℕ) (n : ℕ) → ((c : ℕ) → Contains xs c ↔ Contains ys c)
    → All (λ c. c < n) xs → All (λ c. c < n) ys
same_bound xs ys n same h =
    all_contained (λ c. c < n) ys (λ c k. All-contains (λ c. c < n) xs c h ((same c).1 k))

-- the voxel that has a code is the one that is gathered from it
pub voxel_is : (k : Voxel) (code : ℕ) → code < 2 ^ 48
    → ((l : Voxel) → IsInMap l → morton_of l ≡ code → l ≡ k) → k ≡ coded_voxel code
voxel_is k code below only =
    sym (only (coded_voxel code) (coded_voxel-IsInMap code) (morton_of-coded_voxel code below))
