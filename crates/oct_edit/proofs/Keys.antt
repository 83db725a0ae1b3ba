-- Voxels in the order of their Morton codes: which child of a block holds them, and
-- what is found in a part of them.
use Rattle.std.proofs.Common.{◌≡◌, ℕ, ◌+◌, ◌-◌, ◌*◌, ◌/◌, ◌%◌, ◌^◌, ◌<◌, ◌≤◌, Bool, true, false}
use Rattle.std.proofs.Common.{List, [], ◌∷◌, ◌++◌, map, length, get_or, take, drop, inl, inr, refl}
use Rattle.std.proofs.Common.{sym}
use Rattle.std.proofs.Common.{subst, ◌∙◌, ap, arith}
use Rattle.std.specs.Prelude.{◌||◌}
use Rattle.std.specs.List.{All}
use Rattle.std.specs.List.Sorted.{IsNonDecreasingBy}
use Rattle.std.proofs.lemmas.Bool.{false≢true, cases_eq}
use Rattle.std.proofs.lemmas.List.{take-append-drop, get_or-map, length-map}
use Rattle.std.proofs.lemmas.List.Elements.{All-take, All-drop}
use Rattle.std.proofs.lemmas.List.Folds.{list_any-append}
use Rattle.std.proofs.lemmas.List.Kept.{AllPairs-from_increasing}
use Rattle.std.proofs.lemmas.List.Sorted.{IsNonDecreasingBy-take, IsNonDecreasingBy-drop}
use Rattle.std.proofs.Math.Nat.{div-div-eq-div-mul}
use Rattle.std.proofs.lemmas.Nat.{le-div, pow-add}
use Rattle.std.proofs.Math.Nat.{div-mul-le_self}
use Rattle.oct_key.specs.Voxel.{Voxel, IsInMap}
use Rattle.oct_key.specs.Values.{is_same_voxel}
use Rattle.oct_key.specs.Block.{Cube, HoldsVoxel, child_of, child_index_of, root_block}
use Rattle.oct_key.specs.Morton.{morton_of, code_prefix}
use Rattle.oct_key.proofs.Blocks.{child_holds, depth_child_of, root_holds}
use Rattle.oct_key.proofs.Interleavings.{digit_of_morton, morton_below}
use Rattle.oct_key.proofs.SameVoxels.{is_same_voxel_exact}
use Rattle.oct_values.specs.Events.{IsAscending, is_listed}
use Rattle.oct_values.proofs.Sums.{first_of_all, rest_of_all}
use Rattle.oct_edit.proofs.Rooms.{or_cases}
use Rattle.oct_edit.specs.Parts.{AreIn}
use Rattle.oct_edit.proofs.UnderWay.{AreLeft}

-- a list of voxels is cut in two: those in the children up to one of the block of this depth, and
-- those in later ones
pub record IsParted (depth i : ℕ) (keys part later : List Voxel) : Type 0 where
  pub count : ℕ
  pub first : part ≡ take count keys
  pub last : later ≡ drop count keys
  pub here : All (λ k. child_index_of depth k ≤ i) part
  pub after : All (λ k. i + 1 ≤ child_index_of depth k) later

-- a quotient doesn't fall as its number rises
pub quotient_rises : (m n d : ℕ) → 0 < d → m ≤ n → m / d ≤ n / d
quotient_rises m n d some l =
    (let part = div-mul-le_self m d in le-div (m / d) n d some (omega (arith, part, l)))

-- a code without three more digits
next_prefix : (m h : ℕ) → m / 2 ^ (3 * h) / 8 ≡ m / 2 ^ (3 * (h + 1))
next_prefix m h =
    let more : 3 * (h + 1) ≡ 3 * h + 3 = omega arith in
    div-div-eq-div-mul m (2 ^ (3 * h)) 8
    ∙ ap (λ (n : ℕ). m / n) (sym (ap (λ (n : ℕ). 2 ^ n) more ∙ pow-add 2 (3 * h) 3))

-- the digits of a code down to a depth, without the last
pub prefix_above : (depth m : ℕ) → depth ≤ 15 → m / 2 ^ (3 * (15 - depth)) / 8 ≡ code_prefix depth m
prefix_above depth m low =
    (let deep : 15 - depth + 1 ≡ 16 - depth = omega arith in
    next_prefix m (15 - depth) ∙ ap (λ (n : ℕ). m / 2 ^ (3 * n)) deep)

-- the beginning of a code, one digit longer
pub longer_prefix : (depth : ℕ) (k : Voxel) → depth ≤ 15
    → code_prefix (depth + 1) (morton_of k)
    ≡ 8 * code_prefix depth (morton_of k) + child_index_of depth k
longer_prefix depth k low =
    let level : 16 - (depth + 1) ≡ 15 - depth = omega arith in
    ap (λ (n : ℕ). morton_of k / 2 ^ (3 * n)) level
    ∙ digits _ _ _ (prefix_above depth (morton_of k) low) (digit_of_morton depth k low)
  where
    digits : (m n i : ℕ) → m / 8 ≡ n → m % 8 ≡ i → m ≡ 8 * n + i
    digits m n i e f = omega arith

-- ascending voxels rise
pub rise_from : (keys : List Voxel) → IsAscending keys → IsNonDecreasingBy morton_of keys
rise_from keys up i j d l m =
    let n : length (map morton_of keys) ≡ length keys = length-map keys morton_of in
    let at_i = get_or-map morton_of keys i d 0 (omega arith) in
    let at_j = get_or-map morton_of keys j d 0 m in
    elim (cases_eq i j) [
      | inl same ↦ (let e : morton_of (get_or keys i d)
          ≡ morton_of (get_or keys j d) = ap (λ n. morton_of (get_or keys n d)) same in
          omega (arith, e))
      | inr other ↦ (let below = AllPairs-from_increasing (map morton_of keys) up i j 0
          (omega arith) (omega (arith, n, m)) in
          omega (arith, at_i, at_j, below))
    ]

-- what is listed has what all have
pub listed_has : (P : Voxel → Type 0) (keys : List Voxel) (k : Voxel) → All P keys
    → is_listed keys k ≡ true → P k
listed_has P [] k h found = absurd (false≢true found)
listed_has P (x ∷ keys) k h found = elim (or_cases (is_same_voxel k x) (is_listed keys k) found) [
  | inl here ↦ subst P (sym (is_same_voxel_exact k x here)) (first_of_all P x keys h)
  | inr later ↦ listed_has P keys k (rest_of_all P x keys h) later
]

pub unlisted : (P : Voxel → Type 0) (keys : List Voxel) (k : Voxel) → All P keys → (P k → ⊥)
    → is_listed keys k ≡ false
unlisted P keys k h out = go (is_listed keys k) refl
  where
    go : (found : Bool) → is_listed keys k ≡ found → is_listed keys k ≡ false
    go true e = absurd (out (listed_has P keys k h e))
    go false e = e

-- a voxel is listed in the one part or in the other
pub listed_parted : (depth i : ℕ) (keys part later : List Voxel) (k : Voxel)
    → IsParted depth i keys part later → is_listed keys k ≡ (is_listed part k || is_listed later k)
listed_parted depth i keys part later k h =
    ap (λ list. is_listed list k)
    (sym (take-append-drop h.count keys) ∙ ap (λ list. list ++ drop h.count keys) (sym h.first)
    ∙ ap (λ list. part ++ list) (sym h.last))
    ∙ list_any-append (is_same_voxel k) part later

-- those in the child up to which a list is cut are listed in the first part
pub listed_here : (depth i : ℕ) (keys part later : List Voxel) (k : Voxel)
    → IsParted depth i keys part later → child_index_of depth k ≤ i
    → is_listed part k ≡ is_listed keys k
listed_here depth i keys part later k h low =
    let none : is_listed later k ≡ false =
    unlisted (λ q. i + 1 ≤ child_index_of depth q) later k h.after (λ l. absurd (omega arith)) in
    sym (listed_parted depth i keys part later k h ∙ ap (λ test. is_listed part k || test) none
    ∙ or_none (is_listed part k))
  where
    or_none : (a : Bool) → (a || false) ≡ a
    or_none true = refl
    or_none false = refl

-- and later ones in the second
pub listed_after : (depth i : ℕ) (keys part later : List Voxel) (k : Voxel)
    → IsParted depth i keys part later → i + 1 ≤ child_index_of depth k
    → is_listed later k ≡ is_listed keys k
listed_after depth i keys part later k h high =
    let none : is_listed part k ≡ false =
    unlisted (λ q. child_index_of depth q ≤ i) part k h.here (λ l. absurd (omega arith)) in
    sym (listed_parted depth i keys part later k h ∙ ap (λ test. test || is_listed later k) none)

-- the parts lie where the whole does, in the same order
pub first_part_in : (b : Cube) (i : ℕ) (keys part later : List Voxel) → AreIn b keys
    → IsParted b.depth i keys part later → AreIn b part
first_part_in b i keys part later h parted = subst (AreIn b) (sym parted.first) (record {
  held = All-take (λ k. IsInMap k → HoldsVoxel b k) parted.count keys h.held;
  prefix = h.prefix;
  alike = All-take (λ k. code_prefix b.depth (morton_of k) ≡ h.prefix) parted.count keys h.alike;
  rise = IsNonDecreasingBy-take morton_of parted.count keys h.rise;
})

pub last_part_in : (b : Cube) (i : ℕ) (keys part later : List Voxel) → AreIn b keys
    → IsParted b.depth i keys part later → AreIn b later
last_part_in b i keys part later h parted = subst (AreIn b) (sym parted.last) (record {
  held = All-drop (λ k. IsInMap k → HoldsVoxel b k) parted.count keys h.held;
  prefix = h.prefix;
  alike = All-drop (λ k. code_prefix b.depth (morton_of k) ≡ h.prefix) parted.count keys h.alike;
  rise = IsNonDecreasingBy-drop morton_of parted.count keys h.rise;
})

-- the voxels up to a child are those of the child, where none is in an earlier one
pub part_of_child : (b : Cube) (i : ℕ) (keys part later : List Voxel) → b.depth ≤ 15 → i < 8
    → AreIn b keys → All (λ k. i ≤ child_index_of b.depth k) keys
    → IsParted b.depth i keys part later → AreIn (child_of b i) part
part_of_child b i keys part later low few h from parted =
    let inside = first_part_in b i keys part later h parted in
    let least : All (λ k. i ≤ child_index_of b.depth k) part =
    subst (All (λ k. i ≤ child_index_of b.depth k)) (sym parted.first)
    (All-take (λ k. i ≤ child_index_of b.depth k) parted.count keys from) in
    let child : All (λ k. child_index_of b.depth k ≡ i) part =
    λ n d l. (let a = least n d l in let z = parted.here n d l in omega (arith, a, z)) in
    record {
      held =
          λ n d l v. (child_holds b i (get_or part n d) (omega arith) few).1
          (inside.held n d l v, child n d l);
      prefix = 8 * inside.prefix + i;
      alike = λ n d l. (let a = inside.alike n d l in let e = child n d l in
          ap (λ m. code_prefix m (morton_of (get_or part n d))) (depth_child_of b i)
          ∙ longer_prefix b.depth (get_or part n d) low
          ∙ ap (λ m. 8 * m + child_index_of b.depth (get_or part n d)) a
          ∙ ap (λ m. 8 * inside.prefix + m) e);
      rise = inside.rise;
    }

-- keys in order lie in the block of the whole map
pub all_in_root : (keys : List Voxel) → IsAscending keys → AreIn root_block keys
all_in_root keys up = record {
  held = λ n d l v. root_holds (get_or keys n d) v;
  prefix = 0;
  alike =
      λ n d l. (let below = morton_below (get_or keys n d) in
      quotient_zero (morton_of (get_or keys n d)) below);
  rise = rise_from keys up;
}
  where
    quotient_zero : (m : ℕ) → m < 2 ^ 48 → m / 2 ^ 48 ≡ 0
    quotient_zero m l = omega (arith, l)

-- what is left at the start
pub all_left : (b : Cube) (keys : List Voxel) → AreIn b keys → AreLeft b 0 keys keys
all_left b keys h = record { inside = h; from = λ n d l. omega arith; listed = λ k l. refl }

-- what is left after a part
pub left_after : (b : Cube) (j i : ℕ) (keys rest part later : List Voxel) → j ≤ i
    → AreLeft b j keys rest → IsParted b.depth i rest part later → AreLeft b (i + 1) keys later
left_after b j i keys rest part later l h parted = record {
  inside = last_part_in b i rest part later h.inside parted;
  from = parted.after;
  listed =
      λ k high. listed_after b.depth i rest part later k parted high ∙ h.listed k (omega arith);
}
