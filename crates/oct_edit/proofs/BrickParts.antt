-- The voxels of bricks, and of parts of bricks, in the children of a block.
use Rattle.std.proofs.Common.{◌≡◌, ◌≢◌, ℕ, ◌+◌, ◌-◌, ◌*◌, ◌/◌, ◌%◌, ◌^◌, ◌<◌, ◌≤◌, ◌↔◌, ◌⊎◌, Bool}
use Rattle.std.proofs.Common.{true, false, ◌||◌, List, [], ◌∷◌, ◌++◌, map, length, take, drop}
use Rattle.std.proofs.Common.{get_or, inl, inr, refl, sym, subst, ◌∙◌, ap, arith, Some, leb}
use Rattle.std.proofs.Common.{bit_and}
use Rattle.std.specs.Prelude.{slice_get}
use Rattle.std.specs.List.{All, Contains}
use Rattle.std.specs.Int.{bit_not, w64, trailing_zeros}
use Rattle.std.specs.List.Sorted.{IsNonDecreasingBy, IsPartitionPoint}
use Rattle.std.proofs.Math.Nat.{div-div-eq-div-mul, pow-le-pow_right}
use Rattle.std.proofs.lemmas.Nat.{pow-add, pow_pos, and_le_l}
use Rattle.std.proofs.lemmas.Bool.{cases_lt, leb-true, leb-false}
use Rattle.std.proofs.lemmas.List.{take-append-drop, length-take, take_more, take_all, length-drop}
use Rattle.std.proofs.lemmas.List.{get_or-take, get_or-drop, map-append}
use Rattle.std.proofs.lemmas.List.Elements.{All-contains, All-head, Contains-append_left}
use Rattle.std.proofs.lemmas.List.Elements.{Contains-append_right, Contains-append_cases}
use Rattle.std.proofs.lemmas.List.Elements.{Contains-push_cases}
use Rattle.oct_key.specs.Voxel.{Voxel, IsInMap}
use Rattle.oct_key.specs.Values.{is_same_voxel}
use Rattle.oct_key.specs.Block.{Cube, child_index_of}
use Rattle.oct_key.specs.Morton.{morton_of, code_prefix}
use Rattle.oct_key.proofs.Interleavings.{digit_of_morton}
use Rattle.oct_key.proofs.SameVoxels.{is_same_voxel_refl}
use Rattle.oct_values.specs.Events.{is_listed}
use Rattle.oct_brick.specs.declared.brick.Brick.{Brick}
use Rattle.oct_brick.specs.Masks.{HasCode}
use Rattle.oct_brick.specs.Bricks.{IsBrick, AreAscending, frees_of, hit_codes, freed_codes}
use Rattle.oct_brick.specs.Voxels.{coded_voxel, hit_voxels, freed_voxels}
use Rattle.oct_brick.proofs.Lists.{contains_none, contains_here, contains_later, contains_cases}
use Rattle.oct_brick.proofs.Lists.{contains_from_map, all_contained, pairs_append}
use Rattle.oct_brick.proofs.Bits.{and_not, and_both, none_set, has_tells, some_code, not_has}
use Rattle.oct_brick.proofs.BrickCodes.{codes_by, by_tells, by_listed, by_one, by_parted, by_below}
use Rattle.oct_brick.proofs.BrickCodes.{by_rises}
use Rattle.oct_brick.proofs.Merging.{same_default}
use Rattle.oct_brick.proofs.Rising.{Rises, same_rising}
use Rattle.oct_brick.proofs.CodedVoxels.{coded_voxel-IsInMap, morton_of-coded_voxel}
use Rattle.oct_edit.specs.Bricks.{brick_child, AreCut, IsMasked}
use Rattle.oct_edit.specs.Parts.{AreIn, IsFirstChild}
use Rattle.oct_edit.proofs.Keys.{IsParted, prefix_above, quotient_rises}

-- which child of a block of this depth a code is in
abbrev pub digit : ℕ → ℕ → ℕ
digit depth c = c / 2 ^ (3 * (15 - depth)) % 8

pub child_of_code : (depth c : ℕ) → depth ≤ 15 → c < 2 ^ 48
    → child_index_of depth (coded_voxel c) ≡ digit depth c
child_of_code depth c low below =
    sym (digit_of_morton depth (coded_voxel c) low)
    ∙ ap (λ (m : ℕ). m / 2 ^ (3 * (15 - depth)) % 8) (morton_of-coded_voxel c below)

-- a voxel of a list of codes is that of one of them
pub from_codes : (P : Voxel → Type 0) (cs : List ℕ) → ((c : ℕ) → Contains cs c → P (coded_voxel c))
    → All P (map coded_voxel cs)
from_codes P cs h =
    all_contained P (map coded_voxel cs)
    (λ k m. let r = contains_from_map coded_voxel cs k m in subst P r.2 (h r.0 r.1))

pub code_is_listed : (cs : List ℕ) (c : ℕ) → Contains cs c
    → is_listed (map coded_voxel cs) (coded_voxel c) ≡ true
code_is_listed [] c h = absurd (contains_none c h)
code_is_listed (x ∷ cs) c h = elim (contains_cases x c cs h) [
  | inl e ↦ ap (λ a. a || is_listed (map coded_voxel cs) (coded_voxel c))
      (ap (λ (y : ℕ). is_same_voxel (coded_voxel c) (coded_voxel y)) e
      ∙ is_same_voxel_refl (coded_voxel c))
  | inr k ↦ ap (λ a. is_same_voxel (coded_voxel c) (coded_voxel x) || a) (code_is_listed cs c k)
      ∙ or_true (is_same_voxel (coded_voxel c) (coded_voxel x))
]
  where
    or_true : (a : Bool) → (a || true) ≡ true
    or_true true = refl
    or_true false = refl

take_front : {X : Type 0} (xs ys : List X) → take (length xs) (xs ++ ys) ≡ xs
take_front [] ys = refl
take_front (x ∷ xs) ys = ap (λ l. x ∷ l) (take_front xs ys)

drop_front : {X : Type 0} (xs ys : List X) → drop (length xs) (xs ++ ys) ≡ ys
drop_front [] ys = refl
drop_front (x ∷ xs) ys = drop_front xs ys

-- a code of an earlier child is smaller
earlier : (depth i c d : ℕ) → depth ≤ 15 → code_prefix depth c ≡ code_prefix depth d
    → digit depth c ≤ i → i + 1 ≤ digit depth d → c < d
earlier depth i c d low same l m = elim (cases_lt c d) [
  | inl less ↦ less
  | inr more ↦ absurd (ascend (c / 2 ^ (3 * (15 - depth))) (d / 2 ^ (3 * (15 - depth)))
      (prefix_above depth c low ∙ same ∙ sym (prefix_above depth d low))
      (quotient_rises d c (2 ^ (3 * (15 - depth))) (pow_pos (3 * (15 - depth))) more) l m)
]
  where
    ascend : (a b : ℕ) → a / 8 ≡ b / 8 → b ≤ a → a % 8 ≤ i → i + 1 ≤ b % 8 → ⊥
    ascend a b e le l m = omega (arith, e, le, l, m)

-- codes that lie in a block begin alike
pub alike_codes : (b : Cube) (cs : List ℕ) → AreIn b (map coded_voxel cs) → All (λ c. c < 2 ^ 48) cs
    → (c d : ℕ) → Contains cs c → Contains cs d → code_prefix b.depth c ≡ code_prefix b.depth d
alike_codes b cs h below c d hc hd = one c hc ∙ sym (one d hd)
  where
    one : (c : ℕ) → Contains cs c → code_prefix b.depth c ≡ h.prefix
    one c m =
        let l = All-contains (λ c. c < 2 ^ 48) cs c below m in
        let there : Contains (map coded_voxel cs) (coded_voxel c) = listed_code cs c m in
        ap (code_prefix b.depth) (sym (morton_of-coded_voxel c l))
        ∙ All-contains (λ k. code_prefix b.depth (morton_of k) ≡ h.prefix) (map coded_voxel cs)
        (coded_voxel c) h.alike there
      where
        listed_code : (cs : List ℕ) (c : ℕ) → Contains cs c
            → Contains (map coded_voxel cs) (coded_voxel c)
        listed_code [] c h = absurd (contains_none c h)
        listed_code (x ∷ cs) c h = elim (contains_cases x c cs h) [
          | inl e ↦ subst (λ y. Contains (map coded_voxel (x ∷ cs)) (coded_voxel y)) e
              (contains_here (coded_voxel x) (map coded_voxel cs))
          | inr k ↦ contains_later (coded_voxel x) (coded_voxel c) (map coded_voxel cs)
              (listed_code cs c k)
        ]

-- codes in order that are those of an earlier part and of a later one are cut there
pub parted_codes : (b : Cube) (i : ℕ) (cs xs ys : List ℕ) → b.depth ≤ 15
    → AreIn b (map coded_voxel cs) → All (λ c. c < 2 ^ 48) cs → Rises cs → Rises xs → Rises ys
    → ((c : ℕ) → Contains cs c ↔ (Contains xs c ⊎ Contains ys c))
    → ((c : ℕ) → Contains xs c → digit b.depth c ≤ i)
    → ((c : ℕ) → Contains ys c → i + 1 ≤ digit b.depth c)
    → IsParted b.depth i (map coded_voxel cs) (map coded_voxel xs) (map coded_voxel ys)
parted_codes b i cs xs ys low inside below up up_x up_y same here after =
    let depth : ℕ = b.depth in
    let in_x : (c : ℕ) → Contains xs c → Contains cs c = λ c h. (same c).1 (inl h) in
    let in_y : (c : ℕ) → Contains ys c → Contains cs c = λ c h. (same c).1 (inr h) in
    let small : (c : ℕ) → Contains cs c → c < 2 ^ 48 =
    λ c h. All-contains (λ c. c < 2 ^ 48) cs c below h in
    let joined_up : Rises (xs ++ ys) =
    pairs_append (λ m n. m < n) xs ys up_x up_y
    (λ c d hc hd. earlier depth i c d low (alike_codes b cs inside below c d (in_x c hc)
    (in_y d hd)) (here c hc) (after d hd)) in
    let whole : cs ≡ xs ++ ys = same_rising cs (xs ++ ys) up joined_up (λ c. (
      λ h. elim ((same c).0 h)
          [ inl k ↦ Contains-append_left xs ys c k | inr k ↦ Contains-append_right xs ys c k ],
      λ h. (same c).1 (Contains-append_cases xs ys c h),
    )) in
    let lists : map coded_voxel cs ≡ map coded_voxel xs ++ map coded_voxel ys =
    ap (map coded_voxel) whole ∙ map-append coded_voxel xs ys in
    record {
      count = length (map coded_voxel xs);
      first =
          sym (ap (take (length (map coded_voxel xs))) lists ∙ take_front (map coded_voxel xs)
          (map coded_voxel ys));
      last =
          sym (ap (drop (length (map coded_voxel xs))) lists ∙ drop_front (map coded_voxel xs)
          (map coded_voxel ys));
      here =
          from_codes (λ k. child_index_of depth k ≤ i) xs
          (λ c h. (let d = child_of_code depth c low (small c (in_x c h)) in
          let l = here c h in
          omega (arith, d, l)));
      after =
          from_codes (λ k. i + 1 ≤ child_index_of depth k) ys
          (λ c h. (let d = child_of_code depth c low (small c (in_y c h)) in
          let l = after c h in
          omega (arith, d, l)));
    }

-- the first child with a code of the lists
pub first_codes : (depth i : ℕ) (hs fs : List ℕ) (c : ℕ) → depth ≤ 15 → All (λ c. c < 2 ^ 48) hs
    → All (λ c. c < 2 ^ 48) fs → ((d : ℕ) → Contains hs d → i ≤ digit depth d)
    → ((d : ℕ) → Contains fs d → i ≤ digit depth d) → c < 2 ^ 48 → digit depth c ≡ i
    → Contains hs c ⊎ Contains fs c → IsFirstChild depth (map coded_voxel hs) (map coded_voxel fs) i
first_codes depth i hs fs c low below_h below_f least_h least_f small is there = record {
  few = omega (arith, is);
  least_hit =
      from_codes (λ k. i ≤ child_index_of depth k) hs
      (λ d h. (let e = child_of_code depth d low
      (All-contains (λ c. c < 2 ^ 48) hs d below_h h) in
      let l = least_h d h in
      omega (arith, e, l)));
  least_free =
      from_codes (λ k. i ≤ child_index_of depth k) fs
      (λ d h. (let e = child_of_code depth d low
      (All-contains (λ c. c < 2 ^ 48) fs d below_f h) in
      let l = least_f d h in
      omega (arith, e, l)));
  voxel = coded_voxel c;
  in_map = coded_voxel-IsInMap c;
  there = child_of_code depth c low small ∙ is;
  listed = elim there [ inl h ↦ inl (code_is_listed hs c h) | inr h ↦ inr (code_is_listed fs c h) ];
}

-- the child of a brick is that of its codes
pub digit_of_brick : (depth b m c : ℕ) → depth ≤ 13 → HasCode b m c
    → digit depth c ≡ brick_child depth b
digit_of_brick depth b m c low h =
    let deep : 3 * (15 - depth) ≡ 6 + 3 * (13 - depth) = omega (arith, low) in
    let split : c / 2 ^ (3 * (15 - depth)) ≡ c / 64 / 2 ^ (3 * (13 - depth)) =
    ap (λ (n : ℕ). c / n) (ap (λ (n : ℕ). 2 ^ n) deep ∙ pow-add 2 6 (3 * (13 - depth)))
    ∙ sym (div-div-eq-div-mul c 64 (2 ^ (3 * (13 - depth)))) in
    ap (λ (n : ℕ). n % 8) (split ∙ ap (λ (n : ℕ). n / 2 ^ (3 * (13 - depth))) h.inside)

-- a code that a brick has is one that it hits or one that it frees
pub hit_or_free : (b : Brick) (c : ℕ) → IsBrick b → HasCode b.code b.scanned c
    → HasCode b.code b.hits c ⊎ HasCode b.code (frees_of b) c
hit_or_free b c brick h = elim (has_tells b.code b.hits c h.inside) [
  | inl k ↦ inl k
  | inr k ↦ inr ((and_not b.code b.scanned b.hits c brick.hits_fit).1 (h, k))
]

small_codes : (bs : List Brick) → All IsBrick bs → All (λ b. b.code < 2 ^ 42) bs
small_codes bs h =
    all_contained (λ b. b.code < 2 ^ 42) bs (λ b m. (All-contains IsBrick bs b h m).code)

-- the first brick's child is the first child
pub first_of_bricks : (depth : ℕ) (bs : List Brick) (b : Brick) → depth ≤ 13 → All IsBrick bs
    → slice_get bs 0 ≡ Some b → IsNonDecreasingBy (λ b. brick_child depth b.code) bs
    → IsFirstChild depth (hit_voxels bs) (freed_voxels bs) (brick_child depth b.code)
first_of_bricks depth [] b low bricks first up = cc
first_of_bricks depth (x ∷ bs) b low bricks first up =
    let same : x ≡ b = cc in
    let brick : IsBrick x = All-head IsBrick x bs bricks in
    let least : (a : Brick) → Contains (x ∷ bs) a
    → brick_child depth b.code ≤ brick_child depth a.code =
    λ a h. subst (λ (y : Brick). brick_child depth y.code ≤ brick_child depth a.code) same
    (at_least x bs a up h) in
    let of_codes : (f : Brick → ℕ) (d : ℕ) → Contains (codes_by f (x ∷ bs)) d
    → brick_child depth b.code ≤ digit depth d =
    λ f d h.
    (let r = by_tells f (x ∷ bs) d h in
    let e = digit_of_brick depth r.0.code (f r.0) d low r.2 in
    let l = least r.0 r.1 in
    omega (arith, e, l)) in
    let c : ℕ = 64 * x.code + trailing_zeros w64 x.scanned in
    let has : HasCode x.code x.scanned c = some_code x.code x.scanned brick.some brick.fits in
    let small = small_codes (x ∷ bs) bricks in
    let here : Contains (x ∷ bs) x = contains_here x bs in
    first_codes depth (brick_child depth b.code) (hit_codes (x ∷ bs)) (freed_codes (x ∷ bs)) c
    (omega (arith, low)) (by_below (λ b. b.hits) (x ∷ bs) small)
    (by_below frees_of (x ∷ bs) small) (of_codes (λ b. b.hits)) (of_codes frees_of)
    (let l = brick.code in let i = has.inside in omega (arith, l, i))
    (digit_of_brick depth x.code x.scanned c low has
    ∙ ap (λ (y : Brick). brick_child depth y.code) same)
    (elim (hit_or_free x c brick has) [
      | inl h ↦ inl (by_listed (λ b. b.hits) (x ∷ bs) c x here h)
      | inr h ↦ inr (by_listed frees_of (x ∷ bs) c x here h)
    ])
  where
    at_least : (x : Brick) (bs : List Brick) (a : Brick)
        → IsNonDecreasingBy (λ b. brick_child depth b.code) (x ∷ bs) → Contains (x ∷ bs) a
        → brick_child depth x.code ≤ brick_child depth a.code
    at_least x bs a up h =
        subst (λ (y : Brick). brick_child depth x.code ≤ brick_child depth y.code) h.2
        (up 0 h.0 a (omega arith) h.1)

-- bricks that are cut have voxels that are
pub cut_parted : (f : Brick → ℕ) (b : Cube) (i : ℕ) (bs xs ys : List Brick) → b.depth ≤ 13
    → All IsBrick bs → AreAscending bs → AreAscending xs → AreAscending ys
    → AreIn b (map coded_voxel (codes_by f bs)) → AreCut b.depth i bs xs ys
    → IsParted b.depth i (map coded_voxel (codes_by f bs)) (map coded_voxel (codes_by f xs))
    (map coded_voxel (codes_by f ys))
cut_parted f b i bs xs ys low bricks ascend apart_x apart_y inside cut =
    let whole : bs ≡ xs ++ ys =
    sym (take-append-drop cut.count bs)
    ∙ sym (ap (λ l. l ++ ys) cut.first ∙ ap (λ l. take cut.count bs ++ l) cut.last) in
    parted_codes b i (codes_by f bs) (codes_by f xs) (codes_by f ys) (omega (arith, low)) inside
    (by_below f bs (small_codes bs bricks)) (by_rises f bs ascend) (by_rises f xs apart_x)
    (by_rises f ys apart_y)
    (λ c.
    subst (λ (l : List Brick). Contains (codes_by f l) c ↔ (Contains (codes_by f xs) c
    ⊎ Contains (codes_by f ys) c))
    (sym whole) (by_parted f xs ys c))
    (λ c h. (let r = by_tells f xs c h in
    let e = digit_of_brick b.depth r.0.code (f r.0) c low r.2 in
    let l = All-contains (λ a. brick_child b.depth a.code ≤ i) xs r.0 cut.here r.1 in
    omega (arith, e, l)))
    (λ c h. (let r = by_tells f ys c h in
    let e = digit_of_brick b.depth r.0.code (f r.0) c low r.2 in
    let l = All-contains (λ a. i + 1 ≤ brick_child b.depth a.code) ys r.0 cut.after r.1 in
    omega (arith, e, l)))

shifted_octet : (p q : ℕ) → q ≡ 256 * p → q ≤ 2 ^ 64 → 255 * p % 2 ^ 64 ≡ q - p
shifted_octet p q e l = omega (arith, e, l)

-- the eight bits of an octet, as they are made
pub octet_bits_are : (i : ℕ) → i < 8 → 255 * 2 ^ (8 * i) % 2 ^ 64 ≡ 2 ^ (8 * i + 8) - 2 ^ (8 * i)
octet_bits_are i few =
    let grown : 2 ^ (8 * i + 8) ≡ 2 ^ (8 * i) * 2 ^ 8 = pow-add 2 (8 * i) 8 in
    let deep : 8 * i + 8 ≤ 64 = omega (arith, few) in
    let fits : 2 ^ (8 * i + 8) ≤ 2 ^ 64 = pow-le-pow_right (omega arith) deep in
    shifted_octet (2 ^ (8 * i)) (2 ^ (8 * i + 8)) (omega (arith, grown)) fits

-- bricks are cut where a test turns
pub cut_at : (depth i count : ℕ) (bs xs ys : List Brick) → xs ≡ take count bs → ys ≡ drop count bs
    → count ≤ length bs
    → IsPartitionPoint (λ b. leb (brick_child depth b.code) i ≡ true)
    (λ b. leb (brick_child depth b.code) i ≡ false) bs count
    → AreCut depth i bs xs ys
cut_at depth i count bs xs ys first last within point = record {
  count = count;
  first = first;
  last = last;
  here = subst (All (λ b. brick_child depth b.code ≤ i)) (sym first) (λ n d l.
      (let size = length-take count bs in
      let there : n < count = omega (arith, size, l) in
      subst (λ (b : Brick). brick_child depth b.code ≤ i) (sym (get_or-take count bs n d there))
      (leb-true _ _ (point.0 n d (omega arith) there))));
  after = subst (All (λ b. i + 1 ≤ brick_child depth b.code)) (sym last) (λ n d l.
      (let size = length-drop count bs in
      let there : count + n < length bs = omega (arith, size, l) in
      subst (λ (b : Brick). i + 1 ≤ brick_child depth b.code) (sym (get_or-drop count bs n d))
      (let over = leb-false _ _ (point.1 (count + n) d (omega arith) there) in
      omega (arith, over))));
}

-- what is left of a brick, and nothing where its masks are 0
pub record IsRest (whole rest : Brick) : Type 0 where
  pub code : rest.code ≡ whole.code
  pub fits : rest.scanned < 2 ^ 64
  pub hits_fit : rest.hits < 2 ^ 64
  pub part : (c : ℕ) → HasCode rest.code rest.hits c → HasCode rest.code rest.scanned c

-- what a brick's part within a mask has
has_within : (b m part x c : ℕ) → part ≡ bit_and m x
    → HasCode b part c ↔ (HasCode b m c × HasCode b x c)
has_within b m part x c e =
    subst (λ y. HasCode b y c ↔ (HasCode b m c × HasCode b x c)) (sym e) (and_both b m x c)

pub hits_within : (r p : Brick) (x c : ℕ) → IsMasked r x p
    → HasCode p.code p.hits c ↔ (HasCode r.code r.hits c × HasCode r.code x c)
hits_within r p x c h =
    subst (λ b. HasCode b p.hits c ↔ (HasCode r.code r.hits c × HasCode r.code x c)) (sym h.code)
    (has_within r.code r.hits p.hits x c h.hits)

pub scanned_within : (r p : Brick) (x c : ℕ) → IsMasked r x p
    → HasCode p.code p.scanned c ↔ (HasCode r.code r.scanned c × HasCode r.code x c)
scanned_within r p x c h =
    subst (λ b. HasCode b p.scanned c ↔ (HasCode r.code r.scanned c × HasCode r.code x c))
    (sym h.code) (has_within r.code r.scanned p.scanned x c h.scanned)

pub below_within : (m part x : ℕ) → m < 2 ^ 64 → part ≡ bit_and m x → part < 2 ^ 64
below_within m part x l e = omega (arith, l, e, and_le_l m x)

pub frees_within : (r p : Brick) (x c : ℕ) → r.hits < 2 ^ 64 → IsMasked r x p
    → HasCode p.code (frees_of p) c ↔ (HasCode r.code (frees_of r) c × HasCode r.code x c)
frees_within r p x c l h =
    let part = and_not p.code p.scanned p.hits c (below_within r.hits p.hits x l h.hits) in
    let whole = and_not r.code r.scanned r.hits c l in
    let scanned = scanned_within r p x c h in
    let hits = hits_within r p x c h in (
      λ k. (let a = part.0 k in
          let s = scanned.0 a.0 in
          (whole.1 (s.0, λ m. a.1 (hits.1 (m, s.1))), s.1)),
      λ k. (let a = whole.0 k.0 in part.1 (scanned.1 (a.0, k.1), λ m. a.1 (hits.0 m).0)),
    )

-- the codes of a brick's parts within a mask and without it are those of the brick
pub halves : (f : Brick → ℕ) (r p q : Brick) (x y : ℕ) → x < 2 ^ 64 → y ≡ bit_not w64 x
    → ((c : ℕ) → HasCode p.code (f p) c ↔ (HasCode r.code (f r) c × HasCode r.code x c))
    → ((c : ℕ) → HasCode q.code (f q) c ↔ (HasCode r.code (f r) c × HasCode r.code y c)) → (c : ℕ)
    → Contains (codes_by f (r ∷ [])) c
    ↔ (Contains (codes_by f (p ∷ [])) c ⊎ Contains (codes_by f (q ∷ [])) c)
halves f r p q x y l e in_p in_q c = (
  λ h. (let k = (by_one f r c).0 h in elim (has_tells r.code x c k.inside) [
    | inl m ↦ inl ((by_one f p c).1 ((in_p c).1 (k, m)))
    | inr m ↦ inr ((by_one f q c).1 ((in_q c).1 (k, outside k.inside m)))
  ]),
  λ h. (by_one f r c).1
      (elim h [
        | inl k ↦ ((in_p c).0 ((by_one f p c).0 k)).0
        | inr k ↦ ((in_q c).0 ((by_one f q c).0 k)).0
      ]),
)
  where
    outside : c / 64 ≡ r.code → ¬ HasCode r.code x c → HasCode r.code y c
    outside inside out = subst (λ z. HasCode r.code z c) (sym e) (not_has r.code x c l inside out)

-- bricks without a bit in a mask have no code in it
pub none_by : (f : Brick → ℕ) (bs : List Brick) → All (λ b. f b ≡ 0) bs → codes_by f bs ≡ []
none_by f bs none =
    nothing (codes_by f bs)
    (λ c h. let r = by_tells f bs c h in none_set r.0.code c
    (subst (λ m. HasCode r.0.code m c) (All-contains (λ b. f b ≡ 0) bs r.0 none r.1) r.2))
  where
    nothing : (cs : List ℕ) → ((c : ℕ) → Contains cs c → ⊥) → cs ≡ []
    nothing [] h = refl
    nothing (x ∷ cs) h = absurd (h x (contains_here x cs))

-- a bit gives a voxel that is listed
pub some_by : (f : Brick → ℕ) (bs : List Brick) (b : Brick) → Contains bs b → f b ≢ 0 → f b < 2 ^ 64
    → (k : Voxel) × IsInMap k × (is_listed (map coded_voxel (codes_by f bs)) k ≡ true)
some_by f bs b there some fits =
    let c : ℕ = 64 * b.code + trailing_zeros w64 (f b) in
    let more : 0 < f b = not_zero (f b) some in (
      coded_voxel c,
      coded_voxel-IsInMap c,
      code_is_listed (codes_by f bs) c
          (by_listed f bs c b there (some_code b.code (f b) more fits)),
    )
  where
    not_zero : (n : ℕ) → n ≢ 0 → 0 < n
    not_zero n ne = omega (arith, ne)

-- the bricks so far have no bit in a mask
pub none_so_far : (f : Brick → ℕ) (bs : List Brick) (i : ℕ) (d : Brick) → i < length bs
    → All (λ b. f b ≡ 0) (take i bs) → f (get_or bs i d) ≡ 0 → All (λ b. f b ≡ 0) (take (i + 1) bs)
none_so_far f bs i d l h e =
    subst (All (λ b. f b ≡ 0)) (sym (take_more bs i d l))
    (all_contained (λ b. f b ≡ 0) (take i bs ++ get_or bs i d ∷ [])
    (λ b k. elim (Contains-push_cases (take i bs) (get_or bs i d) b k) [
      | inl m ↦ All-contains (λ b. f b ≡ 0) (take i bs) b h m
      | inr s ↦
          subst (λ b. f b ≡ 0) s e
    ]))

pub none_at_all : (f : Brick → ℕ) (bs : List Brick) (i : ℕ) → length bs ≤ i
    → All (λ b. f b ≡ 0) (take i bs) → map coded_voxel (codes_by f bs) ≡ []
none_at_all f bs i l h =
    ap (map coded_voxel) (none_by f bs (subst (All (λ b. f b ≡ 0)) (take_all i bs l) h))

pub there_at : (bs : List Brick) (i : ℕ) (d : Brick) → i < length bs → Contains bs (get_or bs i d)
there_at bs i d l = (i, l, same_default bs i d (get_or bs i d) l)
