-- Bricks on their way down: what is left of a list of bricks when the part of a child is cut off.
use Rattle.std.proofs.Common.{◌≡◌, ℕ, ◌+◌, ◌-◌, ◌*◌, ◌/◌, ◌%◌, ◌^◌, ◌<◌, ◌≤◌, List, [], ◌∷◌, ◌++◌}
use Rattle.std.proofs.Common.{map, length, take, drop, get_or, inl, inr, refl, sym, subst, ◌∙◌, ap}
use Rattle.std.proofs.Common.{arith, Some}
use Rattle.std.specs.Prelude.{slice_get, IsSome}
use Rattle.std.specs.List.{All, Contains}
use Rattle.std.specs.Int.{w64, trailing_zeros}
use Rattle.std.specs.List.Sorted.{IsNonDecreasingBy, IsStrictlyIncreasing}
use Rattle.std.proofs.Math.Nat.{div-div-eq-div-mul}
use Rattle.std.proofs.lemmas.Nat.{pow-add, pow_pos}
use Rattle.std.proofs.lemmas.Bool.{cases_eq, cases_lt}
use Rattle.std.proofs.lemmas.List.{take-append-drop, length-append, length-take, length-drop}
use Rattle.std.proofs.lemmas.List.{get_or-take, get_or-drop}
use Rattle.std.proofs.lemmas.List.Elements.{All-contains, All-head, All-tail, All-take, All-drop}
use Rattle.oct_key.specs.Voxel.{Voxel, IsInMap}
use Rattle.oct_key.specs.Block.{root_block}
use Rattle.oct_key.specs.Morton.{morton_of}
use Rattle.oct_odds.specs.declared.event.Event.{Event}
use Rattle.oct_values.specs.Events.{IsAscending}
use Rattle.oct_brick.specs.declared.brick.Brick.{Brick}
use Rattle.oct_brick.specs.Bricks.{IsBrick, AreAscending, frees_of, hit_codes, freed_codes}
use Rattle.oct_brick.specs.Voxels.{coded_voxel, hit_voxels, freed_voxels}
use Rattle.oct_brick.proofs.Lists.{contains_here, all_contained}
use Rattle.oct_brick.proofs.Bits.{some_code, and_not}
use Rattle.oct_brick.proofs.BrickCodes.{codes_by, by_tells, by_listed, by_below, by_rises}
use Rattle.oct_brick.specs.Masks.{HasCode}
use Rattle.oct_brick.proofs.Merging.{same_default}
use Rattle.oct_brick.proofs.CodedVoxels.{coded_voxel-IsInMap, morton_of-coded_voxel}
use Rattle.oct_edit.specs.Listed.{update_of}
use Rattle.oct_edit.specs.Bricks.{brick_child, AreAlike, AreCut, IsFirstBrick}
use Rattle.oct_edit.specs.Parts.{IsUpdateIn}
use Rattle.oct_edit.specs.Scan.{events_of, AreDisjoint}
use Rattle.oct_edit.proofs.Keys.{quotient_rises, all_in_root, listed_has}
use Rattle.oct_edit.proofs.Shares.{some_event, reaches_of}
use Rattle.oct_edit.proofs.BrickParts.{code_is_listed, from_codes, hit_or_free}

-- the first brick's child is the first one with a brick
pub first_brick : (depth : ℕ) (bs : List Brick) (b : Brick) → slice_get bs 0 ≡ Some b
    → IsNonDecreasingBy (λ b. brick_child depth b.code) bs
    → IsFirstBrick depth bs (brick_child depth b.code)
first_brick depth [] b first up = cc
first_brick depth (x ∷ bs) b first up =
    let same : x ≡ b = cc in
    record {
      least =
          λ n d l. subst (λ (y : Brick). brick_child depth y.code ≤ brick_child depth
          (get_or (x ∷ bs) n d).code)
          same (up 0 n d (omega arith) l);
      brick = x;
      there = contains_here x bs;
      child = ap (λ (y : Brick). brick_child depth y.code) same;
    }

-- the beginning of a brick's code, one child longer
child_step : (depth c : ℕ) → depth ≤ 13
    → c / 2 ^ (3 * (13 - depth)) / 8 ≡ c / 2 ^ (3 * (14 - depth))
child_step depth c low =
    let more : 3 * (14 - depth) ≡ 3 * (13 - depth) + 3 = omega (arith, low) in
    div-div-eq-div-mul c (2 ^ (3 * (13 - depth))) 8
    ∙ ap (λ (n : ℕ). c / n) (sym (ap (λ (n : ℕ). 2 ^ n) more ∙ pow-add 2 (3 * (13 - depth)) 3))

-- bricks in order that begin alike have children in order
pub order_of : (depth : ℕ) (bs : List Brick) → depth ≤ 13 → AreAscending bs → AreAlike depth bs
    → IsNonDecreasingBy (λ b. brick_child depth b.code) bs
order_of depth bs low ascend alike i j d l m = elim (cases_eq i j) [
  | inl e ↦ (let same : brick_child depth (get_or bs i d).code
      ≡ brick_child depth (get_or bs j d).code =
      ap (λ (n : ℕ). brick_child depth (get_or bs n d).code) e in
      omega (arith, same))
  | inr ne ↦
      let a : ℕ = (get_or bs i d).code in
      let c : ℕ = (get_or bs j d).code in
      let less = ascend i j d (omega (arith, l, ne)) m in
      digits (a / 2 ^ (3 * (13 - depth))) (c / 2 ^ (3 * (13 - depth)))
      (child_step depth a low ∙ alike.1 i d (omega (arith, l, m)) ∙ sym (alike.1 j d m)
      ∙ sym (child_step depth c low))
      (quotient_rises a c (2 ^ (3 * (13 - depth))) (pow_pos (3 * (13 - depth)))
      (omega (arith, less)))
]
  where
    digits : (m n : ℕ) → m / 8 ≡ n / 8 → m ≤ n → m % 8 ≤ n % 8
    digits m n same l = omega (arith, same, l)

-- the part and the rest of a list
pub whole_of : (depth i : ℕ) (bs xs ys : List Brick) → AreCut depth i bs xs ys → bs ≡ xs ++ ys
whole_of depth i bs xs ys cut =
    sym (take-append-drop cut.count bs)
    ∙ sym (ap (λ l. l ++ ys) cut.first ∙ ap (λ l. take cut.count bs ++ l) cut.last)

pub part_bricks : (depth i : ℕ) (bs xs ys : List Brick) → AreCut depth i bs xs ys → All IsBrick bs
    → All IsBrick xs
part_bricks depth i bs xs ys cut h =
    subst (All IsBrick) (sym cut.first) (All-take IsBrick cut.count bs h)

pub later_bricks : (depth i : ℕ) (bs xs ys : List Brick) → AreCut depth i bs xs ys → All IsBrick bs
    → All IsBrick ys
later_bricks depth i bs xs ys cut h =
    subst (All IsBrick) (sym cut.last) (All-drop IsBrick cut.count bs h)

pub part_apart : (depth i : ℕ) (bs xs ys : List Brick) → AreCut depth i bs xs ys → AreAscending bs
    → AreAscending xs
part_apart depth i bs xs ys cut h = subst AreAscending (sym cut.first) (λ m n d l e.
    let size = length-take cut.count bs in
    let there : n < cut.count = omega (arith, size, e) in
    let before : m < cut.count = omega (arith, there, l) in
    let r = h m n d l (omega (arith, size, e)) in
    subst (λ (x : Brick). x.code < (get_or (take cut.count bs) n d).code)
    (sym (get_or-take cut.count bs m d before))
    (subst (λ (x : Brick). (get_or bs m d).code < x.code)
    (sym (get_or-take cut.count bs n d there)) r))

pub later_apart : (depth i : ℕ) (bs xs ys : List Brick) → AreCut depth i bs xs ys → AreAscending bs
    → AreAscending ys
later_apart depth i bs xs ys cut h = subst AreAscending (sym cut.last) (λ m n d l e.
    let size = length-drop cut.count bs in
    let r = h (cut.count + m) (cut.count + n) d (omega (arith, l)) (omega (arith, size, e)) in
    subst (λ (x : Brick). x.code < (get_or (drop cut.count bs) n d).code)
    (sym (get_or-drop cut.count bs m d))
    (subst (λ (x : Brick). (get_or bs (cut.count + m) d).code < x.code)
    (sym (get_or-drop cut.count bs n d)) r))

pub later_alike : (depth i : ℕ) (bs xs ys : List Brick) → AreCut depth i bs xs ys
    → AreAlike depth bs → AreAlike depth ys
later_alike depth i bs xs ys cut h = (
  h.0,
  subst (All (λ b. b.code / 2 ^ (3 * (14 - depth)) ≡ h.0)) (sym cut.last)
      (All-drop (λ b. b.code / 2 ^ (3 * (14 - depth)) ≡ h.0) cut.count bs h.1),
)

-- the part is that of one child, where the child is the first one with a brick
pub part_alike : (depth i : ℕ) (bs xs ys : List Brick) → depth ≤ 13 → AreCut depth i bs xs ys
    → IsFirstBrick depth bs i → AreAlike depth bs → AreAlike (depth + 1) xs
part_alike depth i bs xs ys low cut first h =
    let least : All (λ b. i ≤ brick_child depth b.code) xs =
    subst (All (λ b. i ≤ brick_child depth b.code)) (sym cut.first)
    (All-take (λ b. i ≤ brick_child depth b.code) cut.count bs first.least) in
    let alike : All (λ b. b.code / 2 ^ (3 * (14 - depth)) ≡ h.0) xs =
    subst (All (λ b. b.code / 2 ^ (3 * (14 - depth)) ≡ h.0)) (sym cut.first)
    (All-take (λ b. b.code / 2 ^ (3 * (14 - depth)) ≡ h.0) cut.count bs h.1) in
    let level : 14 - (depth + 1) ≡ 13 - depth = omega arith in (
      8 * h.0 + i,
      λ n d l.
          let c : ℕ = (get_or xs n d).code in
          ap (λ (m : ℕ). c / 2 ^ (3 * m)) level
          ∙ digits (c / 2 ^ (3 * (13 - depth))) h.0 i (child_step depth c low ∙ alike n d l)
          (least n d l) (cut.here n d l),
    )
  where
    digits : (m n i : ℕ) → m / 8 ≡ n → i ≤ m % 8 → m % 8 ≤ i → m ≡ 8 * n + i
    digits m n i e l k = omega (arith, e, l, k)

-- so the rest is shorter
pub cut_shorter : (depth i : ℕ) (bs xs ys : List Brick) → AreCut depth i bs xs ys
    → IsFirstBrick depth bs i → length ys < length bs
cut_shorter depth i bs xs ys cut first =
    let whole = whole_of depth i bs xs ys cut in
    some xs
    (λ e. out
    (subst (λ (l : List Brick). Contains l first.brick)
    (whole ∙ ap (λ (l : List Brick). l ++ ys) e) first.there))
    (ap length whole ∙ length-append xs ys)
  where
    out : Contains ys first.brick → ⊥
    out h =
        (let l = All-contains (λ b. i + 1 ≤ brick_child depth b.code) ys first.brick cut.after h in
        let e = first.child in
        omega (arith, l, e))

    some : (xs : List Brick) → (xs ≡ [] → ⊥) → length bs ≡ length xs + length ys
        → length ys < length bs
    some [] h e = absurd (h refl)
    some (x ∷ xs) h e = omega (arith, e)

-- at the depth of bricks there is one alone
pub one_brick : (bs : List Brick) (b : Brick) → slice_get bs 0 ≡ Some b → AreAscending bs
    → AreAlike 14 bs → bs ≡ b ∷ []
one_brick [] b first ascend alike = absurd (let h : ⊥ = cc in h)
one_brick (x ∷ []) b first ascend alike = (let same : x ≡ b = cc in ap (λ (y : Brick). y ∷ []) same)
one_brick (x ∷ y ∷ bs) b first ascend alike =
    let less = ascend 0 1 x (omega arith) (omega arith) in
    let a = alike.1 0 x (omega arith) in
    let c = alike.1 1 x (omega arith) in
    absurd (same_codes x.code y.code alike.0 less a c)
  where
    same_codes : (m n p : ℕ) → m < n → m / 2 ^ 0 ≡ p → n / 2 ^ 0 ≡ p → ⊥
    same_codes m n p l e f = omega (arith, l, e, f)

-- and the update of the bricks is that of the one
pub one_listed : (bs : List Brick) (b c : Brick) (hit miss h m : Event) → slice_get bs 0 ≡ Some b
    → AreAscending bs → AreAlike 14 bs → c ≡ b → h ≡ hit → m ≡ miss
    → update_of bs hit miss ≡ update_of (c ∷ []) h m
one_listed bs b c hit miss h m first ascend alike brick same_hit same_miss =
    ap (λ l. update_of l hit miss) (one_brick bs b first ascend alike)
    ∙ ap (λ (x : Brick). update_of (x ∷ []) hit miss) (sym brick)
    ∙ ap (λ e. update_of (c ∷ []) e miss) (sym same_hit)
    ∙ ap (λ e. update_of (c ∷ []) h e) (sym same_miss)

-- all bricks begin alike in the whole map
pub all_alike : (bs : List Brick) → All IsBrick bs → AreAlike 0 bs
all_alike bs h = (0, λ n d l. (let k = (h n d l).code in nothing (get_or bs n d).code k))
  where
    nothing : (c : ℕ) → c < 2 ^ 42 → c / 2 ^ 42 ≡ 0
    nothing c l = omega (arith, l)

small_bricks : (bs : List Brick) → All IsBrick bs → All (λ b. b.code < 2 ^ 42) bs
small_bricks bs h =
    all_contained (λ b. b.code < 2 ^ 42) bs (λ b m. (All-contains IsBrick bs b h m).code)

codes_back : (cs : List ℕ) → All (λ c. c < 2 ^ 48) cs → map morton_of (map coded_voxel cs) ≡ cs
codes_back [] below = refl
codes_back (c ∷ cs) below =
    rw (
      morton_of-coded_voxel c (All-head (λ c. c < 2 ^ 48) c cs below),
      codes_back cs (All-tail (λ c. c < 2 ^ 48) c cs below),
    )
    refl

-- the voxels of bricks ascend
pub ascend_by : (f : Brick → ℕ) (bs : List Brick) → All IsBrick bs → AreAscending bs
    → IsAscending (map coded_voxel (codes_by f bs))
ascend_by f bs bricks ascend =
    subst IsStrictlyIncreasing
    (sym (codes_back (codes_by f bs) (by_below f bs (small_bricks bs bricks))))
    (λ k l. by_rises f bs ascend k (k + 1) 0 (omega arith) l)

-- some voxel of bricks has an event
pub some_voxel : (bs : List Brick) (hit miss : Event) → All IsBrick bs → 0 < length bs
    → (k : Voxel) × IsInMap k × IsSome (events_of (update_of bs hit miss) k)
some_voxel [] hit miss bricks l = absurd (omega (arith, l))
some_voxel (b ∷ bs) hit miss bricks l =
    let brick = All-head IsBrick b bs bricks in
    let c : ℕ = 64 * b.code + trailing_zeros w64 b.scanned in
    let here = contains_here b bs in (
      coded_voxel c,
      coded_voxel-IsInMap c,
      some_event (update_of (b ∷ bs) hit miss) (coded_voxel c)
          (elim (hit_or_free b c brick (some_code b.code b.scanned brick.some brick.fits)) [
            | inl h ↦ inl (code_is_listed (hit_codes (b ∷ bs)) c
                (by_listed (λ b. b.hits) (b ∷ bs) c b here h))
            | inr h ↦ inr (code_is_listed (freed_codes (b ∷ bs)) c
                (by_listed frees_of (b ∷ bs) c b here h))
          ]),
    )

-- bricks in order are told apart by their codes
same_brick : (bs : List Brick) (a b : Brick) → AreAscending bs → Contains bs a → Contains bs b
    → a.code ≡ b.code → a ≡ b
same_brick bs a b ascend (i, l, at_i) (j, m, at_j) same =
    let there : get_or bs j a ≡ b = same_default bs j b a m ∙ at_j in
    let code_i = ap (λ (x : Brick). x.code) at_i in
    let code_j = ap (λ (x : Brick). x.code) there in
    elim (cases_eq i j) [
      | inl e ↦ sym at_i ∙ ap (λ (n : ℕ). get_or bs n a) e ∙ there
      | inr ne ↦ elim (cases_lt i j) [
        | inl less ↦
            (let r = ascend i j a less m in absurd (omega (arith, r, code_i, code_j, same)))
        | inr more ↦ (let r = ascend j i a (omega (arith, ne, more)) l in
            absurd (omega (arith, r, code_i, code_j, same)))
      ]
    ]

-- a voxel of a list is that of a code of some brick
abbrev pub IsCoded : (Brick → ℕ) → List Brick → Voxel → Type 0
IsCoded f bs k = (b : Brick) × Contains bs b × HasCode b.code (f b) (morton_of k)

are_coded : (f : Brick → ℕ) (bs : List Brick) → All IsBrick bs
    → All (IsCoded f bs) (map coded_voxel (codes_by f bs))
are_coded f bs bricks = from_codes (IsCoded f bs) (codes_by f bs) (λ c h.
    let r = by_tells f bs c h in
    let below = All-contains (λ c. c < 2 ^ 48) (codes_by f bs) c
    (by_below f bs (small_bricks bs bricks)) h in
    (r.0, r.1, subst (HasCode r.0.code (f r.0)) (sym (morton_of-coded_voxel c below)) r.2))

-- no voxel of bricks is hit and freed
pub bricks_disjoint : (bs : List Brick) → All IsBrick bs → AreAscending bs
    → AreDisjoint (hit_voxels bs) (freed_voxels bs)
bricks_disjoint bs bricks ascend k hit freed =
    let h : IsCoded (λ b. b.hits) bs k = listed_has (IsCoded (λ b. b.hits) bs) (hit_voxels bs) k
    (are_coded (λ b. b.hits) bs bricks) hit in
    let f : IsCoded frees_of bs k = listed_has (IsCoded frees_of bs) (freed_voxels bs) k
    (are_coded frees_of bs bricks) freed in
    let same : h.0 ≡ f.0 = same_brick bs h.0 f.0 ascend h.1 f.1 (sym h.2.inside ∙ f.2.inside) in
    let brick = All-contains IsBrick bs f.0 bricks f.1 in
    let is_hit : HasCode f.0.code f.0.hits (morton_of k) =
    subst (λ (b : Brick). HasCode b.code b.hits (morton_of k)) same h.2 in
    ((and_not f.0.code f.0.scanned f.0.hits (morton_of k) brick.hits_fit).0 f.2).1 is_hit

-- the update of bricks lies in the whole map
pub whole_bricks : (bs : List Brick) (hit miss : Event) → All IsBrick bs → AreAscending bs
    → 0 < length bs → IsUpdateIn root_block (update_of bs hit miss)
whole_bricks bs hit miss bricks ascend l =
    let in_hits = all_in_root (hit_voxels bs) (ascend_by (λ b. b.hits) bs bricks ascend) in
    let in_frees = all_in_root (freed_voxels bs) (ascend_by frees_of bs bricks ascend) in
    let r = some_voxel bs hit miss bricks l in
    record {
      hits = in_hits;
      frees = in_frees;
      apart = bricks_disjoint bs bricks ascend;
      some = reaches_of root_block (update_of bs hit miss) r.0 in_hits in_frees r.1 r.2;
    }
