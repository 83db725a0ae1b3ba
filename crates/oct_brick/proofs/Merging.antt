-- Bricks that are joined in order.
use Rattle.std.proofs.Common.{◌≡◌, ◌≢◌, ℕ, zero, suc, ◌+◌, ◌-◌, ◌<◌, ◌≤◌, ◌↔◌, ◌⊎◌, inl, inr, List}
use Rattle.std.proofs.Common.{[], ◌∷◌, ◌++◌, length, take, get_or, refl, sym, subst, ◌∙◌, ap, arith}
use Rattle.std.specs.List.{All, AllPairs, Contains}
use Rattle.std.specs.List.Sorted.{IsNonDecreasingBy, IsPermutation}
use Rattle.std.proofs.Math.ListN.{set}
use Rattle.std.proofs.lemmas.List.{take_more, take_all, length_push, set_at}
use Rattle.std.proofs.lemmas.List.Elements.{All-contains, Contains-push, Contains-push_cases}
use Rattle.std.proofs.lemmas.List.Elements.{Contains-append_left}
use Rattle.std.proofs.lemmas.List.Sorted.{Contains-permutation, IsPermutation-sym}
use Rattle.std.proofs.lemmas.List.Kept.{AllPairs-cons}
use Rattle.oct_brick.specs.Masks.{HasCode}
use Rattle.oct_brick.specs.declared.brick.Brick.{Brick}
use Rattle.oct_brick.specs.Bricks.{IsBrick, AreAscending, scanned_codes, hit_codes, freed_codes}
use Rattle.oct_brick.specs.Bricks.{frees_of}
use Rattle.oct_brick.specs.Merge.{IsJoined, HasAdded}
use Rattle.oct_brick.proofs.Bits.{and_not}
use Rattle.oct_brick.proofs.Lists.{contains_none, contains_cases, all_contained, pairs_nil}
use Rattle.oct_brick.proofs.Lists.{pairs_head, pairs_tail, pairs_append}
use Rattle.oct_brick.proofs.BrickCodes.{codes_by, by_tells, by_listed}

-- the list has the codes of the other, in the one mask
abbrev pub HasSame : (Brick → ℕ) → List Brick → List Brick → Type 0
HasSame f bricks merged = (c : ℕ) → Contains (codes_by f bricks) c ↔ Contains (codes_by f merged) c

-- bricks in order that have the codes of others
pub record IsMerged (taken merged : List Brick) : Type 0 where
  pub scanned : HasSame (λ b. b.scanned) taken merged
  pub hits : HasSame (λ b. b.hits) taken merged
  pub bricks : All IsBrick merged
  pub ascend : AreAscending merged

-- no code of the one list is above those that are still to come
abbrev pub IsBelowNext : ℕ → List Brick → List Brick → Type 0
IsBelowNext i all merged =
    (b : Brick) → Contains merged b → (j : ℕ) (d : Brick) → i ≤ j → j < length all
    → b.code ≤ (get_or all j d).code

-- the codes of bricks that another list has too
pub carried : (f : Brick → ℕ) (xs ys : List Brick) (c : ℕ)
    → ((b : Brick) → Contains xs b → Contains ys b) → Contains (codes_by f xs) c
    → Contains (codes_by f ys) c
carried f xs ys c within h =
    (let r = by_tells f xs c h in
    by_listed f ys c r.0 (within r.0 r.1) r.2)

-- one brick more
pub pushed_has : (f : Brick → ℕ) (bs : List Brick) (b : Brick) (c : ℕ)
    → Contains (codes_by f (bs ++ b ∷ [])) c ↔ (Contains (codes_by f bs) c ⊎ HasCode b.code (f b) c)
pushed_has f bs b c = (
  λ h. (let r = by_tells f (bs ++ b ∷ []) c h in
      elim (Contains-push_cases bs b r.0 r.1) [
        | inl k ↦ inl (by_listed f bs c r.0 k r.2)
        | inr e ↦ inr (subst (λ (a : Brick). HasCode a.code (f a) c) (sym e) r.2)
      ]),
  λ h. elim h [
    | inl k ↦ (let r = by_tells f bs c k in
        by_listed f (bs ++ b ∷ []) c r.0 (Contains-append_left bs (b ∷ []) r.0 r.1) r.2)
    | inr k ↦ by_listed f (bs ++ b ∷ []) c b (Contains-push bs b) k
  ],
)

-- where both go on by the same
same_pushed : (f : Brick → ℕ) (ts ms : List Brick) (b : Brick) → HasSame f ts ms
    → HasSame f (ts ++ b ∷ []) (ms ++ b ∷ [])
same_pushed f ts ms b same c = (
  λ h. elim ((pushed_has f ts b c).0 h) [
    | inl k ↦ (pushed_has f ms b c).1 (inl ((same c).0 k))
    | inr k ↦ (pushed_has f ms b c).1 (inr k)
  ],
  λ h. elim ((pushed_has f ms b c).0 h) [
    | inl k ↦ (pushed_has f ts b c).1 (inl ((same c).1 k))
    | inr k ↦ (pushed_has f ts b c).1 (inr k)
  ],
)

-- where the last one takes up the next
same_joined : (f : Brick → ℕ) (ts front : List Brick) (last b j : Brick)
    → HasSame f ts (front ++ last ∷ [])
    → ((c : ℕ) → HasCode j.code (f j) c ↔ (HasCode last.code (f last) c ⊎ HasCode b.code (f b) c))
    → HasSame f (ts ++ b ∷ []) (front ++ j ∷ [])
same_joined f ts front last b j same both c = (
  λ h. elim ((pushed_has f ts b c).0 h) [
    | inl k ↦ elim ((pushed_has f front last c).0 ((same c).0 k)) [
      | inl m ↦ (pushed_has f front j c).1 (inl m)
      | inr m ↦ (pushed_has f front j c).1 (inr ((both c).1 (inl m)))
    ]
    | inr k ↦ (pushed_has f front j c).1 (inr ((both c).1 (inr k)))
  ],
  λ h. elim ((pushed_has f front j c).0 h) [
    | inl k ↦ (pushed_has f ts b c).1 (inl ((same c).1 ((pushed_has f front last c).1 (inl k))))
    | inr k ↦ elim ((both c).0 k) [
      | inl m ↦ (pushed_has f ts b c).1 (inl ((same c).1 ((pushed_has f front last c).1 (inr m))))
      | inr m ↦ (pushed_has f ts b c).1 (inr m)
    ]
  ],
)

-- pairs of a list with a last element
pub pairs_push : {X : Type 0} (R : X → X → Type 0) (xs : List X) (y : X) → AllPairs R xs
    → ((x : X) → Contains xs x → R x y) → AllPairs R (xs ++ y ∷ [])
pairs_push {X} R xs y p cross =
    let nil : AllPairs R (y ∷ []) =
    AllPairs-cons R y [] (all_contained (R y) [] (λ z h. absurd (contains_none z h)))
    (pairs_nil R) in
    pairs_append R xs (y ∷ []) p nil (λ x z hx hz. elim (contains_cases y z [] hz) [
      | inl e ↦ subst (R x) e (cross x hx)
      | inr k ↦ absurd (contains_none z k)
    ])

pub pairs_front : {X : Type 0} (R : X → X → Type 0) (xs : List X) (y : X)
    → AllPairs R (xs ++ y ∷ []) → AllPairs R xs
pairs_front R [] y p = pairs_nil R
pairs_front R (x ∷ xs) y p =
    AllPairs-cons R x xs
    (all_contained (R x) xs
    (λ z h. All-contains (R x) (xs ++ y ∷ []) z (pairs_head R x (xs ++ y ∷ []) p)
    (Contains-append_left xs (y ∷ []) z h)))
    (pairs_front R xs y (pairs_tail R x (xs ++ y ∷ []) p))

pub pairs_last : {X : Type 0} (R : X → X → Type 0) (xs : List X) (y : X) → AllPairs R (xs ++ y ∷ [])
    → (x : X) → Contains xs x → R x y
pairs_last R [] y p x h = absurd (contains_none x h)
pairs_last R (z ∷ xs) y p x h = elim (contains_cases z x xs h) [
  | inl e ↦ subst (λ w. R w y) e
      (All-contains (R z) (xs ++ y ∷ []) y (pairs_head R z (xs ++ y ∷ []) p) (Contains-push xs y))
  | inr k ↦ pairs_last R xs y (pairs_tail R z (xs ++ y ∷ []) p) x k
]

pub all_push : {X : Type 0} (P : X → Type 0) (xs : List X) (y : X) → All P xs → P y
    → All P (xs ++ y ∷ [])
all_push P xs y h p =
    all_contained P (xs ++ y ∷ []) (λ x k. elim (Contains-push_cases xs y x k) [
      | inl m ↦ All-contains P xs x h m
      | inr e ↦ subst P e p
    ])

pub merged_none : IsMerged [] []
merged_none = record {
  scanned = λ c. (λ h. h, λ h. h);
  hits = λ c. (λ h. h, λ h. h);
  bricks = all_contained IsBrick [] (λ b h. absurd (contains_none b h));
  ascend = pairs_nil (λ a b. a.code < b.code);
}

-- a brick after all others is added
pub merged_push : (ts ms : List Brick) (b : Brick) → IsMerged ts ms → IsBrick b
    → ((a : Brick) → Contains ms a → a.code < b.code) → IsMerged (ts ++ b ∷ []) (ms ++ b ∷ [])
merged_push ts ms b m brick above = record {
  scanned = same_pushed (λ b. b.scanned) ts ms b m.scanned;
  hits = same_pushed (λ b. b.hits) ts ms b m.hits;
  bricks = all_push IsBrick ms b m.bricks brick;
  ascend = pairs_push (λ a b. a.code < b.code) ms b m.ascend above;
}

-- a brick of the last one's code is joined to it
pub merged_join : (ts front : List Brick) (last b j : Brick) → IsMerged ts (front ++ last ∷ [])
    → IsBrick j → j.code ≡ last.code
    → ((c : ℕ) → HasCode j.code j.scanned c ↔ (HasCode last.code last.scanned c
    ⊎ HasCode b.code b.scanned c))
    → ((c : ℕ) → HasCode j.code j.hits c ↔ (HasCode last.code last.hits c
    ⊎ HasCode b.code b.hits c))
    → IsMerged (ts ++ b ∷ []) (front ++ j ∷ [])
merged_join ts front last b j m brick same scanned hits = record {
  scanned = same_joined (λ b. b.scanned) ts front last b j m.scanned scanned;
  hits = same_joined (λ b. b.hits) ts front last b j m.hits hits;
  bricks =
      all_push IsBrick front j
      (all_contained IsBrick front
      (λ a h. All-contains IsBrick (front ++ last ∷ []) a m.bricks
      (Contains-append_left front (last ∷ []) a h)))
      brick;
  ascend =
      pairs_push (λ a b. a.code < b.code) front j
      (pairs_front (λ a b. a.code < b.code) front last m.ascend)
      (λ a h. subst (λ n. a.code < n) (sym same)
      (pairs_last (λ a b. a.code < b.code) front last m.ascend a h));
}

-- a list that isn't empty is its front and its last element
split_last : {X : Type 0} (xs : List X) (d : X) → 0 < length xs
    → (front : List X) × (xs ≡ front ++ get_or xs (length xs - 1) d ∷ [])
    × (length front ≡ length xs - 1)
split_last [] d l = absurd (omega (arith, l))
split_last (x ∷ []) d l = ([], refl, omega arith)
split_last {X} (x ∷ y ∷ ys) d l =
    let r = split_last (y ∷ ys) d (omega arith) in
    let same : length (x ∷ y ∷ ys) - 1 ≡ suc (length (y ∷ ys) - 1) = omega arith in (
      x ∷ r.0,
      ap (λ l. x ∷ l) r.1 ∙ ap (λ (n : ℕ). x ∷ r.0 ++ get_or (x ∷ y ∷ ys) n d ∷ []) (sym same),
      omega (arith, r.2),
    )

-- this many bricks of a list in order were taken
pub record HasTaken (i : ℕ) (all ms : List Brick) : Type 0 where
  pub merged : IsMerged (take i all) ms
  pub below : IsBelowNext i all ms
  pub few : length ms ≤ i

pub taken_none : (all : List Brick) → HasTaken 0 all []
taken_none all = record {
  merged = merged_none;
  below = λ b h j d l m. absurd (contains_none b h);
  few = omega arith;
}

pub same_default : (xs : List Brick) (i : ℕ) (d e : Brick) → i < length xs
    → get_or xs i e ≡ get_or xs i d
same_default [] i d e l = absurd (omega (arith, l))
same_default (x ∷ xs) zero d e l = refl
same_default (x ∷ xs) (suc i) d e l = same_default xs i d e (omega (arith, l))

later_code : (all : List Brick) (i : ℕ) (d : Brick) → IsNonDecreasingBy (λ b. b.code) all
    → (j : ℕ) (e : Brick) → i + 1 ≤ j → j < length all
    → (get_or all i d).code ≤ (get_or all j e).code
later_code all i d up j e l m =
    subst (λ (x : Brick). x.code ≤ (get_or all j e).code)
    (same_default all i d e (omega (arith, l, m))) (up i j e (omega (arith, l)) m)

still_below : (all ms : List Brick) (b : Brick) (i : ℕ) (d : Brick)
    → IsNonDecreasingBy (λ b. b.code) all → b.code ≡ (get_or all i d).code → IsBelowNext i all ms
    → IsBelowNext (i + 1) all (ms ++ b ∷ [])
still_below all ms b i d up same h a there j e l m = elim (Contains-push_cases ms b a there) [
  | inl k ↦ h a k j e (omega (arith, l)) m
  | inr s ↦ (let later = later_code all i d up j e l m in
      let code = ap (λ (x : Brick). x.code) s in
      omega (arith, later, same, code))
]

front_below : (all front : List Brick) (last : Brick) (i : ℕ)
    → IsBelowNext i all (front ++ last ∷ []) → IsBelowNext i all front
front_below all front last i h a there = h a (Contains-append_left front (last ∷ []) a there)

-- the next one is added
pub taken_push : (all ms ms' : List Brick) (i : ℕ) (d : Brick) → i < length all → All IsBrick all
    → IsNonDecreasingBy (λ b. b.code) all
    → (0 < length ms → (get_or ms (length ms - 1) d).code ≢ (get_or all i d).code)
    → ms' ≡ ms ++ get_or all i d ∷ [] → HasTaken i all ms → HasTaken (i + 1) all ms'
taken_push all ms ms' i d l bricks up other is h =
    let b : Brick = get_or all i d in
    let below : (a : Brick) → Contains ms a → a.code < b.code =
    λ a there. (let le = h.below a there i d (omega arith) l in
    omega (arith, le, differs a there)) in
    subst (HasTaken (i + 1) all) (sym is) (record {
      merged =
          subst (λ ts. IsMerged ts (ms ++ b ∷ [])) (sym (take_more all i d l))
          (merged_push (take i all) ms b h.merged (bricks i d l) below);
      below = still_below all ms b i d up refl h.below;
      few = (let n = length_push ms b in let f = h.few in omega (arith, n, f));
    })
  where
    lower : (front : List Brick) (last b a : Brick)
        → AllPairs (λ a b. a.code < b.code) (front ++ last ∷ []) → Contains (front ++ last ∷ []) a
        → last.code ≢ b.code → last.code ≤ b.code → a.code < b.code
    lower front last b a pairs there ne le = elim (Contains-push_cases front last a there) [
      | inl k ↦ (let r = pairs_last (λ a b. a.code < b.code) front last pairs a k in
          omega (arith, r, le))
      | inr s ↦ (let code = ap (λ (x : Brick). x.code) s in omega (arith, ne, le, code))
    ]

    differs : (a : Brick) → Contains ms a → a.code ≢ (get_or all i d).code
    differs a there = λ e.
        let n : 0 < length ms = omega (arith, there.1) in
        let parts = split_last ms d n in
        let last : Brick = get_or ms (length ms - 1) d in
        let is_last : Contains ms last =
        subst (λ l. Contains l last) (sym parts.1) (Contains-push parts.0 last) in
        let le = h.below last is_last i d (omega arith) l in
        let less =
        lower parts.0 last (get_or all i d) a
        (subst (AllPairs (λ a b. a.code < b.code)) parts.1 h.merged.ascend)
        (subst (λ l. Contains l a) parts.1 there) (other n) le in
        omega (arith, less, e)

-- or joined to the last one
pub taken_join : (all ms ms' : List Brick) (i : ℕ) (d e j : Brick) → i < length all
    → All IsBrick all → IsNonDecreasingBy (λ b. b.code) all → 0 < length ms
    → (get_or ms (length ms - 1) e).code ≡ (get_or all i d).code
    → IsJoined (get_or ms (length ms - 1) e) (get_or all i d) j → ms' ≡ set ms (length ms - 1) j
    → HasTaken i all ms → HasTaken (i + 1) all ms'
taken_join all ms ms' i d e j l bricks up some same joined is h =
    let parts = split_last ms e some in
    let last : Brick = get_or ms (length ms - 1) e in
    let b : Brick = get_or all i d in
    let made : ms' ≡ parts.0 ++ j ∷ [] =
    is ∙ ap (λ xs. set xs (length ms - 1) j) parts.1
    ∙ set_at parts.0 last [] j (length ms - 1) parts.2 in
    let code = joined.code in
    let brick_b : IsBrick b = bricks i d l in
    let brick_last : IsBrick last =
    All-contains IsBrick ms last h.merged.bricks
    (subst (λ l. Contains l last) (sym parts.1) (Contains-push parts.0 last)) in
    let brick : IsBrick j = joined.brick brick_last brick_b in
    let merged =
    merged_join (take i all) parts.0 last b j (subst (IsMerged (take i all)) parts.1 h.merged)
    brick (code ∙ sym same) joined.scanned joined.hits in
    subst (HasTaken (i + 1) all) (sym made) (record {
      merged = subst (λ ts. IsMerged ts (parts.0 ++ j ∷ [])) (sym (take_more all i d l)) merged;
      below =
          still_below all parts.0 j i d up code
          (front_below all parts.0 last i (subst (IsBelowNext i all) parts.1 h.below));
      few =
          (let n = length_push parts.0 j in
          let f = h.few in
          let s = parts.2 in
          omega (arith, n, f, s, some));
    })

-- the last one takes it up, with what is known of that one as the code reads it
pub joined_last : (ms ms' : List Brick) (count : ℕ) (read last b j : Brick) → 0 < count
    → count ≡ length ms → read ≡ get_or ms (count - 1) read → read.code ≡ b.code
    → last ≡ get_or ms (count - 1) last → IsJoined last b j → ms' ≡ set ms (count - 1) j
    → HasAdded b ms ms'
joined_last ms ms' count read last b j some size is_read code is_last both is =
    let same : count - 1 ≡ length ms - 1 = ap (λ (n : ℕ). n - 1) size in
    let within : count - 1 < length ms = omega (arith, some, size) in
    let one : read ≡ last =
    is_read ∙ same_default ms (count - 1) last read within ∙ sym is_last in
    inr (record {
      last = last;
      joined = j;
      some = omega (arith, some, size);
      is_last = is_last ∙ ap (λ (n : ℕ). get_or ms n last) same;
      same = sym (ap (λ (a : Brick). a.code) one) ∙ code;
      both = both;
      is = is ∙ ap (λ (n : ℕ). set ms n j) same;
    })

-- the next one is added, in either way
pub taken_added : (all ms ms' : List Brick) (i : ℕ) (d b : Brick) → i < length all
    → All IsBrick all → IsNonDecreasingBy (λ b. b.code) all → b ≡ get_or all i d
    → HasAdded b ms ms' → HasTaken i all ms → HasTaken (i + 1) all ms'
taken_added all ms ms' i d b l bricks up e (inl h) t =
    taken_push all ms ms' i d l bricks up
    (λ some k. h.other d some (k ∙ sym (ap (λ (a : Brick). a.code) e)))
    (h.is ∙ ap (λ (a : Brick). ms ++ a ∷ []) e) t
taken_added all ms ms' i d b l bricks up e (inr h) t =
    taken_join all ms ms' i d h.last h.joined l bricks up h.some
    (sym (ap (λ (a : Brick). a.code) h.is_last) ∙ h.same ∙ ap (λ (a : Brick). a.code) e)
    (subst (λ a. IsJoined a (get_or all i d) h.joined) h.is_last
    (subst (λ a. IsJoined h.last a h.joined) e h.both))
    h.is t

-- what the whole list gives, where it has the bricks of another one, in another order
pub taken_permuted : (f : Brick → ℕ) (bricks all ms : List Brick) (i : ℕ)
    → IsPermutation bricks all → length all ≤ i → HasSame f (take i all) ms → HasSame f bricks ms
taken_permuted f bricks all ms i moved l same =
    let whole : take i all ≡ all = take_all i all l in
    let back : IsPermutation all bricks = IsPermutation-sym bricks all moved in
    λ c. (
      λ h. (subst (λ xs. HasSame f xs ms) whole same c).0
          (carried f bricks all c (λ b. Contains-permutation bricks all b moved) h),
      λ h. carried f all bricks c (λ b. Contains-permutation all bricks b back)
          ((subst (λ xs. HasSame f xs ms) whole same c).1 h),
    )

-- of bricks in order, one has a code
pub same_member : (bs : List Brick) (a b : Brick) → AreAscending bs → Contains bs a → Contains bs b
    → a.code ≡ b.code → a ≡ b
same_member [] a b ascend ha hb e = absurd (contains_none a ha)
same_member (x ∷ bs) a b ascend ha hb e = elim (contains_cases x a bs ha) [
  | inl p ↦ elim (contains_cases x b bs hb) [
    | inl q ↦ sym p ∙ q
    | inr q ↦ (let l = above b q in
        let s = ap (λ (y : Brick). y.code) p in
        absurd (omega (arith, l, s, e)))
  ]
  | inr p ↦ elim (contains_cases x b bs hb) [
    | inl q ↦ (let l = above a p in
        let s = ap (λ (y : Brick). y.code) q in
        absurd (omega (arith, l, s, e)))
    | inr q ↦ same_member bs a b (pairs_tail (λ a b. a.code < b.code) x bs ascend) p q e
  ]
]
  where
    above : (y : Brick) → Contains bs y → x.code < y.code
    above y h =
        All-contains (λ y. x.code < y.code) bs y (pairs_head (λ a b. a.code < b.code) x bs ascend) h

-- the codes that bricks free are those that they change and don't hit
pub freed_has : (bs : List Brick) (c : ℕ) → AreAscending bs → All IsBrick bs
    → Contains (freed_codes bs) c ↔ (Contains (scanned_codes bs) c × ¬ Contains (hit_codes bs) c)
freed_has bs c ascend bricks = (
  λ h. (let r = by_tells frees_of bs c h in
      let parts =
      (and_not r.0.code r.0.scanned r.0.hits c
      (All-contains IsBrick bs r.0 bricks r.1).hits_fit).0
      r.2 in (
        by_listed (λ b. b.scanned) bs c r.0 r.1 parts.0,
        λ k. (let q = by_tells (λ b. b.hits) bs c k in
            let same : q.0 ≡ r.0 =
            same_member bs q.0 r.0 ascend q.1 r.1 (sym q.2.inside ∙ r.2.inside) in
            parts.1 (subst (λ (b : Brick). HasCode b.code b.hits c) same q.2)),
      )),
  λ h. (let r = by_tells (λ b. b.scanned) bs c h.0 in
      by_listed frees_of bs c r.0 r.1
      ((and_not r.0.code r.0.scanned r.0.hits c
      (All-contains IsBrick bs r.0 bricks r.1).hits_fit).1
      (r.2, λ k. h.1 (by_listed (λ b. b.hits) bs c r.0 r.1 k)))),
)
