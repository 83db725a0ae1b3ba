-- The codes of masks of bricks, brick by brick.
use Rattle.std.proofs.Common.{◌≡◌, ℕ, ◌+◌, ◌*◌, ◌^◌, ◌<◌, ◌≤◌, ◌↔◌, ◌⊎◌, inl, inr, List, [], ◌∷◌}
use Rattle.std.proofs.Common.{◌++◌, length, take, drop, get_or, sym, subst, ◌∙◌, ap, arith}
use lib.Count.{ones}
use Rattle.std.specs.Prelude.{count_ones}
use Rattle.std.proofs.lemmas.List.{append-nil, length-append, take_more, take-append-drop}
use Rattle.std.proofs.lemmas.Grind.{flat_map-append}
use Rattle.std.proofs.lemmas.List.Elements.{All-head, All-tail}
use Rattle.std.specs.List.{All, AllPairs, Contains, flat_map}
use Rattle.std.proofs.lemmas.List.Concat.{flat_map-cons}
use Rattle.std.proofs.lemmas.List.Elements.{Contains-append_left, Contains-append_right}
use Rattle.std.proofs.lemmas.List.Elements.{Contains-append_cases}
use Rattle.std.proofs.lemmas.List.Elements.{All-contains}
use Rattle.oct_brick.specs.Masks.{HasCode, codes_of}
use Rattle.oct_brick.specs.declared.brick.Brick.{Brick}
use Rattle.oct_brick.specs.Bricks.{AreAscending}
use Rattle.oct_brick.proofs.Lists.{contains_none, contains_here, contains_later, contains_cases}
use Rattle.oct_brick.proofs.Lists.{all_contained, pairs_nil, pairs_head, pairs_tail, pairs_append}
use Rattle.oct_brick.proofs.MaskCodes.{codes_of_has, mask_rises, codes_counted}

-- the codes of masks of bricks, brick by brick
abbrev pub codes_by : (Brick → ℕ) → List Brick → List ℕ
codes_by f bricks = flat_map (λ b. codes_of b.code (f b)) bricks

pub by_cons : (f : Brick → ℕ) (b : Brick) (bs : List Brick)
    → codes_by f (b ∷ bs) ≡ codes_of b.code (f b) ++ codes_by f bs
by_cons f b bs = flat_map-cons (λ b. codes_of b.code (f b)) b bs

-- some brick of the list has the code
pub by_tells : (f : Brick → ℕ) (bs : List Brick) (code : ℕ) → Contains (codes_by f bs) code
    → (b : Brick) × Contains bs b × HasCode b.code (f b) code
by_tells f [] code h = absurd (contains_none code h)
by_tells f (b ∷ bs) code h =
    elim (Contains-append_cases (codes_of b.code (f b)) (codes_by f bs) code
    (subst (λ l. Contains l code) (by_cons f b bs) h)) [
      | inl k ↦ (b, contains_here b bs, (codes_of_has b.code (f b) code).0 k)
      | inr k ↦ (let r = by_tells f bs code k in (r.0, contains_later b r.0 bs r.1, r.2))
    ]

pub by_listed : (f : Brick → ℕ) (bs : List Brick) (code : ℕ) (b : Brick) → Contains bs b
    → HasCode b.code (f b) code → Contains (codes_by f bs) code
by_listed f [] code b there h = absurd (contains_none b there)
by_listed f (a ∷ bs) code b there h = subst (λ l. Contains l code) (sym (by_cons f a bs))
    (elim (contains_cases a b bs there) [
      | inl e ↦ Contains-append_left (codes_of a.code (f a)) (codes_by f bs) code
          (subst (λ (d : Brick). Contains (codes_of d.code (f d)) code) (sym e)
          ((codes_of_has b.code (f b) code).1 h))
      | inr k ↦ Contains-append_right (codes_of a.code (f a)) (codes_by f bs) code
          (by_listed f bs code b k h)
    ])

-- bricks in order have codes in order
pub by_rises : (f : Brick → ℕ) (bs : List Brick) → AreAscending bs
    → AllPairs (λ a b. a < b) (codes_by f bs)
by_rises f [] up = pairs_nil (λ a b. a < b)
by_rises f (b ∷ bs) up = subst (AllPairs (λ a b. a < b)) (sym (by_cons f b bs))
    (pairs_append (λ a b. a < b) (codes_of b.code (f b)) (codes_by f bs)
    (mask_rises 64 (64 * b.code) (f b))
    (by_rises f bs (pairs_tail (λ a b. a.code < b.code) b bs up))
    (λ x y hx hy.
    let r = by_tells f bs y hy in
    let above : b.code < r.0.code =
    All-contains (λ c. b.code < c.code) bs r.0 (pairs_head (λ a b. a.code < b.code) b bs up)
    r.1 in
    let k = (codes_of_has b.code (f b) x).0 hx in
    omega (arith, above, k.inside, r.2.inside)))

-- the codes of one brick
pub by_one : (f : Brick → ℕ) (b : Brick) (c : ℕ)
    → Contains (codes_by f (b ∷ [])) c ↔ HasCode b.code (f b) c
by_one f b c = (
  λ h. (let r = by_tells f (b ∷ []) c h in elim (contains_cases b r.0 [] r.1) [
    | inl e ↦ subst (λ (a : Brick). HasCode a.code (f a) c) (sym e) r.2
    | inr k ↦ absurd (contains_none r.0 k)
  ]),
  λ h. by_listed f (b ∷ []) c b (contains_here b []) h,
)

-- and of two lists of bricks
pub by_parted : (f : Brick → ℕ) (xs ys : List Brick) (c : ℕ)
    → Contains (codes_by f (xs ++ ys)) c ↔ (Contains (codes_by f xs) c ⊎ Contains (codes_by f ys) c)
by_parted f xs ys c = (
  λ h. (let r = by_tells f (xs ++ ys) c h in elim (Contains-append_cases xs ys r.0 r.1) [
    | inl k ↦ inl (by_listed f xs c r.0 k r.2)
    | inr k ↦ inr (by_listed f ys c r.0 k r.2)
  ]),
  λ h. elim h [
    | inl k ↦ (let r = by_tells f xs c k in
        by_listed f (xs ++ ys) c r.0 (Contains-append_left xs ys r.0 r.1) r.2)
    | inr k ↦ (let r = by_tells f ys c k in
        by_listed f (xs ++ ys) c r.0 (Contains-append_right xs ys r.0 r.1) r.2)
  ],
)

-- codes of bricks of the map are codes of the map
pub by_below : (f : Brick → ℕ) (bs : List Brick) → All (λ b. b.code < 2 ^ 42) bs
    → All (λ c. c < 2 ^ 48) (codes_by f bs)
by_below f bs below = all_contained (λ c. c < 2 ^ 48) (codes_by f bs) (λ c h.
    let r = by_tells f bs c h in
    let l = All-contains (λ b. b.code < 2 ^ 42) bs r.0 below r.1 in
    omega (arith, l, r.2.inside))

-- numbers that rise below a bound are no more than that
rising_length : (xs : List ℕ) (low top : ℕ) → low ≤ top → AllPairs (λ a b. a < b) xs
    → All (λ x. low ≤ x) xs → All (λ x. x < top) xs → length xs + low ≤ top
rising_length [] low top le up from below = omega (arith, le)
rising_length (x ∷ xs) low top le up from below =
    let first = All-head (λ x. low ≤ x) x xs from in
    let last = All-head (λ x. x < top) x xs below in
    let rest =
    rising_length xs (x + 1) top (omega (arith, last)) (pairs_tail (λ a b. a < b) x xs up)
    (all_contained (λ y. x + 1 ≤ y) xs
    (λ y h. let l = All-contains (λ b. x < b) xs y (pairs_head (λ a b. a < b) x xs up)
    h in omega (arith, l)))
    (All-tail (λ x. x < top) x xs below) in
    omega (arith, rest, first)

-- so bricks of the map have no more codes than the map
pub by_few : (f : Brick → ℕ) (bs : List Brick) → AreAscending bs → All (λ b. b.code < 2 ^ 42) bs
    → length (codes_by f bs) ≤ 2 ^ 48
by_few f bs ascend below =
    (let l = rising_length (codes_by f bs) 0 (2 ^ 48) (omega arith) (by_rises f bs ascend)
    (all_contained (λ x. 0 ≤ x) (codes_by f bs) (λ x h. omega arith)) (by_below f bs below) in
    omega (arith, l))

-- one brick more counts its ones
pub count_more : (f : Brick → ℕ) (bs : List Brick) (i : ℕ) (d : Brick) (count ones : ℕ)
    → i < length bs → f (get_or bs i d) < 2 ^ 64 → ones ≡ count_ones (f (get_or bs i d))
    → count ≡ length (codes_by f (take i bs)) → count + ones ≡ length (codes_by f (take (i + 1) bs))
count_more f bs i d count ones l fits is h =
    let b : Brick = get_or bs i d in
    let one : codes_by f (b ∷ []) ≡ codes_of b.code (f b) =
    by_cons f b [] ∙ append-nil (codes_of b.code (f b)) in
    let joined : codes_by f (take (i + 1) bs) ≡ codes_by f (take i bs) ++ codes_of b.code (f b) =
    ap (codes_by f) (take_more bs i d l)
    ∙ flat_map-append (λ b. codes_of b.code (f b)) (take i bs) (b ∷ [])
    ∙ ap (λ (l : List ℕ). codes_by f (take i bs) ++ l) one in
    omega (
      arith,
      ap length joined,
      length-append (codes_by f (take i bs)) (codes_of b.code (f b)),
      codes_counted 64 (64 * b.code) (f b) fits,
      is,
      h,
    )

-- and no sum of ones exceeds the map
pub count_fits : (f : Brick → ℕ) (bs : List Brick) (i : ℕ) (n : ℕ) → AreAscending bs
    → All (λ b. b.code < 2 ^ 42) bs → n ≡ length (codes_by f (take i bs)) → n ≤ 2 ^ 48
count_fits f bs i n ascend below is =
    let whole : bs ≡ take i bs ++ drop i bs = sym (take-append-drop i bs) in
    let long : length (codes_by f bs)
    ≡ length (codes_by f (take i bs)) + length (codes_by f (drop i bs)) =
    ap (λ (l : List Brick). length (codes_by f l)) whole
    ∙ ap length (flat_map-append (λ b. codes_of b.code (f b)) (take i bs) (drop i bs))
    ∙ length-append (codes_by f (take i bs)) (codes_by f (drop i bs)) in
    omega (arith, long, is, by_few f bs ascend below)
