-- The voxels of masks and of bricks, one after another.
use Rattle.std.proofs.Common.{◌≡◌, ℕ, ◌+◌, ◌-◌, ◌*◌, ◌%◌, ◌^◌, ◌<◌, ◌≤◌, List, [], ◌∷◌, ◌++◌, map}
use Rattle.std.proofs.Common.{length, take, drop, get_or, inl, inr, sym, ◌∙◌, ap, subst}
use Rattle.std.proofs.Common.{arith, bit_and}
use Rattle.std.specs.Prelude.{◌⊎◌, Contains}
use Rattle.std.specs.Int.{w64, trailing_zeros}
use Rattle.std.proofs.lemmas.Nat.Bits.{bit_at-trailing_zeros}
use Rattle.std.proofs.lemmas.List.{append-nil, map-append, take_more, take_all, take-append-drop}
use Rattle.std.proofs.lemmas.List.{length-map, length-append}
use Rattle.std.proofs.lemmas.List.Elements.{Contains-append_left, Contains-append_right}
use Rattle.std.proofs.lemmas.List.Elements.{Contains-append_cases}
use Rattle.std.proofs.lemmas.List.Concat.{flat_map-cons}
use Rattle.std.proofs.lemmas.Grind.{flat_map-append}
use Rattle.oct_key.specs.Voxel.{Voxel, IsInMap}
use Rattle.oct_key.specs.Morton.{morton_of}
use Rattle.oct_brick.specs.declared.brick.Brick.{Brick}
use Rattle.oct_brick.specs.Masks.{codes_of}
use Rattle.oct_brick.specs.Bricks.{frees_of}
use Rattle.oct_brick.specs.Voxels.{coded_voxel, hit_voxels, freed_voxels}
use Rattle.oct_brick.proofs.MaskCodes.{lowest_first, no_codes}
use Rattle.oct_brick.proofs.Lists.{contains_none}
use Rattle.oct_brick.proofs.CodedVoxels.{coded_voxel-IsInMap, morton_of-coded_voxel}
use Rattle.oct_brick.proofs.BrickCodes.{codes_by}
use Rattle.oct_values.specs.Classes.{Classes}
use Rattle.oct_change.specs.declared.changes.Note.{Note}
use Rattle.oct_change.specs.Notes.{HasNoted}
use Rattle.oct_change.proofs.Noting.{noted_join, noted_none}

-- the lowest bit of a mask gives the next voxel
pub next_voxel : (code left : ℕ) → 0 < left → left < 2 ^ 64
    → map coded_voxel (codes_of code left) ≡ coded_voxel (64 * code + trailing_zeros w64 left) ∷
    map coded_voxel (codes_of code (bit_and left (left - 1)))
next_voxel code left some fits =
    let low = bit_at-trailing_zeros w64 left some fits in
    ap (map coded_voxel) (lowest_first 64 (64 * code) left (trailing_zeros w64 left) low.0 some
    low.1 low.2)

pub place_below : (left : ℕ) → 0 < left → left < 2 ^ 64 → trailing_zeros w64 left < 64
place_below left some fits = (let low = bit_at-trailing_zeros w64 left some fits in low.0)

pub voxel_is : (k : Voxel) (code : ℕ) → code < 2 ^ 48 → ((l : Voxel) → IsInMap l
    → morton_of l ≡ code → l ≡ k) → k ≡ coded_voxel code
voxel_is k code below only = sym (only (coded_voxel code) (coded_voxel-IsInMap code)
    (morton_of-coded_voxel code below))

pub no_voxels : (code left : ℕ) → left ≡ 0 → map coded_voxel (codes_of code left) ≡ []
no_voxels code left none = ap (λ n. map coded_voxel (codes_of code n)) none
    ∙ ap (map coded_voxel) (no_codes 64 (64 * code))

pub placed_code : (code y t : ℕ) → code < 2 ^ 42 → y ≡ t → code * 64 % 2 ^ 64 + y ≡ 64 * code + t
placed_code code y t l e = omega (arith, l, e)

pub placed_below : (code t : ℕ) → code < 2 ^ 42 → t < 64 → 64 * code + t < 2 ^ 48
placed_below code t l m = omega (arith, l, m)

-- the voxels of one brick more
voxels_more : (f : Brick → ℕ) (bs : List Brick) (i : ℕ) (d : Brick) → i < length bs
    → map coded_voxel (codes_by f (take (i + 1) bs)) ≡ map coded_voxel (codes_by f (take i bs)) ++
    map coded_voxel (codes_of (get_or bs i d).code (f (get_or bs i d)))
voxels_more f bs i d l =
    let b : Brick = get_or bs i d in
    let one : codes_by f (b ∷ []) ≡ codes_of b.code (f b) = flat_map-cons
    (λ b. codes_of b.code (f b)) b [] ∙ append-nil (codes_of b.code (f b)) in
    ap (map coded_voxel) (ap (codes_by f) (take_more bs i d l)
    ∙ flat_map-append (λ b. codes_of b.code (f b)) (take i bs) (b ∷ [])
    ∙ ap (λ (l : List ℕ). codes_by f (take i bs) ++ l) one)
    ∙ map-append coded_voxel (codes_by f (take i bs)) (codes_of b.code (f b))

-- a voxel of bricks is one that they hit or that they free
abbrev pub IsOf : List Brick → Voxel → Type 0
IsOf bricks k = Contains (hit_voxels bricks) k ⊎ Contains (freed_voxels bricks) k

abbrev pub voxel_count : List Brick → ℕ
voxel_count bricks = length (hit_voxels bricks) + length (freed_voxels bricks)

-- how many they have, with one more
pub count_more : (bs : List Brick) (i : ℕ) (d : Brick) → i < length bs
    → voxel_count (take (i + 1) bs) ≡ voxel_count (take i bs) +
    (length (map coded_voxel (codes_of (get_or bs i d).code (get_or bs i d).hits)) + length
    (map coded_voxel (codes_of (get_or bs i d).code (frees_of (get_or bs i d)))))
count_more bs i d l =
    let b : Brick = get_or bs i d in
    let hits = ap length (voxels_more (λ b. b.hits) bs i d l)
    ∙ length-append (hit_voxels (take i bs)) (map coded_voxel (codes_of b.code b.hits)) in
    let frees = ap length (voxels_more frees_of bs i d l)
    ∙ length-append (freed_voxels (take i bs)) (map coded_voxel (codes_of b.code (frees_of b)))
    in
    omega (arith, hits, frees)

-- Of a list of bricks the voxels of the first ones are noted.
pub record HasNotedFirst (now : Classes) (bricks : List Brick) (i : ℕ) (old new : List Note)
    (before after : ℕ) : Type 0 where
  pub noted : HasNoted now (IsOf (take i bricks)) old new
  pub room : before ≡ after + voxel_count (take i bricks)

nothing_contained : (k : Voxel) → Contains {X = Voxel} [] k → ⊥
nothing_contained k h = contains_none k h

pub first_start : (now : Classes) (bricks : List Brick) (old : List Note) (spare : ℕ)
    → HasNotedFirst now bricks 0 old old spare spare
first_start now bricks old spare = record {
  noted = noted_none now (IsOf (take 0 bricks)) old
      (λ k h. elim h [ inl a ↦ nothing_contained k a | inr b ↦ nothing_contained k b ]);
  room = omega arith;
}

-- one brick more: those that it hits, and those that it frees
pub first_step : (now : Classes) (bricks : List Brick) (i : ℕ) (d : Brick)
    (old mid far new : List Note) (before between further after frees : ℕ)
    → i < length bricks → frees ≡ frees_of (get_or bricks i d)
    → HasNotedFirst now bricks i old mid before between
    → HasNoted now (Contains (map coded_voxel
    (codes_of (get_or bricks i d).code (get_or bricks i d).hits))) mid far
    → between ≡ further + length (map coded_voxel
    (codes_of (get_or bricks i d).code (get_or bricks i d).hits))
    → HasNoted now (Contains (map coded_voxel (codes_of (get_or bricks i d).code frees))) far new
    → further ≡ after + length (map coded_voxel (codes_of (get_or bricks i d).code frees))
    → HasNotedFirst now bricks (i + 1) old new before after
first_step now bricks i d old mid far new before between further after frees l is u f m g n =
    let b : Brick = get_or bricks i d in
    let hits_more = voxels_more (λ b. b.hits) bricks i d l in
    let frees_more = voxels_more frees_of bricks i d l
    ∙ ap (λ m. freed_voxels (take i bricks) ++ map coded_voxel (codes_of b.code m)) (sym is) in
    let counted = count_more bricks i d l in
    let freed = ap (λ m. length (map coded_voxel (codes_of b.code m))) is in
    let total = u.room in
    record {
      noted = noted_join now (λ k. IsOf (take i bricks) k ⊎ Contains
          (map coded_voxel (codes_of b.code b.hits)) k)
          (Contains (map coded_voxel (codes_of b.code frees))) (IsOf (take (i + 1) bricks)) old far
          new
          (noted_join now (IsOf (take i bricks))
          (Contains (map coded_voxel (codes_of b.code b.hits)))
          (λ k. IsOf (take i bricks) k ⊎ Contains (map coded_voxel (codes_of b.code b.hits)) k) old
          mid far u.noted f (λ k h. h) (λ k h. inl h) (λ k h. inr h))
          g
          (λ k h. elim h [
            | inl a ↦ elim (Contains-append_cases (hit_voxels (take i bricks))
                (map coded_voxel (codes_of b.code b.hits)) k
                (subst (λ l. Contains l k) hits_more a))
                [ inl p ↦ inl (inl (inl p)) | inr q ↦ inl (inr q) ]
            | inr a ↦ elim (Contains-append_cases (freed_voxels (take i bricks))
                (map coded_voxel (codes_of b.code frees)) k
                (subst (λ l. Contains l k) frees_more a))
                [ inl p ↦ inl (inl (inr p)) | inr q ↦ inr q ]
          ])
          (λ k h. elim h [
            | inl a ↦ elim a [
              | inl p ↦ inl (subst (λ l. Contains l k) (sym hits_more)
                  (Contains-append_left (hit_voxels (take i bricks))
                  (map coded_voxel (codes_of b.code b.hits)) k p))
              | inr p ↦ inr (subst (λ l. Contains l k) (sym frees_more)
                  (Contains-append_left (freed_voxels (take i bricks))
                  (map coded_voxel (codes_of b.code frees)) k p))
            ]
            | inr q ↦ inl (subst (λ l. Contains l k) (sym hits_more)
                (Contains-append_right (hit_voxels (take i bricks))
                (map coded_voxel (codes_of b.code b.hits)) k q))
          ])
          (λ k q. inr (subst (λ l. Contains l k) (sym frees_more)
          (Contains-append_right (freed_voxels (take i bricks))
          (map coded_voxel (codes_of b.code frees)) k q)));
      room = omega (arith, total, counted, freed, m, n);
    }

-- there is room for the next brick
count_all : (bs : List Brick) (i : ℕ) → voxel_count (take i bs) ≤ voxel_count bs
count_all bs i =
    let hits = length_part bs i (λ b. b.hits) in
    let frees = length_part bs i frees_of in
    omega (arith, hits, frees)
  where
    length_part : (bs : List Brick) (i : ℕ) (f : Brick → ℕ)
        → length (map coded_voxel (codes_by f (take i bs))) ≤ length
        (map coded_voxel (codes_by f bs))
    length_part bs i f =
        let parts : codes_by f bs ≡ codes_by f (take i bs) ++ codes_by f (drop i bs) = ap
        (codes_by f) (sym (take-append-drop i bs))
        ∙ flat_map-append (λ b. codes_of b.code (f b)) (take i bs) (drop i bs) in
        let whole = length-map (codes_by f bs) coded_voxel ∙ ap length parts
        ∙ length-append (codes_by f (take i bs)) (codes_by f (drop i bs)) in
        let part = length-map (codes_by f (take i bs)) coded_voxel in
        omega (arith, whole, part)

pub first_room : (bs : List Brick) (i : ℕ) (d : Brick) (before between : ℕ) → i < length bs
    → before ≡ between + voxel_count (take i bs) → voxel_count bs ≤ before
    → length (map coded_voxel (codes_of (get_or bs i d).code (get_or bs i d).hits)) + length
    (map coded_voxel (codes_of (get_or bs i d).code (frees_of (get_or bs i d)))) ≤ between
first_room bs i d before between l total room =
    let counted = count_more bs i d l in
    let most = count_all bs (i + 1) in
    omega (arith, counted, most, total, room)

pub first_end : (now : Classes) (bricks : List Brick) (i : ℕ) (old new : List Note)
    (before after : ℕ) → length bricks ≤ i
    → HasNotedFirst now bricks i old new before after
    → HasNoted now (IsOf bricks) old new × (before ≡ after + voxel_count bricks)
first_end now bricks i old new before after l u =
    let all = take_all i bricks l in (
      subst (λ bs. HasNoted now (IsOf bs) old new) all u.noted,
      u.room ∙ ap (λ bs. after + voxel_count bs) all,
    )

pub hits_room : (bs : List Brick) (i : ℕ) (d : Brick) (before between : ℕ) → i < length bs
    → before ≡ between + voxel_count (take i bs) → voxel_count bs ≤ before
    → length (map coded_voxel (codes_of (get_or bs i d).code (get_or bs i d).hits)) ≤ between
hits_room bs i d before between l total room =
    (let both = first_room bs i d before between l total room in omega (arith, both))

pub frees_room : (bs : List Brick) (i : ℕ) (d : Brick) (before between further frees : ℕ)
    → i < length bs → before ≡ between + voxel_count (take i bs) → voxel_count bs ≤ before
    → between ≡ further + length (map coded_voxel
    (codes_of (get_or bs i d).code (get_or bs i d).hits)) → frees ≡ frees_of (get_or bs i d)
    → length (map coded_voxel (codes_of (get_or bs i d).code frees)) ≤ further
frees_room bs i d before between further frees l total room taken is =
    let both = first_room bs i d before between l total room in
    let same = ap (λ m. length (map coded_voxel (codes_of (get_or bs i d).code m))) is in
    omega (arith, both, same, taken)
