-- A round over the parts of a brick: the part of the first child, and what is left.
use Rattle.std.proofs.Common.{◌≡◌, ◌≢◌, ℕ, zero, suc, ◌+◌, ◌-◌, ◌*◌, ◌/◌, ◌%◌, ◌^◌, ◌<◌, ◌≤◌, ◌↔◌}
use Rattle.std.proofs.Common.{◌⊎◌, false, List, [], ◌∷◌, map, inl, inr, refl, sym, subst, ◌∙◌, ap}
use Rattle.std.proofs.Common.{arith, Some, bit_and}
use Rattle.std.specs.Prelude.{◌==◌, if◌then◌else◌}
use Rattle.std.specs.List.{All, Contains}
use Rattle.std.specs.Int.{bit_at, bit_not, w64, trailing_zeros}
use Rattle.std.proofs.lemmas.Bool.{cases_eq}
use Rattle.std.proofs.lemmas.Bool.Decides.{eqb_tells}
use Rattle.std.proofs.Math.Nat.{suc-mul}
use Rattle.std.proofs.lemmas.Nat.{and_le_l, pow_pos}
use Rattle.std.proofs.lemmas.Nat.Bits.{bit_at-trailing_zeros, and_pow, bit_at-lt}
use Rattle.oct_key.specs.Voxel.{Voxel, IsInMap}
use Rattle.oct_key.specs.Block.{Cube, HoldsVoxel, block_of}
use Rattle.oct_key.specs.Morton.{morton_of, code_prefix}
use Rattle.oct_key.proofs.Blocks.{block_of_held}
use Rattle.oct_key.proofs.Interleavings.{same_prefix}
use Rattle.oct_odds.specs.declared.event.Event.{Event}
use Rattle.oct_values.specs.Events.{is_listed}
use Rattle.oct_brick.specs.declared.brick.Brick.{Brick}
use Rattle.oct_brick.specs.Masks.{HasCode}
use Rattle.oct_brick.specs.Bricks.{IsBrick, AreAscending, frees_of, hit_codes, freed_codes}
use Rattle.oct_brick.specs.Voxels.{coded_voxel, hit_voxels, freed_voxels}
use Rattle.oct_brick.proofs.Lists.{contains_none, contains_here, contains_cases, all_contained}
use Rattle.oct_brick.proofs.Lists.{pairs_nil}
use Rattle.oct_brick.proofs.Bits.{none_set, and_not, has_tells, octet_has, power_has, some_code}
use Rattle.oct_brick.proofs.Bits.{first_code, not_hasnt}
use Rattle.oct_brick.proofs.BrickCodes.{codes_by, by_one, by_below, by_rises}
use Rattle.oct_brick.proofs.CodedVoxels.{coded_voxel-IsInMap, morton_of-coded_voxel}
use Rattle.std.proofs.lemmas.List.Kept.{AllPairs-cons}
use Rattle.std.proofs.lemmas.List.Elements.{All-contains}
use Rattle.oct_edit.specs.Listed.{ListedUpdate, update_of}
use Rattle.oct_edit.specs.Bricks.{IsMasked}
use Rattle.oct_edit.specs.Parts.{AreIn, IsFirstChild}
use Rattle.oct_edit.specs.Scan.{events_of}
use Rattle.oct_edit.proofs.Shares.{hit_event, miss_event}
use Rattle.oct_edit.proofs.Keys.{IsParted, unlisted}
use Rattle.oct_edit.proofs.BrickParts.{digit, code_is_listed, from_codes, parted_codes, first_codes}
use Rattle.oct_edit.proofs.BrickParts.{IsRest, hits_within, scanned_within, frees_within}
use Rattle.oct_edit.proofs.BrickParts.{below_within, halves}

apart_one : (r : Brick) → AreAscending (r ∷ [])
apart_one r =
    AllPairs-cons (λ a b. a.code < b.code) r []
    (all_contained (λ b. r.code < b.code) [] (λ b h. absurd (contains_none b h)))
    (pairs_nil (λ a b. a.code < b.code))

small_one : (r : Brick) → r.code < 2 ^ 42 → All (λ b. b.code < 2 ^ 42) (r ∷ [])
small_one r l =
    all_contained (λ b. b.code < 2 ^ 42) (r ∷ []) (λ b h. elim (contains_cases r b [] h) [
      | inl e ↦ subst (λ (x : Brick). x.code < 2 ^ 42) e l
      | inr k ↦ absurd (contains_none b k)
    ])

-- a scanned code of a brick is one that it hits or frees
pub scanned_is : (r : Brick) (c : ℕ) → r.hits < 2 ^ 64 → HasCode r.code r.scanned c
    → Contains (hit_codes (r ∷ [])) c ⊎ Contains (freed_codes (r ∷ [])) c
scanned_is r c l h = elim (has_tells r.code r.hits c h.inside) [
  | inl k ↦ inl ((by_one (λ b. b.hits) r c).1 k)
  | inr k ↦ inr ((by_one frees_of r c).1 ((and_not r.code r.scanned r.hits c l).1 (h, k)))
]

pub below_of : (r : Brick) (m c : ℕ) → r.code < 2 ^ 42 → HasCode r.code m c → c < 2 ^ 48
below_of r m c l h = (let i = h.inside in omega (arith, l, i))

pub listed_in : (cs : List ℕ) (c : ℕ) → Contains cs c
    → Contains (map coded_voxel cs) (coded_voxel c)
listed_in [] c h = absurd (contains_none c h)
listed_in (x ∷ cs) c h = elim (contains_cases x c cs h) [
  | inl e ↦ subst (λ y. Contains (map coded_voxel (x ∷ cs)) (coded_voxel y)) e
      (contains_here (coded_voxel x) (map coded_voxel cs))
  | inr k ↦ later (coded_voxel x) (coded_voxel c) (map coded_voxel cs) (listed_in cs c k)
]
  where
    later : (x y : Voxel) (xs : List Voxel) → Contains xs y → Contains (x ∷ xs) y
    later x y xs h = (suc h.0, omega (arith, h.1), h.2)

-- scanned codes of a brick in a block begin alike
scanned_alike : (b : Cube) (r : Brick) → b.depth ≤ 16 → r.code < 2 ^ 42 → r.hits < 2 ^ 64
    → AreIn b (hit_voxels (r ∷ [])) → AreIn b (freed_voxels (r ∷ [])) → (c d : ℕ)
    → HasCode r.code r.scanned c → HasCode r.code r.scanned d
    → code_prefix b.depth c ≡ code_prefix b.depth d
scanned_alike b r low l fits hits frees c d hc hd =
    let at : (c : ℕ) → HasCode r.code r.scanned c → block_of b.depth (coded_voxel c) ≡ b =
    λ c h. block_of_held b (coded_voxel c) (elim (scanned_is r c fits h) [
      | inl k ↦ All-contains (λ k. IsInMap k → HoldsVoxel b k) (hit_voxels (r ∷ []))
          (coded_voxel c) hits.held (listed_in (hit_codes (r ∷ [])) c k) (coded_voxel-IsInMap c)
      | inr k ↦ All-contains (λ k. IsInMap k → HoldsVoxel b k) (freed_voxels (r ∷ []))
          (coded_voxel c) frees.held (listed_in (freed_codes (r ∷ [])) c k) (coded_voxel-IsInMap c)
    ]) in
    let code : (c : ℕ) → HasCode r.code r.scanned c → morton_of (coded_voxel c) ≡ c =
    λ c h. morton_of-coded_voxel c (below_of r r.scanned c l h) in
    ap (code_prefix b.depth) (sym (code c hc))
    ∙ (same_prefix b.depth (coded_voxel c) (coded_voxel d) low (coded_voxel-IsInMap c)
    (coded_voxel-IsInMap d)).1
    (at c hc ∙ sym (at d hd))
    ∙ ap (code_prefix b.depth) (code d hd)

-- one round: the part within a mask is that of the first child, and the rest is what is left
pub record IsRound (b : Cube) (i : ℕ) (rest part later : ListedUpdate) : Type 0 where
  pub first : IsFirstChild b.depth rest.hits rest.frees i
  pub hits : IsParted b.depth i rest.hits part.hits later.hits
  pub frees : IsParted b.depth i rest.frees part.frees later.frees

-- what a mask has to be for that
pub record IsChildMask (b : Cube) (i : ℕ) (r : Brick) (x : ℕ) : Type 0 where
  pub fits : x < 2 ^ 64
  pub least : (c : ℕ) → HasCode r.code r.scanned c → i ≤ digit b.depth c
  pub here : (c : ℕ) → HasCode r.code r.scanned c → HasCode r.code x c → digit b.depth c ≡ i
  pub after : (c : ℕ) → HasCode r.code r.scanned c → digit b.depth c ≡ i → HasCode r.code x c
  pub there : HasCode r.code x (64 * r.code + trailing_zeros w64 r.scanned)

pub mask_round : (b : Cube) (i : ℕ) (r p q w : Brick) (x y : ℕ) (hit miss : Event) → b.depth ≤ 15
    → w.code < 2 ^ 42 → IsRest w r → 0 < r.scanned → AreIn b (hit_voxels (r ∷ []))
    → AreIn b (freed_voxels (r ∷ [])) → IsChildMask b i r x → IsMasked r x p → y ≡ bit_not w64 x
    → IsMasked r y q
    → IsRound b i (update_of (r ∷ []) hit miss) (update_of (p ∷ []) hit miss)
    (update_of (q ∷ []) hit miss)
mask_round b i r p q w x y hit miss low small rest some in_hits in_frees mask part is later =
    let code : r.code < 2 ^ 42 = subst (λ n. n < 2 ^ 42) (sym rest.code) small in
    let c0 : ℕ = 64 * r.code + trailing_zeros w64 r.scanned in
    let has : HasCode r.code r.scanned c0 = some_code r.code r.scanned some rest.fits in
    let free_scanned : (c : ℕ) → HasCode r.code (frees_of r) c → HasCode r.code r.scanned c =
    λ c h. ((and_not r.code r.scanned r.hits c rest.hits_fit).0 h).0 in
    let same_code : (s : Brick) → s.code ≡ r.code → s.code < 2 ^ 42 =
    λ s e. subst (λ n. n < 2 ^ 42) (sym e) code in
    let one : (f : Brick → ℕ) → ((c : ℕ) → HasCode r.code (f r) c → HasCode r.code r.scanned c)
    → ((c : ℕ) → HasCode p.code (f p) c ↔ (HasCode r.code (f r) c × HasCode r.code x c))
    → ((c : ℕ) → HasCode q.code (f q) c ↔ (HasCode r.code (f r) c × HasCode r.code y c))
    → AreIn b (map coded_voxel (codes_by f (r ∷ [])))
    → IsParted b.depth i (map coded_voxel (codes_by f (r ∷ [])))
    (map coded_voxel (codes_by f (p ∷ []))) (map coded_voxel (codes_by f (q ∷ []))) =
    λ f scanned in_p in_q inside.
    parted_codes b i (codes_by f (r ∷ [])) (codes_by f (p ∷ [])) (codes_by f (q ∷ [])) low inside
    (by_below f (r ∷ []) (small_one r code)) (by_rises f (r ∷ []) (apart_one r))
    (by_rises f (p ∷ []) (apart_one p)) (by_rises f (q ∷ []) (apart_one q))
    (halves f r p q x y mask.fits is in_p in_q)
    (λ c h. (let k = (in_p c).0 ((by_one f p c).0 h) in
    let d = mask.here c (scanned c k.0) k.1 in
    omega (arith, d)))
    (λ c h. (let k = (in_q c).0 ((by_one f q c).0 h) in
    let s = scanned c k.0 in
    let l = mask.least c s in
    let ne : digit b.depth c ≢ i =
    λ e. not_hasnt r.code x c mask.fits (subst (λ z. HasCode r.code z c) is k.1)
    (mask.after c s e) in
    omega (arith, l, ne))) in
    record {
      first =
          first_codes b.depth i (hit_codes (r ∷ [])) (freed_codes (r ∷ [])) c0 low
          (by_below (λ b. b.hits) (r ∷ []) (small_one r code))
          (by_below frees_of (r ∷ []) (small_one r code))
          (λ d h. mask.least d (rest.part d ((by_one (λ b. b.hits) r d).0 h)))
          (λ d h. mask.least d (free_scanned d ((by_one frees_of r d).0 h)))
          (below_of r r.scanned c0 code has) (mask.here c0 has mask.there)
          (scanned_is r c0 rest.hits_fit has);
      hits =
          one (λ b. b.hits) rest.part (λ c. hits_within r p x c part)
          (λ c. hits_within r q y c later) in_hits;
      frees =
          one frees_of free_scanned (λ c. frees_within r p x c rest.hits_fit part)
          (λ c. frees_within r q y c rest.hits_fit later) in_frees;
    }

-- the mask of the first octet
pub octet_mask : (b : Cube) (i : ℕ) (r w : Brick) (x : ℕ) → b.depth ≡ 14 → IsRest w r
    → 0 < r.scanned → i ≡ trailing_zeros w64 r.scanned / 8 → x ≡ 2 ^ (8 * i + 8) - 2 ^ (8 * i)
    → x < 2 ^ 64 → IsChildMask b i r x
octet_mask b i r w x deep rest some is mask fits =
    let t : ℕ = trailing_zeros w64 r.scanned in
    let low = bit_at-trailing_zeros w64 r.scanned some rest.fits in
    let few : i < 8 = omega (arith, is, low.0) in
    let at : (c : ℕ) → digit b.depth c ≡ c / 8 % 8 = λ c. ap (λ d. digit d c) deep in
    let has : (c : ℕ) → c / 64 ≡ r.code → HasCode r.code x c ↔ (c / 8 % 8 ≡ i) =
    λ c e. subst (λ z. HasCode r.code z c ↔ (c / 8 % 8 ≡ i)) (sym mask)
    (octet_has r.code i c few e) in
    record {
      fits = fits;
      least =
          λ c h. (let l = first_code r.code r.scanned c some rest.fits h in
          let d = at c in
          omega (arith, l, d, is));
      here = λ c h k. at c ∙ (has c h.inside).0 k;
      after = λ c h e. (has c h.inside).1 (sym (at c) ∙ e);
      there = (has (64 * r.code + t) (omega (arith, low.0))).1 (omega (arith, low.0, is));
    }

-- the mask of the first voxel of an octet
pub voxel_mask : (b : Cube) (i : ℕ) (r w : Brick) (x : ℕ) → b.depth ≡ 15 → w.code < 2 ^ 42
    → IsRest w r → 0 < r.scanned → AreIn b (hit_voxels (r ∷ [])) → AreIn b (freed_voxels (r ∷ []))
    → i ≡ trailing_zeros w64 r.scanned % 8 → x ≡ 2 ^ trailing_zeros w64 r.scanned → x < 2 ^ 64
    → IsChildMask b i r x
voxel_mask b i r w x deep small rest some in_hits in_frees is mask fits =
    let t : ℕ = trailing_zeros w64 r.scanned in
    let low = bit_at-trailing_zeros w64 r.scanned some rest.fits in
    let code : r.code < 2 ^ 42 = subst (λ n. n < 2 ^ 42) (sym rest.code) small in
    let c0 : ℕ = 64 * r.code + t in
    let has0 : HasCode r.code r.scanned c0 = some_code r.code r.scanned some rest.fits in
    let at : (c : ℕ) → digit b.depth c ≡ c % 8 = λ c. ap (λ d. digit d c) deep ∙ last c in
    let octet : (c : ℕ) → HasCode r.code r.scanned c → c / 8 ≡ c0 / 8 =
    λ c h. sym (eighth c) ∙ sym (ap (λ d. code_prefix d c) deep)
    ∙ scanned_alike b r (omega (arith, deep)) code rest.hits_fit in_hits in_frees c c0 h
    has0
    ∙ ap (λ d. code_prefix d c0) deep ∙ eighth c0 in
    let has : (c : ℕ) → c / 64 ≡ r.code → HasCode r.code x c ↔ (c % 64 ≡ t) =
    λ c e. subst (λ z. HasCode r.code z c ↔ (c % 64 ≡ t)) (sym mask) (power_has r.code t c e) in
    record {
      fits = fits;
      least =
          λ c h. (let l = first_code r.code r.scanned c some rest.fits h in
          let d = at c in
          let o = octet c h in
          omega (arith, l, d, is, o, low.0));
      here = λ c h k. (let e = (has c h.inside).0 k in let d = at c in omega (arith, d, e, is));
      after =
          λ c h e. (has c h.inside).1 (let d = at c in
          let o = octet c h in
          omega (arith, d, e, is, o, low.0));
      there = (has c0 (omega (arith, low.0))).1 (omega (arith, low.0));
    }
  where
    last : (c : ℕ) → c / 2 ^ 0 % 8 ≡ c % 8
    last c = omega arith

    eighth : (c : ℕ) → code_prefix 15 c ≡ c / 8
    eighth c = refl

-- what is left is less
pub rest_less : (b : Cube) (i : ℕ) (r q w : Brick) (x y : ℕ) → IsRest w r → 0 < r.scanned
    → IsChildMask b i r x → y ≡ bit_not w64 x → IsMasked r y q → q.scanned < r.scanned
rest_less b i r q w x y rest some mask is later =
    let c0 : ℕ = 64 * r.code + trailing_zeros w64 r.scanned in
    let has : HasCode r.code r.scanned c0 = some_code r.code r.scanned some rest.fits in
    let le : q.scanned ≤ r.scanned =
    (let a = and_le_l r.scanned y in let e = later.scanned in omega (arith, a, e)) in
    let ne : q.scanned ≢ r.scanned = λ e.
    (let k = (scanned_within r q y c0 later).0
    (subst (λ z. HasCode q.code z c0) (sym e) (subst (λ z. HasCode z r.scanned c0)
    (sym later.code) has)) in
    not_hasnt r.code x c0 mask.fits (subst (λ z. HasCode r.code z c0) is k.1) mask.there) in
    omega (arith, le, ne)

-- the rest and the part are of the brick
pub rest_within : (r q w : Brick) (y : ℕ) → IsRest w r → IsMasked r y q → IsRest w q
rest_within r q w y rest later = record {
  code = later.code ∙ rest.code;
  fits = below_within r.scanned q.scanned y rest.fits later.scanned;
  hits_fit = below_within r.hits q.hits y rest.hits_fit later.hits;
  part =
      λ c h. (let k = (hits_within r q y c later).0 h in
      (scanned_within r q y c later).1 (rest.part c k.0, k.1));
}

pub part_brick : (b : Cube) (i : ℕ) (r p w : Brick) (x : ℕ) → w.code < 2 ^ 42 → IsRest w r
    → 0 < r.scanned → IsChildMask b i r x → IsMasked r x p → IsBrick p
part_brick b i r p w x small rest some mask part =
    let q = rest_within r p w x rest part in
    let c0 : ℕ = 64 * r.code + trailing_zeros w64 r.scanned in
    let has : HasCode p.code p.scanned c0 =
    (scanned_within r p x c0 part).1 (some_code r.code r.scanned some rest.fits, mask.there) in
    record {
      code = subst (λ n. n < 2 ^ 42) (sym q.code) small;
      fits = q.fits;
      hits_fit = q.hits_fit;
      some = not_zero p.scanned (λ e. none_set p.code c0 (subst (λ m. HasCode p.code m c0) e has));
      part = q.part;
    }
  where
    not_zero : (n : ℕ) → n ≢ 0 → 0 < n
    not_zero n ne = omega (arith, ne)

pub rest_of_brick : (w : Brick) → IsBrick w → IsRest w w
rest_of_brick w h = record { code = refl; fits = h.fits; hits_fit = h.hits_fit; part = h.part }

-- where nothing is left, no voxel is listed
pub none_left : (w r : Brick) (hit miss : Event) → IsRest w r → r.scanned ≡ 0
    → ((update_of (r ∷ []) hit miss).hits ≡ []) × ((update_of (r ∷ []) hit miss).frees ≡ [])
none_left w r hit miss rest none =
    let empty : (cs : List ℕ) → ((c : ℕ) → Contains cs c → ⊥) → map coded_voxel cs ≡ [] =
    λ cs h. ap (map coded_voxel) (nothing cs h) in (
      empty (hit_codes (r ∷ []))
          (λ c h. none_set r.code c
          (subst (λ m. HasCode r.code m c) none
          (rest.part c ((by_one (λ b. b.hits) r c).0 h)))),
      empty (freed_codes (r ∷ []))
          (λ c h. none_set r.code c
          (subst (λ m. HasCode r.code m c) none
          ((and_not r.code r.scanned r.hits c rest.hits_fit).0
          ((by_one frees_of r c).0 h)).0)),
    )
  where
    nothing : (cs : List ℕ) → ((c : ℕ) → Contains cs c → ⊥) → cs ≡ []
    nothing [] h = refl
    nothing (x ∷ cs) h = absurd (h x (contains_here x cs))

-- a bit of a mask, by the mask of the bit alone
bit_by_mask : (m x t c : ℕ) → x ≡ 2 ^ t → c % 64 ≡ t → bit_and m x ≡ bit_at m (c % 64) * 2 ^ t
bit_by_mask m x t c mask place =
    ap (bit_and m) mask ∙ and_pow m t ∙ ap (λ (n : ℕ). bit_at m n * 2 ^ t) (sym place)

product_zero : (a p : ℕ) → 0 < p → a < 2 → a * p ≡ 0 → a ≡ 0
product_zero zero p some l e = refl
product_zero (suc a) p some l e = absurd (omega (arith, some, e, grown a p))
  where
    grown : (a p : ℕ) → p ≤ suc a * p
    grown a p = (let e : suc a * p ≡ p + a * p = suc-mul a p ∙ omega arith in omega (arith, e))

unset_bit : (m x t c : ℕ) → x ≡ 2 ^ t → c % 64 ≡ t → bit_at m (c % 64) ≡ 1 → bit_and m x ≡ 0 → ⊥
unset_bit m x t c mask place set none =
    (let z = product_zero (bit_at m (c % 64)) (2 ^ t) (pow_pos t) (bit_at-lt m (c % 64))
    (sym (bit_by_mask m x t c mask place) ∙ none) in
    omega (arith, z, set))

set_bit : (m x t c : ℕ) → x ≡ 2 ^ t → c % 64 ≡ t → bit_and m x ≢ 0 → bit_at m (c % 64) ≡ 1
set_bit m x t c mask place some = elim (cases_eq (bit_at m (c % 64)) 1) [
  | inl one ↦ one
  | inr other ↦ absurd (some (bit_by_mask m x t c mask place ∙ ap (λ (a : ℕ). a * 2 ^ t)
      (zero_of (bit_at m (c % 64)) (bit_at-lt m (c % 64)) other) ∙ omega arith))
]
  where
    zero_of : (a : ℕ) → a < 2 → a ≢ 1 → a ≡ 0
    zero_of a l ne = omega (arith, l, ne)

-- a code that a brick hasn't in a mask is none of the mask's
pub unlisted_by : (f : Brick → ℕ) (p : Brick) (c : ℕ) → p.code < 2 ^ 42 → c < 2 ^ 48
    → ¬ HasCode p.code (f p) c
    → is_listed (map coded_voxel (codes_by f (p ∷ []))) (coded_voxel c) ≡ false
unlisted_by f p c small below out =
    unlisted (λ k. HasCode p.code (f p) (morton_of k)) (map coded_voxel (codes_by f (p ∷ [])))
    (coded_voxel c)
    (from_codes (λ k. HasCode p.code (f p) (morton_of k)) (codes_by f (p ∷ [])) (λ d h.
    let k = (by_one f p d).0 h in
    subst (HasCode p.code (f p)) (sym (morton_of-coded_voxel d (below_of p (f p) d small k))) k))
    (λ h. out (subst (HasCode p.code (f p)) (morton_of-coded_voxel c below) h))

-- the event of the part that is one voxel
pub part_event : (r p w : Brick) (x t c : ℕ) (hit miss event : Event) → w.code < 2 ^ 42 → IsRest w r
    → IsMasked r x p → x ≡ 2 ^ t → c % 64 ≡ t → HasCode r.code r.scanned c → HasCode r.code x c
    → event ≡ (if bit_and r.hits x == 0 then miss else hit)
    → events_of (update_of (p ∷ []) hit miss) (coded_voxel c) ≡ Some event
part_event r p w x t c hit miss event small rest part mask place has there is =
    let u = update_of (p ∷ []) hit miss in
    let r_small : r.code < 2 ^ 42 = subst (λ n. n < 2 ^ 42) (sym rest.code) small in
    let p_small : p.code < 2 ^ 42 = subst (λ n. n < 2 ^ 42) (sym part.code) r_small in
    elim (eqb_tells (bit_and r.hits x) 0) [
      | inl n ↦
          let unhit : ¬ HasCode p.code p.hits c =
          λ h. (let k = (hits_within r p x c part).0 h in
          unset_bit r.hits x t c mask place k.0.set n.1) in
          let freed : HasCode p.code (frees_of p) c =
          (and_not p.code p.scanned p.hits c
          (below_within r.hits p.hits x rest.hits_fit part.hits)).1
          ((scanned_within r p x c part).1 (has, there), unhit) in
          miss_event u (coded_voxel c)
          (unlisted_by (λ b. b.hits) p c p_small (below_of r r.scanned c r_small has) unhit)
          (code_is_listed (freed_codes (p ∷ [])) c ((by_one frees_of p c).1 freed))
          ∙ ap Some (sym (is ∙ rw n.0 refl))
      | inr n ↦
          let is_hit : HasCode p.code p.hits c =
          (hits_within r p x c part).1 (
            record { inside = has.inside; set = set_bit r.hits x t c mask place n.1 },
            there,
          ) in
          hit_event u (coded_voxel c)
          (code_is_listed (hit_codes (p ∷ [])) c ((by_one (λ b. b.hits) p c).1 is_hit))
          ∙ ap Some (sym (is ∙ rw n.0 refl))
    ]
