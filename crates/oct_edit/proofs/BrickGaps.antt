-- A voxel of a brick's block that the brick doesn't change, or that it changes all of them.
use Rattle.std.proofs.Common.{◌≡◌, ◌≢◌, ℕ, ◌+◌, ◌*◌, ◌/◌, ◌%◌, ◌^◌, ◌<◌, ◌≤◌, [], ◌∷◌, inl, inr}
use Rattle.std.proofs.Common.{sym, subst, ◌∙◌, ap, arith, None, bit_and, false, ◌-◌}
use Rattle.std.specs.Prelude.{IsTrue, IsSome, not, nat_eq}
use Rattle.std.proofs.lemmas.Bool.{false≢true}
use Rattle.std.proofs.lemmas.Bool.Decides.{eqb_tells}
use Rattle.std.specs.Int.{bit_not, w64, trailing_zeros}
use Rattle.std.proofs.lemmas.Nat.Bits.{bit_at-trailing_zeros}
use Rattle.std.proofs.lemmas.Nat.{and_le_l}
use Rattle.std.proofs.lemmas.List.Elements.{All-contains}
use Rattle.oct_key.specs.Voxel.{IsInMap}
use Rattle.oct_key.specs.Block.{Cube, HoldsVoxel}
use Rattle.oct_key.specs.Morton.{morton_of, code_prefix}
use Rattle.oct_key.proofs.Blocks.{block_of_held, held_by_block_of}
use Rattle.oct_key.proofs.Interleavings.{same_prefix}
use Rattle.oct_odds.specs.declared.event.Event.{Event}
use Rattle.oct_brick.specs.declared.brick.Brick.{Brick}
use Rattle.oct_brick.specs.Masks.{HasCode}
use Rattle.oct_brick.specs.Bricks.{IsBrick, frees_of, hit_codes, freed_codes}
use Rattle.oct_brick.specs.Voxels.{coded_voxel, hit_voxels, freed_voxels}
use Rattle.oct_brick.proofs.Bits.{some_code, and_not, and_both, none_set, has_tells, not_has}
use Rattle.oct_brick.proofs.Bits.{not_hasnt, octet_has}
use Rattle.oct_brick.proofs.CodedVoxels.{coded_voxel-IsInMap, morton_of-coded_voxel}
use Rattle.oct_brick.proofs.CodedVoxels.{coded_voxel-morton_of}
use Rattle.oct_edit.specs.Bricks.{HasGap, FillsBlock}
use Rattle.oct_edit.specs.Listed.{update_of}
use Rattle.oct_edit.specs.Scan.{events_of}
use Rattle.oct_edit.specs.Parts.{AreIn, IsUpdateIn}
use Rattle.oct_edit.proofs.Shares.{no_event, some_event}
use Rattle.oct_edit.proofs.BrickParts.{code_is_listed}
use Rattle.oct_edit.proofs.BrickRounds.{unlisted_by, scanned_is, listed_in, below_of}

-- a code of the brick is of a voxel of the block
scanned_held : (b : Cube) (r : Brick) (d : ℕ) → IsBrick r → AreIn b (hit_voxels (r ∷ []))
    → AreIn b (freed_voxels (r ∷ [])) → HasCode r.code r.scanned d → HoldsVoxel b (coded_voxel d)
scanned_held b r d brick hits frees has = elim (scanned_is r d brick.hits_fit has) [
  | inl k ↦ All-contains (λ k. IsInMap k → HoldsVoxel b k) (hit_voxels (r ∷ []))
      (coded_voxel d) hits.held (listed_in (hit_codes (r ∷ [])) d k) (coded_voxel-IsInMap d)
  | inr k ↦ All-contains (λ k. IsInMap k → HoldsVoxel b k) (freed_voxels (r ∷ []))
      (coded_voxel d) frees.held (listed_in (freed_codes (r ∷ [])) d k) (coded_voxel-IsInMap d)
]

-- a code that begins as one of the brick's does is of a voxel of the block
code_held : (b : Cube) (r : Brick) (c d : ℕ) → b.depth ≤ 16 → IsBrick r
    → AreIn b (hit_voxels (r ∷ [])) → AreIn b (freed_voxels (r ∷ [])) → c < 2 ^ 48
    → HasCode r.code r.scanned d → code_prefix b.depth c ≡ code_prefix b.depth d
    → HoldsVoxel b (coded_voxel c)
code_held b r c d low brick hits frees below has alike =
    let held : HoldsVoxel b (coded_voxel d) = scanned_held b r d brick hits frees has in
    let small = below_of r r.scanned d brick.code has in
    let same : code_prefix b.depth (morton_of (coded_voxel c))
    ≡ code_prefix b.depth (morton_of (coded_voxel d)) =
    ap (code_prefix b.depth) (morton_of-coded_voxel c below) ∙ alike
    ∙ sym (ap (code_prefix b.depth) (morton_of-coded_voxel d small)) in
    held_by_block_of b (coded_voxel c)
    ((same_prefix b.depth (coded_voxel c) (coded_voxel d) low (coded_voxel-IsInMap c)
    (coded_voxel-IsInMap d)).0 same ∙ block_of_held b (coded_voxel d) held)

-- a code that the brick doesn't scan has no event
code_left : (r : Brick) (c : ℕ) (hit miss : Event) → IsBrick r → c < 2 ^ 48
    → ¬ HasCode r.code r.scanned c
    → events_of (update_of (r ∷ []) hit miss) (coded_voxel c) ≡ None
code_left r c hit miss brick below out =
    no_event (update_of (r ∷ []) hit miss) (coded_voxel c)
    (unlisted_by (λ b. b.hits) r c brick.code below (λ h. out (brick.part c h)))
    (unlisted_by frees_of r c brick.code below
    (λ h. out ((and_not r.code r.scanned r.hits c brick.hits_fit).0 h).0))

-- where a bit of the octet isn't scanned, there is such a voxel in the octet's block
pub octet_gap : (b : Cube) (r : Brick) (x : ℕ) (hit miss : Event) → b.depth ≡ 15 → IsBrick r
    → IsUpdateIn b (update_of (r ∷ []) hit miss)
    → (let i : ℕ = trailing_zeros w64 r.scanned / 8 in x ≡ 2 ^ (8 * i + 8) - 2 ^ (8 * i))
    → x < 2 ^ 64 → 0 < bit_and x (bit_not w64 r.scanned) → HasGap b (update_of (r ∷ []) hit miss)
octet_gap b r x hit miss deep brick inside is fits some =
    let t : ℕ = trailing_zeros w64 r.scanned in
    let low = bit_at-trailing_zeros w64 r.scanned brick.some brick.fits in
    let i : ℕ = t / 8 in
    let few : i < 8 = omega (arith, low.0) in
    let y : ℕ = bit_and x (bit_not w64 r.scanned) in
    let y_fits : y < 2 ^ 64 =
    (let a = and_le_l x (bit_not w64 r.scanned) in omega (arith, a, fits)) in
    let c : ℕ = 64 * r.code + trailing_zeros w64 y in
    let d : ℕ = 64 * r.code + t in
    let has : HasCode r.code y c = some_code r.code y some y_fits in
    let both = (and_both r.code x (bit_not w64 r.scanned) c).0 has in
    let out : ¬ HasCode r.code r.scanned c = not_hasnt r.code r.scanned c brick.fits both.1 in
    let first : HasCode r.code r.scanned d = some_code r.code r.scanned brick.some brick.fits in
    let place : c / 8 % 8 ≡ i =
    (octet_has r.code i c few has.inside).0 (subst_mask x (2 ^ (8 * i + 8) - 2 ^ (8 * i)) c is
    both.0) in
    let inside_c = has.inside in
    let small = brick.code in
    let below : c < 2 ^ 48 = omega (arith, inside_c, small) in
    let alike : c / 8 ≡ d / 8 = omega (arith, inside_c, place, low.0) in (
      coded_voxel c,
      coded_voxel-IsInMap c,
      code_held b r c d (omega (arith, deep)) brick inside.hits inside.frees below first
          (ap (λ n. code_prefix n c) deep ∙ alike ∙ sym (ap (λ n. code_prefix n d) deep)),
      code_left r c hit miss brick below out,
    )
  where
    subst_mask : (x z c : ℕ) → x ≡ z → HasCode r.code x c → HasCode r.code z c
    subst_mask x z c e h = subst (λ m. HasCode r.code m c) e h

-- where a bit of the brick isn't scanned, there is such a voxel in the brick's block
pub brick_gap : (b : Cube) (r : Brick) (hit miss : Event) → b.depth ≡ 14 → IsBrick r
    → IsUpdateIn b (update_of (r ∷ []) hit miss) → 0 < bit_not w64 r.scanned
    → HasGap b (update_of (r ∷ []) hit miss)
brick_gap b r hit miss deep brick inside some =
    let y : ℕ = bit_not w64 r.scanned in
    let fits = brick.fits in
    let y_fits : y < 2 ^ 64 = omega (arith, fits) in
    let c : ℕ = 64 * r.code + trailing_zeros w64 y in
    let d : ℕ = 64 * r.code + trailing_zeros w64 r.scanned in
    let has : HasCode r.code y c = some_code r.code y some y_fits in
    let out : ¬ HasCode r.code r.scanned c = not_hasnt r.code r.scanned c brick.fits has in
    let first : HasCode r.code r.scanned d = some_code r.code r.scanned brick.some brick.fits in
    let inside_c = has.inside in
    let inside_d = first.inside in
    let small = brick.code in
    let below : c < 2 ^ 48 = omega (arith, inside_c, small) in (
      coded_voxel c,
      coded_voxel-IsInMap c,
      code_held b r c d (omega (arith, deep)) brick inside.hits inside.frees below first
          (ap (λ n. code_prefix n c) deep ∙ (inside_c ∙ sym inside_d)
          ∙ sym (ap (λ n. code_prefix n d) deep)),
      code_left r c hit miss brick below out,
    )

-- a code that the brick scans has an event
code_scanned : (r : Brick) (c : ℕ) (hit miss : Event) → IsBrick r → HasCode r.code r.scanned c
    → IsSome (events_of (update_of (r ∷ []) hit miss) (coded_voxel c))
code_scanned r c hit miss brick has =
    some_event (update_of (r ∷ []) hit miss) (coded_voxel c)
    (elim (scanned_is r c brick.hits_fit has) [
      | inl k ↦ inl (code_is_listed (hit_codes (r ∷ [])) c k)
      | inr k ↦ inr (code_is_listed (freed_codes (r ∷ [])) c k)
    ])

-- where each bit of the octet is scanned, each voxel of the octet's block has an event
pub octet_full : (b : Cube) (r : Brick) (x : ℕ) (hit miss : Event) → b.depth ≡ 15 → IsBrick r
    → IsUpdateIn b (update_of (r ∷ []) hit miss)
    → (let i : ℕ = trailing_zeros w64 r.scanned / 8 in x ≡ 2 ^ (8 * i + 8) - 2 ^ (8 * i))
    → bit_and x (bit_not w64 r.scanned) ≡ 0 → FillsBlock b (update_of (r ∷ []) hit miss)
octet_full b r x hit miss deep brick inside is none k v held =
    let t : ℕ = trailing_zeros w64 r.scanned in
    let low = bit_at-trailing_zeros w64 r.scanned brick.some brick.fits in
    let i : ℕ = t / 8 in
    let few : i < 8 = omega (arith, low.0) in
    let c : ℕ = morton_of k in
    let d : ℕ = 64 * r.code + t in
    let first : HasCode r.code r.scanned d = some_code r.code r.scanned brick.some brick.fits in
    let small = below_of r r.scanned d brick.code first in
    let alike : c / 8 ≡ d / 8 =
    sym (ap (λ n. code_prefix n c) deep)
    ∙ (same_prefix b.depth k (coded_voxel d) (omega (arith, deep)) v (coded_voxel-IsInMap d)).1
    (block_of_held b k held
    ∙ sym (block_of_held b (coded_voxel d)
    (scanned_held b r d brick inside.hits inside.frees first)))
    ∙ ap (code_prefix b.depth) (morton_of-coded_voxel d small) ∙ ap (λ n. code_prefix n d) deep in
    let within : c / 64 ≡ r.code = omega (arith, alike, low.0) in
    let place : c / 8 % 8 ≡ i = omega (arith, alike, low.0) in
    let of_octet : HasCode r.code x c =
    subst (λ m. HasCode r.code m c) (sym is) ((octet_has r.code i c few within).1 place) in
    subst (λ q. IsSome (events_of (update_of (r ∷ []) hit miss) q)) (coded_voxel-morton_of k v)
    (elim (has_tells r.code r.scanned c within) [
      | inl has ↦ code_scanned r c hit miss brick has
      | inr out ↦ absurd (none_set r.code c (subst (λ m. HasCode r.code m c) none
          ((and_both r.code x (bit_not w64 r.scanned) c).1
          (of_octet, not_has r.code r.scanned c brick.fits within out))))
    ])

pub not_zero : (n : ℕ) → n ≢ 0 → 0 < n
not_zero n ne = omega (arith, ne)

-- a mask that isn't 0
pub some_bit : (n : ℕ) → IsTrue (not (nat_eq n 0)) → 0 < n
some_bit n h = elim (eqb_tells n 0) [
  | inl p ↦ absurd (false≢true (sym (ap not p.0) ∙ h))
  | inr p ↦ positive n p.1
]
  where
    positive : (n : ℕ) → (n ≡ 0 → ⊥) → 0 < n
    positive n ne = omega (arith, ne)

-- and one that is
pub none_bits : (n : ℕ) → not (nat_eq n 0) ≡ false → n ≡ 0
none_bits n h = elim (eqb_tells n 0) [
  | inl p ↦ p.1
  | inr p ↦ absurd (false≢true (sym h ∙ ap not p.0))
]

pub octet_number : (n : ℕ) → 0 < n → n < 2 ^ 64 → trailing_zeros w64 n / 8 < 8
octet_number n some fits =
    (let low = bit_at-trailing_zeros w64 n some fits in omega (arith, low.0))
