-- What is made of merged bricks is what is made of the codes that were gathered.
use Rattle.std.proofs.Common.{◌≡◌, ℕ, ◌+◌, ◌-◌, ◌*◌, ◌%◌, ◌^◌, ◌<◌, ◌≤◌, ◌↔◌, List, [], ◌∷◌, ◌++◌}
use Rattle.std.proofs.Common.{map, length, take, get_or, refl, sym, ◌∙◌, ap, arith, append_assoc}
use Rattle.std.proofs.Common.{bit_and}
use Rattle.std.specs.List.{All, Contains}
use Rattle.std.specs.Int.{w64, trailing_zeros}
use Rattle.std.proofs.lemmas.Nat.Bits.{bit_at-trailing_zeros}
use Rattle.std.proofs.lemmas.List.{append-nil, take_all, length-map}
use Rattle.std.proofs.lemmas.List.Elements.{All-nil}
use Rattle.oct_key.specs.Voxel.{Voxel}
use Rattle.oct_brick.specs.declared.brick.Brick.{Brick}
use Rattle.oct_brick.specs.Masks.{codes_of}
use Rattle.oct_brick.specs.Bricks.{scanned_codes, hit_codes, freed_codes, frees_of, IsBrick}
use Rattle.oct_brick.specs.Bricks.{AreAscending}
use Rattle.oct_brick.proofs.MaskCodes.{lowest_first, no_codes}
use Rattle.oct_brick.proofs.BrickCodes.{by_rises}
use Rattle.oct_brick.proofs.Merging.{freed_has}
use Rattle.oct_brick.proofs.Rising.{Rises, same_rising}
use Rattle.oct_brick.proofs.Lists.{pairs_nil}
use Rattle.oct_brick.specs.Voxels.{coded_voxel}
use Rattle.oct_scan.specs.Codes.{difference, brick_count, bricks_after}
use Rattle.oct_scan.specs.Gathered.{HoldCodes}
use Rattle.oct_scan.specs.Update.{UpdateSet, IsSettled}
use Rattle.oct_scan.proofs.CodeLists.{IsPart, difference_from, difference_listed, difference_rises}
use Rattle.oct_scan.proofs.CodeLists.{increasing_from}
use Rattle.oct_scan.proofs.BrickCounts.{brick_count_is}

-- the codes that bricks free are those of the one list without the other
pub freed_is : (bs : List Brick) → AreAscending bs → All IsBrick bs
    → IsPart (hit_codes bs) (scanned_codes bs)
    → freed_codes bs ≡ difference (scanned_codes bs) (hit_codes bs)
freed_is bs apart bricks part =
    let codes_up : Rises (scanned_codes bs) = by_rises (λ b. b.scanned) bs apart in
    let hits_up : Rises (hit_codes bs) = by_rises (λ b. b.hits) bs apart in
    same_rising (freed_codes bs) (difference (scanned_codes bs) (hit_codes bs))
    (by_rises frees_of bs apart)
    (difference_rises (scanned_codes bs) (hit_codes bs) codes_up hits_up part)
    (λ c. (
      λ h. (let r = (freed_has bs c apart bricks).0 h in
          difference_listed (scanned_codes bs) (hit_codes bs) c codes_up hits_up part r.0 r.1),
      λ h. (freed_has bs c apart bricks).1
          (difference_from (scanned_codes bs) (hit_codes bs) c codes_up hits_up part h),
    ))

-- the update of merged bricks is that of the codes
pub settled : (bricks merged : List Brick) (s h : List ℕ) (u : UpdateSet) → HoldCodes bricks s h
    → IsPart h s → ((c : ℕ) → Contains (scanned_codes bricks) c ↔ Contains (scanned_codes merged) c)
    → ((c : ℕ) → Contains (hit_codes bricks) c ↔ Contains (hit_codes merged) c) → All IsBrick merged
    → AreAscending merged → u.hits ≡ map coded_voxel (hit_codes merged)
    → u.frees ≡ map coded_voxel (freed_codes merged) → u.need ≡ brick_count merged → IsSettled s h u
settled bricks merged s h u held part scanned hits all apart hits_are frees_are need_is =
    let same_codes : (c : ℕ)
    → Contains s c ↔ Contains (scanned_codes merged) c =
    λ c. (
      λ k. (scanned c).0 ((held.same_scanned c).0 k),
      λ k. (held.same_scanned c).1 ((scanned c).1 k),
    ) in
    let same_hits : (c : ℕ) → Contains h c ↔ Contains (hit_codes merged) c =
    λ c. (λ k. (hits c).0 ((held.same_hits c).0 k), λ k. (held.same_hits c).1 ((hits c).1 k)) in
    record {
      codes = scanned_codes merged;
      hit_codes = hit_codes merged;
      same_codes = same_codes;
      same_hits = same_hits;
      codes_rise = increasing_from (scanned_codes merged) (by_rises (λ b. b.scanned) merged apart);
      hits_rise = increasing_from (hit_codes merged) (by_rises (λ b. b.hits) merged apart);
      hits_are = hits_are;
      frees_are = frees_are ∙ ap (map coded_voxel)
          (freed_is merged apart all (λ c k. (same_codes c).0 (part c ((same_hits c).1 k))));
      need_is = need_is ∙ brick_count_is merged all apart;
    }

-- and where there are no bricks, nothing is to be merged
pub settled_none : (bricks : List Brick) (s h : List ℕ) → length bricks ≡ 0 → HoldCodes bricks s h
    → IsPart h s → IsSettled s h
    (record {
      hits = map coded_voxel (hit_codes bricks);
      frees = map coded_voxel
          (freed_codes bricks);
      need = 0;
    })
unfolding bricks_after
settled_none [] s h none held part =
    settled [] [] s h _ held part (λ c. (λ k. k, λ k. k)) (λ c. (λ k. k, λ k. k)) (All-nil IsBrick)
    (pairs_nil (λ a b. a.code < b.code)) refl refl refl
settled_none (b ∷ bs) s h none held part = absurd (omega (arith, none))

-- the lowest bit of a mask gives the next voxel
pub key_taken : (keys keys' start : List Voxel) (code left mask : ℕ) (k : Voxel) → 0 < left
    → left < 2 ^ 64 → keys' ≡ keys ++ k ∷ [] → k ≡ coded_voxel (64 * code + trailing_zeros w64 left)
    → keys ++ map coded_voxel (codes_of code left) ≡ start ++ map coded_voxel (codes_of code mask)
    → keys' ++ map coded_voxel (codes_of code (bit_and left (left - 1)))
    ≡ start ++ map coded_voxel (codes_of code mask)
key_taken keys keys' start code left mask k some fits added is h =
    let low = bit_at-trailing_zeros w64 left some fits in
    let p : ℕ = trailing_zeros w64 left in
    let rest : List ℕ = codes_of code (bit_and left (left - 1)) in
    let first : codes_of code left ≡ (64 * code + p) ∷ rest =
    lowest_first 64 (64 * code) left p low.0 some low.1 low.2 in
    ap (λ (l : List Voxel). l ++ map coded_voxel rest) (added ∙ ap (λ v. keys ++ v ∷ []) is)
    ∙ append_assoc keys (coded_voxel (64 * code + p) ∷ []) (map coded_voxel rest)
    ∙ ap (λ (l : List ℕ). keys ++ map coded_voxel l) (sym first) ∙ h

pub keys_done : (keys start : List Voxel) (code left mask : ℕ) → left ≡ 0
    → keys ++ map coded_voxel (codes_of code left) ≡ start ++ map coded_voxel (codes_of code mask)
    → keys ≡ start ++ map coded_voxel (codes_of code mask)
keys_done keys start code left mask none h = sym (append-nil keys)
    ∙ ap (λ (l : List ℕ). keys ++ map coded_voxel l)
    (sym (ap (codes_of code) none ∙ no_codes 64 (64 * code))) ∙ h

-- a brick's code and a place make a code
pub placed_code : (code y t : ℕ) → code < 2 ^ 42 → y ≡ t → code * 64 % 2 ^ 64 + y ≡ 64 * code + t
placed_code code y t l e = omega (arith, l, e)

pub placed_below : (code t : ℕ) → code < 2 ^ 42 → t < 64 → 64 * code + t < 2 ^ 48
placed_below code t l m = omega (arith, l, m)

pub place_below : (left : ℕ) → 0 < left → left < 2 ^ 64 → trailing_zeros w64 left < 64
place_below left some fits = (let low = bit_at-trailing_zeros w64 left some fits in low.0)

pub small_codes : (bs : List Brick) → All IsBrick bs → All (λ b. b.code < 2 ^ 42) bs
small_codes bs h = λ n d l. (h n d l).code

pub hits_fit_at : (bs : List Brick) (i : ℕ) (d : Brick) → i < length bs → All IsBrick bs
    → (get_or bs i d).hits < 2 ^ 64
hits_fit_at bs i d l h = (h i d l).hits_fit

-- all that was counted
pub hits_are_many : (bs : List Brick) (i count : ℕ) → length bs ≤ i
    → count ≡ length (hit_codes (take i bs)) → count ≡ length (map coded_voxel (hit_codes bs))
hits_are_many bs i count l is = is ∙ ap (λ (l : List Brick). length (hit_codes l)) (take_all i bs l)
    ∙ sym (length-map (hit_codes bs) coded_voxel)

pub frees_are_many : (bs : List Brick) (i count : ℕ) → length bs ≤ i
    → count ≡ length (freed_codes (take i bs)) → count ≡ length (map coded_voxel (freed_codes bs))
frees_are_many bs i count l is = is
    ∙ ap (λ (l : List Brick). length (freed_codes l)) (take_all i bs l)
    ∙ sym (length-map (freed_codes bs) coded_voxel)
