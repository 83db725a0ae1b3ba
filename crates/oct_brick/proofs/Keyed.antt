-- Bricks that are taken in the order of their keys.
use Rattle.std.proofs.Common.{◌≡◌, ℕ, ◌+◌, ◌/◌, ◌%◌, ◌^◌, ◌<◌, ◌≤◌, List}
use Rattle.std.proofs.Common.{length, map, get_or, take, sym, ◌∙◌, ap, arith}
use Rattle.std.specs.List.{All}
use Rattle.std.specs.List.Sorted.{IsNonDecreasing, IsNonDecreasingBy, IsPermutation}
use Rattle.std.proofs.lemmas.List.{get_or-map, length-map}
use Rattle.std.proofs.lemmas.List.Sorted.{All-permutation, length_permutation}
use Rattle.oct_key.specs.PlaceKeys.{AreKeys, keyed_at}
use Rattle.oct_key.proofs.PlaceKeys.{things_moved}
use Rattle.oct_brick.specs.declared.brick.Brick.{Brick}
use Rattle.oct_brick.specs.Bricks.{IsBrick}
use Rattle.oct_brick.specs.Merge.{HasAdded, IsCodeOf}
use Rattle.oct_brick.proofs.Merging.{HasSame, HasTaken, same_default, taken_added}
use Rattle.oct_brick.proofs.Merging.{taken_permuted}

-- no brick
abbrev pub nothing : Brick
nothing = record { code = 0; scanned = 0; hits = 0 }

-- the brick at the place that a key has
abbrev pub brick_of : List Brick → ℕ → Brick
brick_of bricks = keyed_at (2 ^ 22) bricks nothing

-- the bricks of keys
abbrev pub bricks_of : List Brick → List ℕ → List Brick
bricks_of bricks keys = map (brick_of bricks) keys

module _ (bricks : List Brick) (keys : List ℕ) (are : AreKeys IsCodeOf (2 ^ 22) bricks keys) where
  -- the bricks of the keys are those of the list, in another order
  moved : IsPermutation bricks (bricks_of bricks keys)
  moved = things_moved IsCodeOf (2 ^ 22) bricks keys nothing are

  within : (i : ℕ) → i < length (bricks_of bricks keys) → i < length keys
  within i l = omega (arith, l, length-map keys (brick_of bricks))

  -- there are as many keys as bricks
  pub all_keyed : length keys ≡ length bricks
  all_keyed =
      sym (length-map keys (brick_of bricks))
      ∙ length_permutation bricks (bricks_of bricks keys) moved

  -- the brick of the key at a place
  brick_at : (i e : ℕ) (d : Brick) → i < length keys
      → get_or (bricks_of bricks keys) i d ≡ brick_of bricks (get_or keys i e)
  brick_at i e d l = get_or-map (brick_of bricks) keys i e d l

  code_at : (i : ℕ) (d : Brick) → i < length keys
      → (get_or (bricks_of bricks keys) i d).code ≡ get_or keys i 0 / 2 ^ 22
  code_at i d l =
      ap (λ (b : Brick). b.code) (brick_at i 0 d l) ∙ (are.each i 0 l).coded nothing

  -- keys that rise have codes that rise
  codes_rise : IsNonDecreasing keys → IsNonDecreasingBy (λ b. b.code) (bricks_of bricks keys)
  codes_rise up = λ i j d le l.
      let m = within j l in
      let a = code_at i d (omega (arith, le, m)) in
      let b = code_at j d m in
      let k = up i j 0 le m in
      omega (arith, a, b, k)

  -- the place that a key has is one of the list
  pub place_within : (i e : ℕ) → i < length keys → get_or keys i e % 2 ^ 22 < length bricks
  place_within i e l = (are.each i e l).within

  -- the brick of the next key is added
  pub key_taken : (ms ms' : List Brick) (i e : ℕ) (b d : Brick) → i < length keys
      → All IsBrick bricks → IsNonDecreasing keys
      → b ≡ get_or bricks (get_or keys i e % 2 ^ 22) d → HasAdded b ms ms'
      → HasTaken i (bricks_of bricks keys) ms → HasTaken (i + 1) (bricks_of bricks keys) ms'
  key_taken ms ms' i e b d l h up is added taken =
      let is_b : b ≡ get_or (bricks_of bricks keys) i nothing =
      is ∙ same_default bricks (get_or keys i e % 2 ^ 22) nothing d (place_within i e l)
      ∙ sym (brick_at i e nothing l) in
      taken_added (bricks_of bricks keys) ms ms' i nothing b
      (omega (arith, l, length-map keys (brick_of bricks)))
      (All-permutation IsBrick bricks (bricks_of bricks keys) moved h)
      (codes_rise up) is_b added taken

  -- what all keys give
  pub keys_taken : (f : Brick → ℕ) (ms : List Brick) (i : ℕ) → length keys ≤ i
      → HasSame f (take i (bricks_of bricks keys)) ms → HasSame f bricks ms
  keys_taken f ms i l =
      taken_permuted f bricks (bricks_of bricks keys) ms i moved
      (omega (arith, l, length-map keys (brick_of bricks)))
