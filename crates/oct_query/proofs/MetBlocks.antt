-- The blocks of a depth that meet a box are those whose numbers lie in a span on each axis.
use Rattle.std.proofs.Common.{◌≡◌, ℕ, zero, suc, ◌+◌, ◌*◌, ◌/◌, ◌^◌, ◌<◌, ◌≤◌, Bool, true, false}
use Rattle.std.proofs.Common.{cond, List, [], ◌∷◌, map, length, refl, sym, subst, ◌∙◌, ap, arith}
use Rattle.std.specs.Prelude.{filter}
use Rattle.std.specs.List.{All, AllByRecursion, Contains, flat_map}
use Rattle.std.specs.List.Sorted.{IsStrictlySortedBy}
use Rattle.std.specs.declared.cmp.Ordering.TheVariants.{Less}
use Rattle.std.proofs.lemmas.List.{length-append}
use Rattle.std.proofs.lemmas.List.Elements.{All-contains, All-from_recursion, All-filter}
use Rattle.std.proofs.lemmas.List.Elements.{filter_passes}
use Rattle.std.proofs.lemmas.List.Kept.{IsStrictlySortedBy-filter}
use Rattle.oct_key.specs.Voxel.{Voxel, IsInMap}
use Rattle.oct_key.specs.Block.{Cube, IsBlock, side}
use Rattle.oct_key.specs.Order.{numbers_from, triples_of, block_numbered, numbers_of, block_cmp}
use Rattle.oct_key.specs.Order.{blocks_in_order}
use Rattle.oct_key.proofs.Blocks.{quotient_below}
use Rattle.oct_key.proofs.Order.{one_way}
use Rattle.oct_key.proofs.OneOrder.{one_order, on_first, on_rest}
use Rattle.oct_key.proofs.Triples.{IsAmong, all_triples, triples_sorted, in_triples}
use Rattle.oct_key.proofs.InOrder.{all_mapped, contains_mapped, sorted_blocks, blocks_sorted}
use Rattle.oct_key.proofs.InOrder.{blocks_all, blocks_inside}
use Rattle.oct_key.specs.Boxes.{IsBox, MeetsSpan}
use Rattle.oct_key.proofs.BoxBlocks.{MeetsSpans, meets_exactly, meets_by_division}
use Rattle.oct_values.specs.Boxes.{is_met_by, met_on, met_at}
use Rattle.oct_values.proofs.Boxes.{met_by_voxels}
use Rattle.oct_query.specs.Listed.{met_blocks}

-- the blocks of this many planes, from one on
abbrev pub box_blocks : ℕ → Voxel → Voxel → List Cube
box_blocks depth first count =
    map (block_numbered depth)
    (triples_of (numbers_from first.x count.x) (numbers_from first.y count.y)
    (numbers_from first.z count.z))

-- the numbers of the first block that meets a box, and how many do on each axis
abbrev pub first_met : ℕ → Voxel → Voxel
first_met depth lo =
    record { x = lo.x / side depth; y = lo.y / side depth; z = lo.z / side depth }

abbrev pub count_met : ℕ → Voxel → Voxel → Voxel
count_met depth lo hi =
    record { x = met_on depth lo.x hi.x; y = met_on depth lo.y hi.y; z = met_on depth lo.z hi.z }

-- an element that passes is one of those that do
kept_passes : {X : Type 0} (p : X → Bool) (xs : List X) (x : X) → Contains xs x → p x ≡ true
    → Contains (filter p xs) x
kept_passes p [] x (k, l, is) h = absurd (omega arith)
kept_passes {X = X} p (y ∷ ys) x (zero, l, is) h =
    let passes : p y ≡ true = ap p is ∙ h in
    let e : filter p (y ∷ ys) ≡ y ∷ filter p ys =
    ap (λ test. cond test (y ∷ filter p ys) (filter p ys)) passes in
    subst (λ (a : X). Contains (filter p (y ∷ ys)) a) is
    (subst (λ l. Contains l y) (sym e) (on_first (filter p ys) y))
kept_passes p (y ∷ ys) x (suc k, l, is) h =
    by_test (p y) (kept_passes p ys x (k, omega arith, is) h)
  where
    by_test : (test : Bool) → Contains (filter p ys) x
        → Contains (cond test (y ∷ filter p ys) (filter p ys)) x
    by_test true there = on_rest y (filter p ys) x there
    by_test false there = there

-- on an axis, a number is in the span exactly where its block meets the box there
span_meets : (low high depth n : ℕ)
    → (low / side depth ≤ n) × (n < low / side depth + met_on depth low high)
    → MeetsSpan low high depth n
span_meets low high depth n (from, to) =
    (meets_by_division low high depth n).0 (from, omega (arith, from, to))

meets_span : (low high depth n : ℕ) → MeetsSpan low high depth n
    → (low / side depth ≤ n) × (n < low / side depth + met_on depth low high)
meets_span low high depth n h =
    let (from, to) = (meets_by_division low high depth n).1 h in
    (from, omega (arith, from, to))

-- a number of the span is one of the depth
span_below : (low high depth n : ℕ) → high < 65536 → depth ≤ 16 → MeetsSpan low high depth n
    → n < 2 ^ depth
span_below low high depth n v l h =
    let (from, to) = (meets_by_division low high depth n).1 h in
    let below = quotient_below depth high l v in
    omega (arith, to, below)

-- a block among these meets the box
among_meets : (lo hi n : Voxel) (depth : ℕ) → IsBox lo hi
    → IsAmong (first_met depth lo) (count_met depth lo hi) n
    → MeetsSpans lo hi (block_numbered depth n)
among_meets lo hi n depth box h = record {
  x = span_meets lo.x hi.x depth n.x h.x;
  y = span_meets lo.y hi.y depth n.y h.y;
  z = span_meets lo.z hi.z depth n.z h.z;
}

among_block : (lo hi n : Voxel) (depth : ℕ) → IsBox lo hi → IsInMap hi → depth ≤ 16
    → IsAmong (first_met depth lo) (count_met depth lo hi) n
    → IsBlock (block_numbered depth n)
among_block lo hi n depth box v few h =
    let spans = among_meets lo hi n depth box h in record {
      depth = few;
      x = span_below lo.x hi.x depth n.x v.x few spans.x;
      y = span_below lo.y hi.y depth n.y v.y few spans.y;
      z = span_below lo.z hi.z depth n.z v.z few spans.z;
    }

-- what a block that is listed is
abbrev IsMet : Voxel → Voxel → ℕ → Cube → Type 0
IsMet lo hi depth b = IsBlock b × (b.depth ≡ depth) × (is_met_by lo hi b ≡ true)

box_inside : (lo hi : Voxel) (depth : ℕ) → IsBox lo hi → IsInMap hi → depth ≤ 16
    → All (IsMet lo hi depth) (box_blocks depth (first_met depth lo) (count_met depth lo hi))
box_inside lo hi depth box v few =
    All-from_recursion (IsMet lo hi depth)
    (box_blocks depth (first_met depth lo) (count_met depth lo hi))
    (all_mapped (IsMet lo hi depth) (block_numbered depth) _
    (all_triples (λ n. IsMet lo hi depth (block_numbered depth n)) (first_met depth lo)
    (count_met depth lo hi)
    (λ n h. (let ok = among_block lo hi n depth box v few h in (
      ok,
      refl,
      (met_by_voxels lo hi (block_numbered depth n) ok).1
          ((meets_exactly lo hi (block_numbered depth n) box).1
          (among_meets lo hi n depth box h)),
    )))))

box_all : (lo hi : Voxel) (depth : ℕ) (b : Cube) → IsBox lo hi → IsMet lo hi depth b
    → Contains (box_blocks depth (first_met depth lo) (count_met depth lo hi)) b
box_all lo hi depth b box (ok, level, met) =
    subst (λ d. Contains (box_blocks d (first_met d lo) (count_met d lo hi)) b) level
    (contains_mapped (block_numbered b.depth) _ (numbers_of b)
    (in_triples (first_met b.depth lo) (count_met b.depth lo hi) (numbers_of b) among))
  where
    spans : MeetsSpans lo hi b
    spans = (meets_exactly lo hi b box).0 ((met_by_voxels lo hi b ok).0 met)

    among : IsAmong (first_met b.depth lo) (count_met b.depth lo hi) (numbers_of b)
    among = record {
      x = meets_span lo.x hi.x b.depth b.x spans.x;
      y = meets_span lo.y hi.y b.depth b.y spans.y;
      z = meets_span lo.z hi.z b.depth b.z spans.z;
    }

met_inside : (lo hi : Voxel) (depth : ℕ) → depth ≤ 16
    → All (IsMet lo hi depth) (met_blocks lo hi depth)
unfolding met_blocks
met_inside lo hi depth few k d l =
    let at =
    All-filter (is_met_by lo hi) (λ b. IsBlock b × (b.depth ≡ depth)) (blocks_in_order depth)
    (blocks_inside depth few) k d l in
    (at.0, at.1, filter_passes (is_met_by lo hi) (blocks_in_order depth) k d l)

met_all : (lo hi : Voxel) (depth : ℕ) (b : Cube) → IsMet lo hi depth b
    → Contains (met_blocks lo hi depth) b
unfolding met_blocks
met_all lo hi depth b (ok, level, met) =
    kept_passes (is_met_by lo hi) (blocks_in_order depth) b
    (subst (λ d. Contains (blocks_in_order d) b) level (blocks_all b ok)) met

met_sorted : (lo hi : Voxel) (depth : ℕ) → IsStrictlySortedBy block_cmp (met_blocks lo hi depth)
unfolding met_blocks
met_sorted lo hi depth =
    IsStrictlySortedBy-filter block_cmp (is_met_by lo hi) (blocks_in_order depth)
    (blocks_sorted depth)

sorted_step : (b : Cube) (bs : List Cube) → IsStrictlySortedBy block_cmp (b ∷ bs)
    → AllByRecursion (λ c. block_cmp b c ≡ Less) bs × IsStrictlySortedBy block_cmp bs
unfolding IsStrictlySortedBy
sorted_step b bs h = h

-- so the blocks that meet a box are these
pub met_are_box : (lo hi : Voxel) (depth : ℕ) → IsBox lo hi → IsInMap hi → depth ≤ 16
    → met_blocks lo hi depth ≡ box_blocks depth (first_met depth lo) (count_met depth lo hi)
met_are_box lo hi depth box v few =
    one_order (λ b c. block_cmp b c ≡ Less) (IsStrictlySortedBy block_cmp)
    (λ b c up down. one_way (numbers_of b) (numbers_of c) up down) sorted_step
    (met_blocks lo hi depth) (box_blocks depth (first_met depth lo) (count_met depth lo hi))
    (met_sorted lo hi depth)
    (sorted_blocks depth _ (triples_sorted (first_met depth lo) (count_met depth lo hi)))
    (λ b there. box_all lo hi depth b box
    (All-contains (IsMet lo hi depth) (met_blocks lo hi depth) b (met_inside lo hi depth few)
    there))
    (λ b there. met_all lo hi depth b
    (All-contains (IsMet lo hi depth)
    (box_blocks depth (first_met depth lo) (count_met depth lo hi)) b
    (box_inside lo hi depth box v few) there))

-- how many there are
length_mapped : {X Y : Type 0} (f : X → Y) (xs : List X) → length (map f xs) ≡ length xs
length_mapped f [] = refl
length_mapped f (x ∷ xs) = ap suc (length_mapped f xs)

length_numbers : (first count : ℕ) → length (numbers_from first count) ≡ count
unfolding numbers_from
length_numbers first zero = refl
length_numbers first (suc count) = ap suc (length_numbers (first + 1) count)

length_each : {X : Type 0} (f : ℕ → List X) (n : ℕ) (xs : List ℕ) → ((x : ℕ) → length (f x) ≡ n)
    → length (flat_map f xs) ≡ length xs * n
length_each f n [] h = omega arith
length_each f n (x ∷ xs) h =
    let all = length-append (f x) (flat_map f xs) in
    let rest = length_each f n xs h in
    let here = h x in
    omega (arith, all, rest, here)

pub count_of_met : (lo hi : Voxel) (depth : ℕ) → IsBox lo hi → IsInMap hi → depth ≤ 16
    → length (met_blocks lo hi depth) ≡ met_at lo hi depth
unfolding triples_of
count_of_met lo hi depth box v few =
    ap length (met_are_box lo hi depth box v few)
    ∙ length_mapped (block_numbered depth) _
    ∙ length_each _ (met_on depth lo.y hi.y * met_on depth lo.z hi.z)
    (numbers_from (lo.x / side depth) (met_on depth lo.x hi.x))
    (λ x. length_each _ (met_on depth lo.z hi.z)
    (numbers_from (lo.y / side depth) (met_on depth lo.y hi.y))
    (λ y. length_mapped _ (numbers_from (lo.z / side depth) (met_on depth lo.z hi.z))
    ∙ length_numbers (lo.z / side depth) (met_on depth lo.z hi.z))
    ∙ ap (λ n. n * met_on depth lo.z hi.z)
    (length_numbers (lo.y / side depth) (met_on depth lo.y hi.y)))
    ∙ ap (λ n. n * (met_on depth lo.y hi.y * met_on depth lo.z hi.z))
    (length_numbers (lo.x / side depth) (met_on depth lo.x hi.x))
    ∙ turned (met_on depth lo.x hi.x) (met_on depth lo.y hi.y) (met_on depth lo.z hi.z)
  where
    turned : (a b c : ℕ) → a * (b * c) ≡ a * b * c
    turned a b c = omega arith
