-- The voxels of the map and the blocks of a depth, in their order.
use Rattle.std.proofs.Common.{◌≡◌, ℕ, zero, suc, ◌+◌, ◌^◌, ◌<◌, ◌≤◌, List, [], ◌∷◌, map, refl}
use Rattle.std.proofs.Common.{subst, ap, arith}
use Rattle.std.specs.Prelude.{◌↔◌}
use Rattle.std.specs.List.{All, AllByRecursion, Contains}
use Rattle.std.specs.List.Sorted.{IsStrictlySortedBy}
use Rattle.std.specs.declared.cmp.Ordering.TheVariants.{Less}
use Rattle.std.proofs.lemmas.List.Elements.{All-contains, All-from_recursion}
use Rattle.oct_key.specs.Voxel.{Voxel, IsInMap}
use Rattle.oct_key.specs.Block.{Cube, IsBlock}
use Rattle.oct_key.specs.Order.{key_cmp, triples_below, voxels_in_order, numbers_of, block_numbered}
use Rattle.oct_key.specs.Order.{block_cmp, blocks_in_order}
use Rattle.oct_key.proofs.OneOrder.{on_first, on_rest}
use Rattle.oct_key.proofs.Triples.{triples_sorted, all_triples, in_triples}

-- as many numbers on each axis
abbrev cube_of_numbers : ℕ → Voxel
cube_of_numbers n = record { x = n; y = n; z = n }

-- the voxels of the map are in their order, each of them, and no other
pub in_order_sorted : IsStrictlySortedBy key_cmp voxels_in_order
unfolding voxels_in_order
in_order_sorted = triples_sorted (cube_of_numbers 0) (cube_of_numbers 65536)

pub in_order_all : (k : Voxel) → IsInMap k → Contains voxels_in_order k
unfolding voxels_in_order
in_order_all k v =
    in_triples (cube_of_numbers 0) (cube_of_numbers 65536) k
    (record { x = (omega arith, v.x); y = (omega arith, v.y); z = (omega arith, v.z) })

pub in_order_inside : All IsInMap voxels_in_order
unfolding voxels_in_order
in_order_inside =
    All-from_recursion IsInMap (triples_below 65536)
    (all_triples IsInMap (cube_of_numbers 0) (cube_of_numbers 65536)
    (λ n h. record { x = h.x.1; y = h.y.1; z = h.z.1 }))

pub in_order_exactly : (k : Voxel) → IsInMap k ↔ Contains voxels_in_order k
in_order_exactly k =
    (in_order_all k, λ there. All-contains IsInMap voxels_in_order k in_order_inside there)

-- what a function gives of the elements
pub all_mapped : {X Y : Type 0} (P : Y → Type 0) (f : X → Y) (xs : List X)
    → AllByRecursion (λ x. P (f x)) xs
    → AllByRecursion P (map f xs)
all_mapped P f [] h = tt
all_mapped P f (x ∷ xs) h = (h.0, all_mapped P f xs h.1)

pub contains_mapped : {X Y : Type 0} (f : X → Y) (xs : List X) (x : X) → Contains xs x
    → Contains (map f xs) (f x)
contains_mapped f [] x (k, l, is) = absurd (omega arith)
contains_mapped {Y = Y} f (z ∷ zs) x (zero, l, is) =
    subst (λ (a : Y). Contains (map f (z ∷ zs)) a) (ap f is) (on_first (map f zs) (f z))
contains_mapped f (z ∷ zs) x (suc k, l, is) =
    on_rest (f z) (map f zs) (f x) (contains_mapped f zs x (k, omega arith, is))

pub sorted_blocks : (depth : ℕ) (ns : List Voxel) → IsStrictlySortedBy key_cmp ns
    → IsStrictlySortedBy block_cmp (map (block_numbered depth) ns)
unfolding IsStrictlySortedBy
sorted_blocks depth [] h = tt
sorted_blocks depth (n ∷ ns) h = (
  all_mapped (λ c. block_cmp (block_numbered depth n) c ≡ Less) (block_numbered depth) ns h.0,
  sorted_blocks depth ns h.1,
)

-- the blocks of a depth are so too
pub blocks_sorted : (depth : ℕ) → IsStrictlySortedBy block_cmp (blocks_in_order depth)
unfolding blocks_in_order
blocks_sorted depth =
    sorted_blocks depth (triples_below (2 ^ depth))
    (triples_sorted (cube_of_numbers 0) (cube_of_numbers (2 ^ depth)))

pub blocks_all : (b : Cube) → IsBlock b → Contains (blocks_in_order b.depth) b
unfolding blocks_in_order
blocks_all b ok =
    contains_mapped (block_numbered b.depth) (triples_below (2 ^ b.depth)) (numbers_of b)
    (in_triples (cube_of_numbers 0) (cube_of_numbers (2 ^ b.depth)) (numbers_of b)
    (record { x = (omega arith, up ok.x); y = (omega arith, up ok.y); z = (omega arith, up ok.z) }))
  where
    up : {n m : ℕ} → n < m → n < 0 + m
    up l = omega (arith, l)

pub blocks_inside : (depth : ℕ) → depth ≤ 16
    → All (λ b. IsBlock b × (b.depth ≡ depth)) (blocks_in_order depth)
unfolding blocks_in_order
blocks_inside depth few =
    All-from_recursion (λ b. IsBlock b × (b.depth ≡ depth))
    (map (block_numbered depth) (triples_below (2 ^ depth)))
    (all_mapped (λ b. IsBlock b × (b.depth ≡ depth)) (block_numbered depth)
    (triples_below (2 ^ depth))
    (all_triples (λ n. IsBlock (block_numbered depth n) × (depth ≡ depth)) (cube_of_numbers 0)
    (cube_of_numbers (2 ^ depth))
    (λ n h.
    (record { depth = few; x = down h.x.1; y = down h.y.1; z = down h.z.1 }, refl))))
  where
    down : {n m : ℕ} → n < 0 + m → n < m
    down l = omega (arith, l)

pub blocks_exactly : (depth : ℕ) (b : Cube) → depth ≤ 16
    → (IsBlock b × (b.depth ≡ depth)) ↔ Contains (blocks_in_order depth) b
blocks_exactly depth b few = (
  λ (ok, level). subst (λ d. Contains (blocks_in_order d) b) level (blocks_all b ok),
  λ there. All-contains (λ b. IsBlock b × (b.depth ≡ depth)) (blocks_in_order depth) b
      (blocks_inside depth few) there,
)
