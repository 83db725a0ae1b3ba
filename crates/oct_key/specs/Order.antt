-- The order of voxels, and the voxels of the map and the blocks of a depth in it.
use Rattle.std.specs.Prelude.{ℕ, zero, suc, ◌+◌, ◌^◌, List, [], ◌∷◌, map}
use Rattle.std.specs.List.{flat_map}
use Rattle.std.specs.Ordering.{nat_cmp, ordering_then}
use Rattle.std.specs.declared.cmp.Ordering.{Ordering}
use Rattle.oct_key.specs.Voxel.{Voxel}
use Rattle.oct_key.specs.Block.{Cube}

-- the order of voxels: by x, then by y, then by z
abbrev pub key_cmp : Voxel → Voxel → Ordering
key_cmp a b = ordering_then (nat_cmp a.x b.x) (ordering_then (nat_cmp a.y b.y) (nat_cmp a.z b.z))

-- this many numbers, one after another from the first on
unfoldable pub numbers_from : ℕ → ℕ → List ℕ
numbers_from first zero = []
numbers_from first (suc count) = first ∷ numbers_from (first + 1) count

-- the triples of the numbers of three lists: by the first, then by the second, then by the third
unfoldable pub triples_of : List ℕ → List ℕ → List ℕ → List Voxel
triples_of xs ys zs =
    flat_map (λ x. flat_map (λ y. map (λ z. record { x = x; y = y; z = z }) zs) ys) xs

-- all triples of numbers below this one, in their order
abbrev pub triples_below : ℕ → List Voxel
triples_below n = triples_of (numbers_from 0 n) (numbers_from 0 n) (numbers_from 0 n)

-- the voxels of the map, by ascending x, y and z
unfoldable pub voxels_in_order : List Voxel
voxels_in_order = triples_below 65536

-- the block of a depth with these numbers on the axes
abbrev pub block_numbered : ℕ → Voxel → Cube
block_numbered depth n = record { depth = depth; x = n.x; y = n.y; z = n.z }

-- the numbers of a block on the axes
abbrev pub numbers_of : Cube → Voxel
numbers_of b = record { x = b.x; y = b.y; z = b.z }

-- the order of blocks: by x, then by y, then by z
abbrev pub block_cmp : Cube → Cube → Ordering
block_cmp b c = key_cmp (numbers_of b) (numbers_of c)

-- the blocks of a depth, by ascending x, y and z
unfoldable pub blocks_in_order : ℕ → List Cube
blocks_in_order depth = map (block_numbered depth) (triples_below (2 ^ depth))
