-- A block with leaves beside it has nothing unknown beside its voxels.
use Rattle.std.proofs.Common.{◌≡◌, ℕ, zero, suc, ◌+◌, ◌-◌, ◌*◌, ◌/◌, ◌%◌, ◌^◌, ◌<◌, ◌≤◌, inl, inr}
use Rattle.std.proofs.Common.{None, refl, ap, subst, ◌∙◌, arith}
use Rattle.std.specs.Prelude.{nat_eq, Bool, true, false, cond}
use Rattle.oct_key.specs.Voxel.{Voxel, IsInMap}
use Rattle.oct_key.specs.Block.{Cube, IsBlock, HoldsVoxel, child_of, child_index_of}
use Rattle.oct_key.proofs.Blocks.{same_cube, child_index_below, child_in_map}
use Rattle.oct_key.proofs.Held.{held_by_child, child_depths}
use Rattle.oct_arena.specs.declared.node.Node.{Node}
use Rattle.oct_arena.specs.Entries.{Groups}
use Rattle.oct_arena.specs.Nodes.{link_of, value_of}
use Rattle.oct_tree.specs.Tree.{IsOver, Tree, step, value_at}
use Rattle.oct_tree.proofs.Paths.{some_not_none}
use Rattle.oct_tree.proofs.Over.{over_value}
use Rattle.oct_frontier.specs.declared.patch.Sides.{Sides}
use Rattle.oct_frontier.specs.Frontier.{AreNeighbours}
use Rattle.oct_frontier.specs.Patches.{IsLeaf, AreBeside, AreAround, AreLeaves}
use Rattle.oct_frontier.specs.Patches.{sides_of_child}
use Rattle.oct_frontier.proofs.Steps.{leaf_step, around_child}

-- no neighbour of the voxel in the map is unknown
abbrev pub HasKnownAround : Tree → Voxel → Type 0
HasKnownAround t k = (j : Voxel) → IsInMap j → AreNeighbours j k → value_at t j ≡ None → ⊥

-- a voxel under a leaf is known
leaf_known : (t : Tree) (b : Cube) (n : Node) (j : Voxel) → b.depth ≤ 16 → HoldsVoxel b j
    → IsOver t b n → IsLeaf n → value_at t j ≡ None → ⊥
leaf_known t b n j d held over (v, is) none =
    some_not_none (over_value t b n d over (ap link_of is) j held ∙ ap value_of is) none

-- the block of depth 16 of a voxel holds it
pub voxel_held : (x y z : ℕ) (j : Voxel) → j.x ≡ x → j.y ≡ y → j.z ≡ z
    → HoldsVoxel (record { depth = 16; x = x; y = y; z = z }) j
voxel_held x y z j ex ey ez = record {
  x = (omega arith, omega arith);
  y = (omega arith, omega arith);
  z = (omega arith, omega arith);
}

-- on an axis, the neighbour below or above is under a leaf
below_known : (t : Tree) (block : ℕ → Cube) (n m : ℕ) (sides : Sides) (j : Voxel)
    → AreBeside t block 65536 n sides → ((q : ℕ) → (block q).depth ≤ 16) → IsLeaf sides.low
    → m + 1 ≡ n → HoldsVoxel (block m) j → value_at t j ≡ None → ⊥
below_known t block n m sides j beside d leaf e held none =
    leaf_known t (block m) sides.low j (d m) held (beside.low m e) leaf none

above_known : (t : Tree) (block : ℕ → Cube) (n m : ℕ) (sides : Sides) (j : Voxel)
    → AreBeside t block 65536 n sides → ((q : ℕ) → (block q).depth ≤ 16) → IsLeaf sides.high
    → n + 1 ≡ m → m < 65536 → HoldsVoxel (block m) j → value_at t j ≡ None → ⊥
above_known t block n m sides j beside d leaf e l held none =
    leaf_known t (block m) sides.high j (d m) held
    (subst (λ q. IsOver t (block q) sides.high) e (beside.high (omega arith))) leaf none

-- a voxel with leaves beside it
enclosed_voxel : (t : Tree) (k : Voxel) (node : Node) (x y z : Sides)
    → AreAround t (record { depth = 16; x = k.x; y = k.y; z = k.z }) node x y z → AreLeaves x y z
    → HasKnownAround t k
enclosed_voxel t k node x y z around leaves j v near none = elim near [
  | inl (next, ey, ez) ↦ elim next [
    | inl e ↦ below_known t (λ q. record { depth = 16; x = q; y = k.y; z = k.z }) k.x j.x x j
        around.x (λ q. omega arith) leaves.west e
        (voxel_held j.x k.y k.z j refl ey ez) none
    | inr e ↦ above_known t (λ q. record { depth = 16; x = q; y = k.y; z = k.z }) k.x j.x x j
        around.x (λ q. omega arith) leaves.east e v.x
        (voxel_held j.x k.y k.z j refl ey ez) none
  ]
  | inr (inl (ex, next, ez)) ↦ elim next [
    | inl e ↦ below_known t (λ q. record { depth = 16; x = k.x; y = q; z = k.z }) k.y j.y y j
        around.y (λ q. omega arith) leaves.south e
        (voxel_held k.x j.y k.z j ex refl ez) none
    | inr e ↦ above_known t (λ q. record { depth = 16; x = k.x; y = q; z = k.z }) k.y j.y y j
        around.y (λ q. omega arith) leaves.north e v.y
        (voxel_held k.x j.y k.z j ex refl ez) none
  ]
  | inr (inr (ex, ey, next)) ↦ elim next [
    | inl e ↦ below_known t (λ q. record { depth = 16; x = k.x; y = k.y; z = q }) k.z j.z z j
        around.z (λ q. omega arith) leaves.below e
        (voxel_held k.x k.y j.z j ex ey refl) none
    | inr e ↦ above_known t (λ q. record { depth = 16; x = k.x; y = k.y; z = q }) k.z j.z z j
        around.z (λ q. omega arith) leaves.above e v.z
        (voxel_held k.x k.y j.z j ex ey refl) none
  ]
]

-- beside a child of a leaf with leaves beside it stand leaves
leaves_low : (gs : Groups) (node : Node) (sides : Sides) (i bit half : ℕ) → IsLeaf node
    → IsLeaf sides.low
    → IsLeaf sides.high → IsLeaf (sides_of_child gs node sides i bit half).low
    × IsLeaf (sides_of_child gs node sides i bit half).high
unfolding sides_of_child
leaves_low gs node sides i bit half here low high = by_test (nat_eq half 1)
  where
    by_test : (test : Bool) → IsLeaf
        (cond {A = Sides} test (record
        { low = step gs node (i - bit); high = step gs sides.high (i - bit) })
        (record { low = step gs sides.low (i + bit); high = step gs node (i + bit) })).low
        × IsLeaf (cond {A = Sides} test
        (record { low = step gs node (i - bit); high = step gs sides.high (i - bit) })
        (record { low = step gs sides.low (i + bit); high = step gs node (i + bit) })).high
    by_test true = (leaf_step gs node (i - bit) here, leaf_step gs sides.high (i - bit) high)
    by_test false = (leaf_step gs sides.low (i + bit) low, leaf_step gs node (i + bit) here)

-- a block of depth 16 that holds a voxel is the voxel
pub voxel_block : (b : Cube) (k : Voxel) → b.depth ≡ 16 → HoldsVoxel b k
    → b ≡ record { depth = 16; x = k.x; y = k.y; z = k.z }
voxel_block b k e h = same_cube _ _ e (only b.x k.x h.x) (only b.y k.y h.y) (only b.z k.z h.z)
  where
    only : (n v : ℕ) → (n * 2 ^ (16 - b.depth) ≤ v) × (v < (n + 1) * 2 ^ (16 - b.depth)) → n ≡ v
    only n v (low, high) =
        let one : 2 ^ (16 - b.depth) ≡ 1 = ap (λ (d : ℕ). 2 ^ (16 - d)) e in
        let least : n * 1 ≤ v = rw one at low in
        let most : v < (n + 1) * 1 = rw one at high in
        omega arith

-- a free block with leaves beside it
pub enclosed_held : (t : Tree) (h : ℕ) (b : Cube) (node : Node) (x y z : Sides) → IsBlock b
    → b.depth + h ≡ 16 → AreAround t b node x y z → IsLeaf node → AreLeaves x y z
    → (k : Voxel) → HoldsVoxel b k → HasKnownAround t k
enclosed_held t zero b node x y z ok d around here leaves k held =
    enclosed_voxel t k node x y z
    (subst (λ c. AreAround t c node x y z) (voxel_block b k (omega arith) held) around) leaves
enclosed_held t (suc h) b node x y z ok d around here leaves k held =
    let i : ℕ = child_index_of b.depth k in
    let li : i < 8 = child_index_below b.depth k in
    let on_x = leaves_low t.groups node x i 1 (i % 2) here leaves.west leaves.east in
    let on_y = leaves_low t.groups node y i 2 (i / 2 % 2) here leaves.south leaves.north in
    let on_z = leaves_low t.groups node z i 4 (i / 4 % 2) here leaves.below leaves.above in
    enclosed_held t h (child_of b i) (step t.groups node i)
    (sides_of_child t.groups node x i 1 (i % 2))
    (sides_of_child t.groups node y i 2 (i / 2 % 2))
    (sides_of_child t.groups node z i 4 (i / 4 % 2))
    (child_in_map b i ok (omega arith)) (child_depths b h i d)
    (around_child t b i node x y z ok (omega arith) li around) (leaf_step t.groups node i here)
    (record {
      west = on_x.0;
      east = on_x.1;
      south = on_y.0;
      north = on_y.1;
      below = on_z.0;
      above = on_z.1;
    })
    k (held_by_child b k (omega arith) held)
