-- A voxel that hasn't leaves beside it has an unknown neighbour.
use Rattle.std.proofs.Common.{◌≡◌, ℕ, ◌+◌, ◌-◌, ◌<◌, inl, inr, None, refl, ap, ◌∙◌, arith}
use Rattle.std.specs.Prelude.{◌⊎◌}
use Rattle.std.proofs.lemmas.Bool.{cases_eq}
use Rattle.oct_key.specs.Voxel.{Voxel, IsInMap}
use Rattle.oct_key.specs.Block.{Cube}
use Rattle.oct_arena.specs.declared.node.Node.{Node}
use Rattle.oct_arena.specs.declared.node.Node.TheVariants.{Absent, Leaf, Inner}
use Rattle.oct_arena.specs.Nodes.{value_of}
use Rattle.oct_tree.specs.Tree.{IsOver, Tree, value_at}
use Rattle.oct_frontier.specs.declared.patch.Sides.{Sides}
use Rattle.oct_frontier.specs.Frontier.{AreNeighbours}
use Rattle.oct_frontier.specs.Patches.{IsLeaf, AreBeside, AreAround, AreLeaves}
use Rattle.oct_frontier.proofs.Faces.{voxel_held}

-- a neighbour of the voxel in the map is unknown
abbrev pub HasUnknownAround : Tree → Voxel → Type 0
HasUnknownAround t k = (j : Voxel) × IsInMap j × AreNeighbours j k × (value_at t j ≡ None)

-- a node is a leaf, or gives no value
leaf_or_none : (n : Node) → IsLeaf n ⊎ (value_of n ≡ None)
leaf_or_none Absent = inr refl
leaf_or_none (Leaf v) = inl (v, refl)
leaf_or_none (Inner v id) = inr refl

leaf_not_none : (n : Node) → IsLeaf n → value_of n ≡ None → ⊥
leaf_not_none n (v, is) none = (let some = ap value_of is in cc)

-- on an axis, the block below or above is there
below_there : (t : Tree) (block : ℕ → Cube) (n : ℕ) (sides : Sides)
    → AreBeside t block 65536 n sides
    → value_of sides.low ≡ None → (m : ℕ) × (m + 1 ≡ n) × IsOver t (block m) sides.low
below_there t block n sides beside none = elim (cases_eq n 0) [
  | inl e ↦ absurd (leaf_not_none sides.low (beside.low_edge e) none)
  | inr ne ↦ (n - 1, omega arith, beside.low (n - 1) (omega arith))
]

above_there : (t : Tree) (block : ℕ → Cube) (n : ℕ) (sides : Sides)
    → AreBeside t block 65536 n sides
    → n < 65536 → value_of sides.high ≡ None → (n + 1 < 65536) × IsOver t (block (n + 1)) sides.high
above_there t block n sides beside ln none = elim (cases_eq (n + 1) 65536) [
  | inl e ↦ absurd (leaf_not_none sides.high (beside.high_edge e) none)
  | inr ne ↦ (omega arith, beside.high (omega arith))
]

-- a voxel under a node without a value is unknown
none_over : (t : Tree) (x y z : ℕ) (n : Node)
    → IsOver t (record { depth = 16; x = x; y = y; z = z }) n
    → value_of n ≡ None → value_at t (record { x = x; y = y; z = z }) ≡ None
unfolding value_at
none_over t x y z n over none =
    ap value_of (over (record { x = x; y = y; z = z })
    (voxel_held x y z (record { x = x; y = y; z = z }) refl refl refl)) ∙ none

-- on each side
unknown_x : (t : Tree) (k : Voxel) (sides : Sides) → IsInMap k
    → AreBeside t (λ q. record { depth = 16; x = q; y = k.y; z = k.z }) 65536 k.x sides
    → (value_of sides.low ≡ None) ⊎ (value_of sides.high ≡ None) → HasUnknownAround t k
unknown_x t k sides v beside some = elim some [
  | inl none ↦ (let (m, e, over) = below_there t
      (λ q. record { depth = 16; x = q; y = k.y; z = k.z }) k.x sides beside none in
      let first : k.x < 65536 = v.x in (
        record { x = m; y = k.y; z = k.z },
        record { x = omega arith; y = v.y; z = v.z },
        inl (inl e, refl, refl),
        none_over t m k.y k.z sides.low over none,
      ))
  | inr none ↦ (let (l, over) = above_there t (λ q. record { depth = 16; x = q; y = k.y; z = k.z })
      k.x sides beside v.x none in (
        record { x = k.x + 1; y = k.y; z = k.z },
        record { x = l; y = v.y; z = v.z },
        inl (inr refl, refl, refl),
        none_over t (k.x + 1) k.y k.z sides.high over none,
      ))
]

unknown_y : (t : Tree) (k : Voxel) (sides : Sides) → IsInMap k
    → AreBeside t (λ q. record { depth = 16; x = k.x; y = q; z = k.z }) 65536 k.y sides
    → (value_of sides.low ≡ None) ⊎ (value_of sides.high ≡ None) → HasUnknownAround t k
unknown_y t k sides v beside some = elim some [
  | inl none ↦ (let (m, e, over) = below_there t
      (λ q. record { depth = 16; x = k.x; y = q; z = k.z }) k.y sides beside none in
      let first : k.y < 65536 = v.y in (
        record { x = k.x; y = m; z = k.z },
        record { x = v.x; y = omega arith; z = v.z },
        inr (inl (refl, inl e, refl)),
        none_over t k.x m k.z sides.low over none,
      ))
  | inr none ↦ (let (l, over) = above_there t (λ q. record { depth = 16; x = k.x; y = q; z = k.z })
      k.y sides beside v.y none in (
        record { x = k.x; y = k.y + 1; z = k.z },
        record { x = v.x; y = l; z = v.z },
        inr (inl (refl, inr refl, refl)),
        none_over t k.x (k.y + 1) k.z sides.high over none,
      ))
]

unknown_z : (t : Tree) (k : Voxel) (sides : Sides) → IsInMap k
    → AreBeside t (λ q. record { depth = 16; x = k.x; y = k.y; z = q }) 65536 k.z sides
    → (value_of sides.low ≡ None) ⊎ (value_of sides.high ≡ None) → HasUnknownAround t k
unknown_z t k sides v beside some = elim some [
  | inl none ↦ (let (m, e, over) = below_there t
      (λ q. record { depth = 16; x = k.x; y = k.y; z = q }) k.z sides beside none in
      let first : k.z < 65536 = v.z in (
        record { x = k.x; y = k.y; z = m },
        record { x = v.x; y = v.y; z = omega arith },
        inr (inr (refl, refl, inl e)),
        none_over t k.x k.y m sides.low over none,
      ))
  | inr none ↦ (let (l, over) = above_there t (λ q. record { depth = 16; x = k.x; y = k.y; z = q })
      k.z sides beside v.z none in (
        record { x = k.x; y = k.y; z = k.z + 1 },
        record { x = v.x; y = v.y; z = l },
        inr (inr (refl, refl, inr refl)),
        none_over t k.x k.y (k.z + 1) sides.high over none,
      ))
]

-- a voxel that hasn't leaves on all sides
pub open_voxel : (t : Tree) (k : Voxel) (node : Node) (x y z : Sides) → IsInMap k
    → AreAround t (record { depth = 16; x = k.x; y = k.y; z = k.z }) node x y z
    → (AreLeaves x y z → ⊥) → HasUnknownAround t k
open_voxel t k node x y z v around bare = elim (leaf_or_none x.low) [
  | inr none ↦ unknown_x t k x v around.x (inl none)
  | inl west ↦ elim (leaf_or_none x.high) [
    | inr none ↦ unknown_x t k x v around.x (inr none)
    | inl east ↦ elim (leaf_or_none y.low) [
      | inr none ↦ unknown_y t k y v around.y (inl none)
      | inl south ↦ elim (leaf_or_none y.high) [
        | inr none ↦ unknown_y t k y v around.y (inr none)
        | inl north ↦ elim (leaf_or_none z.low) [
          | inr none ↦ unknown_z t k z v around.z (inl none)
          | inl below ↦ elim (leaf_or_none z.high) [
            | inr none ↦ unknown_z t k z v around.z (inr none)
            | inl above ↦ absurd (bare
                (record {
                  west = west;
                  east = east;
                  south = south;
                  north = north;
                  below = below;
                  above = above;
                }))
          ]
        ]
      ]
    ]
  ]
]
