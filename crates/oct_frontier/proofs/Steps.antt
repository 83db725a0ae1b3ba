-- The nodes around a child, from those around its block.
use Rattle.std.proofs.Common.{◌≡◌, ℕ, suc, ◌+◌, ◌-◌, ◌*◌, ◌/◌, ◌%◌, ◌^◌, ◌<◌, ◌≤◌, inl, inr, Some}
use Rattle.std.proofs.Common.{None, refl, sym, ap, subst, ◌∙◌, arith}
use Rattle.std.specs.Prelude.{◌⊎◌}
use Rattle.std.proofs.Math.Nat.{pow-suc}
use Rattle.std.proofs.lemmas.Bool.{cases_eq}
use Rattle.oct_key.specs.Block.{Cube, IsBlock, child_of, child_index_of, root_block}
use Rattle.oct_key.proofs.Blocks.{same_cube, depth_child_of, child_holds}
use Rattle.oct_arena.specs.declared.node.Node.{Node}
use Rattle.oct_arena.specs.Entries.{Groups, IsLive}
use Rattle.oct_arena.specs.Nodes.{link_of}
use Rattle.oct_tree.specs.Tree.{IsOver, Tree, IsLinked, reach, step}
use Rattle.oct_tree.proofs.Paths.{reach_zero, reach_suc, homed_entry}
use Rattle.oct_tree.proofs.Over.{over_home}
use Rattle.oct_frontier.specs.declared.patch.Sides.{Sides}
use Rattle.oct_frontier.specs.Patches.{IsLeaf, AreBeside, AreAround, AreLeaves, row_x}
use Rattle.oct_frontier.specs.Patches.{row_y, row_z, sides_of_child}

-- a child of the node over a block is the node over the block's child
pub over_step : (t : Tree) (b : Cube) (n : Node) (i : ℕ) → b.depth ≤ 15 → i < 8 → IsOver t b n
    → IsOver t (child_of b i) (step t.groups n i)
over_step t b n i low li over k held =
    let (up, index) = (child_holds b i k (omega arith) li).0 held in
    ap (λ d. reach t d k) (depth_child_of b i) ∙ reach_suc t b.depth k
    ∙ ap (λ m. step t.groups m (child_index_of b.depth k)) (over k up)
    ∙ ap (step t.groups n) index

-- each child of a leaf is that leaf
pub leaf_step : (gs : Groups) (n : Node) (i : ℕ) → IsLeaf n → IsLeaf (step gs n i)
leaf_step gs n i (v, e) = (v, ap (λ m. step gs m i) e)

-- a leaf links no group
pub leaf_link : (n : Node) → IsLeaf n → link_of n ≡ None
leaf_link n (v, e) = ap link_of e

-- the same in other words
beside_as : (t : Tree) (block : ℕ → Cube) (count more n m : ℕ) (sides new : Sides)
    → AreBeside t block count n sides → count ≡ more → n ≡ m → new ≡ sides
    → AreBeside t block more m new
beside_as t block count more n m sides new h ec en es =
    subst (λ c. AreBeside t block c m new) ec
    (subst (λ q. AreBeside t block count q new) en (subst (AreBeside t block count n) (sym es) h))

-- beside the lower one of two children on an axis stand a child of the node below, and the other
-- one
beside_lower : (t : Tree) (block child : ℕ → Cube) (count n j : ℕ) (node : Node) (sides : Sides)
    → ((m : ℕ) → child (2 * m + 1) ≡ child_of (block m) j)
    → ((m : ℕ) → (block m).depth ≤ 15) → j < 8 → n < count
    → IsOver t (block n) node → AreBeside t block count n sides
    → AreBeside t child (2 * count) (2 * n)
    (record { low = step t.groups sides.low j; high = step t.groups node j })
beside_lower t block child count n j node sides odd deep lj ln over beside = record {
  low = below;
  low_edge = λ e. leaf_step t.groups sides.low j (beside.low_edge (omega arith));
  high = λ l. subst (λ c. IsOver t c (step t.groups node j)) (sym (odd n))
      (over_step t (block n) node j (deep n) lj over);
  high_edge = λ e. absurd (omega arith);
}
  where
    below : (m : ℕ) → m + 1 ≡ 2 * n → IsOver t (child m) (step t.groups sides.low j)
    below m e =
        let before : n - 1 + 1 ≡ n = omega arith in
        let is : 2 * (n - 1) + 1 ≡ m = omega arith in
        subst (λ q. IsOver t (child q) (step t.groups sides.low j)) is
        (subst (λ c. IsOver t c (step t.groups sides.low j)) (sym (odd (n - 1)))
        (over_step t (block (n - 1)) sides.low j (deep (n - 1)) lj (beside.low (n - 1) before)))

-- beside the upper one stand the other one, and a child of the node above
beside_upper : (t : Tree) (block child : ℕ → Cube) (count n j : ℕ) (node : Node) (sides : Sides)
    → ((m : ℕ) → child (2 * m) ≡ child_of (block m) j)
    → ((m : ℕ) → (block m).depth ≤ 15) → j < 8 → n < count
    → IsOver t (block n) node → AreBeside t block count n sides
    → AreBeside t child (2 * count) (2 * n + 1)
    (record { low = step t.groups node j; high = step t.groups sides.high j })
beside_upper t block child count n j node sides even deep lj ln over beside = record {
  low = λ m e. (let is : 2 * n ≡ m = omega arith in
      subst (λ q. IsOver t (child q) (step t.groups node j)) is
      (subst (λ c. IsOver t c (step t.groups node j)) (sym (even n))
      (over_step t (block n) node j (deep n) lj over)));
  low_edge = λ e. absurd (omega arith);
  high = λ l. (let is : 2 * (n + 1) ≡ 2 * n + 1 + 1 = omega arith in
      subst (λ q. IsOver t (child q) (step t.groups sides.high j)) is
      (subst (λ c. IsOver t c (step t.groups sides.high j)) (sym (even (n + 1)))
      (over_step t (block (n + 1)) sides.high j (deep (n + 1)) lj (beside.high (omega arith)))));
  high_edge = λ e. leaf_step t.groups sides.high j (beside.high_edge (omega arith));
}

-- which nodes stand beside a child in the lower half, and in the upper one
sides_lower : (gs : Groups) (node : Node) (sides : Sides) (i bit half : ℕ) → half ≡ 0
    → sides_of_child gs node sides i bit half
    ≡ record { low = step gs sides.low (i + bit); high = step gs node (i + bit) }
unfolding sides_of_child
sides_lower gs node sides i bit half e = rw e refl

sides_upper : (gs : Groups) (node : Node) (sides : Sides) (i bit half : ℕ) → half ≡ 1
    → sides_of_child gs node sides i bit half
    ≡ record { low = step gs node (i - bit); high = step gs sides.high (i - bit) }
unfolding sides_of_child
sides_upper gs node sides i bit half e = rw e refl

-- a bit is clear or set
clear_or_set : (n : ℕ) → (n % 2 ≡ 0) ⊎ (n % 2 ≡ 1)
clear_or_set n = elim (cases_eq (n % 2) 0) [ inl e ↦ inl e | inr ne ↦ inr (omega arith) ]

double : (d : ℕ) → 2 * 2 ^ d ≡ 2 ^ (d + 1)
double d = (let power = pow-suc 2 d in let next : d + 1 ≡ suc d = omega arith in
    rw next (omega (arith, power)))

-- on each axis
child_x : (t : Tree) (b : Cube) (i : ℕ) (node : Node) (sides : Sides) → IsBlock b → b.depth ≤ 15
    → i < 8 → IsOver t b node → AreBeside t (row_x b) (2 ^ b.depth) b.x sides
    → AreBeside t (row_x (child_of b i)) (2 ^ (child_of b i).depth) (child_of b i).x
    (sides_of_child t.groups node sides i 1 (i % 2))
unfolding child_of
child_x t b i node sides ok low li over beside = elim (clear_or_set i) [
  | inl e ↦ beside_as t (row_x (child_of b i)) (2 * 2 ^ b.depth) (2 ^ (b.depth + 1)) (2 * b.x)
      (2 * b.x + i % 2)
      (record { low = step t.groups sides.low (i + 1); high = step t.groups node (i + 1) })
      (sides_of_child t.groups node sides i 1 (i % 2))
      (beside_lower t (row_x b) (row_x (child_of b i)) (2 ^ b.depth) b.x (i + 1) node sides
      (λ m. same_cube _ _ refl (omega arith) (omega arith) (omega arith)) (λ m. low) (omega arith)
      ok.x over beside)
      (double b.depth) (omega arith) (sides_lower t.groups node sides i 1 (i % 2) e)
  | inr e ↦ beside_as t (row_x (child_of b i)) (2 * 2 ^ b.depth) (2 ^ (b.depth + 1)) (2 * b.x + 1)
      (2 * b.x + i % 2)
      (record { low = step t.groups node (i - 1); high = step t.groups sides.high (i - 1) })
      (sides_of_child t.groups node sides i 1 (i % 2))
      (beside_upper t (row_x b) (row_x (child_of b i)) (2 ^ b.depth) b.x (i - 1) node sides
      (λ m. same_cube _ _ refl (omega arith) (omega arith) (omega arith)) (λ m. low) (omega arith)
      ok.x over beside)
      (double b.depth) (omega arith) (sides_upper t.groups node sides i 1 (i % 2) e)
]

child_y : (t : Tree) (b : Cube) (i : ℕ) (node : Node) (sides : Sides) → IsBlock b → b.depth ≤ 15
    → i < 8 → IsOver t b node → AreBeside t (row_y b) (2 ^ b.depth) b.y sides
    → AreBeside t (row_y (child_of b i)) (2 ^ (child_of b i).depth) (child_of b i).y
    (sides_of_child t.groups node sides i 2 (i / 2 % 2))
unfolding child_of
child_y t b i node sides ok low li over beside = elim (clear_or_set (i / 2)) [
  | inl e ↦ beside_as t (row_y (child_of b i)) (2 * 2 ^ b.depth) (2 ^ (b.depth + 1)) (2 * b.y)
      (2 * b.y + i / 2 % 2)
      (record { low = step t.groups sides.low (i + 2); high = step t.groups node (i + 2) })
      (sides_of_child t.groups node sides i 2 (i / 2 % 2))
      (beside_lower t (row_y b) (row_y (child_of b i)) (2 ^ b.depth) b.y (i + 2) node sides
      (λ m. same_cube _ _ refl (omega arith) (omega arith) (omega arith)) (λ m. low) (omega arith)
      ok.y over beside)
      (double b.depth) (omega arith) (sides_lower t.groups node sides i 2 (i / 2 % 2) e)
  | inr e ↦ beside_as t (row_y (child_of b i)) (2 * 2 ^ b.depth) (2 ^ (b.depth + 1)) (2 * b.y + 1)
      (2 * b.y + i / 2 % 2)
      (record { low = step t.groups node (i - 2); high = step t.groups sides.high (i - 2) })
      (sides_of_child t.groups node sides i 2 (i / 2 % 2))
      (beside_upper t (row_y b) (row_y (child_of b i)) (2 ^ b.depth) b.y (i - 2) node sides
      (λ m. same_cube _ _ refl (omega arith) (omega arith) (omega arith)) (λ m. low) (omega arith)
      ok.y over beside)
      (double b.depth) (omega arith) (sides_upper t.groups node sides i 2 (i / 2 % 2) e)
]

child_z : (t : Tree) (b : Cube) (i : ℕ) (node : Node) (sides : Sides) → IsBlock b → b.depth ≤ 15
    → i < 8 → IsOver t b node → AreBeside t (row_z b) (2 ^ b.depth) b.z sides
    → AreBeside t (row_z (child_of b i)) (2 ^ (child_of b i).depth) (child_of b i).z
    (sides_of_child t.groups node sides i 4 (i / 4 % 2))
unfolding child_of
child_z t b i node sides ok low li over beside = elim (clear_or_set (i / 4)) [
  | inl e ↦ beside_as t (row_z (child_of b i)) (2 * 2 ^ b.depth) (2 ^ (b.depth + 1)) (2 * b.z)
      (2 * b.z + i / 4 % 2)
      (record { low = step t.groups sides.low (i + 4); high = step t.groups node (i + 4) })
      (sides_of_child t.groups node sides i 4 (i / 4 % 2))
      (beside_lower t (row_z b) (row_z (child_of b i)) (2 ^ b.depth) b.z (i + 4) node sides
      (λ m. same_cube _ _ refl (omega arith) (omega arith) (omega arith)) (λ m. low) (omega arith)
      ok.z over beside)
      (double b.depth) (omega arith) (sides_lower t.groups node sides i 4 (i / 4 % 2) e)
  | inr e ↦ beside_as t (row_z (child_of b i)) (2 * 2 ^ b.depth) (2 ^ (b.depth + 1)) (2 * b.z + 1)
      (2 * b.z + i / 4 % 2)
      (record { low = step t.groups node (i - 4); high = step t.groups sides.high (i - 4) })
      (sides_of_child t.groups node sides i 4 (i / 4 % 2))
      (beside_upper t (row_z b) (row_z (child_of b i)) (2 ^ b.depth) b.z (i - 4) node sides
      (λ m. same_cube _ _ refl (omega arith) (omega arith) (omega arith)) (λ m. low) (omega arith)
      ok.z over beside)
      (double b.depth) (omega arith) (sides_upper t.groups node sides i 4 (i / 4 % 2) e)
]

-- the nodes around a child
pub around_child : (t : Tree) (b : Cube) (i : ℕ) (node : Node) (x y z : Sides) → IsBlock b
    → b.depth ≤ 15 → i < 8 → AreAround t b node x y z
    → AreAround t (child_of b i) (step t.groups node i) (sides_of_child t.groups node x i 1 (i % 2))
    (sides_of_child t.groups node y i 2 (i / 2 % 2))
    (sides_of_child t.groups node z i 4 (i / 4 % 2))
around_child t b i node x y z ok low li around = record {
  linked = around.linked;
  here = over_step t b node i low li around.here;
  x = child_x t b i node x ok low li around.here around.x;
  y = child_y t b i node y ok low li around.here around.y;
  z = child_z t b i node z ok low li around.here around.z;
}

-- beside the whole map stand leaves
edge : (t : Tree) (block : ℕ → Cube) (count n : ℕ) (sides : Sides) → count ≡ 1 → n ≡ 0
    → IsLeaf sides.low → IsLeaf sides.high → AreBeside t block count n sides
edge t block count n sides ec en low high = record {
  low = λ m e. absurd (omega arith);
  low_edge = λ e. low;
  high = λ l. absurd (omega arith);
  high_edge = λ e. high;
}

pub around_whole : (t : Tree) (node : Node) (x y z : Sides) → IsLinked t → node ≡ t.root
    → AreLeaves x y z → AreAround t root_block node x y z
around_whole t node x y z l is leaves = record {
  linked = l;
  here = λ k held. reach_zero t k ∙ sym is;
  x = edge t (row_x root_block) 1 0 x refl refl leaves.west leaves.east;
  y = edge t (row_y root_block) 1 0 y refl refl leaves.south leaves.north;
  z = edge t (row_z root_block) 1 0 z refl refl leaves.below leaves.above;
}

-- the nodes around a block link live groups
over_live : (t : Tree) (b : Cube) (n : Node) → IsLinked t → IsBlock b → IsOver t b n → (id : ℕ)
    → link_of n ≡ Some id → IsLive t.groups id
over_live t b n l ok over id link = homed_entry _ b (over_home t b n id l ok over link)

leaf_live : (t : Tree) (n : Node) → IsLeaf n → (id : ℕ) → link_of n ≡ Some id → IsLive t.groups id
leaf_live t n leaf id link = (let none = leaf_link n leaf in cc)

low_live : (t : Tree) (block : ℕ → Cube) (count n : ℕ) (sides : Sides) → IsLinked t
    → ((m : ℕ) → m < count → IsBlock (block m)) → n < count → AreBeside t block count n sides
    → (id : ℕ) → link_of sides.low ≡ Some id → IsLive t.groups id
low_live t block count n sides l ok ln beside = elim (cases_eq n 0) [
  | inl e ↦ leaf_live t sides.low (beside.low_edge e)
  | inr ne ↦ over_live t (block (n - 1)) sides.low l (ok (n - 1) (omega arith))
      (beside.low (n - 1) (omega arith))
]

high_live : (t : Tree) (block : ℕ → Cube) (count n : ℕ) (sides : Sides) → IsLinked t
    → ((m : ℕ) → m < count → IsBlock (block m)) → n < count → AreBeside t block count n sides
    → (id : ℕ) → link_of sides.high ≡ Some id → IsLive t.groups id
high_live t block count n sides l ok ln beside = elim (cases_eq (n + 1) count) [
  | inl e ↦ leaf_live t sides.high (beside.high_edge e)
  | inr ne ↦ over_live t (block (n + 1)) sides.high l (ok (n + 1) (omega arith))
      (beside.high (omega arith))
]

-- the groups that the nodes around a block link are live
pub record AreLive (t : Tree) (node : Node) (sides : Sides) : Type 0 where
  pub here : (id : ℕ) → link_of node ≡ Some id → IsLive t.groups id
  pub low : (id : ℕ) → link_of sides.low ≡ Some id → IsLive t.groups id
  pub high : (id : ℕ) → link_of sides.high ≡ Some id → IsLive t.groups id

pub live_x : (t : Tree) (b : Cube) (node : Node) (x y z : Sides) → IsBlock b
    → AreAround t b node x y z → AreLive t node x
live_x t b node x y z ok around = record {
  here = over_live t b node around.linked ok around.here;
  low = low_live t (row_x b) (2 ^ b.depth) b.x x around.linked blocks ok.x around.x;
  high = high_live t (row_x b) (2 ^ b.depth) b.x x around.linked blocks ok.x around.x;
}
  where
    blocks : (m : ℕ) → m < 2 ^ b.depth → IsBlock (row_x b m)
    blocks m l = record { depth = ok.depth; x = l; y = ok.y; z = ok.z }

pub live_y : (t : Tree) (b : Cube) (node : Node) (x y z : Sides) → IsBlock b
    → AreAround t b node x y z → AreLive t node y
live_y t b node x y z ok around = record {
  here = over_live t b node around.linked ok around.here;
  low = low_live t (row_y b) (2 ^ b.depth) b.y y around.linked blocks ok.y around.y;
  high = high_live t (row_y b) (2 ^ b.depth) b.y y around.linked blocks ok.y around.y;
}
  where
    blocks : (m : ℕ) → m < 2 ^ b.depth → IsBlock (row_y b m)
    blocks m l = record { depth = ok.depth; x = ok.x; y = l; z = ok.z }

pub live_z : (t : Tree) (b : Cube) (node : Node) (x y z : Sides) → IsBlock b
    → AreAround t b node x y z → AreLive t node z
live_z t b node x y z ok around = record {
  here = over_live t b node around.linked ok around.here;
  low = low_live t (row_z b) (2 ^ b.depth) b.z z around.linked blocks ok.z around.z;
  high = high_live t (row_z b) (2 ^ b.depth) b.z z around.linked blocks ok.z around.z;
}
  where
    blocks : (m : ℕ) → m < 2 ^ b.depth → IsBlock (row_z b m)
    blocks m l = record { depth = ok.depth; x = ok.x; y = ok.y; z = l }

-- the same in other words
pub around_as : (t : Tree) (b c : Cube) (n m : Node) (x y z x' y' z' : Sides)
    → AreAround t b n x y z
    → c ≡ b → m ≡ n → x' ≡ x → y' ≡ y → z' ≡ z → AreAround t c m x' y' z'
around_as t b c n m x y z x' y' z' h eb en ex ey ez =
    subst (λ q. AreAround t q m x' y' z') (sym eb)
    (subst (λ q. AreAround t b q x' y' z') (sym en)
    (subst (λ q. AreAround t b n q y' z') (sym ex)
    (subst (λ q. AreAround t b n x q z') (sym ey) (subst (AreAround t b n x y) (sym ez) h))))
