-- The node over a block, and what it says of the block's voxels.
use Rattle.std.proofs.Common.{◌≡◌, ℕ, zero, suc, ◌+◌, ◌-◌, ◌≤◌, Some, refl, ap}
use Rattle.std.proofs.Common.{arith}
use Rattle.std.specs.Prelude.{is_some}
use Rattle.oct_key.specs.Block.{Cube, IsBlock, child_of, lowest_voxel}
use Rattle.oct_key.proofs.Blocks.{child_in_map, lowest_held}
use Rattle.oct_key.proofs.Held.{held_in_map, child_depths}
use Rattle.oct_values.specs.Counts.{IsKnownIn}
use Rattle.oct_values.proofs.Children.{known_above}
use Rattle.oct_arena.specs.declared.node.Node.{Node}
use Rattle.oct_arena.specs.declared.node.Node.TheVariants.{Absent, Leaf, Inner}
use Rattle.oct_arena.specs.Entries.{node_at}
use Rattle.oct_arena.specs.Nodes.{link_of}
use Rattle.oct_tree.specs.declared.place.Place.{Place}
use Rattle.oct_tree.specs.Tree.{Tree, IsLinked, IsPlace, node_in, block_in, value_at}
use Rattle.oct_tree.specs.Shape.{IsWellFormed}
use Rattle.oct_tree.proofs.Paths.{homed_entry, place_reached}
use Rattle.oct_tree.proofs.Over.{over_child, over_value, over_home}
use Rattle.oct_tree.specs.Tree.{IsOver}

-- at a place
pub over_place : (t : Tree) (p : Place) (b : Cube) → IsLinked t → IsPlace t p
    → block_in t p ≡ Some b → IsBlock b → IsOver t b (node_in t p)
over_place t p b l ok e in_map k held =
    place_reached t l p ok b e k (held_in_map b k in_map held) held

-- a block with a group is no voxel
pub over_low : (t : Tree) (b : Cube) (n : Node) (x : ℕ) → IsLinked t → IsBlock b → IsOver t b n
    → link_of n ≡ Some x → b.depth ≤ 15
over_low t b n x l ok over link = (l.homes x b (over_home t b n x l ok over link)).1

-- where it isn't absent, a well-formed tree knows a voxel of the block
known_at : (t : Tree) → IsWellFormed t → (h : ℕ) (b : Cube) (n : Node) → b.depth + h ≡ 16
    → IsBlock b → IsOver t b n → (n ≡ Absent → ⊥) → IsKnownIn (value_at t) b
known_at t w h b Absent d ok over there = absurd (there refl)
known_at t w h b (Leaf v) d ok over there = (
  lowest_voxel b,
  lowest_held b,
  ap is_some (over_value t b (Leaf v) ok.depth over refl (lowest_voxel b) (lowest_held b)),
)
known_at t w zero b (Inner v id) d ok over there =
    (let low = over_low t b (Inner v id) id.number w.linked ok over refl in
    absurd (omega (arith, low, d)))
known_at t w (suc h) b (Inner v id) d ok over there =
    let home = over_home t b (Inner v id) id.number w.linked ok over refl in
    let low = (w.linked.homes id.number b home).1 in
    let (i, li, some) = w.known id.number (homed_entry _ b home) in
    known_above (value_at t) b i low li
    (known_at t w h (child_of b i) (node_at t.groups id.number i) (child_depths b h i d)
    (child_in_map b i ok (omega (arith, low)))
    (over_child t b (Inner v id) id.number i low li over refl) some)

pub over_known : (t : Tree) → IsWellFormed t → (b : Cube) (n : Node) → IsBlock b → IsOver t b n
    → (n ≡ Absent → ⊥) → IsKnownIn (value_at t) b
over_known t w b n ok over there =
    (let top = ok.depth in known_at t w (16 - b.depth) b n (omega (arith, top)) ok over there)
