-- Places of a tree, by the depth of their blocks.
use Rattle.std.proofs.Common.{◌≡◌, ℕ, suc, ◌+◌, ◌-◌, ◌<◌, ◌≤◌, Some, sym, ◌∙◌, ap, arith}
use Rattle.oct_key.specs.Block.{Cube, IsBlock, child_of}
use Rattle.oct_key.proofs.Blocks.{depth_child_of}
use Rattle.oct_arena.specs.declared.node.GroupId.{GroupId}
use Rattle.oct_arena.specs.Nodes.{link_of}
use Rattle.oct_tree.specs.declared.place.Place.{Place}
use Rattle.oct_tree.specs.declared.place.Place.TheVariants.{Slot}
use Rattle.oct_tree.specs.Tree.{Tree, IsLinked, IsPlace, node_in, block_in}
use Rattle.oct_tree.proofs.Links.{place_in_map}
use Rattle.oct_tree.proofs.Paths.{some_injective, place_block, slot_place, slot_block, linked_block}

-- what is known of the block of an Inner place
pub record IsAbove (b : Cube) : Type 0 where
  pub ok : IsBlock b
  pub low : b.depth < 16
  pub next : 16 - b.depth ≡ suc (16 - (b.depth + 1))
  pub child : (i : ℕ) → 16 - (child_of b i).depth ≡ 16 - (b.depth + 1)

pub linked_above : (t : Tree) (p : Place) (id : GroupId) (b : Cube) → IsLinked t → IsPlace t p
    → link_of (node_in t p) ≡ Some id.number → block_in t p ≡ Some b → IsAbove b
linked_above t p id b l place link at =
    let ok = place_in_map t l p b place at in
    let low = (l.homes id.number b (linked_block t l p id.number b link at)).1 in
    record {
      ok = ok;
      low = omega (arith, low);
      next = omega (arith, low);
      child = λ i. (let down = depth_child_of b i in omega (arith, down));
    }

-- what a call for a child asks
pub child_asked : (t : Tree) (p : Place) (d i : ℕ) (id : GroupId) → IsLinked t → IsPlace t p
    → ((b : Cube) → block_in t p ≡ Some b → b.depth ≡ d) → link_of (node_in t p) ≡ Some id.number
    → i < 8
    → IsPlace t (Slot id i) × ((b : Cube) → block_in t (Slot id i) ≡ Some b → b.depth ≡ d + 1)
    × (d + 1 ≤ 16)
child_asked t p d i id l place deep link li =
    let (a, at) = place_block t p place in
    let over = linked_above t p id a l place link at in
    let same = deep a at in
    let low = over.low in (
      slot_place t l p place id i link li,
      λ b there. (let child : child_of a i ≡ b =
          some_injective (sym (slot_block t l p id i a link at) ∙ there) in
          let down = ap (λ (c : Cube). c.depth) child in
          let next = depth_child_of a i in
          omega (arith, down, next, same)),
      omega (arith, low, same),
    )
