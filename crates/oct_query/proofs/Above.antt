-- What is known of the block of an Inner place.
use Rattle.std.proofs.Common.{◌≡◌, ℕ, suc, ◌+◌, ◌-◌, ◌<◌, Some, sym, ap, ◌∙◌, arith}
use Rattle.oct_key.specs.Block.{Cube, IsBlock, child_of}
use Rattle.oct_key.proofs.Blocks.{depth_child_of}
use Rattle.oct_arena.specs.declared.node.GroupId.{GroupId}
use Rattle.oct_arena.specs.Nodes.{link_of}
use Rattle.oct_tree.specs.declared.place.Place.{Place}
use Rattle.oct_tree.specs.declared.place.Place.TheVariants.{Slot}
use Rattle.oct_tree.specs.Tree.{Tree, IsLinked, IsPlace, node_in, block_in}
use Rattle.oct_tree.proofs.Links.{place_in_map}
use Rattle.oct_tree.proofs.Paths.{linked_block, slot_place, slot_block}

-- it is one of the map, above the voxels
pub record IsAbove (b : Cube) : Type 0 where
  pub ok : IsBlock b
  pub low : b.depth < 16
  pub next : 16 - b.depth ≡ suc (16 - (b.depth + 1))
  pub child : (i : ℕ) → 16 - (child_of b i).depth ≡ 16 - (b.depth + 1)

pub above : (t : Tree) (p : Place) (id : GroupId) (b : Cube) → IsLinked t → IsPlace t p
    → link_of (node_in t p) ≡ Some id.number → block_in t p ≡ Some b → IsAbove b
above t p id b l place link at =
    let ok = place_in_map t l p b place at in
    let low = (l.homes id.number b (linked_block t l p id.number b link at)).1 in
    record {
      ok = ok;
      low = omega (arith, low);
      next = omega (arith, low);
      child = λ i. (let down = depth_child_of b i in omega (arith, down));
    }

-- the slot of a child: it is a place of the tree, and its block is the child, one depth below
pub child_slot : (t : Tree) (p : Place) (id : GroupId) (b c : Cube) (i : ℕ) → IsLinked t
    → IsPlace t p → link_of (node_in t p) ≡ Some id.number → block_in t p ≡ Some b
    → c ≡ child_of b i → i < 8
    → (16 - c.depth < 16 - b.depth) × IsPlace t (Slot id i) × (block_in t (Slot id i) ≡ Some c)
child_slot t p id b c i l place link at child less =
    let low = (above t p id b l place link at).low in
    let deep = ap (λ (d : Cube). d.depth) child ∙ depth_child_of b i in (
      omega (arith, low, deep),
      slot_place t l p place id i link less,
      slot_block t l p id i b link at ∙ ap Some (sym child),
    )
