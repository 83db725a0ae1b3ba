-- The leaves of a pruned tree's values are the blocks of its leaf nodes.
use Rattle.std.proofs.Common.{◌≡◌, ◌↔◌, ℕ, Some, None, inl}
use Rattle.std.proofs.Common.{inr, refl, sym, subst, ◌∙◌, ap}
use Rattle.std.specs.Prelude.{ℤ, ◌⊎◌, Option, IsSome}
use Rattle.std.proofs.lemmas.Bool.{false≢true}
use Rattle.oct_key.specs.Voxel.{Voxel}
use Rattle.oct_key.specs.Block.{Cube, HoldsVoxel, LiesIn, block_of, child_of, parent_of}
use Rattle.oct_key.specs.Block.{lowest_voxel}
use Rattle.oct_key.proofs.Blocks.{block_of_held, lowest_held, lowest_in_map, parent_of_child}
use Rattle.oct_key.proofs.Held.{held_in_map}
use Rattle.oct_key.proofs.Nested.{lies_in_cases}
use Rattle.oct_values.specs.Uniform.{IsUniform}
use Rattle.oct_values.proofs.Uniform.{uniform_exactly, uniform_of}
use Rattle.oct_arena.specs.declared.node.Node.TheVariants.{Leaf}
use Rattle.oct_arena.specs.Nodes.{link_of, value_of}
use Rattle.oct_arena.specs.Entries.{entry, home_at}
use Rattle.oct_tree.specs.declared.place.Place.{Place}
use Rattle.oct_tree.specs.declared.place.Place.TheVariants.{Root, Slot}
use Rattle.oct_tree.specs.Tree.{Tree, IsLinked, IsPlace, StandsOver, block_in, node_in, reach}
use Rattle.oct_tree.specs.Tree.{value_at}
use Rattle.oct_tree.specs.Shape.{IsPruned}
use Rattle.oct_tree.proofs.Links.{place_in_map}
use Rattle.oct_tree.proofs.Over.{over_home, over_lowest, reach_stands}
use Rattle.oct_tree.proofs.Paths.{linked_block, live_home, place_reached, some_injective}
use Rattle.oct_tree.proofs.Paths.{value_at_last}
use Rattle.oct_query.specs.Shown.{Shown}
use Rattle.oct_query.specs.Leaves.{IsLeaf, IsLeafNode}
use Rattle.oct_query.proofs.LeafLists.{not_deeper}
use Rattle.oct_query.proofs.Needed.{home_varied, leaf_of}

-- all voxels of a leaf node's block have its value
node_values : (t : Tree) (p : Place) (b : Cube) (x : ℤ) → IsLinked t → IsPlace t p
    → block_in t p ≡ Some b → node_in t p ≡ Leaf x → (k : Voxel) → HoldsVoxel b k
    → value_at t k ≡ Some x
node_values t p b x l here at is k held =
    let ok = place_in_map t l p b here at in
    let there : reach t b.depth k ≡ Leaf x =
    place_reached t l p here b at k (held_in_map b k ok held) held ∙ is in
    value_at_last t k b.depth ok.depth (ap link_of there) ∙ ap value_of there

-- the parent of a place's block has several values, or it is the whole map
parted : (t : Tree) (p : Place) (b : Cube) → IsLinked t → IsPruned t → IsPlace t p
    → block_in t p ≡ Some b → (b.depth ≡ 0) ⊎ (IsUniform (value_at t) (parent_of b) → ⊥)
parted t Root b l pruned here at =
    inl (ap (λ (c : Cube). c.depth) (sym (some_injective at)))
parted t (Slot id i) b l pruned here at =
    let (h, home) = live_home (entry t.groups id.number) here.0 in
    let child : child_of h i ≡ b = some_injective (sym (under h home) ∙ at) in
    let ok = (l.homes id.number h home).0 in
    inr (λ uniform. home_varied t h id.number l pruned home
    ((uniform_exactly (value_at t) h ok).1
    (subst (IsUniform (value_at t)) (ap parent_of (sym child) ∙ parent_of_child h i) uniform)))
  where
    under : (h : Cube) → home_at t.groups id.number ≡ Some h
        → block_in t (Slot id i) ≡ Some (child_of h i)
    under h home = rw home refl

-- the block of a place that links a group has several values
pub linked_varied : (t : Tree) (p : Place) (b : Cube) (link : Option ℕ) → IsLinked t → IsPruned t
    → IsPlace t p → block_in t p ≡ Some b → link_of (node_in t p) ≡ link → IsSome link
    → IsUniform (value_at t) b → ⊥
linked_varied t p b None l pruned here at none some uniform = absurd (false≢true some)
linked_varied t p b (Some x) l pruned here at link some uniform =
    home_varied t b x l pruned (linked_block t l p x b link at)
    ((uniform_exactly (value_at t) b (place_in_map t l p b here at)).1 uniform)

node_leaf : (t : Tree) (leaf : Shown) → IsLinked t → IsPruned t → IsLeafNode t leaf
    → IsLeaf (value_at t) leaf
node_leaf t leaf l pruned (p, here, at, is) = record {
  block = place_in_map t l p leaf.block here at;
  value = node_values t p leaf.block leaf.value l here at is;
  greatest = parted t p leaf.block l pruned here at;
}

-- the node over a leaf of the values isn't Inner
plain : (t : Tree) (leaf : Shown) → IsLinked t → IsPruned t → IsLeaf (value_at t) leaf
    → (o : Option ℕ) → link_of (reach t leaf.block.depth (lowest_voxel leaf.block)) ≡ o
    → link_of (reach t leaf.block.depth (lowest_voxel leaf.block)) ≡ None
plain t leaf l pruned is None none = none
plain t leaf l pruned is (Some x) link =
    absurd (home_varied t leaf.block x l pruned
    (over_home t leaf.block (reach t leaf.block.depth (lowest_voxel leaf.block)) x l is.block
    (over_lowest t leaf.block is.block) link)
    (uniform_of (value_at t) leaf.block (Some leaf.value) is.block is.value))

leaf_node : (t : Tree) (leaf : Shown) → IsLinked t → IsPruned t → IsLeaf (value_at t) leaf
    → IsLeafNode t leaf
leaf_node t leaf l pruned is =
    let b = leaf.block in
    let k = lowest_voxel b in
    let inside = lowest_in_map b is.block in
    let none = plain t leaf l pruned is (link_of (reach t b.depth k)) refl in
    let stands : StandsOver t (block_of b.depth k) (reach t b.depth k) =
    reach_stands t k l inside b.depth is.block.depth in
    let around : LiesIn b stands.block =
    subst (λ c. LiesIn c stands.block) (block_of_held b k (lowest_held b)) stands.around in
    let node : node_in t stands.place ≡ Leaf leaf.value =
    stands.node ∙ leaf_of (reach t b.depth k) leaf.value none
    (sym (value_at_last t k b.depth is.block.depth none) ∙ is.value k (lowest_held b)) in
    let above = place_in_map t l stands.place stands.block stands.here stands.of in
    elim (lies_in_cases b stands.block is.block.depth above.depth around) [
      | inl same ↦ (stands.place, stands.here, stands.of ∙ ap Some (sym same), node)
      | inr (deep, inner) ↦ absurd (not_deeper (value_at t) stands.block leaf.value leaf k
          (node_values t stands.place stands.block leaf.value l stands.here stands.of node) is
          (around k (lowest_held b)) (lowest_held b) deep)
    ]

pub leaves_are_leaf_nodes : (t : Tree) → IsLinked t → IsPruned t → (leaf : Shown)
    → IsLeaf (value_at t) leaf ↔ IsLeafNode t leaf
leaves_are_leaf_nodes t l pruned leaf =
    (leaf_node t leaf l pruned, node_leaf t leaf l pruned)
