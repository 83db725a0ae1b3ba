-- The node over a block: the one that the paths to its voxels come to, and what it says of them.
use Rattle.std.proofs.Common.{◌≡◌, ℕ, zero, suc, ◌+◌, ◌-◌, ◌<◌, ◌≤◌, inl, inr, Some, None, refl}
use Rattle.std.proofs.Common.{sym, ◌∙◌, ap, subst, arith, add-one}
use Rattle.std.specs.Prelude.{option_map}
use Rattle.oct_key.specs.Voxel.{Voxel, IsInMap}
use Rattle.oct_key.specs.Block.{Cube, IsBlock, HoldsVoxel, LiesIn, block_of, child_of}
use Rattle.oct_key.specs.Block.{child_index_of, lowest_voxel, root_block}
use Rattle.oct_key.proofs.Blocks.{child_index_below, block_step, in_child, depth_child_of}
use Rattle.oct_key.proofs.Blocks.{depth_block_of, block_of_root, block_of_holds, block_of_held}
use Rattle.oct_key.proofs.Blocks.{only_block, lowest_held, lowest_in_map}
use Rattle.oct_key.proofs.Held.{held_in_map, held_by_parent}
use Rattle.oct_key.proofs.Nested.{lies_in_self, lies_in_trans, child_lies_in, lies_in_depth}
use Rattle.oct_arena.specs.declared.node.Node.{Node}
use Rattle.oct_arena.specs.declared.node.Node.TheVariants.{Absent, Leaf, Inner}
use Rattle.oct_arena.specs.Entries.{home_at, node_at}
use Rattle.oct_arena.specs.Nodes.{link_of, value_of}
use Rattle.oct_tree.specs.declared.place.Place.{Place}
use Rattle.oct_tree.specs.declared.place.Place.TheVariants.{Root, Slot}
use Rattle.oct_tree.specs.Tree.{Tree, IsLinked, IsOver, StandsOver, node_in, step, reach, value_at}
use Rattle.oct_tree.proofs.Paths.{homed_entry, step_linked, unlinked_step, place_reached, stays}
use Rattle.oct_tree.proofs.Paths.{reach_home, value_at_last, child_reached, linked_id, link_down}
use Rattle.oct_tree.proofs.Links.{place_in_map}

-- the paths to the voxels of a block are one, down to it
pub same_reach : (t : Tree) (d : ℕ) (j k : Voxel) → d ≤ 16 → block_of d j ≡ block_of d k
    → reach t d j ≡ reach t d k
unfolding reach
same_reach t zero j k l e = refl
same_reach t (suc d) j k l e =
    let next : block_of (d + 1) j ≡ child_of (block_of d k) (child_index_of d k) =
    ap (λ n. block_of n j) (add-one d) ∙ e
    ∙ ap (λ n. block_of n k) (sym (add-one d)) ∙ block_step d k (omega arith) in
    let parts =
    in_child d (child_index_of d k) (block_of d k) j (omega arith) (child_index_below d k) next in
    let before = same_reach t d j k (omega arith) parts.0 in
    ap (λ n. step t.groups n (child_index_of d j)) before ∙ ap (step t.groups (reach t d k)) parts.1

-- the node over a block is the one that the path to its lowest voxel comes to
pub over_lowest : (t : Tree) (b : Cube) → IsBlock b → IsOver t b (reach t b.depth (lowest_voxel b))
over_lowest t b ok k held =
    same_reach t b.depth k (lowest_voxel b) ok.depth
    (block_of_held b k held ∙ sym (block_of_held b (lowest_voxel b) (lowest_held b)))

-- the nodes of the group that it links are over the block's children
pub over_child : (t : Tree) (b : Cube) (n : Node) (x i : ℕ) → b.depth ≤ 15 → i < 8 → IsOver t b n
    → link_of n ≡ Some x
    → IsOver t (child_of b i) (node_at t.groups x i)
over_child t b n x i low li over link k held =
    let up = held_by_parent b i k (omega arith) li held in
    child_reached t x i b k low li (ap link_of (over k up) ∙ link) held

-- a node that isn't Inner says what each voxel of the block has
pub over_value : (t : Tree) (b : Cube) (n : Node) → b.depth ≤ 16 → IsOver t b n → link_of n ≡ None
    → (k : Voxel) → HoldsVoxel b k
    → value_at t k ≡ value_of n
over_value t b n m over none k held =
    value_at_last t k b.depth m (ap link_of (over k held) ∙ none) ∙ ap value_of (over k held)

-- the group that it links has the block as its home
pub over_home : (t : Tree) (b : Cube) (n : Node) (x : ℕ) → IsLinked t → IsBlock b → IsOver t b n
    → link_of n ≡ Some x
    → home_at t.groups x ≡ Some b
over_home t b n x l ok over link =
    reach_home t (lowest_voxel b) l (lowest_in_map b ok) b.depth x
    (ap link_of (over (lowest_voxel b) (lowest_held b)) ∙ link) ok.depth
    ∙ ap Some (block_of_held b (lowest_voxel b) (lowest_held b))

-- a node on the way to a voxel stands at a place
pub reach_place : (t : Tree) (d : ℕ) (k : Voxel) → (p : Place) × (node_in t p ≡ reach t d k)
unfolding reach
reach_place t zero k = (Root, refl)
reach_place t (suc d) k = (let (p, is) = reach_place t d k in next (reach t d k) refl p is)
  where
    next : (n : Node) → reach t d k ≡ n → (p : Place) → node_in t p ≡ reach t d k
        → (q : Place) × (node_in t q ≡ step t.groups (reach t d k) (child_index_of d k))
    next Absent e p is = (p, is ∙ e ∙ ap (λ m. step t.groups m (child_index_of d k)) (sym e))
    next (Leaf v) e p is = (p, is ∙ e ∙ ap (λ m. step t.groups m (child_index_of d k)) (sym e))
    next (Inner v id) e p is =
        (Slot id (child_index_of d k), ap (λ m. step t.groups m (child_index_of d k)) (sym e))

-- the node of a child of a group's home gives its value to each voxel there, where it isn't Inner
pub slot_value : (t : Tree) (b : Cube) (x i : ℕ) → IsLinked t → home_at t.groups x ≡ Some b → i < 8
    → link_of (node_at t.groups x i) ≡ None → (k : Voxel) → HoldsVoxel (child_of b i) k
    → value_at t k ≡ value_of (node_at t.groups x i)
slot_value t b x i l home li none k held =
    let (ok, low) = l.homes x b home in
    let deep = depth_child_of b i in
    let up = held_by_parent b i k (omega arith) li held in
    let is =
    child_reached t x i b k low li (l.reached x b home k (held_in_map b k ok up) up) held in
    value_at_last t k (child_of b i).depth (omega arith) (ap link_of is ∙ none) ∙ ap value_of is

-- and the group that it links has that child as its home
pub slot_home : (t : Tree) (b : Cube) (x y i : ℕ) → IsLinked t → home_at t.groups x ≡ Some b
    → link_of (node_at t.groups x i) ≡ Some y
    → home_at t.groups y ≡ Some (child_of b i)
slot_home t b x y i l home link =
    let (ok, low) = l.homes x b home in
    let (id, is) =
    linked_id (reach t b.depth (lowest_voxel b)) x
    (l.reached x b home (lowest_voxel b) (lowest_in_map b ok) (lowest_held b)) in
    link_down t l id i y b (subst (λ n. home_at t.groups n ≡ Some b) (sym is) home)
    (subst (λ n. link_of (node_at t.groups n i) ≡ Some y) (sym is) link)

-- the node that a path comes to stands over the block that the path goes to
pub reach_stands : (t : Tree) (k : Voxel) → IsLinked t → IsInMap k → (d : ℕ) → d ≤ 16
    → StandsOver t (block_of d k) (reach t d k)
unfolding reach
reach_stands t k l v zero m = record {
  place = Root;
  block = root_block;
  here = tt;
  of = refl;
  node = refl;
  around = subst (LiesIn (block_of 0 k)) (block_of_root k v) (lies_in_self (block_of 0 k));
  covers = inl (sym (block_of_root k v));
}
reach_stands t k l v (suc d) m = next (reach t d k) refl (reach_stands t k l v d (omega arith))
  where
    child : block_of (suc d) k ≡ child_of (block_of d k) (child_index_of d k)
    child = ap (λ n. block_of n k) (sym (add-one d)) ∙ block_step d k (omega arith)

    deeper : LiesIn (block_of (suc d) k) (block_of d k)
    deeper =
        let deep = depth_block_of d k in
        subst (λ c. LiesIn c (block_of d k)) (sym child)
        (child_lies_in (block_of d k) (child_index_of d k) (omega (arith, deep)))

    stay : (n : Node) → reach t d k ≡ n → link_of n ≡ None
        → StandsOver t (block_of d k) (reach t d k)
        → StandsOver t (block_of (suc d) k) (step t.groups (reach t d k) (child_index_of d k))
    stay n e none s =
        let same : step t.groups (reach t d k) (child_index_of d k) ≡ reach t d k =
        unlinked_step t.groups (reach t d k) (child_index_of d k) (ap link_of e ∙ none) in
        record {
          place = s.place;
          block = s.block;
          here = s.here;
          of = s.of;
          node = s.node ∙ sym same;
          around = lies_in_trans (block_of (suc d) k) (block_of d k) s.block deeper s.around;
          covers = inr (ap link_of (same ∙ e) ∙ none);
        }

    next : (n : Node) → reach t d k ≡ n → StandsOver t (block_of d k) (reach t d k)
        → StandsOver t (block_of (suc d) k) (step t.groups (reach t d k) (child_index_of d k))
    next Absent e s = stay Absent e refl s
    next (Leaf v) e s = stay (Leaf v) e refl s
    next (Inner w id) e s =
        let home = reach_home t k l v d id.number (ap link_of e) (omega arith) in
        record {
          place = Slot id (child_index_of d k);
          block = block_of (suc d) k;
          here = (homed_entry _ (block_of d k) home, child_index_below d k);
          of = ap (option_map (λ b. child_of b (child_index_of d k))) home ∙ ap Some (sym child);
          node =
              sym (step_linked t.groups (reach t d k) id.number (child_index_of d k)
              (ap link_of e));
          around = lies_in_self (block_of (suc d) k);
          covers = inl refl;
        }

-- and no other node does
pub only_stands : (t : Tree) (k : Voxel) → IsLinked t → IsInMap k → (d : ℕ) → d ≤ 16 → (n : Node)
    → StandsOver t (block_of d k) n
    → reach t d k ≡ n
only_stands t k l v d m n s =
    let there : reach t s.block.depth k ≡ n =
    place_reached t l s.place s.here s.block s.of k v (s.around k (block_of_holds d k)) ∙ s.node in
    elim s.covers [
      | inl same ↦ ap (λ e. reach t e k)
          (sym (depth_block_of d k) ∙ ap (λ (c : Cube). c.depth) (sym same))
          ∙ there
      | inr none ↦ (let deep = depth_block_of d k in
          let above =
          lies_in_depth (block_of d k) s.block
          (place_in_map t l s.place s.block s.here s.of).depth s.around in
          stays t k s.block.depth (d - s.block.depth) d (omega (arith, deep, above))
          (ap link_of there ∙ none)
          ∙ there)
    ]

-- what follows of the node that a path comes to: its value is that of the block's voxels, or its
-- group has the block as its home
pub reach_values : (t : Tree) (k : Voxel) (d : ℕ) → d ≤ 16 → link_of (reach t d k) ≡ None
    → (j : Voxel) → HoldsVoxel (block_of d k) j
    → value_at t j ≡ value_of (reach t d k)
reach_values t k d m none j held =
    let same : reach t d j ≡ reach t d k =
    same_reach t d j k m (sym (only_block d j (block_of d k) (depth_block_of d k) held)) in
    value_at_last t j d m (ap link_of same ∙ none) ∙ ap value_of same

-- all that follows of a node that is the one that a path comes to
pub record IsNodeOver (t : Tree) (k : Voxel) (d : ℕ) (n : Node) : Type 0 where
  pub stands : StandsOver t (block_of d k) n
  pub only : (m : Node) → StandsOver t (block_of d k) m → n ≡ m
  pub values : link_of n ≡ None → (j : Voxel) → HoldsVoxel (block_of d k) j
      → value_at t j ≡ value_of n
  pub home : (id : ℕ) → link_of n ≡ Some id → home_at t.groups id ≡ Some (block_of d k)

pub reached_node : (t : Tree) (k : Voxel) → IsLinked t → IsInMap k → (d : ℕ) → d ≤ 16 → (n : Node)
    → n ≡ reach t d k → IsNodeOver t k d n
reached_node t k l v d m n e = record {
  stands = subst (StandsOver t (block_of d k)) (sym e) (reach_stands t k l v d m);
  only = λ o s. e ∙ only_stands t k l v d m o s;
  values =
      λ none j held. reach_values t k d m (ap link_of (sym e) ∙ none) j held ∙ ap value_of (sym e);
  home = λ id link. reach_home t k l v d id (ap link_of (sym e) ∙ link) m;
}
