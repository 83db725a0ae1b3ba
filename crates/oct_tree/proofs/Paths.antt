-- How the paths of a tree run, from the root to a voxel.
use Rattle.std.proofs.Common.{◌≡◌, ℕ, suc, zero, ◌+◌, ◌-◌, ◌<◌, ◌≤◌, length, refl, sym, ◌∙◌, ap}
use Rattle.std.proofs.Common.{subst, arith, inl, inr, add-one, Some, None}
use Rattle.std.specs.Prelude.{Option, ℤ, IsSome, option_map}
use Rattle.std.proofs.lemmas.Bool.{cases_lt, false≢true}
use Rattle.std.proofs.lemmas.List.{get_or_past}
use Rattle.oct_key.specs.Voxel.{Voxel, IsInMap}
use Rattle.oct_key.specs.Block.{Cube, HoldsVoxel, block_of, child_index_of, child_of, root_block}
use Rattle.oct_key.specs.Block.{lowest_voxel}
use Rattle.oct_key.proofs.Blocks.{block_step, block_of_root, child_injective, depth_child_of}
use Rattle.oct_key.proofs.Blocks.{block_of_holds, root_holds, lowest_held, lowest_in_map}
use Rattle.oct_key.proofs.Blocks.{child_holds}
use Rattle.oct_odds.specs.Update.{Value, IsWithin}
use Rattle.oct_arena.specs.declared.node.GroupId.{GroupId}
use Rattle.oct_arena.specs.declared.node.Node.{Node}
use Rattle.oct_arena.specs.declared.node.Node.TheVariants.{Absent, Leaf, Inner}
use Rattle.oct_arena.specs.declared.node.Group.{Group}
use Rattle.oct_arena.specs.Entries.{Groups, IsArena, IsLive, entry, home_at, node_at, home_of}
use Rattle.oct_arena.specs.Entries.{node_of}
use Rattle.oct_arena.proofs.Ids.{same_ids}
use Rattle.oct_tree.specs.declared.place.Place.{Place}
use Rattle.oct_tree.specs.declared.place.Place.TheVariants.{Root, Slot}
use Rattle.oct_arena.specs.Nodes.{link_of, value_of}
use Rattle.oct_tree.specs.Places.{IsAboveVoxels}
use Rattle.oct_tree.specs.Tree.{Tree, IsLinked, IsPlace, node_in, block_in, step, reach, value_at}

pub some_injective : {A : Type 0} {x y : A} → ◌≡◌ {A = Option A} (Some x) (Some y) → x ≡ y
some_injective e = cc

pub some_not_none : {A : Type 0} {x : A} {o : Option A} → o ≡ Some x → o ≡ None → ⊥
some_not_none p q = cc

-- a node that links a group is Inner, and its children are in that group
pub step_linked : (gs : Groups) (n : Node) (x i : ℕ) → link_of n ≡ Some x
    → step gs n i ≡ node_at gs x i
step_linked gs Absent x i e = cc
step_linked gs (Leaf v) x i e = cc
step_linked gs (Inner v id) x i e = ap (λ y. node_at gs y i) (some_injective e)

-- where a child of a node links a group, the node is Inner
pub linked_step : (gs : Groups) (n : Node) (x i : ℕ) → link_of (step gs n i) ≡ Some x
    → (y : GroupId) × (link_of n ≡ Some y.number) × (link_of (node_at gs y.number i) ≡ Some x)
linked_step gs Absent x i e = cc
linked_step gs (Leaf v) x i e = cc
linked_step gs (Inner v id) x i e = (id, refl, e)

-- what a node links is an id
pub linked_id : (n : Node) (x : ℕ) → link_of n ≡ Some x → (y : GroupId) × (y.number ≡ x)
linked_id Absent x e = cc
linked_id (Leaf v) x e = cc
linked_id (Inner v id) x e = (id, some_injective e)

-- a node that links a group is Inner
pub linked_inner : (n : Node) (x : ℕ) → link_of n ≡ Some x
    → (id : GroupId) × (v : ℤ) × (n ≡ Inner v id) × (id.number ≡ x)
linked_inner Absent x h = cc
linked_inner (Leaf v) x h = cc
linked_inner (Inner v id) x h = (id, v, refl, some_injective h)

-- a node that links no group covers its block's children
pub unlinked_step : (gs : Groups) (n : Node) (i : ℕ) → link_of n ≡ None → step gs n i ≡ n
unlinked_step gs Absent i e = refl
unlinked_step gs (Leaf v) i e = refl
unlinked_step gs (Inner v id) i e = cc

-- a node that links a group is Inner over it
pub linked_node : (n : Node) (id : GroupId) → link_of n ≡ Some id.number
    → (v : ℤ) × (n ≡ Inner v id)
linked_node Absent id e = cc
linked_node (Leaf v) id e = cc
linked_node (Inner v x) id e = (v, ap (λ y. Inner v y) (same_ids x id (some_injective e)))

-- homes are above the voxels
pub above_voxels : (t : Tree) (p : Place) → IsLinked t → IsAboveVoxels t.groups p
above_voxels t Root l = tt
above_voxels t (Slot id i) l = λ b e. (l.homes id.number b e).1

pub not_inner : (n : Node) → ((v : ℤ) (id : GroupId) → n ≡ Inner v id → ⊥) → link_of n ≡ None
not_inner Absent h = refl
not_inner (Leaf v) h = refl
not_inner (Inner v id) h = absurd (h v id refl)

pub reach_zero : (t : Tree) (k : Voxel) → reach t 0 k ≡ t.root
unfolding reach
reach_zero t k = refl

pub reach_suc : (t : Tree) (d : ℕ) (k : Voxel)
    → reach t (d + 1) k ≡ step t.groups (reach t d k) (child_index_of d k)
unfolding reach
reach_suc t d k = rw add-one refl

-- what a slot of a live group links has that slot's child of its home as its own home
pub link_down : (t : Tree) → IsLinked t → (id : GroupId) (i x : ℕ) (b : Cube)
    → home_at t.groups id.number ≡ Some b → link_of (node_at t.groups id.number i) ≡ Some x
    → home_at t.groups x ≡ Some (child_of b i)
link_down t l id i x b h e = l.links (Slot id i) x e ∙ ap (option_map (λ b. child_of b i)) h

-- a group that is linked on the way to a voxel has the block around the voxel as its home
pub reach_home : (t : Tree) (k : Voxel) → IsLinked t → IsInMap k → (d x : ℕ)
    → link_of (reach t d k) ≡ Some x → d ≤ 16 → home_at t.groups x ≡ Some (block_of d k)
unfolding reach
reach_home t k l v zero x e m = rw (block_of_root k v) (l.links Root x e)
reach_home t k l v (suc d) x e m =
    let (y, p, q) = linked_step t.groups (reach t d k) x (child_index_of d k) e in
    let h = reach_home t k l v d y.number p (omega arith) in
    link_down t l y (child_index_of d k) x (block_of d k) h q
    ∙ ap Some (sym (block_step d k (omega arith))) ∙ ap (λ n. Some (block_of n k)) (add-one d)

-- an entry that has a home is a group
pub homed_entry : (e : Option Group) (b : Cube) → home_of e ≡ Some b → IsSome e
homed_entry None b h = cc
homed_entry (Some g) b h = refl

pub homeless_entry : (e : Option Group) → home_of e ≡ None → e ≡ None
homeless_entry None h = refl
homeless_entry (Some g) h = cc

-- a group has a home
pub live_home : (e : Option Group) → IsSome e → (b : Cube) × (home_of e ≡ Some b)
live_home None h = absurd (false≢true h)
live_home (Some g) h = (_, refl)

-- an entry with a node that links is a group
pub linked_home : (e : Option Group) (i x : ℕ) → link_of (node_of e i) ≡ Some x
    → (b : Cube) × (home_of e ≡ Some b)
linked_home None i x h = cc
linked_home (Some g) i x h = (_, refl)

-- a slot beyond the eight of a group has no node
pub beyond_eight : (gs : Groups) → IsArena gs → (id i : ℕ) → 8 ≤ i → node_at gs id i ≡ Absent
beyond_eight gs a id i m = beyond (entry gs id) (a.eight id)
  where
    beyond : (e : Option Group) → ((g : Group) → e ≡ Some g → length g.nodes ≡ 8)
        → node_of e i ≡ Absent
    beyond None h = refl
    beyond (Some g) h = let n = h g refl in get_or_past g.nodes i Absent (omega arith)

-- only the eight slots of a group link
pub linked_index : (t : Tree) → IsLinked t → (id i x : ℕ) → link_of (node_at t.groups id i) ≡ Some x
    → i < 8
linked_index t l id i x h = elim (cases_lt i 8) [
  | inl m ↦ m
  | inr m ↦ absurd (some_not_none h (ap link_of (beyond_eight t.groups l.arena id i m)))
]

-- groups of one home are one
pub same_home : (t : Tree) → IsLinked t → (x y : ℕ) (b : Cube) → home_at t.groups x ≡ Some b
    → home_at t.groups y ≡ Some b → x ≡ y
same_home t l x y b p q =
    let v = lowest_in_map b (l.homes x b p).0 in
    some_injective
    (sym (l.reached x b p (lowest_voxel b) v (lowest_held b))
    ∙ l.reached y b q (lowest_voxel b) v (lowest_held b))

-- the whole map is no child
pub root_no_child : (b : Cube) (i : ℕ) → root_block ≡ child_of b i → ⊥
root_no_child b i e =
    let d : ◌≡◌ {A = ℕ} 0 (b.depth + 1) = ap (λ (c : Cube). c.depth) e ∙ depth_child_of b i in
    omega arith

-- one place alone links a group
pub only_link : (t : Tree) → IsLinked t → (p q : Place) (x : ℕ) → link_of (node_in t p) ≡ Some x
    → link_of (node_in t q) ≡ Some x → p ≡ q
only_link t l Root Root x e f = refl
only_link t l Root (Slot id i) x e f =
    let (b, h) = linked_home (entry t.groups id.number) i x f in
    absurd (root_no_child b i (some_injective (sym (l.links Root x e)
    ∙ link_down t l id i x b h f)))
only_link t l (Slot id i) Root x e f =
    let (b, h) = linked_home (entry t.groups id.number) i x e in
    absurd (root_no_child b i (some_injective (sym (l.links Root x f)
    ∙ link_down t l id i x b h e)))
only_link t l (Slot a i) (Slot c j) x e f =
    let (b, h) = linked_home (entry t.groups a.number) i x e in
    let (b', h') = linked_home (entry t.groups c.number) j x f in
    let same =
    child_injective b b' i j (linked_index t l a.number i x e) (linked_index t l c.number j x f)
    (some_injective (sym (link_down t l a i x b h e) ∙ link_down t l c j x b' h' f)) in
    let group = same_home t l a.number c.number b h (h' ∙ ap Some (sym same.0)) in
    ap (λ n. Slot n i) (same_ids a c group) ∙ ap (λ n. Slot c n) same.1

-- a node on the way that links no group covers all that follows
pub stays : (t : Tree) (k : Voxel) (d m e : ℕ) → e ≡ m + d → link_of (reach t d k) ≡ None
    → reach t e k ≡ reach t d k
stays t k d zero e q h = let r : e ≡ d = omega arith in ap (λ n. reach t n k) r
stays t k d (suc m) e q h =
    let r : e ≡ (m + d) + 1 = omega arith in
    let s = stays t k d m (m + d) refl h in
    rw (r, reach_suc, s) (unlinked_step t.groups (reach t d k) _ h)

-- such a node gives the voxel its value
pub value_at_last : (t : Tree) (k : Voxel) (d : ℕ) → d ≤ 16 → link_of (reach t d k) ≡ None
    → value_at t k ≡ value_of (reach t d k)
unfolding value_at
value_at_last t k d m h = ap value_of (stays t k d (16 - d) 16 (omega arith) h)

-- where the path to a voxel comes to a group, it goes on by the slot whose block holds the voxel
pub child_reached : (t : Tree) (id i : ℕ) (h : Cube) (k : Voxel) → h.depth ≤ 15 → i < 8
    → link_of (reach t h.depth k) ≡ Some id → HoldsVoxel (child_of h i) k
    → reach t (child_of h i).depth k ≡ node_at t.groups id i
child_reached t id i h k low li link inside =
    ap (λ n. reach t n k) (depth_child_of h i) ∙ reach_suc t h.depth k
    ∙ step_linked t.groups _ id _ link
    ∙ ap (node_at t.groups id) ((child_holds h i k (omega arith) li).0 inside).1

-- the path to a voxel of a place's block comes by the place
pub place_reached : (t : Tree) → IsLinked t → (p : Place) → IsPlace t p → (b : Cube)
    → block_in t p ≡ Some b → (k : Voxel) → IsInMap k → HoldsVoxel b k
    → reach t b.depth k ≡ node_in t p
place_reached t l Root ok b e k v inside =
    let r : root_block ≡ b = some_injective e in
    ap (λ (c : Cube). reach t c.depth k) (sym r) ∙ reach_zero t k
place_reached t l (Slot id i) ok b e k v inside =
    let (h, is) = live_home (entry t.groups id.number) ok.0 in
    let child : b ≡ child_of h i =
    some_injective (sym e ∙ ap (option_map (λ b. child_of b i)) is) in
    let low : h.depth ≤ 15 = (l.homes id.number h is).1 in
    let inside' : HoldsVoxel (child_of h i) k = subst (λ c. HoldsVoxel c k) child inside in
    let up = (child_holds h i k (omega arith) ok.1).0 inside' in
    ap (λ (c : Cube). reach t c.depth k) child
    ∙ child_reached t id.number i h k low ok.1 (l.reached id.number h is k v up.0) inside'

-- the next block on the way to a voxel holds it
pub next_holds : (d : ℕ) (k : Voxel) → d < 16
    → HoldsVoxel (child_of (block_of d k) (child_index_of d k)) k
next_holds d k l = subst (λ c. HoldsVoxel c k) (block_step d k l) (block_of_holds (d + 1) k)

-- Separation: the path to a voxel reads only places whose block holds it. Where the second tree has
-- the same nodes there, its path is
-- the same.
pub same_path : (t u : Tree) (k : Voxel) → IsLinked t → IsInMap k
    → ((q : Place) (b : Cube) → block_in t q ≡ Some b → HoldsVoxel b k → node_in u q ≡ node_in t q)
    → (d : ℕ) → d ≤ 16 → reach u d k ≡ reach t d k
unfolding reach
same_path t u k l v same zero m = same Root root_block refl (root_holds k v)
same_path t u k l v same (suc d) m =
    let before = same_path t u k l v same d (omega arith) in
    ap (λ n. step u.groups n (child_index_of d k)) before ∙ next (link_of (reach t d k)) refl
  where
    next : (o : Option ℕ) → link_of (reach t d k) ≡ o
        → step u.groups (reach t d k) (child_index_of d k)
        ≡ step t.groups (reach t d k) (child_index_of d k)
    next None h = unlinked_step u.groups _ _ h ∙ sym (unlinked_step t.groups _ _ h)
    next (Some y) h =
        let (id, is) = linked_id (reach t d k) y h in
        let link : link_of (reach t d k) ≡ Some id.number = h ∙ ap Some (sym is) in
        let home = reach_home t k l v d id.number link (omega arith) in
        let block = ap (option_map (λ b. child_of b (child_index_of d k))) home in
        let inside : HoldsVoxel (child_of (block_of d k) (child_index_of d k)) k =
        next_holds d k (omega arith) in
        step_linked u.groups _ id.number _ link ∙ same (Slot id (child_index_of d k)) _ block inside
        ∙ sym (step_linked t.groups _ id.number _ link)

-- what is linked on the way to a voxel is live
pub reach_live : (t : Tree) (k : Voxel) → IsLinked t → IsInMap k → (d x : ℕ)
    → link_of (reach t d k) ≡ Some x → d ≤ 16 → IsLive t.groups x
reach_live t k l v d x h m = homed_entry _ _ (reach_home t k l v d x h m)

-- a place has a block
pub place_block : (t : Tree) (p : Place) → IsPlace t p → (b : Cube) × (block_in t p ≡ Some b)
place_block t Root ok = (root_block, refl)
place_block t (Slot id i) ok =
    (let (h, is) = live_home (entry t.groups id.number) ok.0 in
    (child_of h i, ap (option_map (λ b. child_of b i)) is))

-- a place links a live group
pub linked_live : (t : Tree) → IsLinked t → (p : Place) → IsPlace t p → (x : ℕ)
    → link_of (node_in t p) ≡ Some x → IsLive t.groups x
linked_live t l p ok x e =
    let (b, is) = place_block t p ok in
    homed_entry _ b (l.links p x e ∙ is)

-- the home of the group that a place links is the place's block
pub linked_block : (t : Tree) → IsLinked t → (p : Place) (x : ℕ) (b : Cube)
    → link_of (node_in t p) ≡ Some x → block_in t p ≡ Some b → home_at t.groups x ≡ Some b
linked_block t l p x b e h = l.links p x e ∙ h

-- the slots of the group that a place links are places, of the children of its block
pub slot_place : (t : Tree) → IsLinked t → (p : Place) → IsPlace t p → (id : GroupId) (i : ℕ)
    → link_of (node_in t p) ≡ Some id.number → i < 8 → IsPlace t (Slot id i)
slot_place t l p ok id i e m = (linked_live t l p ok id.number e, m)

pub slot_block : (t : Tree) → IsLinked t → (p : Place) (id : GroupId) (i : ℕ) (b : Cube)
    → link_of (node_in t p) ≡ Some id.number → block_in t p ≡ Some b
    → block_in t (Slot id i) ≡ Some (child_of b i)
slot_block t l p id i b e h = ap (option_map (λ b. child_of b i)) (l.links p id.number e ∙ h)

-- the value of a node on the way to a voxel lies within the bounds
pub reach_within : (t : Tree) (k : Voxel) → IsLinked t → (d : ℕ)
    → IsWithin t.odds (value_of (reach t d k))
unfolding reach
reach_within t k l zero = l.leaves Root
reach_within t k l (suc d) = next (reach t d k) (reach_within t k l d)
  where
    next : (n : Node) → IsWithin t.odds (value_of n)
        → IsWithin t.odds (value_of (step t.groups n (child_index_of d k)))
    next Absent h = tt
    next (Leaf v) h = h
    next (Inner v id) h = l.leaves (Slot id (child_index_of d k))

-- and so does the value that the tree gives the voxel
pub value_within : (t : Tree) (k : Voxel) → IsLinked t → IsWithin t.odds (value_at t k)
unfolding value_at
value_within t k l = reach_within t k l 16

-- where the whole map is absent, no voxel has a value
pub unknown_world : (t : Tree) → t.root ≡ Absent → (k : Voxel) → value_at t k ≡ None
unknown_world t e k =
    let root : reach t 0 k ≡ Absent = reach_zero t k ∙ e in
    value_at_last t k 0 (omega arith) (ap link_of root) ∙ ap value_of root

-- the node at depth 16 on the way to a voxel gives it its value
pub value_at_leaf : (t : Tree) (k : Voxel) (d : ℕ) → d ≡ 16 → value_at t k ≡ value_of (reach t d k)
unfolding value_at
value_at_leaf t k d e = ap (λ n. value_of (reach t n k)) (sym e)

-- what is linked on the way of any child indices has a home
reach_homed : (t : Tree) (k : Voxel) → IsLinked t → (d x : ℕ) → link_of (reach t d k) ≡ Some x
    → (b : Cube) × (home_at t.groups x ≡ Some b)
unfolding reach
reach_homed t k l zero x e = (root_block, l.links Root x e)
reach_homed t k l (suc d) x e =
    let (y, p, q) = linked_step t.groups (reach t d k) x (child_index_of d k) e in
    let (b, h) = reach_homed t k l d y.number p in
    (child_of b (child_index_of d k), link_down t l y (child_index_of d k) x b h q)

-- so it is live
pub step_live : (t : Tree) (k : Voxel) → IsLinked t → (d x : ℕ) → link_of (reach t d k) ≡ Some x
    → IsLive t.groups x
step_live t k l d x e = (let (b, h) = reach_homed t k l d x e in homed_entry _ b h)

-- a value that is the tree's own lies within its bounds
pub lookup_within : (t : Tree) (k : Voxel) (r : Value) → IsLinked t → r ≡ value_at t k
    → IsWithin t.odds r
lookup_within t k r l e = subst (IsWithin t.odds) (sym e) (value_within t k l)
