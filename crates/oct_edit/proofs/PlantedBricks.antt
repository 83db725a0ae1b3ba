-- The block of a brick of which nothing was known: what stands in its group.
use Rattle.std.proofs.Common.{◌≡◌, ℕ, ◌<◌, ◌≤◌, sym, subst, ◌∙◌, ap, arith, inl, inr, refl, Some}
use Rattle.std.proofs.Common.{None, false, true, ◌≤ℤ◌, []}
use Rattle.std.specs.Prelude.{◌⊎◌, ℤ, Bool}
use Rattle.oct_key.specs.Voxel.{Voxel, IsInMap}
use Rattle.oct_key.specs.Block.{Cube, IsBlock, HoldsVoxel, child_of, child_index_of, lowest_voxel}
use Rattle.oct_key.proofs.Blocks.{child_index_below, child_in_map, child_holds, depth_child_of}
use Rattle.oct_key.proofs.Blocks.{lowest_held, lowest_in_map}
use Rattle.oct_key.proofs.Held.{held_in_map}
use Rattle.oct_key.proofs.Nested.{lies_in_self}
use Rattle.std.proofs.lemmas.Bool.{false≢true}
use Rattle.oct_key.specs.Values.{SameValues}
use Rattle.oct_odds.specs.Update.{applied}
use Rattle.oct_values.specs.Events.{Events}
use Rattle.oct_values.specs.Needs.{is_reached}
use Rattle.oct_values.proofs.Reached.{reached_exactly}
use Rattle.oct_arena.specs.declared.node.GroupId.{GroupId}
use Rattle.oct_arena.specs.declared.node.Node.{Node}
use Rattle.oct_arena.specs.declared.node.Node.TheVariants.{Absent, Leaf, Inner}
use Rattle.oct_arena.specs.Entries.{home_at}
use Rattle.oct_arena.specs.Nodes.{link_of, value_of, stored_in}
use Rattle.oct_tree.specs.declared.place.Place.{Place}
use Rattle.oct_tree.specs.declared.place.Place.TheVariants.{Slot}
use Rattle.oct_tree.specs.Nodes.{IsCollapsible, IsGreatest}
use Rattle.oct_tree.specs.Tree.{Tree, IsLinked, IsPlace, node_in, block_in, value_at}
use Rattle.oct_tree.proofs.Paths.{some_injective, some_not_none, slot_place, slot_block}
use Rattle.oct_tree.specs.Changes.{IsSplit, IsSameOutside}
use Rattle.oct_edit.specs.Listed.{ListedUpdate}
use Rattle.oct_edit.specs.Steps.{IsClosedAt, IsTouched}
use Rattle.oct_edit.specs.Scan.{events_of}
use Rattle.oct_edit.specs.Parts.{IsUpdateIn}
use Rattle.oct_edit.specs.Bricks.{HasGap}
use Rattle.oct_edit.proofs.UnderWay.{IsTouchedBelow, IsUnderWay}
use Rattle.oct_edit.proofs.UpdateEnds.{covered}
use Rattle.oct_edit.proofs.Planting.{closed_here, voxel_stored, no_more, planted_pure}

-- what is known of the voxels of a block of depth 14 whose octets were edited: they have one value,
-- or none, and before the edit the group had no group below it
pub record IsSown (s w : Tree) (p : Place) (b : Cube) (id : GroupId) (m : ℤ) (events : Events)
    : Type 0 where
  pub map : IsBlock b
  pub deep : b.depth ≡ 14
  pub done : IsTouchedBelow s w p b 8 events false
  pub link : node_in w p ≡ Inner m id
  pub bare : (i : ℕ) → i < 8 → link_of (node_in s (Slot id i)) ≡ None
  pub one : (q : Voxel) → IsInMap q → HoldsVoxel b q
      → (value_at w q ≡ None) ⊎ (value_at w q ≡ Some m)

-- the lowest voxel of a child, and that it is one of the block
low_voxel : (b : Cube) (i : ℕ) → IsBlock b → b.depth ≤ 15 → i < 8
    → IsInMap (lowest_voxel (child_of b i)) × HoldsVoxel (child_of b i)
    (lowest_voxel (child_of b i))
    × HoldsVoxel b (lowest_voxel (child_of b i))
low_voxel b i map low few =
    let held = lowest_held (child_of b i) in (
      lowest_in_map (child_of b i) (child_in_map b i map (omega (arith, low))),
      held,
      ((child_holds b i (lowest_voxel (child_of b i)) (omega (arith, low)) few).0 held).0,
    )

linked_id : (s w : Tree) (p : Place) (b : Cube) (id : GroupId) (m : ℤ) (events : Events)
    → IsSown s w p b id m events → link_of (node_in w p) ≡ Some id.number
linked_id s w p b id m events h = ap link_of h.link

-- an Inner node of the group has the one value that its voxels have
inner_value : (s w : Tree) (p : Place) (b : Cube) (id y : GroupId) (m v : ℤ) (i : ℕ)
    (events : Events)
    → IsSown s w p b id m events → i < 8 → node_in w (Slot id i) ≡ Inner v y → v ≡ m
inner_value s w p b id y m v i events h few e = go (is_reached events (child_of b i)) refl
  where
    l : IsLinked w
    l = h.done.linked

    deep : b.depth ≡ 14
    deep = h.deep

    child_map : IsBlock (child_of b i)
    child_map = child_in_map b i h.map (omega (arith, deep))

    level : (child_of b i).depth ≡ 15
    level = (let d = depth_child_of b i in omega (arith, d, deep))

    place : IsPlace w (Slot id i)
    place = slot_place w l p h.done.place id i (linked_id s w p b id m events h) few

    block : block_in w (Slot id i) ≡ Some (child_of b i)
    block = slot_block w l p id i b (linked_id s w p b id m events h) h.done.block

    home : home_at w.groups y.number ≡ Some (child_of b i)
    home = l.links (Slot id i) y.number (ap link_of e) ∙ block

    of_block : (k : Voxel) → HoldsVoxel (child_of b i) k → HoldsVoxel b k
    of_block k held = ((child_holds b i k (omega (arith, deep)) few).0 held).0

    within : IsClosedAt false w (child_of b i) → v ≡ m
    within closed =
        let (j, lj, stored) = (closed.greatest refl (Slot id i) y v e home).there in
        let (mq, held, inside) = low_voxel (child_of b i) j child_map (omega (arith, level)) lj in
        let q : Voxel = lowest_voxel (child_of (child_of b i) j) in
        let value : value_at w q ≡ Some v =
        sym (voxel_stored w (Slot id i) (child_of b i) y j q l place block level (ap link_of e) lj
        mq
        held)
        ∙ stored in
        elim (h.one q mq (of_block q inside)) [
          | inl none ↦ absurd (some_not_none value none)
          | inr same ↦ some_injective (sym value ∙ same)
        ]

    go : (test : Bool) → is_reached events (child_of b i) ≡ test → v ≡ m
    go true is =
        let (k, held, event) = (reached_exactly events (child_of b i) child_map).0 is in
        within (h.done.closed (child_of b i) i few (omega (arith, level))
        (lies_in_self (child_of b i))
        (record {
          voxel = k;
          in_map = held_in_map (child_of b i) k child_map held;
          here = of_block k held;
          there = held;
          event = event;
        }))
    go false is =
        absurd (some_not_none
        (ap link_of (h.done.apart.links (Slot id i) y v (child_of b i)
        (λ r. false≢true (sym is ∙ (reached_exactly events (child_of b i) child_map).1
        (r.voxel, r.there, r.event)))
        e home))
        (h.bare i few))

-- what stands in a slot, by a voxel of its block
slot_value : (s w : Tree) (p : Place) (b : Cube) (id : GroupId) (m : ℤ) (i : ℕ) (k : Voxel)
    (events : Events)
    → IsSown s w p b id m events → i < 8 → IsInMap k → HoldsVoxel (child_of b i) k
    → (stored_in (node_in w (Slot id i)) ≡ value_at w k)
    ⊎ ((y : GroupId) × (node_in w (Slot id i) ≡ Inner m y))
slot_value s w p b id m i k events h few mk held = go (node_in w (Slot id i)) refl
  where
    deep : b.depth ≡ 14
    deep = h.deep

    covers : link_of (node_in w (Slot id i)) ≡ None
        → value_at w k ≡ value_of (node_in w (Slot id i))
    covers none =
        let d = depth_child_of b i in
        covered w (Slot id i) (child_of b i) h.done.linked
        (slot_place w h.done.linked p h.done.place id i (linked_id s w p b id m events h) few)
        (slot_block w h.done.linked p id i b (linked_id s w p b id m events h) h.done.block)
        (omega (arith, d, deep)) none k mk held

    go : (n : Node) → node_in w (Slot id i) ≡ n
        → (stored_in (node_in w (Slot id i)) ≡ value_at w k)
        ⊎ ((y : GroupId) × (node_in w (Slot id i) ≡ Inner m y))
    go Absent e = inl (ap stored_in e ∙ ap value_of (sym e) ∙ sym (covers (ap link_of e)))
    go (Leaf v) e = inl (ap stored_in e ∙ ap value_of (sym e) ∙ sym (covers (ap link_of e)))
    go (Inner v y) e =
        inr (y, e ∙ ap (λ n. Inner n y) (inner_value s w p b id y m v i events h few e))

-- so the group needs no closing, where one voxel is known and one isn't
pub brick_closed : (s w : Tree) (p : Place) (b : Cube) (id : GroupId) (m : ℤ) (events : Events)
    (j k : Voxel)
    → IsSown s w p b id m events → IsInMap j → HoldsVoxel b j → value_at w j ≡ Some m
    → IsInMap k → HoldsVoxel b k → value_at w k ≡ None → IsClosedAt false w b
brick_closed s w p b id m events j k h mj hj known mk hk unknown =
    closed_here w p b id m h.done.linked h.done.block h.link best lean
  where
    deep : b.depth ≡ 14
    deep = h.deep

    in_child : (q : Voxel) → HoldsVoxel b q → HoldsVoxel (child_of b (child_index_of b.depth q)) q
    in_child q held =
        (child_holds b (child_index_of b.depth q) q (omega (arith, deep))
        (child_index_below b.depth q)).1 (held, refl)

    stored : (q : Voxel) → IsInMap q → HoldsVoxel b q
        → (stored_in (node_in w (Slot id (child_index_of b.depth q))) ≡ value_at w q)
        ⊎ ((y : GroupId) × (node_in w (Slot id (child_index_of b.depth q)) ≡ Inner m y))
    stored q v held =
        slot_value s w p b id m (child_index_of b.depth q) q events h (child_index_below b.depth q)
        v
        (in_child q held)

    there : stored_in (node_in w (Slot id (child_index_of b.depth j))) ≡ Some m
    there = elim (stored j mj hj) [
      | inl is ↦ is ∙ known
      | inr inner ↦ ap stored_in inner.1
    ]

    most : (i : ℕ) (v : ℤ) → i < 8 → stored_in (node_in w (Slot id i)) ≡ Some v → v ≡ m
    most i v few is =
        let (mq, held, inside) = low_voxel b i h.map (omega (arith, deep)) few in
        let q : Voxel = lowest_voxel (child_of b i) in
        elim (slot_value s w p b id m i q events h few mq held) [
          | inr inner ↦ some_injective (sym is ∙ ap stored_in inner.1)
          | inl value ↦ elim (h.one q mq inside) [
            | inl none ↦ absurd (some_not_none (sym value ∙ is) none)
            | inr same ↦ some_injective (sym is ∙ value ∙ same)
          ]
        ]

    best : IsGreatest w.groups id.number m
    best = record {
      there = (child_index_of b.depth j, child_index_below b.depth j, there);
      most = λ i v few is. subst (λ a. v ≤ℤ a) (most i v few is) (no_more v);
    }

    lean : IsCollapsible w.groups id.number → ⊥
    lean (inl none) =
        some_not_none there
        (ap stored_in (none (child_index_of b.depth j) (child_index_below b.depth j)))
    lean (inr (v, leaf)) = elim (stored k mk hk) [
      | inl is ↦ some_not_none
          (sym is
          ∙ ap stored_in (leaf (child_index_of b.depth k) (child_index_below b.depth k)))
          unknown
      | inr inner ↦ some_not_none (ap link_of inner.1)
          (ap link_of (leaf (child_index_of b.depth k) (child_index_below b.depth k)))
    ]

-- the misses of a brick of which nothing was known, and of which something stays unknown
pub planted_brick : (t s w : Tree) (p : Place) (b : Cube) (id : GroupId) (m : ℤ)
    (u rest : ListedUpdate)
    → IsLinked t → IsLinked s → IsPlace t p → block_in t p ≡ Some b → IsBlock b → b.depth ≡ 14
    → node_in t p ≡ Absent → IsSplit t s p id m → SameValues (value_at t) (value_at s)
    → IsSameOutside t s b → IsUpdateIn b u → u.hits ≡ [] → Some m ≡ applied t.odds u.miss None
    → HasGap b u → IsUnderWay s w p b u rest false → rest.hits ≡ [] → rest.frees ≡ []
    → IsTouched t w b (events_of u) false
planted_brick t s w p b id m u rest l ls ok e map deep absent sp same out inside pure value
    (k, mk, hk, none) way hits frees =
    planted_pure t s w p b id m u rest k l ls ok e (omega (arith, deep)) absent sp same out inside
    pure value mk hk none way hits frees
    (λ done one j mj hj known unknown.
    brick_closed s w p b id m (events_of u) j k
    (record {
      map = map;
      deep = deep;
      done = done;
      link = done.node ∙ sp.link;
      bare = λ i few. ap link_of (sp.copies i few ∙ absent);
      one = one;
    })
    mj hj known mk hk unknown)
