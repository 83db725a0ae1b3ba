-- The way to a voxel, down the tree and up again.
use Rattle.std.proofs.Common.{◌≡◌, ◌≢◌, ℕ, zero, suc, ◌+◌, ◌<◌, ◌≤◌, sym, subst, ◌∙◌, ap, arith}
use Rattle.std.proofs.Common.{inl, inr, refl, List, length, replicate, ◌-◌, Some, None, Bool}
use Rattle.std.specs.Prelude.{ℤ, ◌≤ℤ◌, ◌⊎◌, IsSome, is_some, slice_set, slice_get}
use Rattle.std.specs.Prelude.{Option, option_map}
use Rattle.std.proofs.lemmas.Bool.{cases_eq, false≢true}
use Rattle.std.proofs.lemmas.List.{get_or-set_same, get_or-set_other, length-set}
use Rattle.std.proofs.lemmas.Option.{slice_get-get_or}
use Rattle.oct_key.specs.Voxel.{Voxel, IsInMap}
use Rattle.oct_key.specs.Block.{Cube, LiesIn, block_of, child_of, child_index_of, root_block}
use Rattle.oct_key.proofs.Blocks.{block_of_root, block_step, child_index_below, depth_block_of}
use Rattle.oct_key.proofs.Blocks.{root_holds}
use Rattle.oct_key.proofs.Nested.{lies_in_self}
use Rattle.oct_key.proofs.Nested as nested
use Rattle.oct_odds.specs.declared.event.Event.{Event}
use Rattle.oct_values.specs.Events.{event_at}
use Rattle.oct_arena.specs.declared.node.GroupId.{GroupId}
use Rattle.oct_arena.specs.declared.node.Node.{Node}
use Rattle.oct_arena.specs.declared.node.Node.TheVariants.{Absent, Leaf, Inner}
use Rattle.oct_arena.specs.Entries.{Groups, IsLive, node_at}
use Rattle.oct_arena.specs.Nodes.{link_of, stored_in, value_of}
use Rattle.oct_tree.specs.declared.place.Place.{Place}
use Rattle.oct_tree.specs.declared.place.Place.TheVariants.{Root, Slot}
use Rattle.oct_tree.specs.Nodes.{IsAll, IsKnown, IsCollapsible, IsGreatest}
use Rattle.oct_tree.specs.Tree.{Tree, IsLinked, IsPlace, node_in, block_in, value_at}
use Rattle.oct_tree.specs.Shape.{IsFresh, IsPruned}
use Rattle.oct_tree.proofs.Paths.{slot_place, slot_block, linked_live, linked_node}
use Rattle.oct_edit.specs.Saturated.{TakesFrom}
use Rattle.oct_edit.specs.Steps.{IsTouched, IsEntered, IsClosed}
use Rattle.oct_edit.specs.Way.{slot_of, place_on, IsWayTo, IsWholeWay, KeepsGreatest}
use Rattle.oct_edit.proofs.Insides.{above_apart, block_of_here}
use Rattle.oct_edit.proofs.Closings.{closed_already}
use Rattle.oct_edit.proofs.Locals.{same_local}
use Rattle.oct_edit.proofs.Joins.{unfolded}
use Rattle.oct_edit.proofs.Descents.{place_back, link_back, touched_up}
use Rattle.oct_edit.proofs.UpdateEnds.{covered}

-- the way begins at the root
way_begun : (t : Tree) (k : Voxel) (groups : List GroupId) → IsInMap k → length groups ≡ 16
    → IsWayTo t k groups 0
way_begun t k groups v long = record {
  few = omega arith;
  long = long;
  at = λ d low. (let first : d ≡ 0 = omega arith in
      subst (λ n. IsPlace t (place_on k groups n)
      × (block_in t (place_on k groups n) ≡ Some (block_of n k)))
      (sym first) (tt, ap Some (sym (block_of_root k v))));
  linked = λ d low. absurd (omega arith);
}

-- the place below a group of the way
pub place_below : (k : Voxel) (groups : List GroupId) (d : ℕ) (id : GroupId)
    → slice_get groups d ≡ Some id → place_on k groups (d + 1) ≡ Slot id (child_index_of d k)
place_below k groups d id is =
    let more : d + 1 ≡ suc d = omega arith in
    ap (place_on k groups) more ∙ ap (λ o. slot_of o (child_index_of d k)) is

-- the places of a way need the groups above them alone
place_kept : (k : Voxel) (groups new : List GroupId) (depth d : ℕ)
    → ((e : ℕ) → e < depth → slice_get new e ≡ slice_get groups e) → d ≤ depth
    → place_on k new d ≡ place_on k groups d
place_kept k groups new depth zero same low = refl
place_kept k groups new depth (suc d) same low =
    ap (λ o. slot_of o (child_index_of d k)) (same d (omega arith))

-- and goes on in the group that its last place links
way_more : (t : Tree) (k : Voxel) (groups new : List GroupId) (depth : ℕ) (v : ℤ) (id : GroupId)
    → IsLinked t → depth < 16 → node_in t (place_on k groups depth) ≡ Inner v id
    → length new ≡ 16 → slice_get new depth ≡ Some id
    → ((e : ℕ) → e < depth → slice_get new e ≡ slice_get groups e)
    → IsWayTo t k groups depth → IsWayTo t k new (depth + 1)
way_more t k groups new depth v id l low is long next same w = record {
  few = omega arith;
  long = long;
  at = λ d lt. elim (cases_eq d (depth + 1)) [
    | inl last ↦ subst (λ n. IsPlace t (place_on k new n)
        × (block_in t (place_on k new n) ≡ Some (block_of n k)))
        (sym last)
        (subst (λ p. IsPlace t p × (block_in t p ≡ Some (block_of (depth + 1) k))) (sym here) (
          slot_place t l (place_on k groups depth) (w.at depth (omega arith)).0 id
              (child_index_of depth k) (ap link_of is) (child_index_below depth k),
          slot_block t l (place_on k groups depth) id (child_index_of depth k) (block_of depth k)
              (ap link_of is) (w.at depth (omega arith)).1
              ∙ ap Some (sym (block_step depth k low)),
        ))
    | inr other ↦ subst (λ p. IsPlace t p × (block_in t p ≡ Some (block_of d k)))
        (sym (there d (omega arith))) (w.at d (omega arith))
  ];
  linked = λ d lt. elim (cases_eq d depth) [
    | inl last ↦ subst (λ n. (a : ℤ) × (x : GroupId) × (node_in t (place_on k new n) ≡ Inner a x)
        × (place_on k new (n + 1) ≡ Slot x (child_index_of n k))) (sym last)
        (v, id, ap (node_in t) (there depth (omega arith)) ∙ is, here)
    | inr other ↦ (let (a, x, link, below) = w.linked d (omega arith) in (
      a,
      x,
      ap (node_in t) (there d (omega arith)) ∙ link,
      there (d + 1) (omega arith) ∙ below,
    ))
  ];
}
  where
    here : place_on k new (depth + 1) ≡ Slot id (child_index_of depth k)
    here = place_below k new depth id next

    there : (d : ℕ) → d ≤ depth → place_on k new d ≡ place_on k groups d
    there d few = place_kept k groups new depth d same few

-- a root that links no group has the voxel's value
pub root_value : (t : Tree) (k : Voxel) → IsLinked t → IsInMap k → link_of t.root ≡ None
    → value_of t.root ≡ value_at t k
root_value t k l v none =
    sym (covered t Root root_block l tt refl (omega arith) none k v (root_holds k v))

-- What stands at the end of a way so far: a slot of the group that was linked last.
pub record IsWayBelow (t : Tree) (k : Voxel) (groups : List GroupId) (depth : ℕ) (id : GroupId)
    (i : ℕ) : Type 0 where
  pub way : IsWayTo t k groups depth
  pub here : place_on k groups depth ≡ Slot id i

-- the first group is the root's
pub way_first : (t : Tree) (k : Voxel) (groups : List GroupId) (id : GroupId) (i : ℕ) → IsLinked t
    → IsInMap k → link_of t.root ≡ Some id.number → groups ≡ replicate 16 id
    → i ≡ child_index_of 0 k → IsWayBelow t k groups 1 id i
way_first t k groups id i l v link all index =
    let (a, is) = linked_node t.root id link in
    let long : length groups ≡ 16 = ap length all in
    let first : slice_get groups 0 ≡ Some id = ap (λ gs. slice_get gs 0) all in
    record {
      way = way_more t k groups groups 0 a id l (omega arith) is long first (λ e low. refl)
          (way_begun t k groups v long);
      here = place_below k groups 0 id first ∙ ap (Slot id) (sym index);
    }

-- a place of a way is live
pub below_live : (t : Tree) (gs : Groups) (k : Voxel) (groups : List GroupId) (depth : ℕ)
    (id : GroupId) (i : ℕ) → gs ≡ t.groups → IsWayBelow t k groups depth id i → IsLive gs id.number
below_live t gs k groups depth id i same b =
    subst (λ hs. IsLive hs id.number) (sym same)
    (subst (IsPlace t) b.here (b.way.at depth (omega arith)).0).0

-- what stands there
pub below_node : (t : Tree) (gs : Groups) (k : Voxel) (groups : List GroupId) (depth : ℕ)
    (id : GroupId) (i : ℕ) → gs ≡ t.groups → IsWayBelow t k groups depth id i
    → node_at gs id.number i ≡ node_in t (place_on k groups depth)
below_node t gs k groups depth id i same b =
    ap (λ (hs : Groups). node_at hs id.number i) same ∙ ap (node_in t) (sym b.here)

-- where a group is linked there, the place is above the voxels
pub below_low : (t : Tree) (gs : Groups) (k : Voxel) (groups : List GroupId) (depth : ℕ)
    (id : GroupId) (i x : ℕ) → IsLinked t → gs ≡ t.groups → IsWayBelow t k groups depth id i
    → link_of (node_at gs id.number i) ≡ Some x → depth ≤ 15
below_low t gs k groups depth id i x l same b link =
    let (ok, e) = b.way.at depth (omega arith) in
    let deep = depth_block_of depth k in
    let there : link_of (node_in t (place_on k groups depth)) ≡ Some x =
    ap link_of (sym (below_node t gs k groups depth id i same b)) ∙ link in
    let low = (l.homes x (block_of depth k) (l.links (place_on k groups depth) x there ∙ e)).1 in
    omega (arith, deep, low)

-- a node that doesn't link some group links none
pub not_linked : (o : Option GroupId) (x : Option ℕ) → ((g : GroupId) → o ≡ Some g → ⊥)
    → option_map (λ (g : GroupId). g.number) o ≡ x → x ≡ None
not_linked None x other is = sym is
not_linked (Some g) x other is = absurd (other g refl)

-- and the way goes on in it
pub way_further : (t : Tree) (gs : Groups) (k : Voxel) (groups : List GroupId) (depth : ℕ)
    (id next : GroupId) (i j : ℕ) → IsLinked t → gs ≡ t.groups → IsWayBelow t k groups depth id i
    → link_of (node_at gs id.number i) ≡ Some next.number → j ≡ child_index_of depth k
    → IsWayBelow t k (slice_set groups depth next) (depth + 1) next j
way_further t gs k groups depth id next i j l same b link index = record {
  way = way_more t k groups new depth v next l (omega (arith, low)) is
      many last
      others b.way;
  here = place_below k new depth next last ∙ ap (Slot next) (sym index);
}
  where
    new : List GroupId
    new = slice_set groups depth next

    many : length new ≡ 16
    many = length-set groups depth next ∙ b.way.long

    linked : link_of (node_in t (place_on k groups depth)) ≡ Some next.number
    linked = ap link_of (sym (below_node t gs k groups depth id i same b)) ∙ link

    low : depth ≤ 15
    low = below_low t gs k groups depth id i next.number l same b link

    v : ℤ
    v = (linked_node (node_in t (place_on k groups depth)) next linked).0

    is : node_in t (place_on k groups depth) ≡ Inner v next
    is = (linked_node (node_in t (place_on k groups depth)) next linked).1

    last : slice_get new depth ≡ Some next
    last =
        slice_get-get_or new depth next (omega (arith, low, many))
        ∙ ap Some (get_or-set_same groups depth next next
        (let long = b.way.long in omega (arith, low, long)))

    others : (e : ℕ) → e < depth → slice_get new e ≡ slice_get groups e
    others e below =
        slice_get-get_or new e next (omega (arith, low, many))
        ∙ ap Some (get_or-set_other groups depth e next next (omega arith))
        ∙ sym (slice_get-get_or groups e next (let long = b.way.long in omega (arith, low, long)))

-- at its end stands the voxel's value
pub below_value : (t : Tree) (k : Voxel) (groups : List GroupId) (depth : ℕ) → IsLinked t
    → IsInMap k → IsWholeWay t k groups depth
    → value_of (node_in t (place_on k groups depth)) ≡ value_at t k
below_value t k groups depth l v w =
    let (ok, e) = w.way.at depth (omega arith) in
    sym (covered t (place_on k groups depth) (block_of depth k) l ok e
    (let deep = depth_block_of depth k in let few = w.way.few in omega arith) w.ends k v
    (block_of_here depth k))

-- an Inner place is entered as it is
pub entered_inner : (t : Tree) (p : Place) (b : Cube) (id : GroupId) (v : ℤ) → IsLinked t
    → IsPlace t p
    → block_in t p ≡ Some b → node_in t p ≡ Inner v id → IsEntered t t p b id
entered_inner t p b id v l ok e is = record {
  linked = l;
  link = (v, is);
  place = ok;
  block = e;
  values = λ k m. refl;
  local = same_local t b;
  opened = λ d q low m. inl refl;
  homes = λ x c h. inl h;
  spare = inl refl;
}

-- a place of the way is entered as it is
pub entered_way : (t : Tree) (k : Voxel) (groups : List GroupId) (depth d : ℕ) → IsLinked t
    → IsWayTo t k groups depth → d < depth
    → (v : ℤ) × (id : GroupId) × (node_in t (place_on k groups d) ≡ Inner v id)
    × IsEntered t t (place_on k groups d) (block_of d k) id
entered_way t k groups depth d l w low =
    let (v, id, link, next) = w.linked d low in
    let (ok, e) = w.at d (omega arith) in
    (v, id, link, entered_inner t (place_on k groups d) (block_of d k) id v l ok e link)

-- What stands at a place of the way after an edit below it: the place, its block and its node as
-- they were.
pub record IsBack (t w : Tree) (k : Voxel) (p : Place) (d : ℕ) : Type 0 where
  pub place : IsPlace w p
  pub block : block_in w p ≡ Some (block_of d k)
  pub node : node_in w p ≡ node_in t p
  pub inner : IsSome (link_of (node_in w p))

pub back : (t w : Tree) (k : Voxel) (groups : List GroupId) (depth d : ℕ) (event : Event)
    (lazy : Bool)
    → IsLinked t → IsWayTo t k groups depth → d < depth
    → IsTouched t w (block_of (d + 1) k) (event_at (Some k) event) lazy
    → IsBack t w k (place_on k groups d) d
back t w k groups depth d event lazy l way low r =
    let m : d < 16 = (let few = way.few in omega arith) in
    let (v, id, link, e) = entered_way t k groups depth d l way low in
    let f = unfolded t t (place_on k groups d) (block_of d k) id lazy e in
    let (ok, block) = place_back t t w (place_on k groups d) d k id event lazy m f r in
    record {
      place = ok;
      block = block;
      node = r.apart.outside.nodes (place_on k groups d) (block_of d k)
          (λ f. above_apart d (d + 1) k (omega arith) (omega arith) f) (way.at d (omega arith)).1;
      inner = ap is_some (link_back t t w (place_on k groups d) d k id event lazy m f r);
    }

-- one place up the way, where its group is closed
pub climbed : (t w z : Tree) (k : Voxel) (groups : List GroupId) (depth d : ℕ) (event : Event)
    (lazy : Bool)
    → IsLinked t → IsInMap k → IsWayTo t k groups depth → d < depth
    → TakesFrom t.odds (event_at (Some k) event) (value_at t) k
    → IsTouched t w (block_of (d + 1) k) (event_at (Some k) event) lazy
    → IsClosed w z (block_of d k) lazy
    → IsTouched t z (block_of d k) (event_at (Some k) event) lazy
climbed t w z k groups depth d event lazy l v way low takes r f =
    let m : d < 16 = (let few = way.few in omega arith) in
    let (a, id, link, e) = entered_way t k groups depth d l way low in
    touched_up t t w z (place_on k groups d) d k id event lazy l m v
    (unfolded t t (place_on k groups d) (block_of d k) id lazy e) r f takes

-- What the nodes of a group say stays where they do.
known_alike : (gs hs : Groups) (x : ℕ) → ((i : ℕ) → i < 8 → node_at hs x i ≡ node_at gs x i)
    → IsKnown gs x → IsKnown hs x
known_alike gs hs x same (i, few, some) = (i, few, λ none. some (sym (same i few) ∙ none))

collapsible_alike : (gs hs : Groups) (x : ℕ) → ((i : ℕ) → i < 8 → node_at hs x i ≡ node_at gs x i)
    → IsCollapsible hs x → IsCollapsible gs x
collapsible_alike gs hs x same (inl none) = inl (λ i few. sym (same i few) ∙ none i few)
collapsible_alike gs hs x same (inr (v, leaf)) = inr (v, λ i few. sym (same i few) ∙ leaf i few)

greatest_alike : (gs hs : Groups) (x : ℕ) (m : ℤ)
    → ((i : ℕ) → i < 8 → node_at hs x i ≡ node_at gs x i)
    → IsGreatest gs x m → IsGreatest hs x m
greatest_alike gs hs x m same h = record {
  there = (let (i, few, is) = h.there in (i, few, ap stored (same i few) ∙ is));
  most = λ i v few is. h.most i v few (sym (ap stored (same i few)) ∙ is);
}
  where
    stored : Node → Option ℤ
    stored n = Rattle.oct_arena.specs.Nodes.stored_in n

-- After an edit in a child's block the other nodes of the group are as they were.
other_nodes : (t w : Tree) (k : Voxel) (p : Place) (d : ℕ) (id : GroupId) (v : ℤ) (event : Event)
    (lazy : Bool)
    → IsLinked t → d < 16 → block_in t p ≡ Some (block_of d k) → node_in t p ≡ Inner v id
    → IsTouched t w (block_of (d + 1) k) (event_at (Some k) event) lazy
    → (i : ℕ) → i < 8 → i ≢ child_index_of d k
    → node_at w.groups id.number i ≡ node_at t.groups id.number i
other_nodes t w k p d id v event lazy l low e is r i few off =
    r.apart.outside.nodes (Slot id i) (child_of (block_of d k) i)
    (λ f. nested.apart (block_of d k) (child_of (block_of d k) i) i (child_index_of d k)
    (let deep = depth_block_of d k in omega arith) few (child_index_below d k) off
    (lies_in_self (child_of (block_of d k) i))
    (subst (λ c. LiesIn (child_of (block_of d k) i) c) (block_step d k low) f))
    (slot_block t l p id i (block_of d k) (ap link_of is) e)

-- Where the node of a child stays as it was, the group of its block is closed as it is, if the tree
-- was fresh and pruned.
pub closed_by_itself : (t w : Tree) (k : Voxel) (p : Place) (d : ℕ) (id : GroupId) (v : ℤ)
    (event : Event) (lazy : Bool)
    → IsFresh t → IsPruned t → d < 16 → IsPlace t p → block_in t p ≡ Some (block_of d k)
    → node_in t p ≡ Inner v id
    → IsBack t w k p d → IsTouched t w (block_of (d + 1) k) (event_at (Some k) event) lazy
    → node_in w (Slot id (child_index_of d k)) ≡ node_in t (Slot id (child_index_of d k))
    → IsClosed w w (block_of d k) lazy
closed_by_itself t w k p d id v event lazy fresh pruned low ok e is b r kept =
    closed_already w p (block_of d k) id v lazy r.linked b.block (b.node ∙ is)
    (known_alike t.groups w.groups id.number same (fresh.formed.known id.number live))
    (λ _ can. pruned id.number live (collapsible_alike t.groups w.groups id.number same can))
    (λ _. greatest_alike t.groups w.groups id.number v same (fresh.greatest p id v is))
  where
    l : IsLinked t
    l = fresh.formed.linked

    live : IsLive t.groups id.number
    live = linked_live t l p ok id.number (ap link_of is)

    same : (i : ℕ) → i < 8 → node_at w.groups id.number i ≡ node_at t.groups id.number i
    same i few = elim (cases_eq i (child_index_of d k)) [
      | inl on ↦ ap (node_at w.groups id.number) on ∙ kept
          ∙ ap (node_at t.groups id.number) (sym on)
      | inr off ↦ other_nodes t w k p d id v event lazy l low e is r i few off
    ]

-- A group keeps its greatest value where one of its nodes becomes an Inner one that isn't above it.
pub greatest_kept : (gs hs : Groups) (x j : ℕ) (m v : ℤ) (y : GroupId) → j < 8
    → ((i : ℕ) → i < 8 → i ≢ j → node_at hs x i ≡ node_at gs x i) → node_at hs x j ≡ Inner v y
    → v ≤ℤ m → (v ≡ m) ⊎ (stored_in (node_at gs x j) ≢ Some m)
    → IsGreatest gs x m → IsGreatest hs x m
greatest_kept gs hs x j m v y low same is below kept h = record {
  there = elim kept [
    | inl on ↦ (j, low, ap stored_in is ∙ ap Some on)
    | inr other ↦ (let (i, few, at) = h.there in (
      i,
      few,
      ap stored_in (same i few
          (λ on. other (sym (ap (λ n. stored_in (node_at gs x n)) on) ∙ at))) ∙ at,
    ))
  ];
  most = λ i a few at. elim (cases_eq i j) [
    | inl on ↦ subst (λ n. n ≤ℤ m)
        (inner_value v a
        (sym (ap stored_in is) ∙ ap (λ n. stored_in (node_at hs x n)) (sym on) ∙ at))
        below
    | inr off ↦ h.most i a few (sym (ap stored_in (same i few off)) ∙ at)
  ];
}
  where
    inner_value : (a b : ℤ) → ◌≡◌ {A = Option ℤ} (Some a) (Some b) → a ≡ b
    inner_value a b e = cc

-- A group with an Inner node isn't all of one leaf, and not absent.
not_all_plain : (gs : Groups) (x j : ℕ) (v : ℤ) (y : GroupId) (n : Node) → j < 8
    → node_at gs x j ≡ Inner v y → link_of n ≡ None → IsAll gs x n → ⊥
not_all_plain gs x j v y n low is plain all =
    false≢true (ap is_some (sym plain ∙ ap link_of (sym (all j low) ∙ is)))

inner_known : (gs : Groups) (x j : ℕ) (v : ℤ) (y : GroupId) → j < 8 → node_at gs x j ≡ Inner v y
    → IsKnown gs x
inner_known gs x j v y low is =
    (j, low, λ none. false≢true (ap (λ n. is_some (link_of n)) (sym none ∙ is)))

inner_lean : (gs : Groups) (x j : ℕ) (v : ℤ) (y : GroupId) → j < 8 → node_at gs x j ≡ Inner v y
    → IsCollapsible gs x → ⊥
inner_lean gs x j v y low is (inl none) = not_all_plain gs x j v y Absent low is refl none
inner_lean gs x j v y low is (inr (a, leaf)) = not_all_plain gs x j v y (Leaf a) low is refl leaf

-- So the group of its block is closed as it is.
pub closed_by_greatest : (t w : Tree) (k : Voxel) (p : Place) (d : ℕ) (id : GroupId) (v : ℤ)
    (event : Event) (lazy : Bool)
    → IsFresh t → d < 16 → block_in t p ≡ Some (block_of d k) → node_in t p ≡ Inner v id
    → IsBack t w k p d → IsTouched t w (block_of (d + 1) k) (event_at (Some k) event) lazy
    → KeepsGreatest (node_in t p) (node_in t (Slot id (child_index_of d k)))
    (node_in w (Slot id (child_index_of d k)))
    → IsClosed w w (block_of d k) lazy
closed_by_greatest t w k p d id v event lazy fresh low e is b r keeps =
    closed_already w p (block_of d k) id v lazy r.linked b.block (b.node ∙ is)
    (inner_known w.groups id.number j keeps.value keeps.link few keeps.now_is)
    (λ _. inner_lean w.groups id.number j keeps.value keeps.link few keeps.now_is)
    (λ _. greatest_kept t.groups w.groups id.number j v keeps.value keeps.link few
    (λ i. other_nodes t w k p d id v event lazy fresh.formed.linked low e is r i)
    keeps.now_is (subst (λ m. keeps.value ≤ℤ m) (sym same) keeps.most_yet)
    (subst (λ m. (keeps.value ≡ m) ⊎ (stored_in (node_at t.groups id.number j) ≢ Some m))
    (sym same) keeps.there) (fresh.greatest p id v is))
  where
    j : ℕ
    j = child_index_of d k

    few : j < 8
    few = child_index_below d k

    one_value : (a c : ℤ) (x y : GroupId) → ◌≡◌ {A = Node} (Inner a x) (Inner c y) → a ≡ c
    one_value a c x y f = cc

    same : v ≡ keeps.most
    same = one_value v keeps.most id keeps.group (sym is ∙ keeps.over_is)

-- So nothing is left to do above a place whose node stays as it was.
pub kept_above : (t w : Tree) (k : Voxel) (groups : List GroupId) (depth d : ℕ) (event : Event)
    (lazy : Bool)
    → IsFresh t → IsPruned t → IsInMap k → IsWayTo t k groups depth → d ≤ depth
    → TakesFrom t.odds (event_at (Some k) event) (value_at t) k
    → IsTouched t w (block_of d k) (event_at (Some k) event) lazy
    → node_in w (place_on k groups d) ≡ node_in t (place_on k groups d)
    → IsTouched t w (block_of 0 k) (event_at (Some k) event) lazy
kept_above t w k groups depth zero event lazy fresh pruned v way low takes r kept = r
kept_above t w k groups depth (suc d) event lazy fresh pruned v way low takes r kept =
    let l : IsLinked t = fresh.formed.linked in
    let more : d + 1 ≡ suc d = omega arith in
    let below : IsTouched t w (block_of (d + 1) k) (event_at (Some k) event) lazy =
    subst (λ n. IsTouched t w (block_of n k) (event_at (Some k) event) lazy) (sym more) r in
    let lower : d < depth = omega arith in
    let few : d < 16 = (let most = way.few in omega arith) in
    let b = back t w k groups depth d event lazy l way lower below in
    let (a, id, link, next) = way.linked d lower in
    let slot : place_on k groups (suc d) ≡ Slot id (child_index_of d k) =
    ap (place_on k groups) (sym more) ∙ next in
    let still : node_in w (Slot id (child_index_of d k))
    ≡ node_in t (Slot id (child_index_of d k)) =
    ap (node_in w) (sym slot) ∙ kept ∙ ap (node_in t) slot in
    let (ok, e) = way.at d (omega arith) in
    let c =
    closed_by_itself t w k (place_on k groups d) d id a event lazy fresh pruned few ok e link b
    below still in
    kept_above t w k groups depth d event lazy fresh pruned v way (omega arith) takes
    (climbed t w w k groups depth d event lazy l v way lower takes below c) b.node

-- Nor is there anything left above a group that keeps its greatest value.
pub done_above : (t w : Tree) (k : Voxel) (groups : List GroupId) (depth d : ℕ) (event : Event)
    (lazy : Bool)
    → IsFresh t → IsPruned t → IsInMap k → IsWayTo t k groups depth → d < depth
    → TakesFrom t.odds (event_at (Some k) event) (value_at t) k
    → IsTouched t w (block_of (d + 1) k) (event_at (Some k) event) lazy
    → KeepsGreatest (node_in t (place_on k groups d)) (node_in t (place_on k groups (d + 1)))
    (node_in w (place_on k groups (d + 1)))
    → IsTouched t w (block_of 0 k) (event_at (Some k) event) lazy
done_above t w k groups depth d event lazy fresh pruned v way lower takes r keeps =
    let l : IsLinked t = fresh.formed.linked in
    let few : d < 16 = (let most = way.few in omega arith) in
    let b = back t w k groups depth d event lazy l way lower r in
    let (a, id, link, next) = way.linked d lower in
    let (ok, e) = way.at d (omega arith) in
    let c =
    closed_by_greatest t w k (place_on k groups d) d id a event lazy fresh few e link b r
    (subst (λ q. KeepsGreatest (node_in t (place_on k groups d)) (node_in t q) (node_in w q)) next
    keeps) in
    kept_above t w k groups depth d event lazy fresh pruned v way (omega arith) takes
    (climbed t w w k groups depth d event lazy l v way lower takes r c) b.node

-- the same one place above the one that was reached on the way up
pub back_above : (t w : Tree) (k : Voxel) (groups : List GroupId) (depth n : ℕ) (event : Event)
    (lazy : Bool) → IsLinked t → IsWayTo t k groups depth → 0 < n → n ≤ depth
    → IsTouched t w (block_of n k) (event_at (Some k) event) lazy
    → IsBack t w k (place_on k groups (n - 1)) (n - 1)
back_above t w k groups depth n event lazy l way some low r =
    let more : (n - 1) + 1 ≡ n = omega arith in
    back t w k groups depth (n - 1) event lazy l way (omega arith)
    (subst (λ m. IsTouched t w (block_of m k) (event_at (Some k) event) lazy) (sym more) r)

pub climbed_above : (t w z : Tree) (k : Voxel) (groups : List GroupId) (depth n : ℕ) (event : Event)
    (lazy : Bool)
    → IsLinked t → IsInMap k → IsWayTo t k groups depth → 0 < n → n ≤ depth
    → TakesFrom t.odds (event_at (Some k) event) (value_at t) k
    → IsTouched t w (block_of n k) (event_at (Some k) event) lazy
    → IsClosed w z (block_of (n - 1) k) lazy
    → IsTouched t z (block_of (n - 1) k) (event_at (Some k) event) lazy
climbed_above t w z k groups depth n event lazy l v way some low takes r f =
    let more : (n - 1) + 1 ≡ n = omega arith in
    climbed t w z k groups depth (n - 1) event lazy l v way (omega arith) takes
    (subst (λ m. IsTouched t w (block_of m k) (event_at (Some k) event) lazy) (sym more) r) f
