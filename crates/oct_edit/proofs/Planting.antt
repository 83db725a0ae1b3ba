-- A block of which nothing was known, and of whose voxels some take one event and the others none:
-- it is split to the value that comes out, and its group needs no closing.
use Rattle.std.proofs.Common.{◌≡◌, ℕ, ◌+◌, ◌<◌, ◌≤◌, sym, subst, ◌∙◌, ap, arith, inl, inr, refl}
use Rattle.std.proofs.Common.{Some}
use Rattle.std.proofs.Common.{None, false, [], ◌≤ℤ◌}
use Rattle.std.proofs.lemmas.Int.{ints}
use Rattle.std.specs.Prelude.{◌⊎◌, ℤ}
use Rattle.std.proofs.lemmas.Bool.{cases_eq, false≢true, true≢false}
use Rattle.oct_key.specs.Voxel.{Voxel, IsInMap}
use Rattle.oct_key.specs.Values.{SameValues}
use Rattle.oct_key.specs.Block.{Cube, IsBlock, HoldsVoxel, block_of, child_of}
use Rattle.oct_key.specs.Block.{child_index_of, lowest_voxel}
use Rattle.oct_key.proofs.Blocks.{child_index_below, child_in_map, child_holds, depth_child_of}
use Rattle.oct_key.proofs.Blocks.{lowest_held, lowest_in_map}
use Rattle.oct_key.proofs.Held.{held_in_map}
use Rattle.oct_key.proofs.Nested.{lies_in_self}
use Rattle.oct_odds.specs.Odds.{Odds}
use Rattle.oct_odds.specs.Update.{applied}
use Rattle.oct_values.specs.Events.{Events, after_event, is_listed}
use Rattle.oct_arena.specs.declared.node.GroupId.{GroupId}
use Rattle.oct_arena.specs.declared.node.Node.{Node}
use Rattle.oct_arena.specs.declared.node.Node.TheVariants.{Absent, Leaf, Inner}
use Rattle.oct_arena.specs.Entries.{home_at, node_at, spare}
use Rattle.oct_arena.specs.Nodes.{link_of, value_of, stored_in}
use Rattle.oct_tree.specs.declared.place.Place.{Place}
use Rattle.oct_tree.specs.declared.place.Place.TheVariants.{Slot}
use Rattle.oct_tree.specs.Nodes.{IsCollapsible, IsKnown, IsGreatest}
use Rattle.oct_tree.specs.Tree.{Tree, IsLinked, IsPlace, node_in, block_in, value_at}
use Rattle.oct_tree.specs.Changes.{IsSameOutside, IsSplit}
use Rattle.oct_tree.proofs.Paths.{some_injective, some_not_none, same_home, only_link, slot_place}
use Rattle.oct_tree.proofs.Paths.{slot_block, place_reached}
use Rattle.oct_tree.proofs.Surveys.{uncollapsible_known}
use Rattle.oct_edit.specs.Listed.{ListedUpdate}
use Rattle.oct_edit.specs.Steps.{Reaches, IsClosedAt, IsTouched, IsClosed}
use Rattle.oct_edit.specs.Scan.{events_of}
use Rattle.oct_edit.specs.Parts.{IsUpdateIn, need_in}
use Rattle.oct_edit.specs.Edits.{ExpandsTakers}
use Rattle.oct_edit.specs.Saturated.{TakesFrom}
use Rattle.oct_edit.proofs.UnderWay.{IsTouchedBelow, IsUnderWay}
use Rattle.oct_edit.proofs.Joins.{TakesIn}
use Rattle.oct_edit.proofs.Takes.{takes_alike}
use Rattle.oct_edit.proofs.Frames.{apart_join, place_after}
use Rattle.oct_edit.proofs.Locals.{split_local, local_apart, same_local, same_value}
use Rattle.oct_edit.proofs.Rounds.{value_by_path, round_closed}
use Rattle.oct_edit.proofs.Needs.{sum_below_le, need_of_children}
use Rattle.oct_edit.proofs.Shares.{case_of, is_hit, is_freed, is_left, none_not_some}
use Rattle.oct_edit.proofs.Updates.{needs, way_begun, way_done}
use Rattle.oct_edit.proofs.UpdateEnds.{covered, saturated_known}
use Rattle.oct_edit.proofs.Voxels.{voxel_plain}
use Rattle.oct_edit.proofs.Insides.{around}

-- a group that is as an edit leaves it is closed as it is
left_closed : (w : Tree) (b : Cube) → IsLinked w → IsClosedAt false w b → IsClosed w w b false
left_closed w b l closed = record {
  linked = l;
  values = λ k _. refl;
  local = same_local w b;
  closed = closed;
  homes = λ x c h. h;
  spare = omega arith;
  dropped = λ lazy. absurd (false≢true lazy);
}

-- a place was split, its children were edited, and its group is as an edit leaves it: edited
pub planted_end : (t s w : Tree) (p : Place) (b : Cube) (id : GroupId) (v : ℤ) (events : Events)
    → IsLinked t → IsLinked s → IsPlace t p → block_in t p ≡ Some b → b.depth ≤ 15
    → link_of (node_in t p) ≡ None → IsSplit t s p id v → SameValues (value_at t) (value_at s)
    → IsSameOutside t s b → IsTouchedBelow s w p b 8 events false → IsClosedAt false w b
    → Reaches events b b → TakesIn t events b → IsTouched t w b events false
planted_end t s w p b id v events l ls ok e low none sp same out r closed some takes = record {
  linked = r.linked;
  inside =
      λ k m h. r.inside k m h (child_index_below b.depth k)
      ∙ ap (λ (o : Odds). after_event o (events k) (value_at s k)) out.odds
      ∙ ap (after_event t.odds (events k)) (sym (same k m));
  elsewhere =
      λ k m far. value_by_path s w k (r.paths k m (λ g. far g.0) 16 (omega arith))
      ∙ sym (same k m);
  apart =
      apart_join t s w b events l
      (local_apart t s b events some (split_local t s p id v b l ls ok e none sp out)) r.apart;
  closed = round_closed s w w p b events false low r (left_closed w b r.linked closed);
  expanded = expanded;
  nodes = λ lazy. absurd (false≢true lazy);
  opened = λ lazy. absurd (false≢true lazy);
}
  where
    expanded : ExpandsTakers t w events
    expanded x c home = elim (r.expanded x c home) [
      | inl old ↦ (let (y, was) = old in elim (cases_eq y id.number) [
        | inl new ↦ (let is : b ≡ c =
            some_injective (sym (sp.home ∙ e) ∙ ap (home_at s.groups) (sym new) ∙ was) in
            inr (subst (TakesIn t events) is takes))
        | inr other ↦ inl (y, sym (sp.homes y other) ∙ was)
      ])
      | inr taken ↦ (let (k, held, more) = taken in
          inr (
            k,
            held,
            takes_alike s.odds t.odds events events (value_at s) (value_at t) k out.odds refl
                (sym (same k (held_in_map c k (r.linked.homes x c home).0 held))) more,
          ))
    ]

-- a child that wasn't edited yet has what its block had
pub fresh_slot : (t s w : Tree) (p : Place) (b : Cube) (id : GroupId) (v : ℤ) (n i : ℕ)
    (events : Events)
    → IsLinked s → IsPlace s p → block_in s p ≡ Some b → IsBlock b → b.depth ≤ 15
    → IsSplit t s p id v → IsTouchedBelow s w p b n events false → n ≤ i → i < 8
    → node_in w (Slot id i) ≡ node_in t p
fresh_slot t s w p b id v n i events ls ok e map low sp r from few =
    let k : Voxel = lowest_voxel (child_of b i) in
    let deep = depth_child_of b i in
    let in_child = child_in_map b i map (omega (arith, low)) in
    let m : IsInMap k = lowest_in_map (child_of b i) in_child in
    let held : HoldsVoxel (child_of b i) k = lowest_held (child_of b i) in
    let at = (child_holds b i k (omega arith) few).0 held in
    let index = at.1 in
    let link : link_of (node_in s p) ≡ Some id.number = ap link_of sp.link in
    let linked : link_of (node_in w p) ≡ Some id.number = ap link_of r.node ∙ link in
    sym (place_reached w r.linked (Slot id i) (slot_place w r.linked p r.place id i linked few)
    (child_of b i) (slot_block w r.linked p id i b linked r.block) k m held)
    ∙ r.paths k m (λ g. (let less = g.1 in absurd (omega (arith, less, index, from))))
    (child_of b i).depth (omega (arith, deep, low))
    ∙ place_reached s ls (Slot id i) (slot_place s ls p ok id i link few) (child_of b i)
    (slot_block s ls p id i b link e) k m held
    ∙ sp.copies i few

-- an edited group whose nodes have one value, or none, and don't all say the same
pub closed_here : (w : Tree) (p : Place) (b : Cube) (id : GroupId) (m : ℤ) → IsLinked w
    → block_in w p ≡ Some b → node_in w p ≡ Inner m id → IsGreatest w.groups id.number m
    → (IsCollapsible w.groups id.number → ⊥) → IsClosedAt false w b
closed_here w p b id m l e link best lean = record {
  known =
      λ x is. subst (IsKnown w.groups) (sym (own x is))
      (uncollapsible_known w.groups id.number lean);
  lean = λ _ x is can. lean (subst (IsCollapsible w.groups) (own x is) can);
  greatest = λ _ q y a is home. (let f : y.number ≡ id.number = own y.number home in
      let place : q ≡ p =
      only_link w l q p id.number (ap link_of is ∙ ap Some f) (ap link_of link) in
      let value : m ≡ a = same_value m a id y (sym link ∙ ap (node_in w) (sym place) ∙ is) in
      subst (λ n. IsGreatest w.groups n a) (sym f)
      (subst (IsGreatest w.groups id.number) value best));
}
  where
    own : (x : ℕ) → home_at w.groups x ≡ Some b → x ≡ id.number
    own x is = same_home w l x id.number b is (l.links p id.number (ap link_of link) ∙ e)

stored_value : (n : Node) → link_of n ≡ None → stored_in n ≡ value_of n
stored_value Absent h = refl
stored_value (Leaf v) h = refl
stored_value (Inner v id) h = absurd (some_not_none {x = id.number} refl h)

-- what stands in a group of voxels are their values
pub voxel_stored : (w : Tree) (p : Place) (b : Cube) (id : GroupId) (i : ℕ) (k : Voxel)
    → IsLinked w → IsPlace w p → block_in w p ≡ Some b → b.depth ≡ 15
    → link_of (node_in w p) ≡ Some id.number → i < 8 → IsInMap k → HoldsVoxel (child_of b i) k
    → stored_in (node_at w.groups id.number i) ≡ value_at w k
voxel_stored w p b id i k l ok e deep link few m held =
    let place = slot_place w l p ok id i link few in
    let block = slot_block w l p id i b link e in
    let level : (child_of b i).depth ≡ 16 = (let d = depth_child_of b i in omega (arith, d, deep))
    in
    let plain : link_of (node_in w (Slot id i)) ≡ None =
    voxel_plain w (Slot id i) k l
    (block ∙ ap Some (around (child_of b i) k held ∙ ap (λ d. block_of d k) level)) in
    stored_value (node_in w (Slot id i)) plain
    ∙ sym (covered w (Slot id i) (child_of b i) l place block (omega (arith, level)) plain k m held)

pub no_more : (v : ℤ) → v ≤ℤ v
no_more v = omega (arith, ints)

-- voxels of one value, of which one is known and one isn't
pub octet_closed : (w : Tree) (p : Place) (b : Cube) (id : GroupId) (m : ℤ) (j k : Voxel)
    → IsLinked w → IsPlace w p → block_in w p ≡ Some b → IsBlock b → b.depth ≡ 15
    → node_in w p ≡ Inner m id
    → ((q : Voxel) → IsInMap q → HoldsVoxel b q → (value_at w q ≡ None) ⊎ (value_at w q ≡ Some m))
    → IsInMap j → HoldsVoxel b j → value_at w j ≡ Some m
    → IsInMap k → HoldsVoxel b k → value_at w k ≡ None
    → IsClosedAt false w b
octet_closed w p b id m j k l ok e map deep link one mj hj known mk hk unknown =
    closed_here w p b id m l e link best lean
  where
    linked : link_of (node_in w p) ≡ Some id.number
    linked = ap link_of link

    at : (q : Voxel) → IsInMap q → HoldsVoxel b q
        → stored_in (node_at w.groups id.number (child_index_of b.depth q)) ≡ value_at w q
    at q v h =
        voxel_stored w p b id (child_index_of b.depth q) q l ok e deep linked
        (child_index_below b.depth q) v
        ((child_holds b (child_index_of b.depth q) q (omega (arith, deep))
        (child_index_below b.depth q)).1 (h, refl))

    most : (i : ℕ) (v : ℤ) → i < 8 → stored_in (node_at w.groups id.number i) ≡ Some v → v ≡ m
    most i v few is =
        let q : Voxel = lowest_voxel (child_of b i) in
        let mq : IsInMap q =
        lowest_in_map (child_of b i) (child_in_map b i map (omega (arith, deep))) in
        let held : HoldsVoxel (child_of b i) q = lowest_held (child_of b i) in
        let hq : HoldsVoxel b q = ((child_holds b i q (omega (arith, deep)) few).0 held).0 in
        let here : value_at w q ≡ Some v =
        sym (voxel_stored w p b id i q l ok e deep linked few mq held) ∙ is in
        elim (one q mq hq) [
          | inl none ↦ absurd (some_not_none here none)
          | inr same ↦ some_injective (sym here ∙ same)
        ]

    best : IsGreatest w.groups id.number m
    best = record {
      there = (
        child_index_of b.depth j,
        child_index_below b.depth j,
        at j mj hj ∙ known,
      );
      most = λ i v few is. subst (λ a. v ≤ℤ a) (most i v few is) (no_more v);
    }

    lean : IsCollapsible w.groups id.number → ⊥
    lean (inl none) =
        some_not_none known (sym (at j mj hj) ∙ ap stored_in (none (child_index_of b.depth j)
        (child_index_below b.depth j)))
    lean (inr (v, leaf)) =
        some_not_none (sym (at k mk hk) ∙ ap stored_in (leaf (child_index_of b.depth k)
        (child_index_below b.depth k))) unknown

-- the room that it took
pub planted_spared : (t s w : Tree) (p : Place) (b : Cube) (id : GroupId) (v : ℤ)
    (u rest : ListedUpdate)
    → IsBlock b → b.depth ≤ 15 → IsUpdateIn b u → IsSplit t s p id v
    → IsUnderWay s w p b u rest false → spare t.groups ≤ spare w.groups + need_in (events_of u) b
planted_spared t s w p b id v u rest ok low inside sp way =
    let whole = need_of_children (events_of u) b ok low inside.some in
    let all = sum_below_le (needs u b) way.next 8 way.few in
    let one = sp.spare in
    let before = way.room in
    omega (arith, whole, all, one, before)

-- the events of an update without a hit
pub miss_or_none : (u : ListedUpdate) (k : Voxel) → u.hits ≡ []
    → (events_of u k ≡ None) ⊎ (events_of u k ≡ Some u.miss)
miss_or_none u k none = elim (case_of u k) [
  | is_hit h e ↦ (let out : is_listed u.hits k ≡ false = ap (λ l. is_listed l k) none in
      absurd (true≢false (sym h ∙ out)))
  | is_freed _ _ e ↦ inr e
  | is_left _ _ e ↦ inl e
]

-- the block's update is under way, and no child is done
pub planted_start : (t s : Tree) (p : Place) (b : Cube) (u : ListedUpdate) → IsLinked t → IsLinked s
    → IsPlace t p → block_in t p ≡ Some b → IsSameOutside t s b → IsUpdateIn b u
    → IsUnderWay s s p b u u false
planted_start t s p b u l ls ok e out inside =
    let after = place_after t s p b b l ok e out (lies_in_self b) in
    way_begun s p b u false ls after.0 after.1 inside

-- the misses of a block of which nothing was known, and of which something stays unknown, where its
-- group needs no closing
pub planted_pure : (t s w : Tree) (p : Place) (b : Cube) (id : GroupId) (m : ℤ)
    (u rest : ListedUpdate) (k : Voxel)
    → IsLinked t → IsLinked s → IsPlace t p → block_in t p ≡ Some b → b.depth ≤ 15
    → node_in t p ≡ Absent → IsSplit t s p id m → SameValues (value_at t) (value_at s)
    → IsSameOutside t s b → IsUpdateIn b u → u.hits ≡ [] → Some m ≡ applied t.odds u.miss None
    → IsInMap k → HoldsVoxel b k → events_of u k ≡ None
    → IsUnderWay s w p b u rest false → rest.hits ≡ [] → rest.frees ≡ []
    → (IsTouchedBelow s w p b 8 (events_of u) false
    → ((q : Voxel) → IsInMap q → HoldsVoxel b q → (value_at w q ≡ None) ⊎ (value_at w q ≡ Some m))
    → (j : Voxel) → IsInMap j → HoldsVoxel b j → value_at w j ≡ Some m → value_at w k ≡ None
    → IsClosedAt false w b)
    → IsTouched t w b (events_of u) false
planted_pure t s w p b id m u rest k l ls ok e low absent sp same out inside pure value mk hk none
    way hits frees close =
    planted_end t s w p b id m (events_of u) l ls ok e low plain sp same out done
    (close done (λ q v h. after q v h (miss_or_none u q pure)) some.voxel some.in_map some.here
    (known (miss_or_none u some.voxel pure)) (left k mk hk none))
    some (
      some.voxel,
      some.here,
      taken (miss_or_none u some.voxel pure),
    )
  where
    some : Reaches (events_of u) b b
    some = inside.some

    done : IsTouchedBelow s w p b 8 (events_of u) false
    done = way_done s w p b u rest false low way hits frees

    plain : link_of (node_in t p) ≡ None
    plain = ap link_of absent

    unknown : (q : Voxel) → IsInMap q → HoldsVoxel b q → value_at t q ≡ None
    unknown q v h = covered t p b l ok e (omega (arith, low)) plain q v h ∙ ap value_of absent

    left : (q : Voxel) → IsInMap q → HoldsVoxel b q → events_of u q ≡ None → value_at w q ≡ None
    left q v h is =
        done.inside q v h (child_index_below b.depth q)
        ∙ ap (λ o. after_event s.odds o (value_at s q)) is ∙ sym (same q v) ∙ unknown q v h

    missed : (q : Voxel) → IsInMap q → HoldsVoxel b q → events_of u q ≡ Some u.miss
        → value_at w q ≡ Some m
    missed q v h is =
        done.inside q v h (child_index_below b.depth q)
        ∙ ap (λ o. after_event s.odds o (value_at s q)) is
        ∙ ap (applied s.odds u.miss) (sym (same q v) ∙ unknown q v h)
        ∙ ap (λ (o : Odds). applied o u.miss None) out.odds ∙ sym value

    after : (q : Voxel) → IsInMap q → HoldsVoxel b q
        → (events_of u q ≡ None) ⊎ (events_of u q ≡ Some u.miss)
        → (value_at w q ≡ None) ⊎ (value_at w q ≡ Some m)
    after q v h (inl is) = inl (left q v h is)
    after q v h (inr is) = inr (missed q v h is)

    known : (events_of u some.voxel ≡ None) ⊎ (events_of u some.voxel ≡ Some u.miss)
        → value_at w some.voxel ≡ Some m
    known (inl is) = absurd (none_not_some (events_of u some.voxel) is some.event)
    known (inr is) = missed some.voxel some.in_map some.here is

    taken : (events_of u some.voxel ≡ None) ⊎ (events_of u some.voxel ≡ Some u.miss)
        → TakesFrom t.odds (events_of u) (value_at t) some.voxel
    taken (inl is) = absurd (none_not_some (events_of u some.voxel) is some.event)
    taken (inr is) = (
      u.miss,
      is,
      λ h. none_not_some (value_at t some.voxel) (unknown some.voxel some.in_map some.here)
          (saturated_known t.odds u.miss (value_at t some.voxel) h),
    )

-- where it is an octet
pub planted_octet : (t s w : Tree) (p : Place) (b : Cube) (id : GroupId) (m : ℤ)
    (u rest : ListedUpdate) (k : Voxel)
    → IsLinked t → IsLinked s → IsPlace t p → block_in t p ≡ Some b → IsBlock b → b.depth ≡ 15
    → node_in t p ≡ Absent → IsSplit t s p id m → SameValues (value_at t) (value_at s)
    → IsSameOutside t s b → IsUpdateIn b u → u.hits ≡ [] → Some m ≡ applied t.odds u.miss None
    → IsInMap k → HoldsVoxel b k → events_of u k ≡ None
    → IsUnderWay s w p b u rest false → rest.hits ≡ [] → rest.frees ≡ []
    → IsTouched t w b (events_of u) false
planted_octet t s w p b id m u rest k l ls ok e map deep absent sp same out inside pure value mk hk
    none way hits frees =
    planted_pure t s w p b id m u rest k l ls ok e (omega (arith, deep)) absent sp same out inside
    pure value mk hk none way hits frees
    (λ done one j mj hj known unknown. octet_closed w p b id m j k done.linked done.place done.block
    map deep (done.node ∙ sp.link) one mj hj known mk hk unknown)
