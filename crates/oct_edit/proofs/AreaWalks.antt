-- The edit of an area on its way through the children of a block, and the groups that it takes.
use Rattle.std.proofs.Common.{◌≡◌, ℕ, ◌+◌, ◌<◌, ◌≤◌, cond, inl, inr, sym, subst, ◌∙◌, ap, arith}
use Rattle.std.proofs.Common.{refl, Some, None, false}
use Rattle.std.proofs.lemmas.Bool.{and_parts}
use Rattle.std.specs.Prelude.{is_some, ◌&&◌}
use Rattle.oct_key.specs.Voxel.{Voxel, IsInMap}
use Rattle.oct_key.specs.Block.{Cube, HoldsVoxel, child_of, child_index_of, lowest_voxel}
use Rattle.oct_key.specs.Block.{block_of, root_block}
use Rattle.oct_key.proofs.Blocks.{depth_child_of, child_holds, child_in_map, root_holds}
use Rattle.oct_key.proofs.Blocks.{lowest_held, lowest_in_map, block_of_holds, depth_block_of}
use Rattle.oct_key.proofs.Blocks.{root_in_map}
use Rattle.oct_odds.specs.declared.event.Event.{Event}
use Rattle.oct_odds.specs.declared.event.Event.TheVariants.{Forget}
use Rattle.oct_values.specs.Boxes.{is_cut_by, box_need}
use Rattle.oct_values.specs.Events.{after_event}
use Rattle.oct_values.proofs.Axes.{sum_below, sum_below_next}
use Rattle.oct_arena.specs.declared.node.GroupId.{GroupId}
use Rattle.oct_arena.specs.Entries.{live, spare}
use Rattle.oct_arena.specs.Nodes.{link_of, value_of}
use Rattle.oct_arena.specs.declared.node.Node.{Node}
use Rattle.oct_arena.specs.declared.node.Node.TheVariants.{Absent, Leaf, Inner}
use Rattle.oct_tree.specs.declared.place.Place.{Place}
use Rattle.oct_tree.specs.declared.place.Place.TheVariants.{Slot}
use Rattle.oct_tree.specs.Shape.{IsWellFormed}
use Rattle.oct_tree.specs.Tree.{Tree, IsLinked, IsPlace, node_in, block_in, reach, value_at}
use Rattle.oct_tree.proofs.Paths.{slot_place, slot_block, some_not_none, reach_home}
use Rattle.oct_edit.specs.Areas.{area_events, MeetsArea, is_split_by, splits_at, splits_in}
use Rattle.oct_edit.specs.Edits.{IsEdited}
use Rattle.oct_edit.specs.Keep.{parts_leaf, keep_need}
use Rattle.oct_edit.specs.Steps.{IsTouched, IsEntered, IsClosed}
use Rattle.oct_edit.specs.declared.area.Area.{Area}
use Rattle.oct_edit.proofs.Areas.{IsParted, area_reaches, no_event_elsewhere, parted_splits}
use Rattle.oct_edit.proofs.Areas.{parted_low, parted_takes}
use Rattle.oct_edit.proofs.Counts.{IsInside, count_same, count_follows, count_of_children}
use Rattle.oct_edit.proofs.Needs.{sum_below_le}
use Rattle.oct_edit.proofs.Rounds.{round_start, round_skip, round_step, round_end}
use Rattle.oct_edit.proofs.UnderWay.{IsTouchedBelow}
use Rattle.oct_edit.proofs.Wholes.{same_total}

-- Of the block under a place, the event on the voxels of an area was done within the children below
-- one. They took the groups that are counted in them, in the tree t before the place was entered.
pub record IsAreaUnderWay (t s w : Tree) (p : Place) (b : Cube) (area : Area) (event : Event)
    (i : ℕ) : Type 0 where
  pub done : IsTouchedBelow s w p b i (area_events area event) false
  pub room : spare s.groups
      ≤ spare w.groups + sum_below (λ j. splits_in t area event (child_of b j)) i

-- below a block that was entered each path comes to what it came to before
entered_reach : (t s : Tree) (p : Place) (b : Cube) (id : GroupId) (d : ℕ) (k : Voxel) → IsLinked t
    → IsEntered t s p b id → IsInMap k → b.depth < d → d ≤ 15 → reach s d k ≡ reach t d k
entered_reach t s p b id d k l e v deep low = elim (e.opened d k (omega arith) v) [
  | inl same ↦ same
  | inr (none, (x, is)) ↦ (let home = reach_home s k e.linked v d x.number (ap link_of is)
      (omega arith) in
      absurd (elim (e.homes x.number (block_of d k) home) [
        | inl old ↦ some_not_none (at_depth x (l.reached x.number (block_of d k) old k v
            (block_of_holds d k))) none
        | inr (here, _) ↦ (let level = sym (depth_block_of d k) ∙ ap (λ (c : Cube). c.depth) here in
            absurd (omega (arith, level, deep)))
      ]))
]
  where
    at_depth : (x : GroupId) → link_of (reach t (block_of d k).depth k) ≡ Some x.number
        → link_of (reach t d k) ≡ Some x.number
    at_depth x h = subst (λ n. link_of (reach t n k) ≡ Some x.number) (depth_block_of d k) h

-- so the children that are still to come take as many groups as in the tree before
still_to_come : (t s w : Tree) (p : Place) (b : Cube) (id : GroupId) (area : Area) (event : Event)
    (i : ℕ) → IsParted t p b area event → IsEntered t s p b id → i < 8
    → IsAreaUnderWay t s w p b area event i
    → splits_in w area event (child_of b i) ≡ splits_in t area event (child_of b i)
still_to_come t s w p b id area event i h e few way =
    count_same (splits_at w area event) (splits_at t area event) (child_of b i)
    (child_in_map b i h.of (omega (arith, low)))
    (λ q at. ap (λ n. is_cut_by area.window.lo area.window.hi q && is_split_by event n)
    (same q at))
  where
    low : b.depth ≤ 15
    low = parted_low t p b area event h

    same : (q : Cube) → IsInside (child_of b i) q
        → reach w q.depth (lowest_voxel q) ≡ reach t q.depth (lowest_voxel q)
    same q at =
        let deep = depth_child_of b i in
        let below = at.deep in
        let shallow = at.low in
        let v = lowest_in_map q at.of in
        let here = (child_holds b i (lowest_voxel q) (omega (arith, low)) few).0
        (at.lies (lowest_voxel q) (lowest_held q)) in
        let is = here.1 in
        way.done.paths (lowest_voxel q) v (λ under. (let less = under.1 in
        absurd (omega (arith, is, less)))) q.depth (omega (arith, shallow))
        ∙ entered_reach t s p b id q.depth (lowest_voxel q) h.linked e v
        (omega (arith, deep, below)) shallow

-- before the first child
pub area_start : (t s : Tree) (p : Place) (b : Cube) (id : GroupId) (area : Area) (event : Event)
    → IsEntered t s p b id → IsAreaUnderWay t s s p b area event 0
area_start t s p b id area event e = record {
  done = round_start s p b (area_events area event) false e.linked e.place e.block;
  room = omega arith;
}

-- the slot of a child is a place, of the child's block
pub area_place : (t s w : Tree) (p : Place) (b : Cube) (id : GroupId) (area : Area) (event : Event)
    (i j : ℕ) → i < 8 → IsEntered t s p b id → IsAreaUnderWay t s w p b area event j
    → IsPlace w (Slot id i) × (block_in w (Slot id i) ≡ Some (child_of b i))
area_place t s w p b id area event i j few e way =
    let (v, link) = e.link in
    let linked : link_of (node_in w p) ≡ Some id.number = ap link_of (way.done.node ∙ link) in (
      slot_place w way.done.linked p way.done.place id i linked few,
      slot_block w way.done.linked p id i b linked way.done.block,
    )

-- where the place links no group, there is room for one
pub area_enters : (t : Tree) (p : Place) (b : Cube) (area : Area) (event : Event)
    → IsParted t p b area event → splits_in t area event b ≤ spare t.groups
    → link_of (node_in t p) ≡ None → 1 ≤ spare t.groups
area_enters t p b area event h room plain =
    let here = parted_splits t p b area event h plain in
    let all = count_of_children (splits_at t area event) b (parted_low t p b area event h) in
    omega (arith, here, all, room)

-- entering it takes no more than is counted for it
entered_room : (t s : Tree) (p : Place) (b : Cube) (id : GroupId) (area : Area) (event : Event)
    → IsParted t p b area event → IsEntered t s p b id
    → spare t.groups ≤ spare s.groups + cond {A = ℕ} (splits_at t area event b) 1 0
entered_room t s p b id area event h e = elim e.spare [
  | inl same ↦ omega (arith, same)
  | inr (plain, less) ↦ (let here = parted_splits t p b area event h plain in
      omega (arith, here, less))
]

-- there is room for what the next child takes
pub area_room : (t s w : Tree) (p : Place) (b : Cube) (id : GroupId) (area : Area) (event : Event)
    (i : ℕ) → IsParted t p b area event → i < 8 → splits_in t area event b ≤ spare t.groups
    → IsEntered t s p b id → IsAreaUnderWay t s w p b area event i
    → splits_in w area event (child_of b i) ≤ spare w.groups
area_room t s w p b id area event i h few room e way =
    let f : ℕ → ℕ = λ j. splits_in t area event (child_of b j) in
    let all = count_of_children (splits_at t area event) b (parted_low t p b area event h) in
    let entered = entered_room t s p b id area event h e in
    let here = sum_below_next (λ j. splits_in t area event (child_of b j)) i in
    let rest = sum_below_le (λ j. splits_in t area event (child_of b j)) (i + 1) 8 (omega arith) in
    let before = way.room in
    let same = still_to_come t s w p b id area event i h e few way in
    omega (arith, all, here, rest, before, room, entered, same)

-- one child more is done
pub area_step : (t s w x : Tree) (p : Place) (b : Cube) (id : GroupId) (area : Area)
    (event : Event) (i : ℕ) → IsParted t p b area event → i < 8 → IsEntered t s p b id
    → IsAreaUnderWay t s w p b area event i
    → IsTouched w x (child_of b i) (area_events area event) false
    → spare w.groups ≤ spare x.groups + splits_in w area event (child_of b i)
    → IsAreaUnderWay t s x p b area event (i + 1)
area_step t s w x p b id area event i h few e way touched room =
    let here = sum_below_next (λ j. splits_in t area event (child_of b j)) i in
    let before = way.room in
    let same = still_to_come t s w p b id area event i h e few way in
    record {
      done =
          round_step s w x p b i (area_events area event) (area_events area event) false e.linked
          (parted_low t p b area event h) few way.done touched (λ k v h. refl);
      room = omega (arith, here, before, room, same);
    }

-- or the area doesn't meet it
pub area_skip : (t s w : Tree) (p : Place) (b : Cube) (area : Area) (event : Event) (i : ℕ)
    → IsParted t p b area event → i < 8 → (MeetsArea area (child_of b i) → ⊥)
    → IsAreaUnderWay t s w p b area event i → IsAreaUnderWay t s w p b area event (i + 1)
area_skip t s w p b area event i h few out way =
    let here = sum_below_next (λ j. splits_in t area event (child_of b j)) i in
    let before = way.room in
    let low = parted_low t p b area event h in
    record {
      done =
          round_skip s w p b i (i + 1) (area_events area event) false low (omega arith)
          (omega arith) (none low) way.done;
      room = omega (arith, here, before);
    }
  where
    none : b.depth ≤ 15 → (k : Voxel) → IsInMap k → HoldsVoxel b k → i ≤ child_index_of b.depth k
        → child_index_of b.depth k < i + 1 → area_events area event k ≡ None
    none low k v held from to =
        no_event_elsewhere area event k
        (λ inside. out (k, (child_holds b i k (omega arith) few).1 (held, omega arith), inside))

-- the place is where it was, and links its group
pub area_back : (t s w : Tree) (p : Place) (b : Cube) (id : GroupId) (area : Area) (event : Event)
    (i : ℕ) → IsEntered t s p b id → IsAreaUnderWay t s w p b area event i
    → link_of (node_in w p) ≡ Some id.number
area_back t s w p b id area event i e way =
    let (v, link) = e.link in ap link_of (way.done.node ∙ link)

-- once the group is closed, the block is done
pub area_end : (t s w z : Tree) (p : Place) (b : Cube) (id : GroupId) (area : Area) (event : Event)
    (i : ℕ) → i ≡ 8 → IsParted t p b area event → IsEntered t s p b id
    → IsAreaUnderWay t s w p b area event i → IsClosed w z b false
    → IsTouched t z b (area_events area event) false
area_end t s w z p b id area event i last h e way d =
    round_end t s w z p b id (area_events area event) false h.linked (parted_low t p b area event h)
    e (subst (λ n. IsTouchedBelow s w p b n (area_events area event) false) last way.done) d
    (area_reaches area event b h.of h.meets) (parted_takes t p b area event h)

-- with as many groups as were counted in it
pub area_spared : (t s w z : Tree) (p : Place) (b : Cube) (id : GroupId) (area : Area)
    (event : Event) (i : ℕ) → i ≡ 8 → IsParted t p b area event → IsEntered t s p b id
    → IsAreaUnderWay t s w p b area event i → IsClosed w z b false
    → spare t.groups ≤ spare z.groups + splits_in t area event b
area_spared t s w z p b id area event i last h e way d =
    let all = count_of_children (splits_at t area event) b (parted_low t p b area event h) in
    let entered = entered_room t s p b id area event h e in
    let done : sum_below (λ j. splits_in t area event (child_of b j)) i
    ≡ sum_below (λ j. splits_in t area event (child_of b j)) 8 =
    ap (sum_below (λ j. splits_in t area event (child_of b j))) last in
    let before = way.room in
    let after = d.spare in
    omega (arith, all, done, before, after, entered)

-- this many groups more at most
pub area_groups : (t u : Tree) (area : Area) (event : Event)
    → IsTouched t u root_block (area_events area event) false
    → spare t.groups ≤ spare u.groups + splits_in t area event root_block
    → live u.groups ≤ live t.groups + splits_in t area event root_block
area_groups t u area event r h =
    (let total = same_total t.groups u.groups r.apart.outside.length in omega (arith, total, h))

-- an area that has no voxel of the map has no event on any
pub nowhere : (area : Area) (event : Event) (k : Voxel) → IsInMap k
    → (MeetsArea area root_block → ⊥) → area_events area event k ≡ None
nowhere area event k v out =
    no_event_elsewhere area event k (λ inside. out (k, root_holds k v, inside))

-- and changes nothing
pub nowhere_edited : (t : Tree) (area : Area) (event : Event) → IsWellFormed t
    → (MeetsArea area root_block → ⊥) → IsEdited t t (area_events area event)
nowhere_edited t area event h out = record {
  values = λ k v. ap (λ e. after_event t.odds e (value_at t k)) (nowhere area event k v out);
  well_formed = h;
  res = refl;
  odds = refl;
  kept = λ x c apart home. refl;
  made = λ x c home. inl refl;
  inner = λ q id v c apart is home. is;
  expanded = λ x c home. inl (x, home);
}

-- an event on a box takes at most a group for each block that the box cuts
pub box_splits : (t : Tree) (area : Area) (event : Event) (lo hi : Voxel) → area.window.lo ≡ lo
    → area.window.hi ≡ hi → splits_in t area event root_block ≤ box_need lo hi
unfolding box_need
box_splits t area event lo hi low high =
    count_follows (splits_at t area event) (is_cut_by lo hi) root_block root_in_map
    (λ q at h. ap (λ a. is_cut_by a hi q) (sym low) ∙ ap (λ a. is_cut_by area.window.lo a q)
    (sym high) ∙ (and_parts (is_cut_by area.window.lo area.window.hi q)
    (is_split_by event (reach t q.depth (lowest_voxel q))) h).0)

-- forgetting takes one only under a leaf
forgets_leaf : (n : Node) → is_split_by Forget n ≡ is_some (value_of n)
forgets_leaf Absent = refl
forgets_leaf (Leaf v) = refl
forgets_leaf (Inner v id) = refl

pub keep_splits : (t : Tree) (area : Area) (lo hi : Voxel) → area.window.lo ≡ lo
    → area.window.hi ≡ hi → splits_in t area Forget root_block ≡ keep_need t lo hi
unfolding keep_need
keep_splits t area lo hi low high =
    count_same (splits_at t area Forget) (parts_leaf t lo hi) root_block root_in_map
    (λ q at. ap (λ a. is_cut_by a area.window.hi q
    && is_split_by Forget (reach t q.depth (lowest_voxel q))) low
    ∙ ap (λ a. is_cut_by lo a q && is_split_by Forget (reach t q.depth (lowest_voxel q))) high
    ∙ ap (λ c. is_cut_by lo hi q && c) (forgets_leaf (reach t q.depth (lowest_voxel q))))
