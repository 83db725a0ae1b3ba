-- The merge of a block, child after child.
use Rattle.std.proofs.Common.{◌≡◌, ◌≢◌, ℕ, ◌+◌, ◌<◌, ◌≤◌, false, cond, inl, inr, Some, None, refl}
use Rattle.std.proofs.Common.{sym, ◌∙◌, ap, subst, arith}
use Rattle.std.specs.Prelude.{Option, ◌&&◌, ◌⊎◌, not, is_some, IsSome}
use Rattle.std.proofs.lemmas.Bool.{false≢true}
use Rattle.oct_key.specs.Voxel.{Voxel, IsInMap}
use Rattle.oct_key.specs.Block.{Cube, IsBlock, HoldsVoxel, child_of, child_index_of, lowest_voxel}
use Rattle.oct_key.proofs.Blocks.{depth_child_of, child_in_map, child_holds, lowest_held}
use Rattle.oct_key.proofs.Held.{held_in_map}
use Rattle.oct_odds.specs.Odds.{Odds}
use Rattle.oct_odds.specs.Update.{Value, IsWithin}
use Rattle.oct_odds.specs.declared.event.Event.TheVariants.{Set}
use Rattle.oct_values.specs.Events.{Events, after_event}
use Rattle.oct_values.proofs.Axes.{sum_below, sum_below_next}
use Rattle.oct_arena.specs.declared.node.GroupId.{GroupId}
use Rattle.oct_arena.specs.declared.node.Node.{Node}
use Rattle.oct_arena.specs.declared.node.Node.TheVariants.{Absent, Leaf, Inner}
use Rattle.oct_arena.specs.Entries.{spare}
use Rattle.oct_arena.specs.Nodes.{link_of, value_of}
use Rattle.oct_tree.specs.declared.place.Place.{Place}
use Rattle.oct_tree.specs.declared.place.Place.TheVariants.{Slot}
use Rattle.oct_tree.specs.Tree.{IsOver, Tree, IsLinked, IsPlace, node_in, block_in, reach, value_at}
use Rattle.oct_tree.specs.Shape.{IsWellFormed}
use Rattle.oct_tree.specs.Changes.{IsWritten, SetsBlock, IsSameOutside}
use Rattle.oct_tree.proofs.Paths.{slot_place, slot_block, value_within}
use Rattle.oct_tree.proofs.Over.{over_value}
use Rattle.oct_edit.specs.Steps.{Reaches, IsTouched, IsEntered, IsClosed}
use Rattle.oct_edit.proofs.Joins.{IsUnfolded, TakesIn}
use Rattle.oct_edit.proofs.Closings.{closed_vacant}
use Rattle.oct_edit.proofs.Leaves.{leaf_touched}
use Rattle.oct_edit.proofs.UpdateEnds.{covered, known_plain, vacant_under}
use Rattle.oct_edit.proofs.Needs.{sum_below_le}
use Rattle.oct_edit.proofs.Paths.{become_same}
use Rattle.oct_edit.proofs.Rounds.{apart_refl, value_by_path, round_start, round_step, round_end}
use Rattle.oct_edit.proofs.Shares.{none_not_some}
use Rattle.oct_edit.proofs.UnderWay.{IsTouchedBelow}
use Rattle.oct_merge.specs.declared.rule.Rule.{Rule}
use Rattle.oct_merge.specs.declared.rule.Rule.TheVariants.{First}
use Rattle.oct_merge.specs.Merged.{merged, merge_event, merge_events}
use Rattle.oct_merge.specs.Walk.{is_needed, need_in}
use Rattle.oct_merge.proofs.Joined.{merge_sets, merge_leaves, merged_within, set_value, merge_after}
use Rattle.oct_merge.proofs.Known.{over_place, over_low, over_known}
use Rattle.oct_merge.proofs.Needs.{needed_by_nodes, need_of_children, need_alike, unfolded_alike}

-- what a merge of the second tree into the first does to each voxel
abbrev pub events_of : Rule → Tree → Tree → Events
events_of rule t o = merge_events rule (value_at t) (value_at o)

-- of the block under a place, the children below one are merged
pub record IsMerging (t s w o : Tree) (p : Place) (b : Cube) (rule : Rule) (i : ℕ) : Type 0 where
  pub done : IsTouchedBelow s w p b i (events_of rule t o) false
  pub room : spare s.groups ≤ spare w.groups + sum_below (λ j. need_in t o (child_of b j)) i

-- where nothing is known of a block in the second tree, nothing is to do
part_unknown : (t o : Tree) (b : Cube) (n : Node) (rule : Rule) → IsLinked t → IsBlock b
    → IsOver o b n → n ≡ Absent
    → IsTouched t t b (events_of rule t o) false
part_unknown t o b n rule l ok over absent = record {
  linked = l;
  inside = λ k v h. sym (ap (λ e. after_event t.odds e (value_at t k)) (none k h));
  elsewhere = λ k v out. refl;
  apart = apart_refl t b (events_of rule t o);
  closed =
      λ c low lies r.
      absurd (none_not_some (events_of rule t o r.voxel) (none r.voxel r.here) r.event);
  expanded = λ x c home. inl (x, home);
  nodes = λ is d q m v. become_same (reach t d q);
  opened = λ is. absurd (false≢true is);
}
  where
    none : (k : Voxel) → HoldsVoxel b k → events_of rule t o k ≡ None
    none k h =
        merge_leaves rule (value_at t k) (value_at o k)
        (over_value o b n ok.depth over (ap link_of absent) k h ∙ ap value_of absent)

-- a block that has a group in one of the trees is no voxel
pub part_low : (t o : Tree) (p : Place) (b : Cube) (n : Node) → IsLinked t → IsLinked o
    → block_in t p ≡ Some b → IsBlock b → IsOver o b n
    → (link_of (node_in t p) ≡ None → link_of n ≢ None) → b.depth ≤ 15
part_low t o p b n l lo e ok over parted = go (link_of (node_in t p)) (link_of n) refl refl
  where
    go : (x y : Option ℕ) → link_of (node_in t p) ≡ x → link_of n ≡ y → b.depth ≤ 15
    go None None a c = absurd (parted a c)
    go (Some x) y a c = (l.homes x b (l.links p x a ∙ e)).1
    go None (Some y) a c = over_low o b n y lo ok over c

-- and where the first has no group there, the second has
pub part_needed : (t o : Tree) (p : Place) (b : Cube) (n : Node) → IsLinked t → IsPlace t p
    → block_in t p ≡ Some b → IsBlock b → IsOver o b n
    → (link_of (node_in t p) ≡ None → link_of n ≢ None)
    → link_of (node_in t p) ≡ None → cond {A = ℕ} (is_needed t o b) 1 0 ≡ 1
part_needed t o p b n l ok e in_map over parted none = go (link_of n) refl
  where
    go : (y : Option ℕ) → link_of n ≡ y → cond {A = ℕ} (is_needed t o b) 1 0 ≡ 1
    go None c = absurd (parted none c)
    go (Some y) c =
        ap (λ a. cond {A = ℕ} a 1 0)
        (needed_by_nodes t o b (node_in t p) n (over_place t p b l ok e in_map) over)
        ∙ ap (λ a. cond {A = ℕ} (is_some a && not (is_some (link_of (node_in t p)))) 1 0) c
        ∙ ap (λ a. cond {A = ℕ} (not (is_some a)) 1 0) none

-- so there is room for a group
pub part_room : (t o : Tree) (p : Place) (b : Cube) (n : Node) → IsLinked t → IsPlace t p
    → block_in t p ≡ Some b → IsBlock b → IsOver o b n
    → (link_of (node_in t p) ≡ None → link_of n ≢ None)
    → b.depth ≤ 15 → need_in t o b ≤ spare t.groups → link_of (node_in t p) ≡ None
    → 1 ≤ spare t.groups
part_room t o p b n l ok e in_map over parted low room none =
    let one = part_needed t o p b n l ok e in_map over parted none in
    let all = need_of_children t o b low in
    omega (arith, one, all, room)

-- and entering the block takes no more than is counted for it
pub part_entered : (t s o : Tree) (p : Place) (b : Cube) (id : GroupId) (n : Node) → IsLinked t
    → IsPlace t p → block_in t p ≡ Some b → IsBlock b → IsOver o b n
    → (link_of (node_in t p) ≡ None → link_of n ≢ None)
    → IsEntered t s p b id → spare t.groups ≤ spare s.groups + cond {A = ℕ} (is_needed t o b) 1 0
part_entered t s o p b id n l ok at in_map over parted e = elim e.spare [
  | inl same ↦ omega (arith, same)
  | inr (none, less) ↦ (let one = part_needed t o p b n l ok at in_map over parted none in
      omega (arith, one, less))
]

-- no child is merged
pub merging_start : (t s o : Tree) (p : Place) (b : Cube) (id : GroupId) (rule : Rule)
    → IsUnfolded t s p b id false → IsMerging t s s o p b rule 0
merging_start t s o p b id rule e = record {
  done = round_start s p b (events_of rule t o) false e.linked e.place e.block;
  room = omega arith;
}

-- the slot of a child is a place, of the child's block
pub merging_place : (t s w o : Tree) (p : Place) (b : Cube) (id : GroupId) (i : ℕ) (rule : Rule)
    → i < 8 → IsUnfolded t s p b id false
    → IsMerging t s w o p b rule i
    → IsPlace w (Slot id i) × (block_in w (Slot id i) ≡ Some (child_of b i))
merging_place t s w o p b id i rule few e way =
    let (v, link) = e.link in
    let linked : link_of (node_in w p) ≡ Some id.number = ap link_of (way.done.node ∙ link) in (
      slot_place w way.done.linked p way.done.place id i linked few,
      slot_block w way.done.linked p id i b linked way.done.block,
    )

-- the log-odds are those of the second tree
pub merging_odds : (t s w o : Tree) (p : Place) (b : Cube) (id : GroupId) (i : ℕ) (rule : Rule)
    → IsUnfolded t s p b id false
    → IsMerging t s w o p b rule i → t.odds ≡ o.odds → w.odds ≡ o.odds
merging_odds t s w o p b id i rule e way same =
    way.done.apart.outside.odds ∙ e.local.outside.odds ∙ same

-- in a child that comes, all is as it was
not_before : (b : Cube) (i : ℕ) (k : Voxel) → b.depth ≤ 15 → i < 8 → HoldsVoxel (child_of b i) k
    → HoldsVoxel b k × (child_index_of b.depth k < i) → ⊥
not_before b i k low few held (_, less) =
    (let same = ((child_holds b i k (omega (arith, low)) few).0 held).1 in
    absurd (omega (arith, same, less)))

pub merging_need : (t s w o : Tree) (p : Place) (b : Cube) (id : GroupId) (i : ℕ) (rule : Rule)
    → IsLinked t → IsBlock b → b.depth ≤ 15 → i < 8
    → IsUnfolded t s p b id false → IsMerging t s w o p b rule i
    → need_in w o (child_of b i) ≡ need_in t o (child_of b i)
merging_need t s w o p b id i rule l ok low few e way =
    need_alike t w o (child_of b i) (child_in_map b i ok (omega (arith, low))) same
  where
    same : (d : ℕ) (k : Voxel) → (child_of b i).depth ≤ d → d ≤ 16 → IsInMap k
        → HoldsVoxel (child_of b i) k
        → is_some (link_of (reach w d k)) ≡ is_some (link_of (reach t d k))
    same d k deep m v held =
        let level = depth_child_of b i in
        ap (λ n. is_some (link_of n)) (way.done.paths k v (not_before b i k low few held) d m)
        ∙ unfolded_alike t s p b id l e d k (omega (arith, level, deep)) m v

value_kept : (t s w o : Tree) (p : Place) (b : Cube) (id : GroupId) (i : ℕ) (rule : Rule)
    → b.depth ≤ 15 → i < 8
    → IsUnfolded t s p b id false → IsMerging t s w o p b rule i → (k : Voxel) → IsInMap k
    → HoldsVoxel (child_of b i) k → value_at w k ≡ value_at t k
value_kept t s w o p b id i rule low few e way k v held =
    value_by_path s w k (way.done.paths k v (not_before b i k low few held) 16 (omega arith))
    ∙ sym (e.values k v)

-- there is room for what the next child needs
pub merging_room : (t s w o : Tree) (p : Place) (b : Cube) (id : GroupId) (i : ℕ) (rule : Rule)
    → IsLinked t → IsBlock b → b.depth ≤ 15 → i < 8
    → need_in t o b ≤ spare t.groups
    → spare t.groups ≤ spare s.groups + cond {A = ℕ} (is_needed t o b) 1 0
    → IsUnfolded t s p b id false → IsMerging t s w o p b rule i
    → need_in w o (child_of b i) ≤ spare w.groups
merging_room t s w o p b id i rule l ok low few room entered e way =
    let all = need_of_children t o b low in
    let here = sum_below_next (λ j. need_in t o (child_of b j)) i in
    let rest = sum_below_le (λ j. need_in t o (child_of b j)) (i + 1) 8 (omega (arith, few)) in
    let same = merging_need t s w o p b id i rule l ok low few e way in
    let before = way.room in
    omega (arith, all, here, rest, same, before, room, entered)

-- one child more is merged
pub merging_step : (t s w x o : Tree) (p : Place) (b : Cube) (id : GroupId) (i : ℕ) (rule : Rule)
    → IsLinked t → IsBlock b → b.depth ≤ 15 → i < 8
    → IsUnfolded t s p b id false → IsMerging t s w o p b rule i
    → IsTouched w x (child_of b i) (events_of rule w o) false
    → spare w.groups ≤ spare x.groups + need_in w o (child_of b i)
    → IsMerging t s x o p b rule (i + 1)
merging_step t s w x o p b id i rule l ok low few e way touched room =
    let here = sum_below_next (λ j. need_in t o (child_of b j)) i in
    let same = merging_need t s w o p b id i rule l ok low few e way in
    let before = way.room in
    record {
      done =
          round_step s w x p b i (events_of rule t o) (events_of rule w o) false e.linked low few
          way.done touched
          (λ k v held. ap (λ a. merge_event rule a (value_at o k))
          (value_kept t s w o p b id i rule low few e way k v held));
      room = omega (arith, here, same, before, room);
    }

-- the place is where it was, and links its group
pub merging_back : (t s w o : Tree) (p : Place) (b : Cube) (id : GroupId) (i : ℕ) (rule : Rule)
    → IsUnfolded t s p b id false
    → IsMerging t s w o p b rule i → link_of (node_in w p) ≡ Some id.number
merging_back t s w o p b id i rule e way =
    (let (v, link) = e.link in ap link_of (way.done.node ∙ link))

-- a voxel that the second tree knows takes its value
pub known_takes : (t o : Tree) (b : Cube) (n : Node) (rule : Rule) → IsWellFormed o → IsBlock b
    → IsOver o b n → (n ≡ Absent → ⊥)
    → TakesIn t (events_of rule t o) b
known_takes t o b n rule w ok over there =
    let (k, held, some) = over_known o w b n ok over there in
    let (m, is, _) = merge_sets rule (value_at t k) (value_at o k) some in
    (k, held, (Set m, is, λ h. h))

pub known_reaches : (t o : Tree) (b : Cube) (n : Node) (rule : Rule) → IsWellFormed o → IsBlock b
    → IsOver o b n → (n ≡ Absent → ⊥)
    → Reaches (events_of rule t o) b b
known_reaches t o b n rule w ok over there =
    let (k, held, some) = over_known o w b n ok over there in
    let (m, is, _) = merge_sets rule (value_at t k) (value_at o k) some in
    record {
      voxel = k;
      in_map = held_in_map b k ok held;
      here = held;
      there = held;
      event = ap is_some is;
    }

-- once the group is closed, the block is merged
pub merging_end : (t s w z o : Tree) (p : Place) (b : Cube) (id : GroupId) (n : Node) (i : ℕ)
    (rule : Rule)
    → i ≡ 8 → IsLinked t → IsWellFormed o
    → IsBlock b → b.depth ≤ 15 → IsOver o b n → (n ≡ Absent → ⊥) → IsEntered t s p b id
    → IsMerging t s w o p b rule i → IsClosed w z b false
    → IsTouched t z b (events_of rule t o) false
merging_end t s w z o p b id n i rule last l formed ok low over there e way d =
    round_end t s w z p b id (events_of rule t o) false l low e
    (subst (λ m. IsTouchedBelow s w p b m (events_of rule t o) false) last way.done) d
    (known_reaches t o b n rule formed ok over there)
    (λ _. known_takes t o b n rule formed ok over there)

pub merging_spared : (t s w z o : Tree) (p : Place) (b : Cube) (i : ℕ) (rule : Rule) → i ≡ 8
    → b.depth ≤ 15
    → spare t.groups ≤ spare s.groups + cond {A = ℕ} (is_needed t o b) 1 0
    → IsMerging t s w o p b rule i → IsClosed w z b false
    → spare t.groups ≤ spare z.groups + need_in t o b
merging_spared t s w z o p b i rule last low entered way d =
    let all = need_of_children t o b low in
    let done : sum_below (λ j. need_in t o (child_of b j)) i
    ≡ sum_below (λ j. need_in t o (child_of b j)) 8 =
    ap (sum_below (λ j. need_in t o (child_of b j))) last in
    let before = way.room in
    let after = d.spare in
    omega (arith, all, done, before, after, entered)

-- a node that isn't absent and links no group has a value
pub part_known : (n : Node) → (n ≡ Absent → ⊥) → link_of n ≡ None → IsSome (value_of n)
part_known Absent there none = absurd (there refl)
part_known (Leaf v) there none = refl
part_known (Inner v id) there none = cc

-- within the bounds
pub part_within : (o : Tree) (b : Cube) (n : Node) → IsLinked o → IsBlock b → IsOver o b n
    → link_of n ≡ None → IsWithin o.odds (value_of n)
part_within o b n l ok over none =
    subst (IsWithin o.odds) (over_value o b n ok.depth over none (lowest_voxel b) (lowest_held b))
    (value_within o (lowest_voxel b) l)

-- each voxel of a block that is one leaf in both trees has the event of the leaves
pub part_event : (t o : Tree) (p : Place) (b : Cube) (n : Node) (rule : Rule) → IsLinked t
    → IsPlace t p → block_in t p ≡ Some b → IsBlock b
    → IsOver o b n → link_of (node_in t p) ≡ None → link_of n ≡ None → (k : Voxel) → IsInMap k
    → HoldsVoxel b k
    → events_of rule t o k ≡ merge_event rule (value_of (node_in t p)) (value_of n)
part_event t o p b n rule l ok e in_map over here there k v held =
    ap (λ a. merge_event rule a (value_at o k))
    (over_value t b (node_in t p) in_map.depth (over_place t p b l ok e in_map) here k held)
    ∙ ap (merge_event rule (value_of (node_in t p)))
    (over_value o b n in_map.depth over there k held)

-- the leaf of a place is written
pub leaf_merged : (t u : Tree) (p : Place) (b : Cube) (n : Node) (w : Value) (rule : Rule)
    (events : Events)
    → IsLinked t → IsPlace t p → block_in t p ≡ Some b → IsBlock b → link_of (node_in t p) ≡ None
    → IsLinked u → link_of n ≡ None
    → IsWritten t u p n → SetsBlock (value_at t) (value_at u) b (value_of n) → IsSameOutside t u b
    → IsSome w → IsWithin t.odds w → value_of n ≡ merged rule (value_of (node_in t p)) w
    → ((k : Voxel) → IsInMap k → HoldsVoxel b k → events k ≡ merge_event rule
    (value_of (node_in t p)) w)
    → IsTouched t u b events false
leaf_merged t u p b n w rule events l ok e in_map plain lu none written sets out some within is
    all =
    let (m, event, value) = merge_sets rule (value_of (node_in t p)) w some in
    leaf_touched t u p b n events (Set m) l ok e in_map plain lu none written sets out
    (is ∙ value
    ∙ set_value t.odds m (value_of (node_in t p))
    (subst (IsWithin t.odds) value
    (merged_within t.odds rule (value_of (node_in t p)) w (l.leaves p) within)))
    (λ k v held. all k v held ∙ event)

-- under the first map's rule a known value stays
kept_value : (v w : Value) → IsSome v → merged First v w ≡ v
kept_value None w h = cc
kept_value (Some v) None h = refl
kept_value (Some v) (Some w) h = refl

-- so a block that is one leaf is merged before it begins
part_kept : (t o : Tree) (p : Place) (b : Cube) (rule : Rule) → IsLinked t → IsLinked o
    → IsPlace t p → block_in t p ≡ Some b → IsBlock b
    → t.odds ≡ o.odds → rule ≡ First → IsSome (value_of (node_in t p))
    → IsTouched t t b (events_of rule t o) false
part_kept t o p b rule l lo ok e in_map same first known = record {
  linked = l;
  inside = λ k v h. sym (stays k v h);
  elsewhere = λ k v out. refl;
  apart = apart_refl t b (events_of rule t o);
  closed =
      λ c low lies r. closed_vacant t c false
      (λ x home. vacant_under t p b l ok e in_map.depth plain c x r.voxel r.in_map r.here
      r.there lies home);
  expanded = λ x c home. inl (x, home);
  nodes = λ is d q m v. become_same (reach t d q);
  opened = λ is. absurd (false≢true is);
}
  where
    plain : link_of (node_in t p) ≡ None
    plain = known_plain (node_in t p) known

    within : (k : Voxel) → IsWithin t.odds (value_at o k)
    within k =
        subst (λ (odds : Odds). IsWithin odds (value_at o k)) (sym same) (value_within o k lo)

    stays : (k : Voxel) → IsInMap k → HoldsVoxel b k
        → after_event t.odds (events_of rule t o k) (value_at t k) ≡ value_at t k
    stays k v h =
        merge_after t.odds rule (value_at t k) (value_at o k) (value_within t k l) (within k)
        ∙ ap (λ r. merged r (value_at t k) (value_at o k)) first
        ∙ kept_value (value_at t k) (value_at o k)
        (subst IsSome (sym (covered t p b l ok e in_map.depth plain k v h)) known)

-- so nothing is to do where the second tree knows nothing, or a known value stays
pub part_done : (t o : Tree) (p : Place) (b : Cube) (n : Node) (rule : Rule) → IsLinked t
    → IsLinked o → IsPlace t p → block_in t p ≡ Some b → IsBlock b → IsOver o b n
    → t.odds ≡ o.odds
    → (n ≡ Absent) ⊎ ((rule ≡ First) × IsSome (value_of (node_in t p)))
    → IsTouched t t b (events_of rule t o) false
part_done t o p b n rule l lo ok e in_map over same (inl absent) =
    part_unknown t o b n rule l in_map over absent
part_done t o p b n rule l lo ok e in_map over same (inr (first, known)) =
    part_kept t o p b rule l lo ok e in_map same first known
