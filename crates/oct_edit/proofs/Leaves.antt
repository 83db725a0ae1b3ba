-- The edit of a block that is one leaf, or absent, and whose voxels all take one event.
use Rattle.std.proofs.Common.{◌≡◌, ◌≤◌, ◌-◌, ℕ, sym, ◌∙◌, ap, inl, inr, refl, arith, Some, None}
use Rattle.std.proofs.Common.{Bool, true, false}
use Rattle.std.specs.Prelude.{is_some}
use Rattle.std.proofs.lemmas.Bool.{false≢true}
use Rattle.oct_key.specs.Voxel.{Voxel, IsInMap}
use Rattle.oct_key.specs.Block.{Cube, IsBlock, HoldsVoxel, block_of, lowest_voxel}
use Rattle.oct_key.proofs.Blocks.{lowest_held, lowest_in_map, depth_block_of}
use Rattle.oct_odds.specs.Update.{applied}
use Rattle.oct_odds.specs.declared.event.Event.{Event}
use Rattle.oct_values.specs.Events.{Events, event_at, after_event}
use Rattle.oct_arena.specs.declared.node.Node.{Node}
use Rattle.oct_tree.specs.declared.place.Place.{Place}
use Rattle.oct_arena.specs.Nodes.{link_of, value_of}
use Rattle.oct_tree.specs.Tree.{Tree, IsLinked, IsPlace, node_in, block_in, reach, value_at}
use Rattle.oct_tree.specs.Changes.{IsSameOutside, IsWritten, SetsBlock}
use Rattle.oct_key.proofs.Nested.{lies_in_self}
use Rattle.oct_edit.specs.Steps.{Reaches, IsTouched}
use Rattle.oct_edit.proofs.Frames.{place_after}
use Rattle.oct_edit.proofs.Locals.{written_local, same_local, local_apart}
use Rattle.oct_edit.proofs.Closings.{closed_vacant}
use Rattle.oct_edit.proofs.Insides.{block_of_here}
use Rattle.oct_edit.proofs.Joins.{none_or_some, unchanged}
use Rattle.oct_edit.proofs.Paths.{become_same}
use Rattle.oct_edit.proofs.Voxels.{event_here, event_only, reaches}
use Rattle.oct_tree.proofs.Paths.{place_reached, stays}
use Rattle.oct_edit.proofs.UpdateEnds.{covered, vacant_under}

-- where all voxels of a leaf take one event, so does the leaf
pub leaf_touched : (t u : Tree) (p : Place) (b : Cube) (n : Node) (events : Events) (event : Event)
    → IsLinked t → IsPlace t p → block_in t p ≡ Some b → IsBlock b → link_of (node_in t p) ≡ None
    → IsLinked u → link_of n ≡ None → IsWritten t u p n
    → SetsBlock (value_at t) (value_at u) b (value_of n) → IsSameOutside t u b
    → value_of n ≡ applied t.odds event (value_of (node_in t p))
    → ((k : Voxel) → IsInMap k → HoldsVoxel b k → events k ≡ Some event)
    → IsTouched t u b events false
leaf_touched t u p b n events event l ok e in_map plain lu none w s out is all = record {
  linked = lu;
  inside =
      λ q m h. s.inside q m h ∙ is
      ∙ ap (applied t.odds event) (sym (covered t p b l ok e in_map.depth plain q m h))
      ∙ ap (λ o. after_event t.odds o (value_at t q)) (sym (all q m h));
  elsewhere = s.outside;
  apart = local_apart t u b events some (written_local t u p n b l ok e w (inl none) out);
  closed =
      λ c low lies r. closed_vacant u c false
      (λ x home. vacant_under u p b lu placed.0 placed.1 in_map.depth
      (ap link_of w.there ∙ none) c x r.voxel r.in_map r.here r.there lies home);
  expanded = λ x c home. inl (x, sym (w.homes x) ∙ home);
  nodes = λ lazy. absurd (false≢true lazy);
  opened = λ lazy. absurd (false≢true lazy);
}
  where
    some : Reaches events b b
    some = (let v = lowest_in_map b in_map in
        record {
          voxel = lowest_voxel b;
          in_map = v;
          here = lowest_held b;
          there = lowest_held b;
          event = ap is_some (all (lowest_voxel b) v (lowest_held b));
        })

    placed : IsPlace u p × (block_in u p ≡ Some b)
    placed = place_after t u p b b l ok e out (lies_in_self b)

-- a leaf around a voxel whose event makes no other value of it is as the edit leaves it
pub leaf_kept : (t : Tree) (p : Place) (d : ℕ) (k : Voxel) (event : Event) (lazy : Bool)
    → IsLinked t → IsPlace t p → block_in t p ≡ Some (block_of d k) → d ≤ 16 → IsInMap k
    → link_of (node_in t p) ≡ None
    → applied t.odds event (value_of (node_in t p)) ≡ value_of (node_in t p)
    → (lazy ≡ true → value_of (node_in t p) ≡ None)
    → IsTouched t t (block_of d k) (event_at (Some k) event) lazy
leaf_kept t p d k event lazy l ok e m in_map plain same unknown = record {
  linked = l;
  inside = λ q v h. elim (none_or_some (event_at (Some k) event q)) [
    | inl none ↦ sym (unchanged t.odds (event_at (Some k) event q) (value_at t q) none)
    | inr is ↦ (let here = covered t p (block_of d k) l ok e low plain q v h in
        here ∙ sym (ap (λ o. after_event t.odds o (value_at t q))
        (ap (event_at (Some k) event) (event_only k q event is) ∙ event_here k event)
        ∙ ap (applied t.odds event) here ∙ same))
  ];
  elsewhere = λ q v out. refl;
  apart =
      local_apart t t (block_of d k) (event_at (Some k) event)
      (reaches k event (block_of d k) (block_of d k) in_map (block_of_here d k)
      (block_of_here d k))
      (same_local t (block_of d k));
  closed =
      λ c _ lies r. closed_vacant t c lazy
      (λ x home. vacant_under t p (block_of d k) l ok e low plain c x r.voxel r.in_map r.here
      r.there lies home);
  expanded = λ x c home. inl (x, home);
  nodes = λ _ depth q _ _. become_same (reach t depth q);
  opened = λ is depth q from high v h takes. (let there : reach t (block_of d k).depth q
      ≡ node_in t p =
      place_reached t l p ok (block_of d k) e q v h in
      ap value_of (stays t q (block_of d k).depth (depth - (block_of d k).depth) depth
      (omega arith) (ap link_of there ∙ plain))
      ∙ ap value_of there ∙ unknown is);
}
  where
    low : (block_of d k).depth ≤ 16
    low = (let deep = depth_block_of d k in omega (arith, deep, m))
