-- An event on the voxels of an area: which blocks it meets, and what it does where nothing or all
-- of a block is in it.
use Rattle.std.proofs.Common.{◌≡◌, ℕ, ◌≤◌, Bool, true, false, cond, inl, inr, sym, subst}
use Rattle.std.proofs.Common.{◌∙◌, ap, arith, refl, Some, None}
use Rattle.std.specs.Prelude.{Option, is_some, IsTrue, ◌↔◌, ◌≤ℤ◌, ◌⊎◌, not}
use Rattle.std.specs.List.{list_any}
use Rattle.std.proofs.lemmas.Bool.{false≢true, cases_lt}
use Rattle.oct_key.specs.Voxel.{Voxel}
use Rattle.oct_key.specs.Block.{Cube, IsBlock, HoldsVoxel, lowest_voxel, block_of}
use Rattle.oct_key.specs.Boxes.{IsInBox, is_in_box, MeetsBox, LiesInBox}
use Rattle.oct_key.proofs.Blocks.{lowest_held, lowest_in_map}
use Rattle.oct_key.proofs.Boxes.{in_box_exactly}
use Rattle.oct_key.proofs.Held.{held_in_map, only_voxel}
use Rattle.oct_odds.specs.Odds.{Odds}
use Rattle.oct_odds.specs.declared.event.Event.{Event}
use Rattle.oct_odds.specs.declared.event.Event.TheVariants.{Add, Set, Forget, Likely}
use Rattle.oct_values.specs.Blocks.{voxels_of}
use Rattle.oct_values.specs.Boxes.{is_cut_by}
use Rattle.oct_values.specs.Events.{after_event}
use Rattle.oct_values.proofs.Boxes.{cut_exactly}
use Rattle.oct_values.proofs.Held.{some_passes, one_passes}
use Rattle.oct_arena.specs.Nodes.{link_of, value_of}
use Rattle.oct_arena.specs.declared.node.Node.{Node}
use Rattle.oct_arena.specs.declared.node.Node.TheVariants.{Absent, Leaf, Inner}
use Rattle.oct_tree.specs.declared.place.Place.{Place}
use Rattle.oct_tree.specs.Tree.{Tree, IsLinked, IsPlace, node_in, block_in}
use Rattle.oct_tree.proofs.Paths.{some_injective, place_reached}
use Rattle.oct_edit.specs.Areas.{is_in_part, is_in_area, area_events, MeetsArea, LiesInArea}
use Rattle.oct_edit.specs.Areas.{IsUnmoved, is_split_by, splits_at}
use Rattle.oct_edit.specs.Saturated.{IsSaturated}
use Rattle.oct_edit.specs.Steps.{Reaches, IsTouched}
use Rattle.oct_edit.specs.declared.area.Area.{Area}
use Rattle.oct_edit.proofs.Joins.{TakesIn}
use Rattle.oct_edit.proofs.UpdateEnds.{covered, known_plain, saturated_known, idle_touched}
use Rattle.oct_edit.proofs.UpdateEnds.{still_touched}
use Rattle.oct_edit.proofs.Insides.{around}
use Rattle.oct_edit.proofs.Voxels.{voxel_plain}

-- a test passes, or it fails
pub passes_or_not : (test : Bool) → (test ≡ true) ⊎ (test ≡ false)
passes_or_not true = inl refl
passes_or_not false = inr refl

clash : (test : Bool) → test ≡ true → test ≡ false → ⊥
clash test e f = false≢true (sym f ∙ e)

-- which voxels lie outside of a box
pub outside_exactly : (lo hi k : Voxel) → (not (is_in_box lo hi k) ≡ true) ↔ (IsInBox lo hi k → ⊥)
outside_exactly lo hi k = (
  λ h inside. by_test (is_in_box lo hi k) h ((in_box_exactly lo hi k).1 inside),
  λ out. by_case (is_in_box lo hi k) (λ e. out ((in_box_exactly lo hi k).0 e)),
)
  where
    by_test : (test : Bool) → not test ≡ true → test ≡ true → ⊥
    by_test true h e = false≢true h
    by_test false h e = false≢true e

    by_case : (test : Bool) → (test ≡ true → ⊥) → not test ≡ true
    by_case true out = absurd (out refl)
    by_case false out = refl

-- a block meets what is outside of a box where it doesn't lie in the box, and lies in it where it
-- doesn't meet the box
pub meets_outside : (lo hi : Voxel) (b : Cube) → IsBlock b
    → ((k : Voxel) × HoldsVoxel b k × IsTrue (not (is_in_box lo hi k))) ↔ (LiesInBox lo hi b → ⊥)
meets_outside lo hi b ok = (
  λ (k, held, out) lies. (outside_exactly lo hi k).0 out (lies k held),
  λ some. by_test (list_any (λ k. not (is_in_box lo hi k)) (voxels_of b)) refl some,
)
  where
    inside : (k : Voxel) → (not (is_in_box lo hi k) ≡ true → ⊥) → IsInBox lo hi k
    inside k never = elim (passes_or_not (is_in_box lo hi k)) [
      | inl is ↦ (in_box_exactly lo hi k).0 is
      | inr none ↦ absurd (never (ap not none))
    ]

    by_test : (test : Bool) → list_any (λ k. not (is_in_box lo hi k)) (voxels_of b) ≡ test
        → (LiesInBox lo hi b → ⊥) → (k : Voxel) × HoldsVoxel b k × IsTrue (not (is_in_box lo hi k))
    by_test true e some = one_passes (λ k. not (is_in_box lo hi k)) b ok e
    by_test false e some =
        absurd (some (λ k held. inside k
        (λ out. clash _ (some_passes (λ k. not (is_in_box lo hi k)) b k ok held out) e)))

pub lies_outside : (lo hi : Voxel) (b : Cube)
    → ((k : Voxel) → HoldsVoxel b k → IsTrue (not (is_in_box lo hi k))) ↔ (MeetsBox lo hi b → ⊥)
lies_outside lo hi b = (
  λ lies (k, held, inside). (outside_exactly lo hi k).0 (lies k held) inside,
  λ apart k held. (outside_exactly lo hi k).1 (λ inside. apart (k, held, inside)),
)

-- the same for the box itself
pub meets_inside : (lo hi : Voxel) (b : Cube)
    → ((k : Voxel) × HoldsVoxel b k × IsTrue (is_in_box lo hi k)) ↔ MeetsBox lo hi b
meets_inside lo hi b = (
  λ (k, held, is). (k, held, (in_box_exactly lo hi k).0 is),
  λ (k, held, inside). (k, held, (in_box_exactly lo hi k).1 inside),
)

pub lies_inside : (lo hi : Voxel) (b : Cube)
    → ((k : Voxel) → HoldsVoxel b k → IsTrue (is_in_box lo hi k)) ↔ LiesInBox lo hi b
lies_inside lo hi b = (
  λ lies k held. (in_box_exactly lo hi k).0 (lies k held),
  λ lies k held. (in_box_exactly lo hi k).1 (lies k held),
)

-- what a test of the box says of an area
denied : (test : Bool) → (not test ≡ true) ↔ (test ≡ true → ⊥)
denied true = (λ h. absurd (false≢true h), λ h. absurd (h refl))
denied false = (λ h e. false≢true e, λ h. refl)

pub outside_meets : (area : Area) (b : Cube) (covered : Bool) → IsBlock b → area.outside ≡ true
    → IsTrue covered ↔ LiesInBox area.window.lo area.window.hi b
    → IsTrue (not covered) ↔ MeetsArea area b
outside_meets area b covered ok is covers =
    let meets = meets_outside area.window.lo area.window.hi b ok in
    subst (λ o. IsTrue (not covered) ↔ ((k : Voxel) × HoldsVoxel b k
    × IsTrue (is_in_part o area.window.lo area.window.hi k))) (sym is) (
      λ h. meets.1 (λ lies. (denied covered).0 h (covers.1 lies)),
      λ m. (denied covered).1 (λ e. meets.0 m (covers.0 e)),
    )

pub outside_covers : (area : Area) (b : Cube) (met : Bool) → area.outside ≡ true
    → IsTrue met ↔ MeetsBox area.window.lo area.window.hi b
    → IsTrue (not met) ↔ LiesInArea area b
outside_covers area b met is meets =
    let lies = lies_outside area.window.lo area.window.hi b in
    subst (λ o. IsTrue (not met) ↔ ((k : Voxel) → HoldsVoxel b k
    → IsTrue (is_in_part o area.window.lo area.window.hi k))) (sym is) (
      λ h. lies.1 (λ m. (denied met).0 h (meets.1 m)),
      λ all. (denied met).1 (λ e. lies.0 all (meets.0 e)),
    )

pub inside_meets : (area : Area) (b : Cube) (met : Bool) → area.outside ≡ false
    → IsTrue met ↔ MeetsBox area.window.lo area.window.hi b → IsTrue met ↔ MeetsArea area b
inside_meets area b met is meets =
    let same = meets_inside area.window.lo area.window.hi b in
    subst (λ o. IsTrue met ↔ ((k : Voxel) × HoldsVoxel b k
    × IsTrue (is_in_part o area.window.lo area.window.hi k))) (sym is)
    (λ h. same.1 (meets.0 h), λ m. meets.1 (same.0 m))

pub inside_covers : (area : Area) (b : Cube) (covered : Bool) → area.outside ≡ false
    → IsTrue covered ↔ LiesInBox area.window.lo area.window.hi b
    → IsTrue covered ↔ LiesInArea area b
inside_covers area b covered is covers =
    let same = lies_inside area.window.lo area.window.hi b in
    subst (λ o. IsTrue covered ↔ ((k : Voxel) → HoldsVoxel b k
    → IsTrue (is_in_part o area.window.lo area.window.hi k))) (sym is)
    (λ h. same.1 (covers.0 h), λ all. covers.1 (same.0 all))

-- a block with voxels in a box or outside of it, and others, is cut by the box
part_cuts : (outside : Bool) (lo hi : Voxel) (b : Cube) → IsBlock b
    → ((k : Voxel) × HoldsVoxel b k × IsTrue (is_in_part outside lo hi k))
    → (((k : Voxel) → HoldsVoxel b k → IsTrue (is_in_part outside lo hi k)) → ⊥)
    → is_cut_by lo hi b ≡ true
part_cuts true lo hi b ok meets part = elim (passes_or_not (is_cut_by lo hi b)) [
  | inl is ↦ is
  | inr none ↦ absurd (part ((lies_outside lo hi b).1 (λ m. clash _
      ((cut_exactly lo hi b ok).1 (m, (meets_outside lo hi b ok).0 meets)) none)))
]
part_cuts false lo hi b ok meets part =
    (cut_exactly lo hi b ok).1 (
      (meets_inside lo hi b).0 meets,
      λ lies. part ((lies_inside lo hi b).1 lies),
    )

-- a block that meets an area and doesn't lie in it is cut by the area's box
area_cuts : (area : Area) (b : Cube) → IsBlock b → MeetsArea area b → (LiesInArea area b → ⊥)
    → is_cut_by area.window.lo area.window.hi b ≡ true
area_cuts area b = part_cuts area.outside area.window.lo area.window.hi b

-- a voxel of an area has the event, and another one none
pub event_in_area : (area : Area) (event : Event) (k : Voxel) → IsTrue (is_in_area area k)
    → area_events area event k ≡ Some event
event_in_area area event k h = ap (λ test. cond test (Some event) None) h

pub no_event_elsewhere : (area : Area) (event : Event) (k : Voxel)
    → (IsTrue (is_in_area area k) → ⊥) → area_events area event k ≡ None
no_event_elsewhere area event k out = elim (passes_or_not (is_in_area area k)) [
  | inl is ↦ absurd (out is)
  | inr none ↦ ap (λ test. cond test (Some event) None) none
]

no_event : (other : Event) → ◌≡◌ {A = Option Event} None (Some other) → ⊥
no_event other is = cc

-- no voxel has another event
one_event : (area : Area) (event other : Event) (k : Voxel)
    → area_events area event k ≡ Some other → event ≡ other
one_event area event other k is = by_test (is_in_area area k) is
  where
    by_test : (test : Bool) → cond test (Some event) None ≡ Some other → event ≡ other
    by_test true is = some_injective is
    by_test false is = absurd (no_event other is)

-- a block that meets the area is reached
pub area_reaches : (area : Area) (event : Event) (b : Cube) → IsBlock b → MeetsArea area b
    → Reaches (area_events area event) b b
area_reaches area event b ok (k, held, inside) = record {
  voxel = k;
  in_map = held_in_map b k ok held;
  here = held;
  there = held;
  event = ap is_some (event_in_area area event k inside);
}

-- The walk stands at a place whose block the area meets, and has to enter it: the event changes
-- what is there, and where the place links no group, not all of the block lies in the area.
pub record IsParted (t : Tree) (p : Place) (b : Cube) (area : Area) (event : Event) : Type 0 where
  pub linked : IsLinked t
  pub place : IsPlace t p
  pub at : block_in t p ≡ Some b
  pub of : IsBlock b
  pub meets : MeetsArea area b
  pub moved : IsUnmoved t.odds event (node_in t p) → ⊥
  pub part : link_of (node_in t p) ≡ None → LiesInArea area b → ⊥

pub parted : (t : Tree) (p : Place) (b : Cube) (area : Area) (event : Event) (idle whole : Bool)
    → IsLinked t → IsPlace t p → block_in t p ≡ Some b → IsBlock b → MeetsArea area b
    → idle ≡ false → IsTrue idle ↔ IsUnmoved t.odds event (node_in t p)
    → whole ≡ false → IsTrue whole ↔ ((link_of (node_in t p) ≡ None) × LiesInArea area b)
    → IsParted t p b area event
parted t p b area event idle whole l ok at of meets not_idle idles not_whole wholes = record {
  linked = l;
  place = ok;
  at = at;
  of = of;
  meets = meets;
  moved = λ h. clash idle (idles.1 h) not_idle;
  part = λ plain lies. clash whole (wholes.1 (plain, lies)) not_whole;
}

-- it is no voxel
pub parted_low : (t : Tree) (p : Place) (b : Cube) (area : Area) (event : Event)
    → IsParted t p b area event → b.depth ≤ 15
parted_low t p b area event h = elim (cases_lt b.depth 16) [
  | inl less ↦ omega (arith, less)
  | inr more ↦ (let top = h.of.depth in
      let deep : b.depth ≡ 16 = omega (arith, more, top) in
      let (k, held, inside) = h.meets in
      let here : b ≡ block_of 16 k = around b k held ∙ ap (λ d. block_of d k) deep in
      let plain = voxel_plain t p k h.linked (h.at ∙ ap Some here) in
      absurd (h.part plain (λ q lies. subst (λ a. IsTrue (is_in_area area a))
      (only_voxel b k deep held ∙ sym (only_voxel b q deep lies)) inside)))
]

-- a node that links no group, and that the event changes, takes one
splits_plain : (odds : Odds) (event : Event) (n : Node) → link_of n ≡ None
    → (IsUnmoved odds event n → ⊥) → is_split_by event n ≡ true
splits_plain odds event (Inner v id) plain moved = cc
splits_plain odds event (Leaf v) plain moved = refl
splits_plain odds (Add u) Absent plain moved = refl
splits_plain odds (Set v) Absent plain moved = refl
splits_plain odds Forget Absent plain moved = absurd (moved (inl (refl, refl)))
splits_plain odds Likely Absent plain moved = refl

-- so where the place links no group, one is counted for it
pub parted_splits : (t : Tree) (p : Place) (b : Cube) (area : Area) (event : Event)
    → IsParted t p b area event → link_of (node_in t p) ≡ None
    → cond {A = ℕ} (splits_at t area event b) 1 0 ≡ 1
parted_splits t p b area event h plain =
    let cut = area_cuts area b h.of h.meets (h.part plain) in
    let there = place_reached t h.linked p h.place b h.at (lowest_voxel b)
    (lowest_in_map b h.of) (lowest_held b) in
    let split = ap (is_split_by event) there
    ∙ splits_plain t.odds event (node_in t p) plain h.moved in
    rw (cut, split) refl

-- and a voxel there takes something
pub parted_takes : (t : Tree) (p : Place) (b : Cube) (area : Area) (event : Event)
    → IsParted t p b area event → link_of (node_in t p) ≡ None
    → TakesIn t (area_events area event) b
parted_takes t p b area event h plain =
    let (k, held, inside) = h.meets in (
      k,
      held,
      (
        event,
        event_in_area area event k inside,
        λ full. h.moved (inr
            (subst (IsSaturated t.odds event)
            (covered t p b h.linked h.place h.at h.of.depth plain k (held_in_map b k h.of held)
            held)
            full)),
      ),
    )

-- where the event changes nothing at a place, the edit of its block was done before it begins
pub area_still : (t : Tree) (p : Place) (b : Cube) (area : Area) (event : Event) → IsLinked t
    → IsPlace t p → block_in t p ≡ Some b → IsBlock b → t.odds.min ≤ℤ t.odds.max
    → IsUnmoved t.odds event (node_in t p) → IsTouched t t b (area_events area event) false
area_still t p b area event l ok e of bounds (inr saturated) =
    still_touched t p b (area_events area event) false l ok e of.depth
    (known_plain (node_in t p) (saturated_known t.odds event (value_of (node_in t p)) saturated))
    bounds
    (λ k other is. subst (λ x. IsSaturated t.odds x (value_of (node_in t p)))
    (one_event area event other k is) saturated)
area_still t p b area event l ok e of bounds (inl (forgets, absent)) =
    idle_touched t p b (area_events area event) false l ok e of.depth (ap link_of absent)
    (λ k. ap (after_event t.odds (area_events area event k)) (ap value_of absent)
    ∙ by_test (is_in_area area k) ∙ sym (ap value_of absent))
    (λ lazy. absurd (false≢true lazy))
  where
    by_test : (test : Bool) → after_event t.odds (cond test (Some event) None) None ≡ None
    by_test true = ap (λ x. after_event t.odds (Some x) None) forgets
    by_test false = refl
