-- What pruning does to a place, and what it leaves.
use Rattle.std.proofs.Common.{◌≡◌, ◌≢◌, ℕ, ◌<◌, refl, sym, ◌∙◌, ap, subst, arith, inl, inr, Some}
use Rattle.std.proofs.Common.{None}
use Rattle.std.specs.Prelude.{ℤ, Bool, true, false, IsTrue, option_map, ◌↔◌}
use Rattle.std.specs.Bool.{OnTrue, OnFalse}
use Rattle.std.proofs.lemmas.Bool.{false≢true}
use Rattle.oct_key.specs.Block.{Cube, child_of, root_block}
use Rattle.oct_arena.specs.declared.node.GroupId.{GroupId}
use Rattle.oct_arena.specs.declared.node.Node.TheVariants.{Absent, Leaf, Inner}
use Rattle.oct_arena.specs.Entries.{IsLive, entry, node_at}
use Rattle.oct_arena.proofs.Entries.{live_spare}
use Rattle.oct_tree.specs.declared.place.Place.{Place}
use Rattle.oct_tree.specs.declared.place.Place.TheVariants.{Root, Slot}
use Rattle.oct_tree.specs.Nodes.{IsAll, IsCollapsible, IsKnown, IsGreatest}
use Rattle.oct_arena.specs.Nodes.{link_of, stored_in}
use Rattle.oct_tree.specs.Places.{group_of}
use Rattle.oct_tree.specs.Tree.{Tree, IsLinked, IsPlace, node_in, block_in, value_at}
use Rattle.oct_tree.specs.Shape.{IsWellFormed, IsFresh, IsPruned}
use Rattle.oct_tree.specs.Changes.{IsSameOutside, IsSplit, CanCollapse, IsCollapsed}
use Rattle.oct_key.specs.Values.{SameValues}
use Rattle.oct_tree.proofs.Paths.{some_injective, some_not_none, live_home, homed_entry}
use Rattle.oct_tree.proofs.Paths.{linked_inner, linked_live, only_link, slot_block, linked_block}
use Rattle.oct_tree.proofs.Links.{same_place, slot_of, vacant_node, not_vacant, live_place}
use Rattle.oct_tree.proofs.Frames.{id_of}
use Rattle.oct_key.proofs.Nested.{child_lies_in}
use Rattle.oct_tree.proofs.Shapes.{linked_place}
use Rattle.oct_inner.specs.Changes.{IsShrunk}
use Rattle.oct_inner.specs.Passes.{IsPrunedAt, IsPruning}
use Rattle.oct_tree.specs.Passes.{IsPassed}
use Rattle.oct_tree.proofs.Within.{IsLocal, IsClosed, place_by_block, closed_same, passed_closed}
use Rattle.oct_tree.proofs.Within.{IsPassing, within_root}

-- a group of the same nodes is collapsible too
collapsible_same : (t u : Tree) (x : ℕ)
    → ((i : ℕ) → i < 8 → node_at u.groups x i ≡ node_at t.groups x i) → IsCollapsible u.groups x
    → IsCollapsible t.groups x
collapsible_same t u x same (inl all) = inl (λ i li. sym (same i li) ∙ all i li)
collapsible_same t u x same (inr all) = inr (all.0, λ i li. sym (same i li) ∙ all.1 i li)

pub pruned_local : IsLocal IsPrunedAt
pruned_local t u q s h (x, link, can) =
    let before : link_of (node_in t q) ≡ Some x = sym (ap link_of s.node) ∙ link in
    let (id, v, is, number) = linked_inner (node_in t q) x before in
    h (
      x,
      before,
      collapsible_same t u x
          (λ i li. subst (λ n. node_at u.groups n i ≡ node_at t.groups n i) number
          (s.below id v is i li))
          can,
    )

pub pruning_refl : (t : Tree) → IsPruning t t
pruning_refl t = record {
  values = λ k v. refl;
  groups = record {
    homes = λ x b h. h;
    inner = λ p id v h. h;
    length = refl;
    live = omega arith;
    spare = omega arith;
    res = refl;
    odds = refl;
  };
  fresh = λ h. h;
  pruned = λ h. refl;
}

pub pruning_trans : (t u w : Tree) → IsPruning t u → IsPruning u w → IsPruning t w
pruning_trans t u w s r = record {
  values = λ k v. s.values k v ∙ r.values k v;
  groups = record {
    homes = λ x b h. s.groups.homes x b (r.groups.homes x b h);
    inner = λ p id v h. s.groups.inner p id v (r.groups.inner p id v h);
    length = r.groups.length ∙ s.groups.length;
    live = (let a = s.groups.live in let b = r.groups.live in omega arith);
    spare = (let a = s.groups.spare in let b = r.groups.spare in omega arith);
    res = r.groups.res ∙ s.groups.res;
    odds = r.groups.odds ∙ s.groups.odds;
  };
  fresh = λ h. r.fresh (s.fresh h);
  pruned = λ h. (let same = s.pruned h in r.pruned (subst IsPruned (sym same) h) ∙ same);
}

-- the eight nodes of a group that can be collapsed are leaves, where one of them is known
leaves_of : (t : Tree) → IsWellFormed t → (p : Place) (id : GroupId) (v : ℤ) → IsPlace t p
    → node_in t p ≡ Inner v id → CanCollapse t p
    → (y : ℤ) × IsAll t.groups id.number (Leaf y)
leaves_of t f p id v ok link (x, e, can) =
    by (subst (IsCollapsible t.groups) (some_injective (sym e ∙ ap link_of link)) can)
  where
    by : IsCollapsible t.groups id.number → (y : ℤ) × IsAll t.groups id.number (Leaf y)
    by (inr all) = all
    by (inl all) =
        (let (i, li, ne) = f.known id.number
        (linked_live t f.linked p ok id.number (ap link_of link)) in
        absurd (ne (all i li)))

leaf_absent : (y : ℤ) → Leaf y ≡ Absent → ⊥
leaf_absent y h = cc

leaf_inner : (y v : ℤ) (id : GroupId) → Leaf y ≡ Inner v id → ⊥
leaf_inner y v id h = cc

absent_inner : (v : ℤ) (id : GroupId) → Absent ≡ Inner v id → ⊥
absent_inner v id h = cc

-- Collapsing a place whose eight nodes are leaves of y. In the lemmas below t is the
-- tree before, and u the one after.
pub record IsLeafed (t u : Tree) (p : Place) (id : GroupId) (v y : ℤ) : Type 0 where
  pub split : IsSplit u t p id v
  pub here : node_in u p ≡ Leaf y
  pub all : IsAll t.groups id.number (Leaf y)

leafed : (t u : Tree) → IsWellFormed t → (p : Place) (id : GroupId) (v : ℤ) → IsPlace t p
    → node_in t p ≡ Inner v id → CanCollapse t p
    → IsCollapsed t u p → (y : ℤ) × IsLeafed t u p id v y
leafed t u f p id v ok link can collapsed =
    let s = collapsed id v link in
    let (y, all) = leaves_of t f p id v ok link can in (
      y,
      record {
        split = s;
        here = sym (s.copies 0 (omega arith)) ∙ all 0 (omega arith);
        all = all;
      },
    )

-- an Inner node that stands after stood before
inner_before : (t u : Tree) (p : Place) (id : GroupId) (v y : ℤ) → IsLeafed t u p id v y
    → (q : Place) (a : GroupId) (w : ℤ)
    → node_in u q ≡ Inner w a → (q ≢ p) × (node_in t q ≡ Inner w a)
inner_before t u p id v y s q a w h =
    let ne : q ≢ p = λ f. leaf_inner y w a (sym s.here ∙ ap (node_in u) (sym f) ∙ h) in
    let ng : group_of q ≢ Some id.number = λ f. (let (i, r) = slot_of q id f in absent_inner w a
    (sym (ap (node_in u) r ∙ vacant_node u id.number i s.split.vacant) ∙ h)) in
    (ne, s.split.others q ne ng ∙ h)

-- a group that is live after was so before, and is another
live_before : (t u : Tree) (p : Place) (id : GroupId) (v : ℤ) → IsSplit u t p id v → (x : ℕ)
    → IsLive u.groups x
    → (x ≢ id.number) × IsLive t.groups x
live_before t u p id v s x h =
    let (b, e) = live_home (entry u.groups x) h in
    let ne = not_vacant u id.number x b s.vacant e in
    (ne, homed_entry _ b (s.homes x ne ∙ e))

-- what the tree keeps
leafed_shrunk : (t u : Tree) (p : Place) (id : GroupId) (v y : ℤ) → IsLeafed t u p id v y
    → IsShrunk t u
leafed_shrunk t u p id v y s = record {
  homes = λ x b h. s.split.homes x (not_vacant u id.number x b s.split.vacant h) ∙ h;
  inner = λ q a w h. (inner_before t u p id v y s q a w h).1;
  length = sym s.split.length;
  live =
      (let a = live_spare t.groups in
      let b = live_spare u.groups in
      let c = s.split.spare in
      let d = s.split.length in
      omega arith);
  spare = (let a = s.split.spare in omega arith);
  res = sym s.split.res;
  odds = sym s.split.odds;
}

leafed_known : (t u : Tree) → IsWellFormed t → (p : Place) (id : GroupId) (v y : ℤ)
    → IsLeafed t u p id v y → (x : ℕ) → IsLive u.groups x
    → IsKnown u.groups x
leafed_known t u f p id v y s x h =
    let (ne, l) = live_before t u p id v s.split x h in
    let (a, is) = id_of t f.linked x l in
    let (i, li, known) = f.known x l in (
      i,
      li,
      λ e. elim (same_place (Slot a i) p) [
        | inl g ↦ leaf_absent y
            (sym s.here ∙ ap (node_in u) (sym g) ∙ ap (λ n. node_at u.groups n i) is ∙ e)
        | inr g ↦ known
            (ap (λ n. node_at t.groups n i) (sym is)
            ∙ s.split.others (Slot a i) g (λ k. ne (sym is ∙ some_injective k))
            ∙ ap (λ n. node_at u.groups n i) is ∙ e)
      ],
    )

-- on a fresh tree the leaf has the value that stood at the place
leafed_value : (t u : Tree) (p : Place) (id : GroupId) (v y : ℤ) → IsLeafed t u p id v y
    → IsGreatest t.groups id.number v → y ≡ v
leafed_value t u p id v y s g =
    (let (i, li, e) = g.there in some_injective (sym (ap stored_in (s.all i li)) ∙ e))

leafed_stored : (t u : Tree) (p : Place) (id : GroupId) (v y : ℤ) → IsLeafed t u p id v y → y ≡ v
    → (q : Place)
    → group_of q ≢ Some id.number → stored_in (node_in u q) ≡ stored_in (node_in t q)
leafed_stored t u p id v y s same q ng = elim (same_place q p) [
  | inl e ↦ ap (λ r. stored_in (node_in u r)) e ∙ ap stored_in s.here ∙ ap Some same
      ∙ sym (ap stored_in s.split.link)
      ∙ ap (λ r. stored_in (node_in t r)) (sym e)
  | inr ne ↦ sym (ap stored_in (s.split.others q ne ng))
]

leafed_fresh : (t u : Tree) → IsLinked t → IsWellFormed u → (p : Place) (id : GroupId) (v y : ℤ)
    → IsLeafed t u p id v y → IsFresh t
    → IsFresh u
leafed_fresh t u l f p id v y s h = record {
  formed = f;
  greatest = λ q a w e. (let (ne, before) = inner_before t u p id v y s q a w e in
      let g = h.greatest q a w before in
      let same = leafed_value t u p id v y s (h.greatest p id v s.split.link) in
      let other : a.number ≢ id.number =
      λ k. ne
      (only_link t l q p id.number (ap link_of before ∙ ap Some k)
      (ap link_of s.split.link)) in
      let stored : (i : ℕ)
      → stored_in (node_at u.groups a.number i) ≡ stored_in (node_at t.groups a.number i) =
      λ i. leafed_stored t u p
      id v y s same (Slot a i) (λ k. other (some_injective k)) in
      record {
        there = (let (i, li, e) = g.there in (i, li, stored i ∙ e));
        most = λ i z li e. g.most i z li (sym (stored i) ∙ e);
      });
}

-- the block of a place that stands after was its block before
leafed_block : (t u : Tree) (p : Place) (id : GroupId) (v : ℤ) → IsSplit u t p id v → (q : Place)
    → group_of q ≢ Some id.number
    → block_in t q ≡ block_in u q
leafed_block t u p id v s Root ng = refl
leafed_block t u p id v s (Slot a i) ng =
    ap (option_map (λ b. child_of b i)) (s.homes a.number (λ k. ng (ap Some k)))

-- a place that is not Inner is pruned
pub leaf_pruned : (t : Tree) (p : Place) → link_of (node_in t p) ≡ None → IsPrunedAt t p
leaf_pruned t p none (x, e, can) = some_not_none e none

-- the place is collapsed
pub collapse_closed : (t u : Tree) (p : Place) (b : Cube) (id : GroupId) (v : ℤ) → IsWellFormed t
    → IsPlace t p → block_in t p ≡ Some b
    → node_in t p ≡ Inner v id → CanCollapse t p
    → IsCollapsed t u p → SameValues (value_at t) (value_at u) → IsSameOutside t u b → IsLinked u
    → IsClosed IsPrunedAt IsPruning t u p b
collapse_closed t u p b id v f ok e link can collapsed values outside linked =
    by (leafed t u f p id v ok link can collapsed)
  where
    by : ((y : ℤ) × IsLeafed t u p id v y) → IsClosed IsPrunedAt IsPruning t u p b
    by (y, s) = record {
      formed = formed;
      kept = record {
        values = values;
        groups = leafed_shrunk t u p id v y s;
        fresh = leafed_fresh t u f.linked formed p id v y s;
        pruned = λ h. (let (x, to, c) = can in absurd (h x (linked_live t f.linked p ok x to) c));
      };
      outside = outside;
      place = place_by_block t u p b ok block;
      block = block;
      here = leaf_pruned u p (ap link_of s.here);
      seen = λ q c okq is ne none. (let ng = live_place u q id.number okq s.split.vacant in
          let before = leafed_block t u p id v s.split q ng ∙ is in (
            before,
            record {
              node = sym (s.split.others q ne ng);
              below =
                  λ a w to i li. (let down = slot_block t f.linked q a i c (ap link_of to) before in
                  let low =
                  (f.linked.homes a.number c (linked_block t f.linked q a.number c
                  (ap link_of to) before)).1 in
                  sym (s.split.others (Slot a i) (λ g. none (child_of c i)
                  (child_lies_in c i low)
                  (some_injective (sym down ∙ ap (block_in t) g ∙ e)))
                  (λ g. ne
                  (only_link t f.linked q p id.number (ap link_of to ∙ g)
                  (ap link_of link)))));
            },
          ));
    }
      where
        formed : IsWellFormed u
        formed = record { linked = linked; known = leafed_known t u f p id v y s }

        block : block_in u p ≡ Some b
        block = sym s.split.home ∙ linked_block t f.linked p id.number b (ap link_of link) e

-- the whole map is pruned
pub pruned_whole : (t u : Tree) → IsPassed IsPrunedAt IsPruning t u root_block → IsPruned u
pruned_whole t u r x h can =
    let (b, e) = live_home (entry u.groups x) h in
    let (p, ok, link) = linked_place u r.formed.linked x b e in
    within_root IsPrunedAt IsPruning t u r p ok (x, link, can)

-- all children of a place are pruned, and then it is collapsed if it can be
pub pruned_place : (t u w : Tree) (p : Place) (id : GroupId) (v : ℤ) (n : ℕ) (b : Cube)
    (done : Bool)
    → IsLinked t → n ≡ 8
    → node_in t p ≡ Inner v id → IsPassing IsPrunedAt IsPruning t u p b n
    → (IsTrue done ↔ CanCollapse u p) → OnTrue done (IsCollapsed u w p) → OnFalse done (w ≡ u)
    → SameValues (value_at u) (value_at w)
    → ((c : Cube) → block_in u p ≡ Some c → IsSameOutside u w c) → IsLinked w
    → IsPassed IsPrunedAt IsPruning t w b
pruned_place t u w p id v n b done l all link s when collapsed kept values outside linked =
    passed_closed IsPrunedAt IsPruning pruned_local pruning_trans t u w p id.number b l
    (ap link_of link)
    (subst (IsPassing IsPrunedAt IsPruning t u p b) all s) (closed done when collapsed kept)
  where
    closed : (o : Bool) → (IsTrue o ↔ CanCollapse u p) → OnTrue o (IsCollapsed u w p)
        → OnFalse o (w ≡ u)
        → IsClosed IsPrunedAt IsPruning u w p b
    closed true can to same =
        collapse_closed u w p b id v s.formed s.place s.block (s.here ∙ link) (can.0 refl) to values
        (outside b s.block) linked
    closed false can to same = subst (λ x. IsClosed IsPrunedAt IsPruning u x p b) (sym same)
        (closed_same IsPrunedAt IsPruning u p b (pruning_refl u) s.formed s.place s.block
        (λ c. false≢true (can.1 c)))
