-- What refreshing does to a place, and what it leaves.
use Rattle.std.proofs.Common.{◌≡◌, ℕ, refl, sym, ◌∙◌, ap, subst, arith, inl, inr, Some, None}
use Rattle.std.specs.Prelude.{ℤ}
use Rattle.std.proofs.lemmas.Int.{ints}
use Rattle.oct_key.specs.Block.{Cube, child_of, root_block}
use Rattle.oct_arena.specs.declared.node.GroupId.{GroupId}
use Rattle.oct_arena.specs.declared.node.Node.{Node}
use Rattle.oct_arena.specs.declared.node.Node.TheVariants.{Absent, Leaf, Inner}
use Rattle.oct_arena.specs.Entries.{Groups, IsLive, entry, home_at, node_at, live}
use Rattle.oct_arena.proofs.Entries.{live_spare}
use Rattle.oct_tree.specs.declared.place.Place.{Place}
use Rattle.oct_tree.specs.declared.place.Place.TheVariants.{Root, Slot}
use Rattle.oct_tree.specs.Nodes.{IsCollapsible, IsKnown, IsGreatest}
use Rattle.oct_arena.specs.Nodes.{link_of, stored_in}
use Rattle.oct_tree.specs.Places.{group_of}
use Rattle.oct_tree.specs.Tree.{Tree, IsLinked, IsPlace, node_in, block_in, value_at}
use Rattle.oct_tree.specs.Shape.{IsWellFormed, IsFresh, IsPruned}
use Rattle.oct_tree.specs.Changes.{IsSameOutside, IsWritten, IsRenewed}
use Rattle.oct_key.specs.Values.{SameValues}
use Rattle.oct_tree.proofs.Paths.{some_injective, some_not_none, live_home, homed_entry}
use Rattle.oct_tree.proofs.Paths.{linked_home, linked_index, slot_block, linked_block}
use Rattle.oct_tree.proofs.Links.{same_place}
use Rattle.oct_tree.proofs.Entries.{not_own, block_kept}
use Rattle.oct_tree.proofs.Frames.{id_of, same_written}
use Rattle.oct_key.proofs.Nested.{child_lies_in}
use Rattle.oct_inner.specs.Changes.{IsSameButValue, IsSameButInner}
use Rattle.oct_inner.specs.Passes.{IsFreshAt, IsRefreshing}
use Rattle.oct_tree.specs.Passes.{IsPassed}
use Rattle.oct_tree.proofs.Within.{IsPassing}
use Rattle.oct_tree.proofs.Within.{IsLocal, IsClosed, place_by_block, passed_closed, within_root}

-- nodes that are the same but for the value
same_value_refl : (n : Node) → IsSameButValue n n
same_value_refl Absent = refl
same_value_refl (Leaf v) = refl
same_value_refl (Inner v id) = (v, refl)

same_value_trans : (a b c : Node) → IsSameButValue a b → IsSameButValue b c → IsSameButValue a c
same_value_trans Absent b c e f = subst (λ n. IsSameButValue n c) e f
same_value_trans (Leaf v) b c e f = subst (λ n. IsSameButValue n c) e f
same_value_trans (Inner v id) b c e f = subst (λ n. IsSameButValue n c) e.1 f

-- a node that is not Inner was the same before
absent_before : (n m : Node) → IsSameButValue n m → m ≡ Absent → n ≡ Absent
absent_before Absent m e f = refl
absent_before (Leaf v) m e f = cc
absent_before (Inner v id) m e f = (let s = e.1 in cc)

leaf_before : (n m : Node) (v : ℤ) → IsSameButValue n m → m ≡ Leaf v → n ≡ Leaf v
leaf_before Absent m v e f = cc
leaf_before (Leaf w) m v e f = cc
leaf_before (Inner w id) m v e f = (let s = e.1 in cc)

-- what an Inner node has
inner_parts : (v w : ℤ) (a b : GroupId) → Inner v a ≡ Inner w b → (v ≡ w) × (a ≡ b)
inner_parts v w a b h = (cc, cc)

pub fresh_local : IsLocal IsFreshAt
fresh_local t u q s h id v e =
    let link : node_in t q ≡ Inner v id = sym s.node ∙ e in
    let g = h id v link in
    record {
      there = (let (i, l, f) = g.there in (i, l, ap stored_in (s.below id v link i l) ∙ f));
      most = λ i w l f. g.most i w l (sym (ap stored_in (s.below id v link i l)) ∙ f);
    }

pub refreshing_refl : (t : Tree) → IsRefreshing t t
refreshing_refl t = record {
  values = λ k v. refl;
  nodes = record {
    homes = λ x. refl;
    nodes = λ p. same_value_refl (node_in t p);
    length = refl;
    live = refl;
    spare = refl;
    res = refl;
    odds = refl;
  };
  fresh = λ h. refl;
}

pub refreshing_trans : (t u w : Tree) → IsRefreshing t u → IsRefreshing u w → IsRefreshing t w
refreshing_trans t u w s r = record {
  values = λ k v. s.values k v ∙ r.values k v;
  nodes = record {
    homes = λ x. r.nodes.homes x ∙ s.nodes.homes x;
    nodes =
        λ p. same_value_trans (node_in t p) (node_in u p) (node_in w p) (s.nodes.nodes p)
        (r.nodes.nodes p);
    length = r.nodes.length ∙ s.nodes.length;
    live = r.nodes.live ∙ s.nodes.live;
    spare = r.nodes.spare ∙ s.nodes.spare;
    res = r.nodes.res ∙ s.nodes.res;
    odds = r.nodes.odds ∙ s.nodes.odds;
  };
  fresh = λ h. (let same = s.fresh h in r.fresh (subst IsFresh (sym same) h) ∙ same);
}

-- where homes stay, groups do
live_kept : (t u : Tree) → ((x : ℕ) → home_at u.groups x ≡ home_at t.groups x) → (x : ℕ)
    → IsLive u.groups x → IsLive t.groups x
live_kept t u homes x h =
    (let (b, e) = live_home (entry u.groups x) h in homed_entry _ b (sym (homes x) ∙ e))

-- a write of another value
written_same : (t u : Tree) (p : Place) (id : GroupId) (v m : ℤ) → node_in t p ≡ Inner v id
    → IsWritten t u p (Inner m id)
    → IsSameButInner t u
written_same t u p id v m link w = record {
  homes = w.homes;
  nodes = λ q. elim (same_place q p) [
    | inl e ↦ subst (λ n. IsSameButValue n (node_in u q)) (sym (ap (node_in t) e ∙ link))
        (m, ap (node_in u) e ∙ w.there)
    | inr ne ↦ subst (λ n. IsSameButValue (node_in t q) n) (sym (w.others q ne))
        (same_value_refl (node_in t q))
  ];
  length = w.length;
  live =
      (let a = live_spare t.groups in
      let b = live_spare u.groups in
      let c = w.spare in
      let d = w.length in
      omega arith);
  spare = w.spare;
  res = w.res;
  odds = w.odds;
}

-- the nodes of a group that are not absent are not so after either
known_kept : (t u : Tree) → IsWellFormed t → IsSameButInner t u → (x : ℕ) → IsLive u.groups x
    → IsKnown u.groups x
known_kept t u f s x h =
    let l = live_kept t u s.homes x h in
    let (id, is) = id_of t f.linked x l in
    let (i, li, ne) = f.known x l in (
      i,
      li,
      λ e. ne
          (ap (λ n. node_at t.groups n i) (sym is)
          ∙ absent_before (node_at t.groups id.number i) (node_at u.groups id.number i)
          (s.nodes (Slot id i)) (ap (λ n. node_at u.groups n i) is ∙ e)),
    )

-- the nodes of a group that is collapsible after were the same
collapsible_before : (t u : Tree) → IsLinked t → IsSameButInner t u → (x : ℕ) → IsLive t.groups x
    → IsCollapsible u.groups x
    → IsCollapsible t.groups x
collapsible_before t u l s x h c = by c
  where
    id : (g : GroupId) × (g.number ≡ x)
    id = id_of t l x h

    same : (i : ℕ) → IsSameButValue (node_at t.groups x i) (node_at u.groups x i)
    same i =
        subst (λ n. IsSameButValue (node_at t.groups n i) (node_at u.groups n i)) id.1
        (s.nodes (Slot id.0 i))

    by : IsCollapsible u.groups x → IsCollapsible t.groups x
    by (inl all) = inl (λ i li. absent_before _ _ (same i) (all i li))
    by (inr all) = inr (all.0, λ i li. leaf_before _ _ all.0 (same i) (all.1 i li))

pub pruned_kept : (t u : Tree) → IsLinked t → IsSameButInner t u → IsPruned t → IsPruned u
pruned_kept t u l s h x live c =
    (let before = live_kept t u s.homes x live in
    h x before (collapsible_before t u l s x before c))

-- a group has one greatest value
one_greatest : (gs : Groups) (x : ℕ) (m n : ℤ) → IsGreatest gs x m → IsGreatest gs x n → m ≡ n
one_greatest gs x m n g h =
    let (i, li, is) = g.there in
    let (j, lj, is') = h.there in
    let low = h.most i m li is in
    let high = g.most j n lj is' in
    omega (arith, ints, low, high)

-- the place is renewed
pub renew_closed : (t u : Tree) (p : Place) (b : Cube) (id : GroupId) (v : ℤ) → IsWellFormed t
    → IsPlace t p → block_in t p ≡ Some b
    → node_in t p ≡ Inner v id
    → IsRenewed t u p → SameValues (value_at t) (value_at u) → IsSameOutside t u b → IsLinked u
    → IsClosed IsFreshAt IsRefreshing t u p b
renew_closed t u p b id v f ok e link renewed values outside linked = by (renewed id v link)
  where
    unchanged : (m : ℤ) → IsGreatest t.groups id.number m → IsWritten t u p (Inner m id)
        → IsGreatest t.groups id.number v → u ≡ t
    unchanged m best w there =
        let value : m ≡ v = one_greatest t.groups id.number m v best there in
        same_written t u p (Inner m id) f.linked linked w (ap (λ n. Inner n id) value ∙ sym link)

    by : ((m : ℤ) × IsGreatest t.groups id.number m × IsWritten t u p (Inner m id))
        → IsClosed IsFreshAt IsRefreshing t u p b
    by (m, best, w) = record {
      formed = record { linked = linked; known = known_kept t u f same };
      kept = record {
        values = values;
        nodes = same;
        fresh = λ h. unchanged m best w (h.greatest p id v link);
      };
      outside = outside;
      place = place_by_block t u p b ok block;
      block = block;
      here = λ a y h. (let parts = inner_parts m y id a (sym w.there ∙ h) in
          subst (λ (a : GroupId). IsGreatest u.groups a.number y) parts.1
          (subst (IsGreatest u.groups id.number) parts.0 (record {
            there = (let (i, li, g) = best.there in (i, li, ap stored_in (own i) ∙ g));
            most = λ i z li g. best.most i z li (sym (ap stored_in (own i)) ∙ g);
          })));
      seen = λ q c okq is ne none. (let before = sym (block_kept t u q w.homes) ∙ is in (
        before,
        record {
          node = w.others q ne;
          below = λ a y to i li. (let down = slot_block t f.linked q a i c (ap link_of to) before in
              let low =
              (f.linked.homes a.number c (linked_block t f.linked q a.number c (ap link_of to)
              before)).1 in
              w.others (Slot a i)
              (λ g. none (child_of c i) (child_lies_in c i low)
              (some_injective (sym down ∙ ap (block_in t) g ∙ e))));
        },
      ));
    }
      where
        same : IsSameButInner t u
        same = written_same t u p id v m link w

        block : block_in u p ≡ Some b
        block = block_kept t u p w.homes ∙ e

        own : (i : ℕ) → node_at u.groups id.number i ≡ node_at t.groups id.number i
        own i =
            w.others (Slot id i)
            (λ g. not_own t f.linked p id.number (ap link_of link) (ap group_of (sym g)))

-- a place that is not Inner is fresh
pub leaf_fresh : (t : Tree) (p : Place) → link_of (node_in t p) ≡ None → IsFreshAt t p
leaf_fresh t p none id v e = absurd (some_not_none (ap link_of e) none)

-- an Inner node stands at a place
pub inner_place : (t : Tree) → IsLinked t → (p : Place) (x : ℕ) → link_of (node_in t p) ≡ Some x
    → IsPlace t p
inner_place t l Root x h = tt
inner_place t l (Slot y i) x h = (let (b, e) = linked_home (entry t.groups y.number) i x h
    in (homed_entry _ b e, linked_index t l y.number i x h))

-- the whole map is refreshed
pub refreshed_fresh : (t u : Tree) → IsPassed IsFreshAt IsRefreshing t u root_block → IsFresh u
refreshed_fresh t u r = record {
  formed = r.formed;
  greatest =
      λ p id v e. within_root IsFreshAt IsRefreshing t u r p
      (inner_place u r.formed.linked p id.number (ap link_of e)) id v e;
}

-- all children of a place are refreshed, and then it is renewed
pub refreshed_place : (t u w : Tree) (p : Place) (id : GroupId) (v : ℤ) (n : ℕ) (b : Cube)
    → IsLinked t → n ≡ 8 → node_in t p ≡ Inner v id
    → IsPassing IsFreshAt IsRefreshing t u p b n
    → IsRenewed u w p → SameValues (value_at u) (value_at w)
    → ((c : Cube) → block_in u p ≡ Some c → IsSameOutside u w c) → IsLinked w
    → IsPassed IsFreshAt IsRefreshing t w b
refreshed_place t u w p id v n b l all link s renewed values outside linked =
    passed_closed IsFreshAt IsRefreshing fresh_local refreshing_trans t u w p id.number b l
    (ap link_of link) (subst (IsPassing IsFreshAt IsRefreshing t u p b) all s)
    (renew_closed u w p b id v s.formed s.place s.block (s.here ∙ link) renewed values
    (outside b s.block) linked)
