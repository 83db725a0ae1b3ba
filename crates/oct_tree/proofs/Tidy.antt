-- Which places of a tree are tidy, and how the closing of a group makes the place over it tidy.
use Rattle.std.proofs.Common.{◌≡◌, ◌≢◌, ℕ, suc, ◌+◌, ◌<◌, ◌≤◌, [], ◌∷◌, cond, refl, sym, ◌∙◌}
use Rattle.std.proofs.Common.{ap, subst, arith, inl, inr, Some, None}
use Rattle.std.specs.Prelude.{ℤ, Bool, true, false, IsTrue, ◌↔◌, Option, is_some}
use Rattle.std.specs.Bool.{OnTrue, OnFalse}
use Rattle.std.proofs.lemmas.Bool.{false≢true}
use Rattle.std.proofs.lemmas.List.Sums.{sum_by-cons}
use Rattle.oct_key.specs.Block.{Cube, child_of, root_block, LiesIn}
use Rattle.oct_key.proofs.Nested.{lies_in_self, lies_in_trans, child_lies_in, lies_in_cases}
use Rattle.oct_key.proofs.Nested.{lies_in_root, parent_apart}
use Rattle.oct_arena.specs.declared.node.GroupId.{GroupId}
use Rattle.oct_arena.specs.declared.node.Node.{Node}
use Rattle.oct_arena.specs.declared.node.Node.TheVariants.{Absent, Inner}
use Rattle.oct_arena.specs.declared.node.Group.{Group}
use Rattle.oct_arena.specs.Entries.{Groups, IsLive, entry, node_at, live, spare}
use Rattle.oct_arena.specs.Nodes.{link_of, stored_in}
use Rattle.oct_tree.specs.declared.place.Place.{Place}
use Rattle.oct_tree.specs.declared.place.Place.TheVariants.{Root, Slot}
use Rattle.oct_tree.specs.Nodes.{IsCollapsible, IsKnown, IsGreatest}
use Rattle.oct_tree.specs.Places.{group_of}
use Rattle.oct_tree.specs.Tree.{Tree, IsLinked, IsPlace, node_in, block_in}
use Rattle.oct_tree.specs.Shape.{IsFresh, IsPruned}
use Rattle.oct_tree.specs.Changes.{IsSplit, IsWritten, CanCollapse, IsCollapsed, IsRenewed}
use Rattle.oct_tree.specs.Passes.{AllWithin}
use Rattle.oct_tree.proofs.Paths.{some_injective, some_not_none, live_home, homed_entry}
use Rattle.oct_tree.proofs.Paths.{linked_home, linked_index, linked_inner, linked_block, slot_block}
use Rattle.oct_tree.proofs.Paths.{place_block}
use Rattle.oct_tree.proofs.Links.{place_in_map}
use Rattle.oct_tree.proofs.Entries.{not_own, block_kept}
use Rattle.oct_tree.proofs.Shapes.{linked_place}
use Rattle.oct_tree.proofs.Within.{IsSeen, IsLocal, place_by_block, same_block_place, only_place}
use Rattle.oct_tree.specs.Filled.{IsTidyAt}

-- groups of the same nodes are alike
greatest_same : (t u : Tree) (x : ℕ) (m : ℤ)
    → ((i : ℕ) → i < 8 → node_at u.groups x i ≡ node_at t.groups x i)
    → IsGreatest t.groups x m → IsGreatest u.groups x m
greatest_same t u x m same g = record {
  there = (let (i, li, e) = g.there in (i, li, ap stored_in (same i li) ∙ e));
  most = λ i w li e. g.most i w li (sym (ap stored_in (same i li)) ∙ e);
}

collapsible_same : (t u : Tree) (x : ℕ)
    → ((i : ℕ) → i < 8 → node_at u.groups x i ≡ node_at t.groups x i)
    → IsCollapsible u.groups x → IsCollapsible t.groups x
collapsible_same t u x same (inl all) = inl (λ i li. sym (same i li) ∙ all i li)
collapsible_same t u x same (inr all) = inr (all.0, λ i li. sym (same i li) ∙ all.1 i li)

-- what an Inner node has
inner_parts : (v w : ℤ) (a b : GroupId) → Inner v a ≡ Inner w b → (v ≡ w) × (a ≡ b)
inner_parts v w a b h = (cc, cc)

pub tidy_local : IsLocal IsTidyAt
tidy_local t u q s h id v e =
    let before : node_in t q ≡ Inner v id = sym s.node ∙ e in
    let (best, not) = h id v before in (
      greatest_same t u id.number v (s.below id v before) best,
      λ can. not (collapsible_same t u id.number (s.below id v before) can),
    )

-- a place that is not Inner is tidy
pub leaf_tidy : (t : Tree) (p : Place) → link_of (node_in t p) ≡ None → IsTidyAt t p
leaf_tidy t p none id v e = absurd (some_not_none (ap link_of e) none)

-- and so is all within its block
pub tidy_leaf : (t : Tree) (p : Place) (b : Cube) → IsLinked t → IsPlace t p → block_in t p ≡ Some b
    → link_of (node_in t p) ≡ None → AllWithin IsTidyAt t b
tidy_leaf t p b l ok e none q c okq f inside =
    subst (IsTidyAt t) (sym (only_place t l p b ok e none q c okq f inside)) (leaf_tidy t p none)

-- what can be collapsed isn't Inner after
not_inner_after : (t u : Tree) (p : Place) (id : GroupId) (v : ℤ) → IsSplit u t p id v
    → IsCollapsible t.groups id.number
    → link_of (node_in u p) ≡ None
not_inner_after t u p id v s (inl all) =
    ap link_of (sym (s.copies 0 (omega arith)) ∙ all 0 (omega arith))
not_inner_after t u p id v s (inr all) =
    ap link_of (sym (s.copies 0 (omega arith)) ∙ all.1 0 (omega arith))

-- a tree whose place is closed
pub record IsSettled (t u : Tree) (p : Place) (b : Cube) : Type 0 where
  pub tidy : AllWithin IsTidyAt u b
  pub room : spare t.groups ≤ spare u.groups

-- a place that is collapsed
collapsed : (t u : Tree) (p : Place) (id : GroupId) (v : ℤ) (b : Cube) → IsLinked t → IsLinked u
    → IsPlace t p → block_in t p ≡ Some b
    → node_in t p ≡ Inner v id → CanCollapse t p → IsSplit u t p id v → IsSettled t u p b
collapsed t u p id v b l m ok e link (x, to, can) s = record {
  tidy = tidy_leaf u p b m (place_by_block t u p b ok block) block (not_inner_after t u p id v s
      (subst (IsCollapsible t.groups) (some_injective (sym to ∙ ap link_of link)) can));
  room = (let a = s.spare in omega (arith, a));
}
  where
    block : block_in u p ≡ Some b
    block = sym s.home ∙ linked_block t l p id.number b (ap link_of link) e

-- a place that is renewed, where all within its children is tidy
renewed : (t u : Tree) (p : Place) (id : GroupId) (v m : ℤ) (b : Cube) → IsLinked t → IsLinked u
    → IsPlace t p → block_in t p ≡ Some b
    → node_in t p ≡ Inner v id → ((i : ℕ) → i < 8 → AllWithin IsTidyAt t (child_of b i))
    → (CanCollapse t p → ⊥)
    → IsGreatest t.groups id.number m → IsWritten t u p (Inner m id) → IsSettled t u p b
renewed t u p id v m b l lu ok e link each not best w = record {
  tidy =
      λ q c okq f inside.
      (elim (lies_in_cases c b (place_in_map u lu q c okq f).depth
      (omega (arith, low)) inside) [
        | inl same ↦ subst (IsTidyAt u)
            (sym (same_block_place u lu q p b okq (place_by_block t u p b ok block)
            (f ∙ ap Some same) block))
            here
        | inr deep ↦ (let (i, li, inside') = deep.1 in within q c i okq f li inside')
      ]);
  room = (let a = w.spare in omega (arith, a));
}
  where
    low : b.depth ≤ 15
    low = (l.homes id.number b (linked_block t l p id.number b (ap link_of link) e)).1

    block : block_in u p ≡ Some b
    block = block_kept t u p w.homes ∙ e

    own : (i : ℕ) → i < 8 → node_at u.groups id.number i ≡ node_at t.groups id.number i
    own i li =
        w.others (Slot id i) (λ g. not_own t l p id.number (ap link_of link) (ap group_of (sym g)))

    here : IsTidyAt u p
    here a y h =
        let parts = inner_parts m y id a (sym w.there ∙ h) in (
          subst (λ (a : GroupId). IsGreatest u.groups a.number y) parts.1
              (subst (IsGreatest u.groups id.number) parts.0
              (greatest_same t u id.number m own best)),
          λ can. not (
            id.number,
            ap link_of link,
            collapsible_same t u id.number own
                (subst (λ (a : GroupId). IsCollapsible u.groups a.number) (sym parts.1) can),
          ),
        )

    within : (q : Place) (c : Cube) (i : ℕ) → IsPlace u q → block_in u q ≡ Some c → i < 8
        → LiesIn c (child_of b i) → IsTidyAt u q
    within q c i okq f li inside =
        let none : (d : Cube) → LiesIn d c → d ≢ b = λ d g same. parent_apart b i low li
        (subst (λ a. LiesIn a (child_of b i)) same (lies_in_trans d c (child_of b i) g inside)) in
        let before : block_in t q ≡ Some c = sym (block_kept t u q w.homes) ∙ f in
        let ne : q ≢ p =
        λ g. none c (lies_in_self c) (some_injective (sym before ∙ ap (block_in t) g ∙ e)) in
        let seen : IsSeen t u q = record {
          node = w.others q ne;
          below = λ a y to j lj. (let down = slot_block t l q a j c (ap link_of to) before in
              let deep =
              (l.homes a.number c (linked_block t l q a.number c (ap link_of to) before)).1 in
              w.others (Slot a j)
              (λ g. none (child_of c j) (child_lies_in c j deep)
              (some_injective (sym down ∙ ap (block_in t) g ∙ e))));
        } in
        tidy_local t u q seen (each i li q c (place_by_block u t q c okq before) before inside)

-- a place that is settled, where all within its children is tidy
pub settled : (t u : Tree) (p : Place) (x : ℕ) (b : Cube) (done : Bool) → IsLinked t → IsLinked u
    → IsPlace t p → block_in t p ≡ Some b
    → link_of (node_in t p) ≡ Some x → ((i : ℕ) → i < 8 → AllWithin IsTidyAt t (child_of b i))
    → (IsTrue done ↔ CanCollapse t p) → OnTrue done (IsCollapsed t u p)
    → OnFalse done (IsRenewed t u p) → IsSettled t u p b
settled t u p x b done l m ok e link each when to_leaf to_inner =
    by done when to_leaf to_inner (linked_inner (node_in t p) x link)
  where
    by : (o : Bool) → (IsTrue o ↔ CanCollapse t p) → OnTrue o (IsCollapsed t u p)
        → OnFalse o (IsRenewed t u p)
        → ((id : GroupId) × (v : ℤ) × (node_in t p ≡ Inner v id) × (id.number ≡ x))
        → IsSettled t u p b
    by true can leaf inner (id, v, is, number) =
        collapsed t u p id v b l m ok e is (can.0 refl) (leaf id v is)
    by false can leaf inner (id, v, is, number) =
        let (y, best, w) = inner id v is in
        renewed t u p id v y b l m ok e is each (λ c. false≢true (can.1 c)) best w

-- ---- the whole map

-- an Inner node stands at a place
inner_place : (t : Tree) → IsLinked t → (p : Place) (x : ℕ) → link_of (node_in t p) ≡ Some x
    → IsPlace t p
inner_place t l Root x h = tt
inner_place t l (Slot y i) x h = (let (b, e) = linked_home (entry t.groups y.number) i x h
    in (homed_entry _ b e, linked_index t l y.number i x h))

pub record IsTidy (t : Tree) : Type 0 where
  pub fresh : IsFresh t
  pub pruned : IsPruned t

-- a tree that is tidy within the whole map is fresh and pruned
pub tidy_whole : (t : Tree) → IsLinked t → AllWithin IsTidyAt t root_block → IsTidy t
tidy_whole t l all = record {
  fresh = record {
    formed = record {
      linked = l;
      known = λ x live. (let (id, v, is, number, good) = over x live in known id x v number good.0);
    };
    greatest = λ p id v e. (each p (inner_place t l p id.number (ap link_of e)) id v e).0;
  };
  pruned = λ x live can. (let (id, v, is, number, good) = over x live in
      good.1 (subst (IsCollapsible t.groups) (sym number) can));
}
  where
    each : (q : Place) → IsPlace t q → IsTidyAt t q
    each q ok =
        (let (c, e) = place_block t q ok in
        all q c ok e (lies_in_root c (place_in_map t l q c ok e)))

    over : (x : ℕ) → IsLive t.groups x → (id : GroupId) × (v : ℤ) × (p : Place) × (id.number ≡ x)
        × (IsGreatest t.groups id.number v × (IsCollapsible t.groups id.number → ⊥))
    over x live =
        let (b, e) = live_home (entry t.groups x) live in
        let (p, ok, link) = linked_place t l x b e in
        let (id, v, is, number) = linked_inner (node_in t p) x link in
        (id, v, p, number, each p ok id v is)

    stored : (n : Node) (m : ℤ) → stored_in n ≡ Some m → n ≡ Absent → ⊥
    stored n m e none = some_not_none e (ap stored_in none)

    known : (id : GroupId) (x : ℕ) (v : ℤ) → id.number ≡ x → IsGreatest t.groups id.number v
        → IsKnown t.groups x
    known id x v number g = (let (i, li, e) = g.there in (
      i,
      li,
      λ none. stored (node_at t.groups id.number i) v e
          (ap (λ n. node_at t.groups n i) number ∙ none),
    ))

-- a tree of the unknown world has no group
pub none_live : (gs : Groups) → ((x : ℕ) → entry gs x ≡ None) → live gs ≡ 0
none_live [] none = refl
none_live (e ∷ gs) none =
    let first : e ≡ None = none 0 in
    let rest : live gs ≡ 0 = none_live gs (λ x. none (suc x)) in
    let all : live (e ∷ gs) ≡ cond {A = ℕ} (is_some e) 1 0 + live gs =
    sum_by-cons (λ (x : Option Group). cond (is_some x) 1 0) e gs in
    let zero_is : cond {A = ℕ} (is_some e) 1 0 ≡ 0 =
    ap (λ (x : Option Group). cond {A = ℕ} (is_some x) 1 0) first in
    omega (arith, rest, all, zero_is)
