-- The blocks of a tree that is tidy there: a group's home has several values.
use Rattle.std.proofs.Common.{◌≡◌, ℕ, zero, suc, ◌+◌, ◌-◌, ◌<◌, ◌≤◌, Some, None, inl, inr, refl}
use Rattle.std.proofs.Common.{sym}
use Rattle.std.proofs.Common.{◌∙◌, ap, subst, arith, Bool, true, false, cond}
use Rattle.std.specs.Prelude.{ℤ, IsTrue, ◌↔◌, not}
use Rattle.std.specs.Bool.{OnTrue, OnFalse}
use Rattle.oct_key.specs.Voxel.{Voxel, IsInMap}
use Rattle.oct_key.specs.Values.{Values}
use Rattle.oct_key.specs.Block.{Cube, IsBlock, HoldsVoxel, LiesIn, child_of, lowest_voxel}
use Rattle.oct_key.proofs.Blocks.{depth_child_of, lowest_held}
use Rattle.oct_key.proofs.Held.{child_depths, held_by_parent, held_in_map}
use Rattle.oct_key.proofs.Nested.{lies_in_self, lies_in_trans, child_lies_in}
use Rattle.oct_odds.specs.Update.{Value}
use Rattle.oct_values.specs.Counts.{is_uniform}
use Rattle.oct_values.proofs.Axes.{sum_below}
use Rattle.oct_values.proofs.Children.{uniform_child}
use Rattle.oct_values.proofs.Uniform.{uniform_of, value_of_uniform}
use Rattle.oct_arena.specs.declared.node.GroupId.{GroupId}
use Rattle.oct_arena.specs.declared.node.Node.{Node}
use Rattle.oct_arena.specs.declared.node.Node.TheVariants.{Absent, Leaf, Inner}
use Rattle.oct_arena.specs.Entries.{home_at, node_at, spare}
use Rattle.oct_arena.specs.Nodes.{link_of, value_of}
use Rattle.oct_tree.specs.declared.place.Place.{Place}
use Rattle.oct_tree.specs.Nodes.{IsCollapsible}
use Rattle.oct_tree.specs.Tree.{Tree, IsLinked, IsPlace, node_in, block_in, value_at}
use Rattle.oct_tree.specs.Changes.{CanCollapse, IsCollapsed, IsRenewed}
use Rattle.oct_tree.specs.Passes.{AllWithin}
use Rattle.oct_tree.specs.Filled.{IsFilledWith, IsTidyAt}
use Rattle.oct_tree.proofs.Paths.{some_injective, linked_inner, linked_block}
use Rattle.oct_tree.proofs.Links.{place_value}
use Rattle.oct_tree.proofs.Over.{slot_home, slot_value}
use Rattle.oct_tree.proofs.Entries.{block_kept}
use Rattle.oct_tree.proofs.Shapes.{linked_place}
use Rattle.oct_tree.proofs.Within.{place_by_block}
use Rattle.oct_shift.specs.Moving.{groups_in}
use Rattle.oct_shift.proofs.Counts.{groups_of_children, groups_uniform}

-- nodes that link nothing and give one value are all absent, or all one leaf
absent_of : (n : Node) → link_of n ≡ None → value_of n ≡ None → n ≡ Absent
absent_of Absent none e = refl
absent_of (Leaf v) none e = cc
absent_of (Inner v id) none e = cc

leaf_of : (n : Node) (v : ℤ) → link_of n ≡ None → value_of n ≡ Some v → n ≡ Leaf v
leaf_of Absent v none e = cc
leaf_of (Leaf w) v none e = ap Leaf (some_injective e)
leaf_of (Inner w id) v none e = cc

alike : (t : Tree) (x : ℕ) (o : Value)
    → ((i : ℕ) → i < 8 → link_of (node_at t.groups x i) ≡ None)
    → ((i : ℕ) → i < 8 → value_of (node_at t.groups x i) ≡ o) → IsCollapsible t.groups x
alike t x None plain value =
    inl (λ i li. absent_of (node_at t.groups x i) (plain i li) (value i li))
alike t x (Some v) plain value =
    inr (v, λ i li. leaf_of (node_at t.groups x i) v (plain i li) (value i li))

plain_of : (n : Node) → ((y : ℕ) → link_of n ≡ Some y → ⊥) → link_of n ≡ None
plain_of Absent no_link = refl
plain_of (Leaf v) no_link = refl
plain_of (Inner v id) no_link = absurd (no_link id.number refl)

-- where a tree is tidy, the home of a group has several values: where the nodes of its children
-- link nothing
varied_step : (t : Tree) (b : Cube) → IsLinked t → AllWithin IsTidyAt t b → (c : Cube) (x : ℕ)
    → LiesIn c b → home_at t.groups x ≡ Some c → is_uniform (value_at t) c ≡ true
    → ((i : ℕ) → i < 8 → (y : ℕ) → link_of (node_at t.groups x i) ≡ Some y → ⊥) → ⊥
varied_step t b l tidy c x inside home one below =
    let (q, ok, link) = linked_place t l x c home in
    let (id, v, is, number) = linked_inner (node_in t q) x link in
    let block : block_in t q ≡ Some c = sym (l.links q x link) ∙ home in
    let (best, apart) = tidy q c ok block inside id v is in
    apart (subst (IsCollapsible t.groups) (sym number) (alike t x (value_at t (lowest_voxel c))
    (λ i li. plain_of (node_at t.groups x i) (below i li))
    (λ i li. value i li (plain_of (node_at t.groups x i) (below i li)))))
  where
    value : (i : ℕ) → i < 8 → link_of (node_at t.groups x i) ≡ None
        → value_of (node_at t.groups x i) ≡ value_at t (lowest_voxel c)
    value i li none =
        let k = lowest_voxel (child_of c i) in
        let held = lowest_held (child_of c i) in
        let low = (l.homes x c home).1 in
        sym (slot_value t c x i l home li none k held)
        ∙ value_of_uniform (value_at t) c k (l.homes x c home).0 one
        (held_by_parent c i k (omega (arith, low)) li held)

-- and they do
pub tidy_varied : (t : Tree) (b : Cube) → IsLinked t → AllWithin IsTidyAt t b → (h : ℕ) (c : Cube)
    (x : ℕ) → LiesIn c b → c.depth + suc h ≡ 16 → home_at t.groups x ≡ Some c
    → is_uniform (value_at t) c ≡ true → ⊥
tidy_varied t b l tidy zero c x inside d home one =
    varied_step t b l tidy c x inside home one (λ i li y down.
    (let under = (l.homes y (child_of c i) (slot_home t c x y i l home down)).1 in
    let deep = depth_child_of c i in
    absurd (omega (arith, under, deep, d))))
tidy_varied t b l tidy (suc h) c x inside d home one =
    varied_step t b l tidy c x inside home one (λ i li y down.
    (let low = (l.homes x c home).1 in
    tidy_varied t b l tidy h (child_of c i) y
    (lies_in_trans (child_of c i) c b (child_lies_in c i low) inside)
    (child_depths c (suc h) i d) (slot_home t c x y i l home down)
    (uniform_child (value_at t) c i (l.homes x c home).0 low li one)))

-- a node whose block can be collapsed
collapsed_plain : (t u : Tree) (p : Place) (id : GroupId) → IsCollapsible t.groups id.number
    → ((i : ℕ) → i < 8 → node_at t.groups id.number i ≡ node_in u p) → link_of (node_in u p) ≡ None
collapsed_plain t u p id (inl all) copies =
    ap link_of (sym (copies 0 (omega arith)) ∙ all 0 (omega arith))
collapsed_plain t u p id (inr (v, all)) copies =
    ap link_of (sym (copies 0 (omega arith)) ∙ all 0 (omega arith))

-- the groups that a block took which is settled: as many as its values need
pub settled_room : (u w t : Tree) (p : Place) (id : GroupId) (b : Cube) (v : Values)
    (done : Bool) (had : ℕ) → b.depth ≤ 15 → IsLinked u → IsLinked w → IsPlace u p → IsBlock b
    → link_of (node_in u p) ≡ Some id.number → block_in u p ≡ Some b
    → IsFilledWith t w b v
    → (IsTrue done ↔ CanCollapse u p) → OnTrue done (IsCollapsed u w p)
    → OnFalse done (IsRenewed u w p)
    → had ≡ spare u.groups + 1 + sum_below (λ j. groups_in v (child_of b j)) 8
    → had ≡ spare w.groups + groups_in v b
settled_room u w t p id b v done had low lu lw place ok link block filled when to_leaf to_inner
    room =
    by_done done when to_leaf to_inner
  where
    same : (k : Voxel) → HoldsVoxel b k → v k ≡ value_at w k
    same k held = sym (filled.inside k (held_in_map b k ok held) held)

    by_uniform : (y : GroupId) → home_at w.groups y.number ≡ Some b → (one : Bool)
        → is_uniform v b ≡ one → cond {A = ℕ} (not (is_uniform v b)) 1 0 ≡ 1
    by_uniform y home false e = ap (λ (a : Bool). cond {A = ℕ} (not a) 1 0) e
    by_uniform y home true e =
        absurd (tidy_varied w b lw filled.tidy (15 - b.depth) b y.number (lies_in_self b)
        (omega (arith, low)) home
        (uniform_of (value_at w) b (v (lowest_voxel b)) ok
        (λ k held. sym (same k held) ∙ value_of_uniform v b k ok e held)))

    by_done : (test : Bool) → (IsTrue test ↔ CanCollapse u p) → OnTrue test (IsCollapsed u w p)
        → OnFalse test (IsRenewed u w p) → had ≡ spare w.groups + groups_in v b
    by_done true when collapsed renewed =
        (let (y, m, is, number) = linked_inner (node_in u p) id.number link in
        let split = collapsed y m is in
        let (x, there, can) = when.0 refl in
        let here : IsCollapsible u.groups y.number = subst (IsCollapsible u.groups)
        (some_injective (sym there ∙ ap link_of is)) can in
        let plain = collapsed_plain u w p y here split.copies in
        let at : block_in w p ≡ Some b =
        sym split.home ∙ linked_block u lu p y.number b (ap link_of is) block in
        let one = uniform_of v b (value_of (node_in w p)) ok
        (λ k held. same k held ∙ place_value w p b lw (place_by_block u w p b place at) at plain k
        (held_in_map b k ok held) held) in
        let none = groups_uniform v b ok one in
        let parts = groups_of_children v b low in
        let back = split.spare in
        omega (arith, room, none, parts, back))
    by_done false when collapsed renewed =
        (let (y, m, is, number) = linked_inner (node_in u p) id.number link in
        let (best, greatest, written) = renewed y m is in
        let at : block_in w p ≡ Some b = block_kept u w p written.homes ∙ block in
        let home = linked_block w lw p y.number b (ap link_of written.there) at in
        let several : cond {A = ℕ} (not (is_uniform v b)) 1 0 ≡ 1 =
        by_uniform y home (is_uniform v b) refl in
        let parts = groups_of_children v b low in
        let kept = written.spare in
        omega (arith, room, several, parts, kept))

-- a block that is filled with values is filled with those that are the same there
pub filled_same : (t u : Tree) (b : Cube) (v w : Values) → IsFilledWith t u b v
    → ((k : Voxel) → IsInMap k → HoldsVoxel b k → v k ≡ w k) → IsFilledWith t u b w
filled_same t u b v w f same = record {
  inside = λ k inmap held. f.inside k inmap held ∙ same k inmap held;
  outside = f.outside;
  tidy = f.tidy;
}
