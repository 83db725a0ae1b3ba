-- What the second tree, which is fresh and pruned, has under a block of which the first knows
-- nothing: each group is copied with the value over it, and needs no closing.
use Rattle.std.proofs.Common.{◌≡◌, ◌≢◌, ℕ, ◌+◌, ◌<◌, ◌≤◌, false, inl, inr, Some, None, refl}
use Rattle.std.proofs.Common.{sym, ◌∙◌, ap, subst, arith}
use Rattle.std.specs.Prelude.{ℤ, Option, IsSome}
use Rattle.std.proofs.lemmas.Bool.{cases_eq}
use Rattle.oct_key.specs.Voxel.{Voxel, IsInMap}
use Rattle.oct_key.specs.Values.{SameValues}
use Rattle.oct_key.specs.Block.{Cube, IsBlock, HoldsVoxel, child_of, lowest_voxel}
use Rattle.oct_key.proofs.Blocks.{lowest_held}
use Rattle.oct_key.proofs.Nested.{apart, lies_in_self}
use Rattle.oct_odds.specs.Update.{Value, IsWithin}
use Rattle.oct_values.specs.Events.{Events}
use Rattle.oct_arena.specs.declared.node.GroupId.{GroupId}
use Rattle.oct_arena.specs.declared.node.Node.{Node}
use Rattle.oct_arena.specs.declared.node.Node.TheVariants.{Absent, Leaf, Inner}
use Rattle.oct_arena.specs.Entries.{IsLive, node_at, spare}
use Rattle.oct_arena.specs.Nodes.{link_of, stored_in, value_of}
use Rattle.oct_tree.specs.declared.place.Place.{Place}
use Rattle.oct_tree.specs.declared.place.Place.TheVariants.{Slot}
use Rattle.oct_tree.specs.Nodes.{IsCollapsible, IsGreatest}
use Rattle.oct_tree.specs.Shape.{IsFresh, IsPruned, IsWellFormed}
use Rattle.oct_tree.specs.Tree.{IsOver, Tree, IsLinked, IsPlace, node_in, block_in, step, value_at}
use Rattle.oct_tree.specs.Changes.{IsSameOutside, IsSplit, IsWritten, SetsBlock}
use Rattle.oct_tree.proofs.Paths.{slot_block, some_injective, step_linked}
use Rattle.oct_tree.proofs.Over.{reach_place}
use Rattle.oct_edit.specs.Steps.{IsTouched}
use Rattle.oct_edit.proofs.Joins.{IsUnfolded}
use Rattle.oct_edit.proofs.Planting.{closed_here, fresh_slot, planted_end}
use Rattle.oct_merge.specs.declared.rule.Rule.{Rule}
use Rattle.oct_merge.specs.Merged.{merged, merge_event}
use Rattle.oct_merge.specs.Walk.{need_in}
use Rattle.oct_merge.proofs.Needs.{need_of_children}
use Rattle.oct_merge.proofs.Parts.{IsMerging, events_of, known_reaches, known_takes, leaf_merged}
use Rattle.oct_merge.proofs.Parts.{merging_start, merging_step, part_needed}

-- a node says what the other one does at its depth, and links no group only where it is that one
pub record IsLike (m n : Node) : Type 0 where
  pub stored : stored_in m ≡ stored_in n
  pub plain : link_of m ≡ None → m ≡ n

pub like_same : (m n : Node) → m ≡ n → IsLike m n
like_same m n e = record { stored = ap stored_in e; plain = λ _. e }

-- of the block under a place, the children below one are copied
pub record IsCopying (t s w o : Tree) (p : Place) (b : Cube) (id : GroupId) (n : Node) (rule : Rule)
    (i : ℕ) : Type 0 where
  pub merging : IsMerging t s w o p b rule i
  pub alike : (j : ℕ) → j < i → IsLike (node_in w (Slot id j)) (step o.groups n j)

-- no child is copied
pub copying_start : (t s o : Tree) (p : Place) (b : Cube) (id : GroupId) (n : Node) (rule : Rule)
    → IsUnfolded t s p b id false → IsCopying t s s o p b id n rule 0
copying_start t s o p b id n rule e = record {
  merging = merging_start t s o p b id rule e;
  alike = λ j low. absurd (omega (arith, low));
}

-- one child more is copied
pub copying_step : (t s w x o : Tree) (p : Place) (b : Cube) (id : GroupId) (n : Node) (i : ℕ)
    (rule : Rule)
    → IsLinked t → IsBlock b → b.depth ≤ 15 → i < 8
    → IsUnfolded t s p b id false → IsCopying t s w o p b id n rule i
    → IsTouched w x (child_of b i) (events_of rule w o) false
    → spare w.groups ≤ spare x.groups + need_in w o (child_of b i)
    → IsLike (node_in x (Slot id i)) (step o.groups n i)
    → IsCopying t s x o p b id n rule (i + 1)
copying_step t s w x o p b id n i rule l ok low few e way touched room like = record {
  merging = merging_step t s w x o p b id i rule l ok low few e way.merging touched room;
  alike = λ j less. elim (cases_eq j i) [
    | inl same ↦ subst (λ m. IsLike (node_in x (Slot id m)) (step o.groups n m)) (sym same) like
    | inr other ↦ (let before : j < i = omega (arith, less, other) in
        subst (λ m. IsLike m (step o.groups n j)) (sym (stays j before other))
        (way.alike j before))
  ];
}
  where
    stays : (j : ℕ) → j < i → j ≢ i → node_in x (Slot id j) ≡ node_in w (Slot id j)
    stays j before other =
        let (v, link) = e.link in
        let done = way.merging.done in
        touched.apart.outside.nodes (Slot id j) (child_of b j)
        (λ lies. apart b (child_of b j) j i low (omega (arith, before, few)) few other
        (lies_in_self (child_of b j)) lies)
        (slot_block w done.linked p id j b (ap link_of (done.node ∙ link)) done.block)

-- a child that comes is absent
pub copying_fresh : (t s w o : Tree) (p : Place) (b : Cube) (id : GroupId) (n : Node) (i : ℕ)
    (rule : Rule) (v : ℤ)
    → IsBlock b → b.depth ≤ 15 → i < 8 → node_in t p ≡ Absent → IsSplit t s p id v
    → IsUnfolded t s p b id false → IsCopying t s w o p b id n rule i → node_in w (Slot id i) ≡
    Absent
copying_fresh t s w o p b id n i rule v ok low few absent sp e way =
    fresh_slot t s w p b id v i i (events_of rule t o) e.linked e.place e.block ok low sp
    way.merging.done (omega arith) few
    ∙ absent

-- an unknown voxel gets the other value
unknown_merged : (rule : Rule) (w : Value) → merged rule None w ≡ w
unknown_merged rule None = refl
unknown_merged rule (Some w) = refl

-- a leaf is copied to an absent place
pub leaf_copied : (t u : Tree) (p : Place) (b : Cube) (n : Node) (rule : Rule) (events : Events)
    → IsLinked t → IsPlace t p → block_in t p ≡ Some b → IsBlock b → node_in t p ≡ Absent
    → IsLinked u → link_of n ≡ None
    → IsWritten t u p n → SetsBlock (value_at t) (value_at u) b (value_of n) → IsSameOutside t u b
    → IsSome (value_of n) → IsWithin t.odds (value_of n)
    → ((k : Voxel) → IsInMap k → HoldsVoxel b k
    → events k ≡ merge_event rule (value_of (node_in t p)) (value_of n))
    → IsTouched t u b events false
leaf_copied t u p b n rule events l ok e in_map absent lu none written sets out some within all =
    leaf_merged t u p b n (value_of n) rule events l ok e in_map (ap link_of absent) lu none written
    sets out some within
    (sym (ap (λ m. merged rule (value_of m) (value_of n)) absent
    ∙ unknown_merged rule (value_of n)))
    all

-- what isn't none is some
some_link : (y : Option ℕ) → y ≢ None → (x : ℕ) × (y ≡ Some x)
some_link None h = absurd (h refl)
some_link (Some x) h = (x, refl)

-- once all are copied, the group can't be collapsed, since the one that is copied can't
pub copied_lean : (t s w o : Tree) (p : Place) (b : Cube) (id : GroupId) (n : Node) (rule : Rule)
    → ((x : ℕ) → link_of n ≡ Some x → IsLive o.groups x) → link_of n ≢ None → IsPruned o
    → IsCopying t s w o p b id n rule 8 → IsCollapsible w.groups id.number → ⊥
copied_lean t s w o p b id n rule live inner pruned way can =
    (let (x, link) = some_link (link_of n) inner in pruned x (live x link) (there x link can))
  where
    back : (x j : ℕ) → link_of n ≡ Some x → j < 8 → link_of (node_in w (Slot id j)) ≡ None
        → node_at o.groups x j ≡ node_in w (Slot id j)
    back x j link few plain =
        sym ((way.alike j few).plain plain ∙ step_linked o.groups n x j link)

    there : (x : ℕ) → link_of n ≡ Some x → IsCollapsible w.groups id.number
        → IsCollapsible o.groups x
    there x link (inl none) =
        inl (λ j few. back x j link few (ap link_of (none j few)) ∙ none j few)
    there x link (inr (v, leaf)) =
        inr (v, λ j few. back x j link few (ap link_of (leaf j few)) ∙ leaf j few)

-- an Inner node by its value
inner_is : (n : Node) (m : ℤ) → link_of n ≢ None → stored_in n ≡ Some m
    → (y : GroupId) × (n ≡ Inner m y)
inner_is Absent m h e = absurd (h refl)
inner_is (Leaf v) m h e = absurd (h refl)
inner_is (Inner v id) m h e = (id, ap (λ a. Inner a id) (some_injective e))

-- what is read of an Inner node is its value
pub stored_is : (n : Node) (r : ℤ) → link_of n ≢ None → ((v : ℤ) → stored_in n ≡ Some v → r ≡ v)
    → stored_in n ≡ Some r
stored_is Absent r h f = absurd (h refl)
stored_is (Leaf v) r h f = absurd (h refl)
stored_is (Inner v id) r h f = ap Some (sym (f v refl))

-- its value is the greatest of the copied group, as it is of the one that is copied
pub copied_best : (t s w o : Tree) (p : Place) (b : Cube) (id : GroupId) (n : Node) (rule : Rule)
    (m : ℤ)
    → IsFresh o → IsOver o b n → link_of n ≢ None → stored_in n ≡ Some m
    → IsCopying t s w o p b id n rule 8 → IsGreatest w.groups id.number m
copied_best t s w o p b id n rule m fresh over inner value way =
    let (y, is) = inner_is n m inner value in
    let (q, at) = reach_place o b.depth (lowest_voxel b) in
    let best : IsGreatest o.groups y.number m =
    fresh.greatest q y m (at ∙ over (lowest_voxel b) (lowest_held b) ∙ is) in
    record {
      there = (let (i, few, most) = best.there in (i, few, same y is i few ∙ most));
      most = λ i v few here. best.most i v few (sym (same y is i few) ∙ here);
    }
  where
    same : (y : GroupId) → n ≡ Inner m y → (i : ℕ) → i < 8
        → stored_in (node_at w.groups id.number i) ≡ stored_in (node_at o.groups y.number i)
    same y is i few =
        (way.alike i few).stored
        ∙ ap stored_in (step_linked o.groups n y.number i (ap link_of is))

-- so the block is merged
pub copied_end : (t s w o : Tree) (p : Place) (b : Cube) (id : GroupId) (n : Node) (rule : Rule)
    (m : ℤ)
    → IsLinked t → IsLinked s → IsPlace t p → block_in t p ≡ Some b → IsBlock b → b.depth ≤ 15
    → node_in t p ≡ Absent → IsSplit t s p id m → SameValues (value_at t) (value_at s)
    → IsSameOutside t s b → IsWellFormed o → IsOver o b n → link_of n ≢ None
    → IsCopying t s w o p b id n rule 8 → IsGreatest w.groups id.number m
    → (IsCollapsible w.groups id.number → ⊥)
    → IsTouched t w b (events_of rule t o) false
copied_end t s w o p b id n rule m l ls ok e map low absent sp same out formed over inner way best
    lean =
    let done = way.merging.done in
    planted_end t s w p b id m (events_of rule t o) l ls ok e low (ap link_of absent) sp same out
    done
    (closed_here w p b id m done.linked done.block (done.node ∙ sp.link) best lean)
    (known_reaches t o b n rule formed map over (λ h. inner (ap link_of h)))
    (known_takes t o b n rule formed map over (λ h. inner (ap link_of h)))

-- and takes no more than is counted for it
pub copied_spared : (t s w o : Tree) (p : Place) (b : Cube) (id : GroupId) (n : Node) (rule : Rule)
    (m : ℤ)
    → IsLinked t → IsPlace t p → block_in t p ≡ Some b → IsBlock b → b.depth ≤ 15 → IsOver o b n
    → node_in t p ≡ Absent → link_of n ≢ None → IsSplit t s p id m
    → IsCopying t s w o p b id n rule 8 → spare t.groups ≤ spare w.groups + need_in t o b
copied_spared t s w o p b id n rule m l ok e map low over absent inner sp way =
    let one = part_needed t o p b n l ok e map over (λ _. inner) (ap link_of absent) in
    let all = need_of_children t o b low in
    let taken = sp.spare in
    let before = way.merging.room in
    omega (arith, one, all, taken, before)

-- the place links the group, under that value
pub copied_node : (t s w o : Tree) (p : Place) (b : Cube) (id : GroupId) (n : Node) (rule : Rule)
    (m : ℤ)
    → IsSplit t s p id m → IsCopying t s w o p b id n rule 8 → node_in w p ≡ Inner m id
copied_node t s w o p b id n rule m sp way = way.merging.done.node ∙ sp.link
