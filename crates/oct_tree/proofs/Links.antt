-- Changes of a tree keep its links, and what they do to the value of each voxel.
use Rattle.std.proofs.Common.{◌≡◌, ◌≢◌, ℕ, suc, zero, ◌≤◌, refl, sym, ◌∙◌, ap, subst, arith, inl}
use Rattle.std.proofs.Common.{inr, Some, None}
use Rattle.std.specs.Prelude.{Option, ℤ, option_map, ◌⊎◌}
use Rattle.std.proofs.lemmas.Bool.{cases_lt, cases_eq, false≢true}
use Rattle.oct_key.specs.Voxel.{Voxel, IsInMap}
use Rattle.oct_key.specs.Block.{Cube, IsBlock, HoldsVoxel, child_index_of, child_of, root_block}
use Rattle.oct_key.proofs.Blocks.{child_index_below, depth_block_of, child_in_map, child_holds}
use Rattle.oct_odds.specs.Odds.{Odds}
use Rattle.oct_odds.specs.Update.{Value, IsWithin}
use Rattle.oct_arena.specs.declared.node.GroupId.{GroupId}
use Rattle.oct_arena.specs.declared.node.Node.{Node}
use Rattle.oct_arena.specs.declared.node.Node.TheVariants.{Absent}
use Rattle.oct_arena.specs.Entries.{IsArena, entry, home_at, node_at, home_of, node_of}
use Rattle.oct_arena.proofs.Ids.{same_ids}
use Rattle.oct_tree.specs.declared.place.Place.{Place}
use Rattle.oct_tree.specs.declared.place.Place.TheVariants.{Root, Slot}
use Rattle.oct_arena.specs.Nodes.{link_of, value_of}
use Rattle.oct_tree.specs.Places.{group_of}
use Rattle.oct_tree.specs.Tree.{Tree, IsLinked, IsPlace, node_in, block_in, step, reach, value_at}
use Rattle.oct_tree.specs.Changes.{IsWritten, IsSplit}
use Rattle.oct_key.specs.Values.{SameValues}
use Rattle.oct_tree.proofs.Paths.{some_injective, some_not_none, linked_id, step_linked}
use Rattle.oct_tree.proofs.Paths.{linked_step, unlinked_step, reach_zero, reach_home, live_home}
use Rattle.oct_tree.proofs.Paths.{linked_home, beyond_eight, linked_index, only_link, value_at_last}
use Rattle.oct_tree.proofs.Paths.{place_reached, child_reached, link_down, same_path}

-- places are one or not
pub same_place : (p q : Place) → (p ≡ q) ⊎ (p ≢ q)
same_place Root Root = inl refl
same_place Root (Slot b j) = inr (λ e. cc)
same_place (Slot a i) Root = inr (λ e. cc)
same_place (Slot a i) (Slot b j) = elim (cases_eq a.number b.number) [
  | inl e ↦ elim (cases_eq i j) [
    | inl f ↦ inl (ap (λ n. Slot n i) (same_ids a b e) ∙ ap (λ n. Slot b n) f)
    | inr f ↦ inr (λ h. f (same_index a b i j h))
  ]
  | inr e ↦ inr (λ h. e (ap (λ (g : GroupId). g.number) (same_id a b i j h)))
]
  where
    same_index : (a b : GroupId) (i j : ℕ) → Slot a i ≡ Slot b j → i ≡ j
    same_index a b i j h = cc

    same_id : (a b : GroupId) (i j : ℕ) → Slot a i ≡ Slot b j → a ≡ b
    same_id a b i j h = cc

-- a place is a slot of the group or not
pub in_group : (q : Place) (y : ℕ) → (group_of q ≡ Some y) ⊎ (group_of q ≢ Some y)
in_group Root y = inr (λ h. cc)
in_group (Slot z i) y = elim (cases_eq z.number y) [
  | inl g ↦ inl (ap Some g)
  | inr g ↦ inr (λ h. g (some_injective h))
]

-- a slot of the group
pub slot_of : (q : Place) (id : GroupId) → group_of q ≡ Some id.number → (i : ℕ) × (q ≡ Slot id i)
slot_of Root id h = cc
slot_of (Slot y i) id h = (i, ap (λ n. Slot n i) (same_ids y id (some_injective h)))

-- a vacant entry has no home and no nodes
pub vacant_home : (t : Tree) (id : ℕ) → entry t.groups id ≡ None → home_at t.groups id ≡ None
vacant_home t id h = ap home_of h

pub vacant_node : (t : Tree) (id i : ℕ) → entry t.groups id ≡ None → node_at t.groups id i ≡ Absent
vacant_node t id i h = ap (λ e. node_of e i) h

-- a group that has a home is not the vacant one
pub not_vacant : (t : Tree) (id x : ℕ) (b : Cube) → entry t.groups id ≡ None
    → home_at t.groups x ≡ Some b → x ≢ id
not_vacant t id x b e h f = some_not_none h (ap (home_at t.groups) f ∙ vacant_home t id e)

-- a place is no slot of a vacant group
pub live_place : (t : Tree) (p : Place) (id : ℕ) → IsPlace t p → entry t.groups id ≡ None
    → group_of p ≢ Some id
live_place t Root id ok e h = cc
live_place t (Slot y i) id ok e h =
    let f : entry t.groups y.number ≡ None = ap (entry t.groups) (some_injective h) ∙ e in
    absurd (false≢true (rw f at ok.0))

-- the block of a place is a block of the map
pub place_in_map : (t : Tree) → IsLinked t → (p : Place) (b : Cube) → IsPlace t p
    → block_in t p ≡ Some b → IsBlock b
place_in_map t l Root b ok e = subst IsBlock (some_injective e) (record {
  depth = omega arith;
  x = omega arith;
  y = omega arith;
  z = omega arith;
})
place_in_map t l (Slot id i) b ok e =
    let (h, is) = live_home (entry t.groups id.number) ok.0 in
    let child : b ≡ child_of h i =
    some_injective (sym e ∙ ap (option_map (λ b. child_of b i)) is) in
    let of = l.homes id.number h is in
    subst IsBlock (sym child) (child_in_map h i of.0 (omega (arith, of.1)))

-- Links that stay keep the paths to the groups that stay: where each link to such a group stands in
-- both trees, and the group whose slot
-- links it stays too.
pub same_links : (t u : Tree) (Stays : ℕ → Type 0) (k : Voxel)
    → ((q : Place) (x : ℕ) → Stays x → link_of (node_in t q) ≡ Some x
    → link_of (node_in u q) ≡ Some x)
    → ((y i x : ℕ) → Stays x → link_of (node_at t.groups y i) ≡ Some x → Stays y)
    → (d x : ℕ) → Stays x → link_of (reach t d k) ≡ Some x → link_of (reach u d k) ≡ Some x
unfolding reach
same_links t u Stays k same up zero x stays h = same Root x stays h
same_links t u Stays k same up (suc d) x stays h =
    let (y, p, q) = linked_step t.groups (reach t d k) x (child_index_of d k) h in
    let before = same_links t u Stays k same up d y.number (up y.number _ x stays q) p in
    ap link_of (step_linked u.groups _ y.number _ before)
    ∙ same (Slot y (child_index_of d k)) x stays q

-- a leaf of the bounds stays one where the bounds do
pub within_kept : (a b : Odds) (v w : Value) → b ≡ a → w ≡ v → IsWithin a v → IsWithin b w
within_kept a b v w e f h = subst (λ o. IsWithin o w) (sym e) (subst (IsWithin a) (sym f) h)

absent_within : (o : Odds) (v : Value) → v ≡ None → IsWithin o v
absent_within o v e = subst (IsWithin o) (sym e) tt

-- a write that leaves what the place links keeps the tree linked
pub written_linked : (t u : Tree) (p : Place) (n : Node) → IsLinked t → IsWritten t u p n
    → link_of n ≡ link_of (node_in t p) → IsArena u.groups → IsWithin t.odds (value_of n)
    → IsLinked u
written_linked t u p n l w same a within =
    let link : (q : Place) → link_of (node_in u q) ≡ link_of (node_in t q) =
    λ q. elim (same_place q p) [
      | inl e ↦ ap (λ r. link_of (node_in u r)) e ∙ ap link_of w.there ∙ same
          ∙ ap (λ r. link_of (node_in t r)) (sym e)
      | inr e ↦ ap link_of (w.others q e)
    ] in
    record {
      arena = a;
      homes = λ id b h. l.homes id b (sym (w.homes id) ∙ h);
      links = λ q id h. w.homes id ∙ l.links q id (sym (link q) ∙ h) ∙ sym (blocks q);
      reached =
          λ id b h k v inside. same_links t u (λ _. Unit {0}) k (λ q x _ e. link q ∙ e)
          (λ _ _ _ _ _. tt) b.depth id tt (l.reached id b (sym (w.homes id) ∙ h) k v inside);
      leaves = λ q. elim (same_place q p) [
        | inl f ↦ within_kept t.odds u.odds (value_of n) (value_of (node_in u q)) w.odds
            (ap (λ r. value_of (node_in u r)) f ∙ ap value_of w.there) within
        | inr f ↦ within_kept t.odds u.odds (value_of (node_in t q)) (value_of (node_in u q)) w.odds
            (ap value_of (w.others q f)) (l.leaves q)
      ];
    }
  where
    blocks : (q : Place) → block_in u q ≡ block_in t q
    blocks Root = refl
    blocks (Slot id i) = ap (option_map (λ b. child_of b i)) (w.homes id.number)

-- trees whose places link and give the same have the same values
pub alike_values : (t u : Tree)
    → ((q : Place) → (link_of (node_in u q) ≡ link_of (node_in t q))
    × (value_of (node_in u q) ≡ value_of (node_in t q)))
    → (k : Voxel) → value_at u k ≡ value_at t k
unfolding value_at reach
alike_values t u same k = (alike 16).1
  where
    pair : (n m : Node) (i : ℕ) → link_of n ≡ link_of m → value_of n ≡ value_of m → (o : Option ℕ)
        → link_of m ≡ o
        → (link_of (step u.groups n i) ≡ link_of (step t.groups m i))
        × (value_of (step u.groups n i) ≡ value_of (step t.groups m i))
    pair n m i e f None h =
        let p = unlinked_step u.groups n i (e ∙ h) in
        let q = unlinked_step t.groups m i h in
        (ap link_of p ∙ e ∙ ap link_of (sym q), ap value_of p ∙ f ∙ ap value_of (sym q))
    pair n m i e f (Some y) h =
        let (id, is) = linked_id m y h in
        let link : link_of m ≡ Some id.number = h ∙ ap Some (sym is) in
        let p = step_linked u.groups n id.number i (e ∙ link) in
        let q = step_linked t.groups m id.number i link in (
          ap link_of p ∙ (same (Slot id i)).0 ∙ ap link_of (sym q),
          ap value_of p ∙ (same (Slot id i)).1 ∙ ap value_of (sym q),
        )

    alike : (d : ℕ)
        → (link_of (reach u d k) ≡ link_of (reach t d k))
        × (value_of (reach u d k) ≡ value_of (reach t d k))
    alike zero = same Root
    alike (suc d) =
        pair (reach u d k) (reach t d k) (child_index_of d k) (alike d).0 (alike d).1
        (link_of (reach t d k)) refl

-- a write changes no voxel outside the place's block
pub written_outside : (t u : Tree) (p : Place) (n : Node) (b : Cube) → IsLinked t
    → IsWritten t u p n → block_in t p ≡ Some b → (k : Voxel) → IsInMap k → (HoldsVoxel b k → ⊥)
    → value_at u k ≡ value_at t k
unfolding value_at
written_outside t u p n b l w e k v out = ap value_of (same_path t u k l v
    (λ q c f inside. w.others q
    (λ g. out
    (subst (λ d. HoldsVoxel d k) (some_injective (sym f ∙ ap (block_in t) g ∙ e))
    inside)))
    16 (omega arith))

-- a node that is not Inner gives its value to each voxel of its block
pub place_value : (t : Tree) (p : Place) (b : Cube) → IsLinked t → IsPlace t p
    → block_in t p ≡ Some b → link_of (node_in t p) ≡ None → (k : Voxel) → IsInMap k
    → HoldsVoxel b k → value_at t k ≡ value_of (node_in t p)
place_value t p b l ok e none k v inside =
    let there = place_reached t l p ok b e k v inside in
    value_at_last t k b.depth (place_in_map t l p b ok e).depth (ap link_of there ∙ none)
    ∙ ap value_of there

-- a path of the split tree is that of the first tree, or it ends in the new group where the
-- first one ends in the place's node
pub split_paths : (t u : Tree) (p : Place) (id : GroupId) (v : ℤ) → IsLinked t → IsSplit t u p id v
    → link_of (node_in t p) ≡ None → (k : Voxel) → IsInMap k → (d : ℕ) → d ≤ 16
    → (reach u d k ≡ reach t d k)
    ⊎ ((link_of (reach u d k) ≡ Some id.number) × (reach t d k ≡ node_in t p))
unfolding reach
split_paths t u p id v l s none k voxel zero m = elim (same_place Root p) [
  | inl e ↦ inr (ap (λ q. link_of (node_in u q)) e ∙ ap link_of s.link, ap (node_in t) e)
  | inr e ↦ inl (s.others Root e (λ h. cc))
]
split_paths t u p id v l s none k voxel (suc d) m =
    next (split_paths t u p id v l s none k voxel d (omega arith)) (link_of (reach t d k)) refl
  where
    at_slot : (y : GroupId) → y.number ≢ id.number
        → (node_at u.groups y.number (child_index_of d k) ≡ node_at t.groups y.number
        (child_index_of d k))
        ⊎ ((link_of (node_at u.groups y.number (child_index_of d k)) ≡ Some id.number)
        × (node_at t.groups y.number (child_index_of d k) ≡ node_in t p))
    at_slot y ne = elim (same_place (Slot y (child_index_of d k)) p) [
      | inl e ↦ inr (ap (λ q. link_of (node_in u q)) e ∙ ap link_of s.link, ap (node_in t) e)
      | inr e ↦ inl (s.others (Slot y (child_index_of d k)) e (λ h. ne (some_injective h)))
    ]

    next : (reach u d k ≡ reach t d k)
        ⊎ ((link_of (reach u d k) ≡ Some id.number) × (reach t d k ≡ node_in t p))
        → (o : Option ℕ) → link_of (reach t d k) ≡ o
        → (step u.groups (reach u d k) (child_index_of d k) ≡ step t.groups (reach t d k)
        (child_index_of d k))
        ⊎ ((link_of (step u.groups (reach u d k) (child_index_of d k)) ≡ Some id.number)
        × (step t.groups (reach t d k) (child_index_of d k) ≡ node_in t p))
    next (inl e) None h =
        inl (unlinked_step u.groups _ _ (ap link_of e ∙ h) ∙ e ∙ sym (unlinked_step t.groups _ _ h))
    next (inl e) (Some y) h =
        let (g, is) = linked_id (reach t d k) y h in
        let link : link_of (reach t d k) ≡ Some g.number = h ∙ ap Some (sym is) in
        let su = step_linked u.groups _ g.number (child_index_of d k) (ap link_of e ∙ link) in
        let st = step_linked t.groups _ g.number (child_index_of d k) link in
        elim (at_slot g (not_vacant t id.number g.number _ s.vacant
        (reach_home t k l voxel d g.number link (omega arith)))) [
          | inl f ↦ inl (su ∙ f ∙ sym st)
          | inr f ↦ inr (ap link_of su ∙ f.0, st ∙ f.1)
        ]
    next (inr e) o h =
        inl (step_linked u.groups _ id.number _ e.0 ∙ s.copies _ (child_index_below d k) ∙ sym e.1
        ∙ sym (unlinked_step t.groups _ _ (ap link_of e.1 ∙ none)))

-- a split changes no voxel
pub split_values : (t u : Tree) (p : Place) (id : GroupId) (v : ℤ) → IsLinked t → IsLinked u
    → IsSplit t u p id v → link_of (node_in t p) ≡ None → SameValues (value_at t) (value_at u)
unfolding value_at
split_values t u p id v l m s none k voxel =
    elim (split_paths t u p id v l s none k voxel 16 (omega arith)) [
      | inl e ↦ sym (ap value_of e)
      | inr e ↦ (let h = reach_home u k m voxel 16 id.number e.0 (omega arith) in
          let low = (m.homes id.number _ h).1 in
          let deep = depth_block_of 16 k in
          absurd (omega arith))
    ]

-- a split keeps the tree linked
pub split_linked : (t u : Tree) (p : Place) (id : GroupId) (v : ℤ) (b : Cube) → IsLinked t
    → IsPlace t p → block_in t p ≡ Some b → b.depth ≤ 15 → link_of (node_in t p) ≡ None
    → IsSplit t u p id v → IsArena u.groups → IsLinked u
split_linked t u p id v b l ok e low none s a = record {
  arena = a;
  homes = λ x c h. elim (cases_eq x id.number) [
    | inl f ↦ (let g : b
        ≡ c = some_injective (sym e ∙ sym s.home ∙ ap (home_at u.groups) (sym f) ∙ h) in
        subst (λ d. IsBlock d × (d.depth ≤ 15)) g (place_in_map t l p b ok e, low))
    | inr f ↦ l.homes x c (sym (s.homes x f) ∙ h)
  ];
  links = links;
  reached = λ x c h k voxel inside. elim (cases_eq x id.number) [
    | inl f ↦ (let g : b
        ≡ c = some_injective (sym e ∙ sym s.home ∙ ap (home_at u.groups) (sym f) ∙ h) in
        ap (λ (d : Cube). link_of (reach u d.depth k)) (sym g)
        ∙ ap link_of
        (to_place p refl ok k voxel (subst (λ d. HoldsVoxel d k) (sym g) inside))
        ∙ ap link_of s.link ∙ ap Some (sym f))
    | inr f ↦ keep k c.depth x (l.reached x c (sym (s.homes x f) ∙ h) k voxel inside)
  ];
  leaves = λ q. elim (same_place q p) [
    | inl f ↦ absent_within u.odds (value_of (node_in u q))
        (ap (λ r. value_of (node_in u r)) f ∙ ap value_of s.link)
    | inr f ↦ elim (in_group q id.number) [
      | inl h ↦ (let (i, r) = slot_of q id h in new_leaf q i r)
      | inr h ↦ within_kept t.odds u.odds (value_of (node_in t q)) (value_of (node_in u q)) s.odds
          (ap value_of (s.others q f h)) (l.leaves q)
    ]
  ];
}
  where
    own : group_of p ≢ Some id.number
    own = live_place t p id.number ok s.vacant

    blocks : (q : Place) → group_of q ≢ Some id.number → block_in u q ≡ block_in t q
    blocks Root f = refl
    blocks (Slot y i) f =
        ap (option_map (λ b. child_of b i)) (s.homes y.number (λ g. f (ap Some g)))

    beyond : (i : ℕ) → 8 ≤ i → node_at u.groups id.number i ≡ Absent
    beyond i m = beyond_eight u.groups a id.number i m

    in_new : (q : Place) (x : ℕ) → link_of (node_in u q) ≡ Some x → group_of q ≡ Some id.number → ⊥
    in_new q x h g =
        let (i, f) = slot_of q id g in
        let here : link_of (node_at u.groups id.number i) ≡ Some x =
        ap (λ r. link_of (node_in u r)) (sym f) ∙ h in
        elim (cases_lt i 8) [
          | inl m ↦ some_not_none here (ap link_of (s.copies i m) ∙ none)
          | inr m ↦ some_not_none here (ap link_of (beyond i m))
        ]

    linked_live' : (q : Place) (x : ℕ) → link_of (node_in t q) ≡ Some x → home_at t.groups x ≡ None
        → ⊥
    linked_live' Root x h n = some_not_none (l.links Root x h) n
    linked_live' (Slot y i) x h n =
        (let (c, g) = linked_home (entry t.groups y.number) i x h in
        some_not_none (link_down t l y i x c g h) n)

    linked_new : (q : Place) (x : ℕ) → link_of (node_in t q) ≡ Some x → x ≢ id.number
    linked_new q x h f =
        linked_live' q x h (ap (home_at t.groups) f ∙ vacant_home t id.number s.vacant)

    links : (q : Place) (x : ℕ) → link_of (node_in u q) ≡ Some x → home_at u.groups x ≡ block_in u q
    links q x h = elim (same_place q p) [
      | inl f ↦ (let g : x
          ≡ id.number =
          some_injective (sym h ∙ ap (λ r. link_of (node_in u r)) f ∙ ap link_of s.link) in
          ap (home_at u.groups) g ∙ s.home ∙ sym (blocks p own) ∙ ap (block_in u) (sym f))
      | inr f ↦ elim (in_group q id.number) [
        | inl g ↦ absurd (in_new q x h g)
        | inr g ↦ (let o = s.others q f g in
            let here = l.links q x (ap link_of (sym o) ∙ h) in
            s.homes x (linked_new q x (ap link_of (sym o) ∙ h)) ∙ here ∙ sym (blocks q g))
      ]
    ]

    kept : (q : Place) (y : ℕ) → link_of (node_in t q) ≡ Some y → link_of (node_in u q) ≡ Some y
    kept q y g =
        ap link_of
        (s.others q (λ f. some_not_none g (ap (λ r. link_of (node_in t r)) f ∙ none))
        (λ f. (let (i, w) = slot_of q id f in
        some_not_none g
        (ap (λ r. link_of (node_in t r)) w
        ∙ ap link_of (vacant_node t id.number i s.vacant)))))
        ∙ g

    keep : (k : Voxel) (d x : ℕ) → link_of (reach t d k) ≡ Some x → link_of (reach u d k) ≡ Some x
    keep k d x h =
        same_links t u (λ _. Unit {0}) k (λ q y _ g. kept q y g) (λ _ _ _ _ _. tt) d x tt h

    to_place : (q : Place) → q ≡ p → IsPlace t q → (k : Voxel) → IsInMap k → HoldsVoxel b k
        → reach u b.depth k ≡ node_in u p
    to_place Root f ok' k voxel inside =
        let r : root_block ≡ b = some_injective (ap (block_in t) f ∙ e) in
        ap (λ (c : Cube). reach u c.depth k) (sym r) ∙ reach_zero u k ∙ ap (node_in u) f
    to_place (Slot y i) f ok' k voxel inside =
        let (h, is) = live_home (entry t.groups y.number) ok'.0 in
        let child : b ≡ child_of h i =
        some_injective (sym e ∙ ap (block_in t) (sym f) ∙ ap (option_map (λ b. child_of b i)) is) in
        let high : h.depth ≤ 15 = (l.homes y.number h is).1 in
        let inside' : HoldsVoxel (child_of h i) k = subst (λ c. HoldsVoxel c k) child inside in
        let up = (child_holds h i k (omega arith) ok'.1).0 inside' in
        ap (λ (c : Cube). reach u c.depth k) child
        ∙ child_reached u y.number i h k high ok'.1
        (keep k h.depth y.number (l.reached y.number h is k voxel up.0)) inside'
        ∙ ap (node_in u) f

    new_leaf : (q : Place) (i : ℕ) → q ≡ Slot id i → IsWithin u.odds (value_of (node_in u q))
    new_leaf q i r = elim (cases_lt i 8) [
      | inl m ↦ within_kept t.odds u.odds (value_of (node_in t p)) (value_of (node_in u q)) s.odds
          (ap (λ x. value_of (node_in u x)) r ∙ ap value_of (s.copies i m)) (l.leaves p)
      | inr m ↦ absent_within u.odds (value_of (node_in u q))
          (ap (λ x. value_of (node_in u x)) r ∙ ap value_of (beyond i m))
    ]

-- a group of eight like nodes goes: what a split would undo is linked
pub collapsed_linked : (t u : Tree) (p : Place) (id : GroupId) (v : ℤ) → IsLinked u
    → link_of (node_in t p) ≡ None → IsSplit t u p id v → IsArena t.groups → IsLinked t
collapsed_linked t u p id v l none s a = record {
  arena = a;
  homes = λ x c h. l.homes x c (s.homes x (kept_home x c h) ∙ h);
  links = links;
  reached = λ x c h k voxel inside. (let ne = kept_home x c h in
      same_links u t (λ y. y ≢ id.number) k stands up c.depth x ne
      (l.reached x c (s.homes x ne ∙ h) k voxel inside));
  leaves = λ q. elim (same_place q p) [
    | inl f ↦ within_kept u.odds t.odds (value_of (node_in u (Slot id 0))) (value_of (node_in t q))
        (sym s.odds)
        (ap (λ r. value_of (node_in t r)) f ∙ ap value_of (sym (s.copies 0 (omega arith))))
        (l.leaves (Slot id 0))
    | inr f ↦ elim (in_group q id.number) [
      | inl h ↦ (let (i, r) = slot_of q id h in
          absent_within t.odds (value_of (node_in t q))
          (ap (λ x. value_of (node_in t x)) r
          ∙ ap value_of (vacant_node t id.number i s.vacant)))
      | inr h ↦ within_kept u.odds t.odds (value_of (node_in u q)) (value_of (node_in t q))
          (sym s.odds) (ap value_of (sym (s.others q f h))) (l.leaves q)
    ]
  ];
}
  where
    kept_home : (x : ℕ) (c : Cube) → home_at t.groups x ≡ Some c → x ≢ id.number
    kept_home x c h = not_vacant t id.number x c s.vacant h

    -- no slot of the group links
    barren : (i x : ℕ) → link_of (node_at u.groups id.number i) ≡ Some x → ⊥
    barren i x h =
        some_not_none h (ap link_of (s.copies i (linked_index u l id.number i x h)) ∙ none)

    stands : (q : Place) (x : ℕ) → x ≢ id.number → link_of (node_in u q) ≡ Some x
        → link_of (node_in t q) ≡ Some x
    stands q x ne h = ap link_of (sym (s.others q
        (λ f. ne (some_injective (sym h ∙ ap (λ r. link_of (node_in u r)) f ∙ ap link_of s.link)))
        (λ f. (let (i, r) = slot_of q id f in
        barren i x (ap (λ r. link_of (node_in u r)) (sym r) ∙ h)))))
        ∙ h

    up : (y i x : ℕ) → x ≢ id.number → link_of (node_at u.groups y i) ≡ Some x → y ≢ id.number
    up y i x ne h f = barren i x (ap (λ n. link_of (node_at u.groups n i)) (sym f) ∙ h)

    blocks : (q : Place) → group_of q ≢ Some id.number → block_in u q ≡ block_in t q
    blocks Root f = refl
    blocks (Slot y i) f =
        ap (option_map (λ b. child_of b i)) (s.homes y.number (λ g. f (ap Some g)))

    links : (q : Place) (x : ℕ) → link_of (node_in t q) ≡ Some x → home_at t.groups x ≡ block_in t q
    links q x h =
        let ne_p : q ≢ p = λ f. some_not_none h (ap (λ r. link_of (node_in t r)) f ∙ none) in
        let ne_g : group_of q ≢ Some id.number =
        λ f. (let (i, w) = slot_of q id f in
        some_not_none h (ap (λ r. link_of (node_in t r)) w
        ∙ ap link_of (vacant_node t id.number i s.vacant))) in
        let there = ap link_of (s.others q ne_p ne_g) ∙ h in
        let ne_x : x ≢ id.number =
        λ f. ne_p (only_link u l q p id.number (there ∙ ap Some f) (ap link_of s.link)) in
        sym (s.homes x ne_x) ∙ l.links q x there ∙ blocks q ne_g
