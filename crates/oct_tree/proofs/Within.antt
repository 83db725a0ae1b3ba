-- A pass from below: from the children of a place's block to the block.
use Rattle.std.proofs.Common.{◌≡◌, ◌≢◌, ℕ, ◌+◌, ◌-◌, ◌<◌, ◌≤◌, refl, sym, ◌∙◌, ap, subst, arith}
use Rattle.std.proofs.Common.{inl, inr, Some, None}
use Rattle.std.specs.Prelude.{Option, ℤ, option_map}
use Rattle.std.proofs.lemmas.Bool.{cases_eq}
use Rattle.oct_key.specs.Block.{Cube, child_of, root_block, lowest_voxel, LiesIn}
use Rattle.oct_key.proofs.Blocks.{child_injective, depth_child_of, lowest_held, lowest_in_map}
use Rattle.oct_arena.specs.declared.node.GroupId.{GroupId}
use Rattle.oct_arena.specs.declared.node.Node.TheVariants.{Inner}
use Rattle.oct_arena.specs.Entries.{IsLive, entry, home_at, node_at}
use Rattle.oct_arena.proofs.Ids.{same_ids}
use Rattle.oct_tree.specs.declared.place.Place.{Place}
use Rattle.oct_tree.specs.declared.place.Place.TheVariants.{Root, Slot}
use Rattle.oct_arena.specs.Nodes.{link_of}
use Rattle.oct_tree.specs.Tree.{Tree, IsLinked, IsPlace, node_in, block_in, reach}
use Rattle.oct_tree.specs.Shape.{IsWellFormed}
use Rattle.oct_tree.specs.Changes.{IsSameOutside}
use Rattle.oct_tree.proofs.Paths.{some_injective, some_not_none, live_home, homed_entry, same_home}
use Rattle.oct_tree.proofs.Paths.{root_no_child, stays, place_reached, slot_place, slot_block}
use Rattle.oct_tree.proofs.Paths.{linked_block, place_block}
use Rattle.oct_tree.proofs.Links.{place_in_map}
use Rattle.oct_tree.proofs.Frames.{same_outside_refl, same_outside_trans, same_outside_parent}
use Rattle.oct_tree.proofs.Frames.{block_outside, block_before}
use Rattle.oct_key.proofs.Nested.{lies_in_self, lies_in_trans, child_lies_in, apart, parent_apart}
use Rattle.oct_tree.specs.Passes.{AllWithin, IsPassed}
use Rattle.oct_key.proofs.Nested.{lies_in_root, lies_in_depth, lies_in_cases, parent_lies_in}

-- how far a block is above the voxels
abbrev pub height : Option Cube → ℕ
height None = 0
height (Some b) = 16 - b.depth

-- the first n children of the place's block are done, and the place's node is as it was
pub record IsPassing (Good : Tree → Place → Type 0) (Kept : Tree → Tree → Type 0)
    (t u : Tree) (p : Place) (b : Cube) (n : ℕ) : Type 0 where
  pub formed : IsWellFormed u
  pub kept : Kept t u
  pub outside : IsSameOutside t u b
  pub place : IsPlace u p
  pub block : block_in u p ≡ Some b
  pub here : node_in u p ≡ node_in t p
  pub done : (i : ℕ) → i < n → AllWithin Good u (child_of b i)

-- the place's node, and the nodes of the group that it links, are the same in both trees
pub record IsSeen (t u : Tree) (q : Place) : Type 0 where
  pub node : node_in u q ≡ node_in t q
  pub below : (id : GroupId) (v : ℤ) → node_in t q ≡ Inner v id → (i : ℕ) → i < 8
      → node_at u.groups id.number i ≡ node_at t.groups id.number i

-- what is so at a place is said of its node and its group alone
abbrev pub IsLocal : (Tree → Place → Type 0) → Type 0
IsLocal Good = (t u : Tree) (q : Place) → IsSeen t u q → Good t q → Good u q

-- places of one block are one place
pub same_block_place : (t : Tree) → IsLinked t → (p q : Place) (b : Cube) → IsPlace t p
    → IsPlace t q → block_in t p ≡ Some b
    → block_in t q ≡ Some b → p ≡ q
same_block_place t l Root Root b ok ok' e f = refl
same_block_place t l Root (Slot y j) b ok ok' e f =
    let (c, is) = live_home (entry t.groups y.number) ok'.0 in
    absurd (root_no_child c j (some_injective (e ∙ sym f ∙ ap (option_map (λ b. child_of b j)) is)))
same_block_place t l (Slot y j) Root b ok ok' e f =
    let (c, is) = live_home (entry t.groups y.number) ok.0 in
    absurd (root_no_child c j (some_injective (f ∙ sym e ∙ ap (option_map (λ b. child_of b j)) is)))
same_block_place t l (Slot y j) (Slot z i) b ok ok' e f =
    let (c, is) = live_home (entry t.groups y.number) ok.0 in
    let (d, is') = live_home (entry t.groups z.number) ok'.0 in
    let same = child_injective c d j i ok.1 ok'.1 (some_injective
    (sym (ap (option_map (λ b. child_of b j)) is) ∙ e ∙ sym f
    ∙ ap (option_map (λ b. child_of b i)) is')) in
    let ids = same_home t l y.number z.number c is (is' ∙ ap Some (sym same.0)) in
    ap (λ n. Slot n j) (same_ids y z ids) ∙ ap (λ n. Slot z n) same.1

-- a place that has a block in another tree is a place there
pub place_by_block : (t u : Tree) (q : Place) (c : Cube) → IsPlace t q → block_in u q ≡ Some c
    → IsPlace u q
place_by_block t u Root c ok e = tt
place_by_block t u (Slot id i) c ok e = (live (home_at u.groups id.number) refl, ok.1)
  where
    live : (o : Option Cube) → home_at u.groups id.number ≡ o → IsLive u.groups id.number
    live None f = (let no : None ≡ Some c = sym (ap (option_map (λ b. child_of b i)) f) ∙ e in cc)
    live (Some h) f = homed_entry _ h f

-- a change within a block is not seen at a place with no voxel in common with it
pub seen_apart : (t u : Tree) (b : Cube) → IsLinked t → IsSameOutside t u b → (q : Place) (c : Cube)
    → block_in t q ≡ Some c
    → ((d : Cube) → LiesIn d c → LiesIn d b → ⊥) → IsSeen t u q
seen_apart t u b l s q c e none = record {
  node = s.nodes q c (none c (lies_in_self c)) e;
  below = λ id v link i li. (let home = linked_block t l q id.number c (ap link_of link) e in
      let low = (l.homes id.number c home).1 in
      s.nodes (Slot id i) (child_of c i) (none (child_of c i) (child_lies_in c i low))
      (slot_block t l q id i c (ap link_of link) e));
}

-- a child that was done stays so while another one is worked on
pub done_kept : (Good : Tree → Place → Type 0) → IsLocal Good → (t u : Tree) (b : Cube) (i j : ℕ)
    → b.depth ≤ 15 → i < 8 → j < 8 → j ≢ i
    → IsLinked t → IsLinked u → IsSameOutside t u (child_of b i)
    → AllWithin Good t (child_of b j) → AllWithin Good u (child_of b j)
done_kept Good local t u b i j low li lj ne l m s done q c ok e inside =
    let none : (d : Cube) → LiesIn d c → LiesIn d (child_of b i) → ⊥ =
    λ d f g. apart b d j i low lj li ne
    (lies_in_trans d c (child_of b j) f inside) g in
    let before = block_before t u (child_of b i) m s q c (none c (lies_in_self c)) e in
    local t u q (seen_apart t u (child_of b i) l s q c before none)
    (done q c (place_by_block u t q c ok before) before inside)

-- an Inner place's block is above the voxels
pub inner_above : (t : Tree) → IsLinked t → (p : Place) (x : ℕ) (b : Cube)
    → link_of (node_in t p) ≡ Some x → block_in t p ≡ Some b
    → b.depth ≤ 15
inner_above t l p x b link e = (l.homes x b (linked_block t l p x b link e)).1

-- one more child
pub passing_next : (Good : Tree → Place → Type 0) (Kept : Tree → Tree → Type 0) → IsLocal Good
    → ((t u w : Tree) → Kept t u → Kept u w → Kept t w)
    → (t u w : Tree) (p : Place) (x n : ℕ) (b : Cube) → IsLinked t → n < 8
    → link_of (node_in t p) ≡ Some x → IsPassing Good Kept t u p b
    n → IsPassed Good Kept u w (child_of b n) → IsPassing Good Kept t w p b (n + 1)
passing_next Good Kept local trans t u w p x n b l ln link s r =
    let m = s.formed.linked in
    let low = inner_above u m p x b (ap link_of s.here ∙ link) s.block in
    let out : LiesIn b (child_of b n) → ⊥ = parent_apart b n low ln in
    let block = block_outside u w (child_of b n) m r.outside p b out s.block in
    record {
      formed = r.formed;
      kept = trans t u w s.kept r.kept;
      outside = same_outside_trans t u w b l s.outside (same_outside_parent u w b n low r.outside);
      place = place_by_block u w p b s.place block;
      block = block;
      here = r.outside.nodes p b out s.block ∙ s.here;
      done = λ i li. elim (cases_eq i n) [
        | inl e ↦ subst (λ j. AllWithin Good w (child_of b j)) (sym e) r.good
        | inr ne ↦ done_kept Good local u w b n i low ln (omega arith) ne m r.formed.linked
            r.outside (s.done i (omega arith))
      ];
    }

-- where a place is not Inner, no group stands at or below it
pub none_below : (t : Tree) → IsLinked t → (p : Place) (b : Cube) → IsPlace t p
    → block_in t p ≡ Some b → link_of (node_in t p) ≡ None
    → (x : ℕ) (h : Cube) → home_at t.groups x ≡ Some h → LiesIn h b → ⊥
none_below t l p b ok e none x h home inside =
    let of = l.homes x h home in
    let k = lowest_voxel h in
    let v = lowest_in_map h of.0 in
    let held = inside k (lowest_held h) in
    let deep = lies_in_depth h b (place_in_map t l p b ok e).depth inside in
    let there : link_of (reach t b.depth k) ≡ None =
    ap link_of (place_reached t l p ok b e k v held) ∙ none in
    let sum : h.depth ≡ (h.depth - b.depth) + b.depth = omega arith in
    some_not_none (l.reached x h home k v (lowest_held h))
    (ap link_of (stays t k b.depth (h.depth - b.depth) h.depth sum there) ∙ there)

-- so that it is the only place within its block
pub only_place : (t : Tree) → IsLinked t → (p : Place) (b : Cube) → IsPlace t p
    → block_in t p ≡ Some b → link_of (node_in t p) ≡ None
    → (q : Place) (c : Cube) → IsPlace t q → block_in t q ≡ Some c → LiesIn c b → q ≡ p
only_place t l p b ok e none q c okq f inside = elim
    (lies_in_cases c b (place_in_map t l q c okq f).depth (place_in_map t l p b ok e).depth
    inside) [
      | inl same ↦ same_block_place t l q p b okq ok (f ∙ ap Some same) e
      | inr deep ↦ absurd (deeper q refl deep.0)
    ]
  where
    deeper : (r : Place) → q ≡ r → b.depth < c.depth → ⊥
    deeper Root g m =
        let root : root_block ≡ c = some_injective (ap (block_in t) (sym g) ∙ f) in
        let depth : ◌≡◌ {A = ℕ} 0 c.depth = ap (λ (d : Cube). d.depth) root in
        omega arith
    deeper (Slot id i) g m =
        let okr = subst (IsPlace t) g okq in
        let (h, is) = live_home (entry t.groups id.number) okr.0 in
        let child : c ≡ child_of h i =
        some_injective (sym f ∙ ap (block_in t) g ∙ ap (option_map (λ b. child_of b i)) is) in
        let low = (l.homes id.number h is).1 in
        none_below t l p b ok e none id.number h is
        (parent_lies_in h b i low (place_in_map t l p b ok e).depth
        (subst (λ (d : Cube). b.depth < d.depth) child m)
        (subst (λ d. LiesIn d b) child inside))

-- a place that is not Inner is done
pub passed_leaf : (Good : Tree → Place → Type 0) (Kept : Tree → Tree → Type 0) (t : Tree)
    (p : Place) (b : Cube)
    → Kept t t
    → IsWellFormed t → IsPlace t p → block_in t p ≡ Some b → link_of (node_in t p) ≡ None → Good t p
    → IsPassed Good Kept t t b
passed_leaf Good Kept t p b same w ok e none good = record {
  formed = w;
  kept = same;
  outside = same_outside_refl t b;
  good =
      λ q c okq f inside. subst (Good t)
      (sym (only_place t w.linked p b ok e none q c okq f inside)) good;
}

-- a change of a place that is not seen by the places of its children's blocks, and
-- leaves none within them but these
pub record IsClosed (Good : Tree → Place → Type 0) (Kept : Tree → Tree → Type 0) (t u : Tree)
    (p : Place) (b : Cube) : Type 0 where
  pub formed : IsWellFormed u
  pub kept : Kept t u
  pub outside : IsSameOutside t u b
  pub place : IsPlace u p
  pub block : block_in u p ≡ Some b
  pub here : Good u p
  pub seen : (q : Place) (c : Cube) → IsPlace u q → block_in u q ≡ Some c → q ≢ p
      → ((d : Cube) → LiesIn d c → d ≢ b)
      → (block_in t q ≡ Some c) × IsSeen t u q

-- the block is not within its children
above_children : (b c : Cube) (i : ℕ) → b.depth ≤ 15 → i < 8 → LiesIn c (child_of b i) → (d : Cube)
    → LiesIn d c → d ≢ b
above_children b c i low li inside d f e = parent_apart b i low li
    (subst (λ a. LiesIn a (child_of b i)) e (lies_in_trans d c (child_of b i) f inside))

-- all eight children are done, and then the place
pub passed_closed : (Good : Tree → Place → Type 0) (Kept : Tree → Tree → Type 0) → IsLocal Good
    → ((t u w : Tree) → Kept t u → Kept u w → Kept t w)
    → (t u w : Tree) (p : Place) (x : ℕ) (b : Cube) → IsLinked t → link_of (node_in t p) ≡ Some x
    → IsPassing Good Kept t u p b 8
    → IsClosed Good Kept u w p b → IsPassed Good Kept t w b
passed_closed Good Kept local trans t u w p x b l link s r = record {
  formed = r.formed;
  kept = trans t u w s.kept r.kept;
  outside = same_outside_trans t u w b l s.outside r.outside;
  good = λ q c ok e inside. (let of = place_in_map w r.formed.linked q c ok e in
      elim (lies_in_cases c b of.depth (omega (arith, low)) inside) [
        | inl same ↦ subst (Good w)
            (sym (same_block_place w r.formed.linked q p b ok r.place (e ∙ ap Some same) r.block))
            r.here
        | inr deep ↦ (let (i, li, inside') = deep.1 in within q c i ok e li inside')
      ]);
}
  where
    low : b.depth ≤ 15
    low = inner_above u s.formed.linked p x b (ap link_of s.here ∙ link) s.block

    within : (q : Place) (c : Cube) (i : ℕ) → IsPlace w q → block_in w q ≡ Some c → i < 8
        → LiesIn c (child_of b i) → Good w q
    within q c i ok e li inside =
        let none = above_children b c i low li inside in
        let ne : q ≢ p =
        λ f. none c (lies_in_self c) (some_injective (sym e ∙ ap (block_in w) f ∙ r.block)) in
        let seen = r.seen q c ok e ne none in
        local u w q seen.1 (s.done i li q c (place_by_block w u q c ok seen.0) seen.0 inside)

-- a place whose node stays closed as it is
pub closed_same : (Good : Tree → Place → Type 0) (Kept : Tree → Tree → Type 0) (t : Tree)
    (p : Place) (b : Cube)
    → Kept t t
    → IsWellFormed t → IsPlace t p → block_in t p ≡ Some b → Good t p → IsClosed Good Kept t t p b
closed_same Good Kept t p b same w ok e good = record {
  formed = w;
  kept = same;
  outside = same_outside_refl t b;
  place = ok;
  block = e;
  here = good;
  seen = λ q c okq f ne none. (f, record { node = refl; below = λ id v link i li. refl });
}

-- the slot of a child is a place, lower than the place that links its group
pub child_place : (Good : Tree → Place → Type 0) (Kept : Tree → Tree → Type 0) (t u : Tree)
    (p : Place) (id : GroupId) (v : ℤ) (n i : ℕ) (b : Cube)
    → node_in t p ≡ Inner v id → i < 8 → IsPassing Good Kept t u p b n → IsPlace u (Slot id i)
child_place Good Kept t u p id v n i b link li s =
    slot_place u s.formed.linked p s.place id i (ap link_of (s.here ∙ link)) li

pub child_block : (Good : Tree → Place → Type 0) (Kept : Tree → Tree → Type 0) (t u : Tree)
    (p : Place) (id : GroupId) (v : ℤ) (n i : ℕ) (b : Cube)
    → node_in t p ≡ Inner v id → IsPassing Good Kept t u p b n
    → block_in u (Slot id i) ≡ Some (child_of b i)
child_block Good Kept t u p id v n i b link s =
    slot_block u s.formed.linked p id i b (ap link_of (s.here ∙ link)) s.block

pub child_lower : (Good : Tree → Place → Type 0) (Kept : Tree → Tree → Type 0) (t u : Tree)
    (p : Place) (id : GroupId) (v : ℤ) (n i : ℕ) (b : Cube)
    → block_in t p ≡ Some b → node_in t p ≡ Inner v id → IsPassing Good Kept t u p b n
    → height (block_in u (Slot id i)) < height (block_in t p)
child_lower Good Kept t u p id v n i b e link s =
    let low = inner_above u s.formed.linked p id.number b (ap link_of (s.here ∙ link)) s.block in
    let deep = depth_child_of b i in
    let less : 16 - (child_of b i).depth < 16 - b.depth = omega arith in
    rw (child_block Good Kept t u p id v n i b link s, e) less

-- one more child, from what the call for its slot says
pub passing_child : (Good : Tree → Place → Type 0) (Kept : Tree → Tree → Type 0) → IsLocal Good
    → ((t u w : Tree) → Kept t u → Kept u w → Kept t w)
    → (t u w : Tree) (p : Place) (id : GroupId) (v : ℤ) (n : ℕ) (b : Cube) → IsLinked t → n < 8
    → node_in t p ≡ Inner v id → IsPassing
    Good Kept t u p b n
    → ((c : Cube) → block_in u (Slot id n) ≡ Some c → IsPassed Good Kept u w c)
    → IsPassing Good Kept t w p b (n + 1)
passing_child Good Kept local trans t u w p id v n b l ln link s r =
    passing_next Good Kept local trans t u w p id.number n b l ln (ap link_of link) s
    (r (child_of b n) (child_block Good Kept t u p id v n n b link s))

-- each place of a tree is within the whole map
pub within_root : (Good : Tree → Place → Type 0) (Kept : Tree → Tree → Type 0) (t u : Tree)
    → IsPassed Good Kept t u root_block
    → (q : Place) → IsPlace u q → Good u q
within_root Good Kept t u r q ok = (let (c, e) = place_block u q ok in r.good q c ok e
    (lies_in_root c (place_in_map u r.formed.linked q c ok e)))
