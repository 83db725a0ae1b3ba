-- What a change of one block leaves as it was.
use Rattle.std.proofs.Common.{◌≡◌, ℕ, ◌+◌, ◌^◌, ◌<◌, ◌≤◌, List, length, refl, sym, ◌∙◌, ap, subst}
use Rattle.std.proofs.Common.{arith, inl, inr, Some, None}
use Rattle.std.specs.Prelude.{Option, ℤ, option_map}
use Rattle.std.proofs.lemmas.List.{ext_get_or}
use Rattle.oct_key.specs.Voxel.{Voxel, IsInMap}
use Rattle.oct_key.specs.Block.{Cube, HoldsVoxel, child_of, LiesIn}
use Rattle.oct_key.proofs.Nested.{lies_in_self, child_lies_in, parent_outside, holds_apart}
use Rattle.oct_odds.specs.Odds.{Odds}
use Rattle.oct_arena.specs.declared.node.GroupId.{GroupId}
use Rattle.oct_arena.specs.declared.node.Node.{Node}
use Rattle.oct_arena.specs.declared.node.Node.TheVariants.{Absent}
use Rattle.oct_arena.specs.declared.node.Group.{Group}
use Rattle.oct_arena.specs.Entries.{Groups, IsLive, entry, home_at, node_at, home_of, node_of}
use Rattle.oct_arena.proofs.Entries.{live_within}
use Rattle.oct_tree.specs.declared.place.Place.{Place}
use Rattle.oct_tree.specs.declared.place.Place.TheVariants.{Root, Slot}
use Rattle.oct_arena.specs.Nodes.{link_of}
use Rattle.oct_tree.specs.Tree.{Tree, IsLinked, node_in, block_in, reach}
use Rattle.oct_tree.specs.Changes.{IsWritten, IsSplit, IsSameOutside}
use Rattle.oct_tree.proofs.Paths.{some_injective, some_not_none, homed_entry, homeless_entry}
use Rattle.oct_tree.proofs.Paths.{same_path}
use Rattle.oct_tree.proofs.Links.{same_place, slot_of, vacant_home}

-- the same tree
pub same_outside_refl : (t : Tree) (b : Cube) → IsSameOutside t t b
same_outside_refl t b = record {
  kept = λ x c _ h. h;
  made = λ x c _ h. h;
  nodes = λ q c _ _. refl;
  length = refl;
  res = refl;
  odds = refl;
}

-- where homes outside a block are kept, the blocks of places outside it are
pub block_kept : (t u : Tree) (b : Cube) → IsLinked t
    → ((x : ℕ) (c : Cube) → (LiesIn c b → ⊥) → home_at t.groups x ≡ Some c
    → home_at u.groups x ≡ Some c)
    → (q : Place) (c : Cube) → (LiesIn c b → ⊥) → block_in t q ≡ Some c → block_in u q ≡ Some c
block_kept t u b l kept Root c out e = e
block_kept t u b l kept (Slot id i) c out e = find (home_at t.groups id.number) refl
  where
    find : (o : Option Cube) → home_at t.groups id.number ≡ o
        → option_map (λ b. child_of b i) (home_at u.groups id.number) ≡ Some c
    find None f = (let no : None ≡ Some c = sym (ap (option_map (λ b. child_of b i)) f) ∙ e in cc)
    find (Some h) f =
        let is : child_of h i ≡ c =
        some_injective (sym (ap (option_map (λ b. child_of b i)) f) ∙ e) in
        let low = (l.homes id.number h f).1 in
        let far = parent_outside h b i low (subst (λ d. LiesIn d b → ⊥) (sym is) out) in
        ap (option_map (λ b. child_of b i)) (kept id.number h far f) ∙ ap Some is

pub block_outside : (t u : Tree) (b : Cube) → IsLinked t → IsSameOutside t u b
    → (q : Place) (c : Cube) → (LiesIn c b → ⊥) → block_in t q ≡ Some c → block_in u q ≡ Some c
block_outside t u b l s = block_kept t u b l s.kept

-- the block of a place outside a block was the place's block before
pub block_before : (t u : Tree) (b : Cube) → IsLinked u → IsSameOutside t u b
    → (q : Place) (c : Cube) → (LiesIn c b → ⊥) → block_in u q ≡ Some c → block_in t q ≡ Some c
block_before t u b l s = block_kept u t b l s.made

-- one change after another
pub same_outside_trans : (t u w : Tree) (b : Cube) → IsLinked t → IsSameOutside t u b
    → IsSameOutside u w b → IsSameOutside t w b
same_outside_trans t u w b l s r = record {
  kept = λ x c out h. r.kept x c out (s.kept x c out h);
  made = λ x c out h. s.made x c out (r.made x c out h);
  nodes = λ q c out h. r.nodes q c out (block_outside t u b l s q c out h) ∙ s.nodes q c out h;
  length = r.length ∙ s.length;
  res = r.res ∙ s.res;
  odds = r.odds ∙ s.odds;
}

-- a change within a block is one within each block that it lies in
pub same_outside_wider : (t u : Tree) (b c : Cube) → LiesIn b c → IsSameOutside t u b
    → IsSameOutside t u c
same_outside_wider t u b c f s = record {
  kept = λ x d out h. s.kept x d (λ g. out (λ k m. f k (g k m))) h;
  made = λ x d out h. s.made x d (λ g. out (λ k m. f k (g k m))) h;
  nodes = λ q d out h. s.nodes q d (λ g. out (λ k m. f k (g k m))) h;
  length = s.length;
  res = s.res;
  odds = s.odds;
}

-- a change within a child is one within the block
pub same_outside_parent : (t u : Tree) (b : Cube) (i : ℕ) → b.depth ≤ 15
    → IsSameOutside t u (child_of b i) → IsSameOutside t u b
same_outside_parent t u b i low s =
    same_outside_wider t u (child_of b i) b (child_lies_in b i low) s

-- the path to a voxel outside the block is as it was, and so is its value
pub path_outside : (t u : Tree) (b : Cube) → IsLinked t → IsSameOutside t u b → (k : Voxel)
    → IsInMap k → (HoldsVoxel b k → ⊥) → (d : ℕ) → d ≤ 16 → reach u d k ≡ reach t d k
path_outside t u b l s k v out d m =
    same_path t u k l v (λ q c f inside. s.nodes q c (holds_apart b c k inside out) f) d m

-- a write at a place changes its block alone
pub written_same_outside : (t u : Tree) (p : Place) (n : Node) (b : Cube) → IsWritten t u p n
    → block_in t p ≡ Some b → IsSameOutside t u b
written_same_outside t u p n b w e = record {
  kept = λ x c out h. w.homes x ∙ h;
  made = λ x c out h. sym (w.homes x) ∙ h;
  nodes =
      λ q c out h. w.others q
      (λ f. out
      (subst (λ d. LiesIn d b) (some_injective (sym (ap (block_in t) f ∙ e) ∙ h))
      (lies_in_self b)));
  length = w.length;
  res = w.res;
  odds = w.odds;
}

-- a split too
pub split_same_outside : (t u : Tree) (p : Place) (id : GroupId) (v : ℤ) (b : Cube)
    → IsSplit t u p id v → block_in t p ≡ Some b → IsSameOutside t u b
split_same_outside t u p id v b s e = record {
  kept =
      λ x c out h. s.homes x
      (λ f. some_not_none h (ap (home_at t.groups) f ∙ vacant_home t id.number s.vacant))
      ∙ h;
  made =
      λ x c out h.
      sym (s.homes x
      (λ f.
      out (subst (λ d. LiesIn d b) (some_injective (sym (ap (home_at u.groups) f
      ∙ s.home ∙ e) ∙ h)) (lies_in_self b))))
      ∙ h;
  nodes =
      λ q c out h. s.others q
      (λ f. out
      (subst (λ d. LiesIn d b) (some_injective (sym (ap (block_in t) f ∙ e) ∙ h))
      (lies_in_self b)))
      (λ f. (let (i, r) = slot_of q id f in
      some_not_none h
      (ap (block_in t) r
      ∙ ap (option_map (λ b. child_of b i)) (vacant_home t id.number s.vacant))));
  length = s.length;
  res = s.res;
  odds = s.odds;
}

-- and one that is undone
pub collapsed_same_outside : (t u : Tree) (p : Place) (id : GroupId) (v : ℤ) (b : Cube) → IsLinked t
    → IsSplit u t p id v → block_in t p ≡ Some b → IsSameOutside t u b
collapsed_same_outside t u p id v b l s e = record {
  kept =
      λ x c out h.
      sym (s.homes x
      (λ f. out (subst (λ d. LiesIn d b)
      (some_injective (sym (ap (home_at t.groups) f ∙ home) ∙ h)) (lies_in_self b))))
      ∙ h;
  made =
      λ x c out h. s.homes x
      (λ f. some_not_none h (ap (home_at u.groups) f ∙ vacant_home u id.number s.vacant))
      ∙ h;
  nodes =
      λ q c out h.
      sym (s.others q
      (λ f. out (subst (λ d. LiesIn d b) (some_injective (sym (ap (block_in t) f ∙ e) ∙ h))
      (lies_in_self b)))
      (λ f. (let (i, r) = slot_of q id f in
      out
      (subst (λ d. LiesIn d b)
      (some_injective
      (sym (ap (block_in t) r
      ∙ ap (option_map (λ b. child_of b i)) home)
      ∙ h))
      (child_lies_in b i low)))));
  length = sym s.length;
  res = sym s.res;
  odds = sym s.odds;
}
  where
    home : home_at t.groups id.number ≡ Some b
    home = l.links p id.number (ap link_of s.link) ∙ e

    low : b.depth ≤ 15
    low = (l.homes id.number b home).1

-- a group is its home and its eight nodes
same_group : (g h : Group) → g.home ≡ h.home → length g.nodes ≡ 8 → length h.nodes ≡ 8
    → ((i : ℕ) → i < 8 → node_of (Some g) i ≡ node_of (Some h) i) → g ≡ h
same_group g h e lg lh nodes =
    let list : g.nodes ≡ h.nodes =
    ext_get_or Absent g.nodes h.nodes (lg ∙ sym lh) (λ i m. nodes i (omega arith)) in
    let group : Cube → List Node → Group = λ b ns. record { home = b; nodes = ns } in
    let is : group g.home g.nodes ≡ group h.home h.nodes = rw (e, list) refl in
    is

same_entry : (a e : Option Group) (c : Cube) → home_of a ≡ Some c → home_of e ≡ Some c
    → ((g : Group) → a ≡ Some g → length g.nodes ≡ 8)
    → ((g : Group) → e ≡ Some g → length g.nodes ≡ 8)
    → ((i : ℕ) → i < 8 → node_of a i ≡ node_of e i) → a ≡ e
same_entry None e c p q la le nodes = cc
same_entry (Some g) None c p q la le nodes = cc
same_entry (Some g) (Some h) c p q la le nodes =
    ap Some (same_group g h (some_injective (p ∙ sym q)) (la g refl) (le h refl) nodes)

-- the id of a number
pub id_of : (t : Tree) → IsLinked t → (x : ℕ) → IsLive t.groups x → (id : GroupId) × (id.number ≡ x)
id_of t l x live =
    let within = live_within t.groups x live in
    let few = l.arena.few in
    let small : x < 2 ^ 31 + 1023 = omega (arith, within, few) in
    (record { number = x; small = small }, refl)

-- trees of the same nodes, homes and lengths are one
pub same_tree : (t u : Tree) → IsLinked t → IsLinked u → ((q : Place) → node_in u q ≡ node_in t q)
    → ((x : ℕ) → home_at u.groups x ≡ home_at t.groups x) → length u.groups ≡ length t.groups
    → u.res ≡ t.res → u.odds ≡ t.odds → u ≡ t
same_tree t u l m nodes homes len res odds =
    let groups : u.groups ≡ t.groups =
    ext_get_or None u.groups t.groups len (λ x lx. entry_same x (home_at t.groups x) refl) in
    let tree : Groups → Node → ℕ → Odds → Tree =
    λ gs n r o. record { groups = gs; root = n; res = r; odds = o } in
    let root : u.root ≡ t.root = nodes Root in
    let is : tree u.groups u.root u.res u.odds ≡ tree t.groups t.root t.res t.odds =
    rw (groups, root, res, odds) refl in
    is
  where
    entry_same : (x : ℕ) (o : Option Cube) → home_at t.groups x ≡ o
        → entry u.groups x ≡ entry t.groups x
    entry_same x None e = homeless_entry _ (homes x ∙ e) ∙ sym (homeless_entry _ e)
    entry_same x (Some c) e =
        let (id, is) = id_of t l x (homed_entry _ c e) in
        same_entry (entry u.groups x) (entry t.groups x) c (homes x ∙ e) e (m.arena.eight x)
        (l.arena.eight x)
        (λ i li. ap (λ y. node_at u.groups y i) (sym is) ∙ nodes (Slot id i)
        ∙ ap (λ y. node_at t.groups y i) is)

-- a write of the node that stands there changes nothing
pub same_written : (t u : Tree) (p : Place) (n : Node) → IsLinked t → IsLinked u → IsWritten t u p n
    → n ≡ node_in t p → u ≡ t
same_written t u p n l m w e = same_tree t u l m nodes w.homes w.length w.res w.odds
  where
    nodes : (q : Place) → node_in u q ≡ node_in t q
    nodes q = elim (same_place q p) [
      | inl f ↦ ap (node_in u) f ∙ w.there ∙ e ∙ ap (node_in t) (sym f)
      | inr ne ↦ w.others q ne
    ]
