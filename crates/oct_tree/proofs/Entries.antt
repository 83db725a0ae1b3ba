-- What the arena's calls do to a tree, place by place.
use Rattle.std.proofs.Common.{◌≡◌, ◌≢◌, ℕ, ◌+◌, ◌<◌, length, refl, sym, ◌∙◌, ap, arith, inl, inr}
use Rattle.std.proofs.Common.{Some, None, replicate}
use Rattle.std.specs.Prelude.{Option, ℤ, option_map, slice_set}
use Rattle.std.proofs.lemmas.Bool.{cases_eq}
use Rattle.std.proofs.lemmas.List.{length-set, get_or-replicate, length-replicate}
use Rattle.oct_key.specs.Block.{Cube, child_of}
use Rattle.oct_key.proofs.Blocks.{depth_child_of}
use Rattle.oct_arena.specs.declared.node.GroupId.{GroupId}
use Rattle.oct_arena.specs.declared.node.Node.{Node}
use Rattle.oct_arena.specs.declared.node.Node.TheVariants.{Absent, Inner}
use Rattle.oct_arena.specs.declared.node.Group.{Group}
use Rattle.oct_arena.specs.Entries.{Groups, IsArena, IsLive, entry, home_at, node_at, home_of}
use Rattle.oct_arena.specs.Entries.{node_of, with_node, spare}
use Rattle.oct_arena.proofs.Ids.{same_ids}
use Rattle.oct_arena.proofs.Entries.{live_within, entry_set_same, entry_set_other, spare_filled}
use Rattle.oct_arena.proofs.Entries.{spare_vacated, spare_changed, node_with_same, node_with_other}
use Rattle.oct_arena.proofs.Entries.{home_with, arena_changed, arena_filled}
use Rattle.oct_tree.specs.declared.place.Place.{Place}
use Rattle.oct_tree.specs.declared.place.Place.TheVariants.{Root, Slot}
use Rattle.oct_arena.specs.Nodes.{link_of}
use Rattle.oct_tree.specs.Places.{IsPlaceOf, group_of, groups_with, root_with}
use Rattle.oct_tree.specs.Tree.{Tree, IsLinked, IsPlace, node_in, block_in}
use Rattle.oct_tree.specs.Changes.{IsWritten, IsSplit}
use Rattle.oct_tree.proofs.Paths.{some_injective, linked_home, homeless_entry}
use Rattle.oct_tree.proofs.Links.{live_place}

-- the tree with another node at a place
abbrev pub tree_with : Tree → Place → Node → Tree
tree_with t p n = record {
  groups = groups_with t.groups p n;
  root = root_with t.root p n;
  res = t.res;
  odds = t.odds;
}

-- the tree with another entry under an id
abbrev pub with_entry : Tree → ℕ → Option Group → Tree
with_entry t id e = record {
  groups = slice_set t.groups id e;
  root = t.root;
  res = t.res;
  odds = t.odds;
}

pub spare_with : (gs : Groups) (p : Place) (n : Node) → IsPlaceOf gs p
    → spare (groups_with gs p n) ≡ spare gs
spare_with gs Root n ok = refl
spare_with gs (Slot id i) n ok = spare_changed gs id.number i n (live_within gs id.number ok.0)

pub arena_with : (gs : Groups) (p : Place) (n : Node) → IsArena gs → IsArena (groups_with gs p n)
arena_with gs Root n a = a
arena_with gs (Slot id i) n a = arena_changed gs id.number i n a

-- the tree with another node at a place is as a write leaves it
pub is_written : (t : Tree) (p : Place) (n : Node) → IsArena t.groups → IsPlace t p
    → IsWritten t (tree_with t p n) p n
is_written t Root n a ok = record {
  there = refl;
  others = others;
  homes = λ x. refl;
  entries = λ x _. refl;
  length = refl;
  spare = refl;
  res = refl;
  odds = refl;
}
  where
    others : (q : Place) → q ≢ Root → node_in (tree_with t Root n) q ≡ node_in t q
    others Root f = absurd (f refl)
    others (Slot id i) f = refl
is_written t (Slot id i) n a ok = record {
  there =
      ap (λ e. node_of e i) here
      ∙ node_with_same (entry t.groups id.number) i n ok.0 (a.eight id.number) ok.1;
  others = others;
  homes = λ x. elim (cases_eq x id.number) [
    | inl f ↦ ap (λ y. home_at (groups_with t.groups (Slot id i) n) y) f ∙ ap home_of here
        ∙ home_with (entry t.groups id.number) i n ∙ ap (home_at t.groups) (sym f)
    | inr f ↦ ap home_of (entry_set_other t.groups id.number x _ f)
  ];
  entries = λ x f. entry_set_other t.groups id.number x _ (λ g. f (ap Some (sym g)));
  length = length-set t.groups id.number _;
  spare = spare_with t.groups (Slot id i) n ok;
  res = refl;
  odds = refl;
}
  where
    here : entry (groups_with t.groups (Slot id i) n) id.number
        ≡ with_node (entry t.groups id.number) i n
    here = entry_set_same t.groups id.number _ (live_within t.groups id.number ok.0)

    others : (q : Place) → q ≢ Slot id i → node_in (tree_with t (Slot id i) n) q ≡ node_in t q
    others Root f = refl
    others (Slot x j) f = elim (cases_eq x.number id.number) [
      | inl g ↦ ap (λ y. node_at (groups_with t.groups (Slot id i) n) y j) g
          ∙ ap (λ e. node_of e j) here
          ∙ node_with_other (entry t.groups id.number) i j n
          (λ h. f (ap (λ m. Slot m j) (same_ids x id g) ∙ ap (λ m. Slot id m) h))
          ∙ ap (λ y. node_at t.groups y j) (sym g)
      | inr g ↦ ap (λ e. node_of e j) (entry_set_other t.groups id.number x.number _ g)
    ]

-- another entry changes no node elsewhere
entry_node : (t : Tree) (id : ℕ) (e : Option Group) (q : Place) → group_of q ≢ Some id
    → node_in (with_entry t id e) q ≡ node_in t q
entry_node t id e Root n = refl
entry_node t id e (Slot y j) n =
    ap (λ o. node_of o j) (entry_set_other t.groups id y.number e (λ f. n (ap Some f)))

-- places elsewhere stay
pub entry_place : (t : Tree) (id : ℕ) (e : Option Group) (p : Place) → group_of p ≢ Some id
    → IsPlace t p → IsPlace (with_entry t id e) p
entry_place t id e Root n ok = tt
entry_place t id e (Slot y i) n ok =
    (rw (entry_set_other t.groups id y.number e (λ f. n (ap Some f))) ok.0, ok.1)

-- the group of eight copies
abbrev pub copies_group : Cube → Node → Group
copies_group b n = record { home = b; nodes = replicate 8 n }

pub arena_copies : (gs : Groups) (id : ℕ) (b : Cube) (n : Node) → IsArena gs
    → IsArena (slice_set gs id (Some (copies_group b n)))
arena_copies gs id b n a = arena_filled gs id (copies_group b n) a (length-replicate 8 n)

-- a group of copies under the place, and a link to it at the place, are a split
pub is_split : (t u : Tree) (p : Place) (id : GroupId) (v : ℤ) (b : Cube) → IsPlace t p
    → block_in t p ≡ Some b → entry t.groups id.number ≡ None → id.number < length t.groups
    → IsWritten (with_entry t id.number (Some (copies_group b (node_in t p)))) u p (Inner v id)
    → IsSplit t u p id v
is_split t u p id v b ok e vacant l w = record {
  vacant = vacant;
  home = w.homes id.number ∙ ap home_of here ∙ sym e;
  link = w.there;
  copies =
      λ i m. w.others (Slot id i) (λ f. own (ap group_of (sym f))) ∙ ap (λ o. node_of o i) here
      ∙ get_or-replicate 8 i (node_in t p) Absent m;
  others = λ q ne ng. w.others q ne ∙ entry_node t id.number _ q ng;
  homes = λ x ne. w.homes x ∙ ap home_of (entry_set_other t.groups id.number x _ ne);
  entries = λ x ne ng. w.entries x ng ∙ entry_set_other t.groups id.number x _ ne;
  length = w.length ∙ length-set t.groups id.number _;
  spare = ap (λ m. m + 1) w.spare ∙ spare_filled t.groups id.number _ l vacant;
  res = w.res;
  odds = w.odds;
}
  where
    own : group_of p ≢ Some id.number
    own = live_place t p id.number ok vacant

    here : entry (slice_set t.groups id.number (Some (copies_group b (node_in t p)))) id.number
        ≡ Some (copies_group b (node_in t p))
    here = entry_set_same t.groups id.number _ l

-- no place links its own group
pub not_own : (t : Tree) → IsLinked t → (p : Place) (id : ℕ) → link_of (node_in t p) ≡ Some id
    → group_of p ≢ Some id
not_own t l Root id h f = cc
not_own t l (Slot y i) id h f =
    let (b, g) = linked_home (entry t.groups y.number) i id h in
    let down = l.links (Slot y i) id h ∙ ap (option_map (λ b. child_of b i)) g in
    let same : b ≡ child_of b i =
    some_injective (sym g ∙ ap (home_at t.groups) (some_injective f) ∙ down) in
    let deep : b.depth ≡ b.depth + 1 = ap (λ (c : Cube). c.depth) same ∙ depth_child_of b i in
    omega arith

-- a group of like nodes that is vacated, and its node at the place, are a split undone
pub is_collapsed : (t u : Tree) (p : Place) (id : GroupId) (v : ℤ) (n : Node) → IsLinked t
    → node_in t p ≡ Inner v id → IsLive t.groups id.number
    → ((i : ℕ) → i < 8 → node_at t.groups id.number i ≡ n)
    → IsWritten (with_entry t id.number None) u p n → IsSplit u t p id v
is_collapsed t u p id v n l link live like w = record {
  vacant = homeless_entry _ (w.homes id.number ∙ ap home_of here);
  home = l.links p id.number (ap link_of link) ∙ sym (block p own);
  link = link;
  copies = λ i lt. like i lt ∙ sym w.there;
  others = λ q ne ng. sym (w.others q ne ∙ entry_node t id.number None q ng);
  homes = λ x ne. sym (w.homes x ∙ ap home_of (entry_set_other t.groups id.number x None ne));
  entries = λ x ne ng. sym (w.entries x ng ∙ entry_set_other t.groups id.number x None ne);
  length = sym (w.length ∙ length-set t.groups id.number None);
  spare = sym (w.spare ∙ spare_vacated t.groups id.number live);
  res = sym w.res;
  odds = sym w.odds;
}
  where
    own : group_of p ≢ Some id.number
    own = not_own t l p id.number (ap link_of link)

    here : entry (slice_set t.groups id.number None) id.number ≡ None
    here = entry_set_same t.groups id.number None (live_within t.groups id.number live)

    block : (q : Place) → group_of q ≢ Some id.number → block_in u q ≡ block_in t q
    block Root f = refl
    block (Slot y i) f =
        ap (option_map (λ b. child_of b i))
        (w.homes y.number
        ∙ ap home_of
        (entry_set_other t.groups id.number y.number None (λ g. f (ap Some g))))

-- places and their blocks stay where homes do
pub block_kept : (t u : Tree) (p : Place) → ((x : ℕ) → home_at u.groups x ≡ home_at t.groups x)
    → block_in u p ≡ block_in t p
block_kept t u Root h = refl
block_kept t u (Slot id i) h = ap (option_map (λ b. child_of b i)) (h id.number)
