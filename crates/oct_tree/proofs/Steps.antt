-- What each call of a tree leaves: one record for each, over the tree before and the tree after it.
use Rattle.std.proofs.Common.{◌≡◌, ◌<◌, ◌≤◌, length, refl, sym, ◌∙◌, ap, subst, inl, inr, Some}
use Rattle.std.proofs.Common.{None}
use Rattle.std.specs.Prelude.{ℤ, slice_set}
use Rattle.oct_key.specs.Block.{Cube}
use Rattle.oct_odds.specs.Update.{IsWithin}
use Rattle.oct_arena.specs.declared.node.GroupId.{GroupId}
use Rattle.oct_arena.specs.declared.node.Node.{Node}
use Rattle.oct_arena.specs.declared.node.Node.TheVariants.{Inner}
use Rattle.oct_arena.specs.Entries.{Groups, IsArena, IsLive, entry}
use Rattle.oct_arena.proofs.Entries.{arena_vacated}
use Rattle.oct_tree.specs.declared.place.Place.{Place}
use Rattle.oct_tree.specs.declared.place.Place.TheVariants.{Root, Slot}
use Rattle.oct_tree.specs.Nodes.{IsAll, IsCollapsible, IsGreatest}
use Rattle.oct_arena.specs.Nodes.{link_of, value_of}
use Rattle.oct_tree.specs.Places.{groups_with, root_with}
use Rattle.oct_tree.specs.Tree.{Tree, IsLinked, IsPlace, node_in, block_in, value_at}
use Rattle.oct_tree.specs.Changes.{SetsBlock, IsWritten, IsSplit, IsCollapsed, IsRenewed}
use Rattle.oct_tree.specs.Changes.{IsSameOutside, CanCollapse}
use Rattle.oct_key.specs.Values.{SameValues}
use Rattle.oct_tree.proofs.Paths.{some_injective, linked_live, linked_node, live_home, homed_entry}
use Rattle.oct_tree.proofs.Paths.{place_block}
use Rattle.oct_tree.proofs.Links.{same_place, live_place, written_linked, alike_values}
use Rattle.oct_tree.proofs.Links.{written_outside, place_value, split_values, split_linked}
use Rattle.oct_tree.proofs.Links.{collapsed_linked}
use Rattle.oct_tree.proofs.Entries.{tree_with, with_entry, copies_group, arena_copies, arena_with}
use Rattle.oct_tree.proofs.Entries.{is_written, entry_place, is_split, not_own, is_collapsed}
use Rattle.oct_tree.proofs.Entries.{block_kept}
use Rattle.oct_tree.proofs.Surveys.{all_collapsible}
use Rattle.oct_tree.proofs.Frames.{written_same_outside, split_same_outside, collapsed_same_outside}

-- a place is one after a write too
pub place_kept : (t u : Tree) (p q : Place) (n : Node) → IsWritten t u p n → IsPlace t q
    → IsPlace u q
place_kept t u p Root n w ok = tt
place_kept t u p (Slot id i) n w ok =
    (let (b, e) = live_home (entry t.groups id.number) ok.0 in
    (homed_entry _ b (w.homes id.number ∙ e), ok.1))

pub record IsSetStep (t u : Tree) (p : Place) (n : Node) : Type 0 where
  pub written : IsWritten t u p n
  pub values : (b : Cube) → block_in t p ≡ Some b
      → SetsBlock (value_at t) (value_at u) b (value_of n)
  pub outside : (b : Cube) → block_in t p ≡ Some b → IsSameOutside t u b
  pub linked : IsLinked u

pub set_step : (t u : Tree) (p : Place) (n : Node) → IsLinked t → IsPlace t p
    → link_of (node_in t p) ≡ None → link_of n ≡ None → IsWithin t.odds (value_of n)
    → u ≡ tree_with t p n → IsSetStep t u p n
set_step t u p n l ok before none within is =
    let w : IsWritten t u p n =
    subst (λ x. IsWritten t x p n) (sym is) (is_written t p n l.arena ok) in
    let a = subst (λ (x : Tree). IsArena x.groups) (sym is) (arena_with t.groups p n l.arena) in
    let m = written_linked t u p n l w (none ∙ sym before) a within in
    record {
      written = w;
      values = λ b e. record {
        inside =
            λ k v inside. place_value u p b m (place_kept t u p p n w ok)
            (block_kept t u p w.homes ∙ e) (ap link_of w.there ∙ none) k v inside
            ∙ ap value_of w.there;
        outside = λ k v out. written_outside t u p n b l w e k v out;
      };
      outside = λ b e. written_same_outside t u p n b w e;
      linked = m;
    }

pub record IsSplitStep (t u : Tree) (p : Place) (id : GroupId) (v : ℤ) : Type 0 where
  pub split : IsSplit t u p id v
  pub values : SameValues (value_at t) (value_at u)
  pub outside : (b : Cube) → block_in t p ≡ Some b → IsSameOutside t u b
  pub linked : IsLinked u

-- the tree that a split makes
abbrev pub split_tree : Tree → Place → GroupId → ℤ → Cube → Tree
split_tree t p id v b =
    tree_with (with_entry t id.number (Some (copies_group b (node_in t p)))) p (Inner v id)

pub split_step : (t u : Tree) (p : Place) (id : GroupId) (v : ℤ) (b : Cube) → IsLinked t
    → IsPlace t p
    → block_in t p ≡ Some b → b.depth ≤ 15 → link_of (node_in t p) ≡ None
    → entry t.groups id.number ≡ None → id.number < length t.groups → u ≡ split_tree t p id v b
    → IsSplitStep t u p id v
split_step t u p id v b l ok e low none vacant within is =
    let mid = with_entry t id.number (Some (copies_group b (node_in t p))) in
    let a = arena_copies t.groups id.number b (node_in t p) l.arena in
    let ok' =
    entry_place t id.number (Some (copies_group b (node_in t p))) p
    (live_place t p id.number ok vacant) ok in
    let w : IsWritten mid u p (Inner v id) =
    subst (λ x. IsWritten mid x p (Inner v id)) (sym is) (is_written mid p (Inner v id) a ok') in
    let s = is_split t u p id v b ok e vacant within w in
    let a' =
    subst (λ (x : Tree). IsArena x.groups) (sym is) (arena_with mid.groups p (Inner v id) a) in
    let m = split_linked t u p id v b l ok e low none s a' in
    record {
      split = s;
      values = split_values t u p id v l m s none;
      outside = λ c f. split_same_outside t u p id v c s f;
      linked = m;
    }

pub record IsCollapseStep (t u : Tree) (p : Place) : Type 0 where
  pub collapsed : IsCollapsed t u p
  pub values : SameValues (value_at t) (value_at u)
  pub outside : (b : Cube) → block_in t p ≡ Some b → IsSameOutside t u b
  pub linked : IsLinked u

inner_both : (v w : ℤ) (a b : GroupId) → Inner v a ≡ Inner w b → (v ≡ w) × (a ≡ b)
inner_both v w a b h = (cc, cc)

-- the tree that a collapse makes
abbrev pub collapsed_tree : Tree → Place → GroupId → Node → Tree
collapsed_tree t p id n = tree_with (with_entry t id.number None) p n

-- the place stays a place where the group that it links is vacated
pub place_beside : (t : Tree) → IsLinked t → (p : Place) (id : GroupId) (v : ℤ) → IsPlace t p
    → node_in t p ≡ Inner v id → IsPlace (with_entry t id.number None) p
place_beside t l p id v ok link =
    entry_place t id.number None p (not_own t l p id.number (ap link_of link)) ok

pub collapse_step : (t u : Tree) (p : Place) (id : GroupId) (v : ℤ) (n : Node) → IsLinked t
    → IsPlace t p → node_in t p ≡ Inner v id → link_of n ≡ None → IsAll t.groups id.number n
    → u ≡ collapsed_tree t p id n → IsCollapseStep t u p
collapse_step t u p id v n l ok link none all is =
    let live = linked_live t l p ok id.number (ap link_of link) in
    let mid = with_entry t id.number None in
    let a = arena_vacated t.groups id.number l.arena in
    let ok' = place_beside t l p id v ok link in
    let w : IsWritten mid u p n =
    subst (λ x. IsWritten mid x p n) (sym is) (is_written mid p n a ok') in
    let s = is_collapsed t u p id v n l link live all w in
    let there : link_of (node_in u p) ≡ None = ap link_of w.there ∙ none in
    let a' = subst (λ (x : Tree). IsArena x.groups) (sym is) (arena_with mid.groups p n a) in
    let m = collapsed_linked u t p id v l there s a' in
    record {
      collapsed =
          λ b x h. (let same = inner_both v x id b (sym link ∙ h) in
          subst (λ i. IsSplit u t p i x) same.1 (subst (λ y. IsSplit u t p id y) same.0 s));
      values = λ k voxel. sym (split_values u t p id v m l s there k voxel);
      outside = λ b e. collapsed_same_outside t u p id v b l s e;
      linked = m;
    }

pub record IsRenewStep (t u : Tree) (p : Place) : Type 0 where
  pub renewed : IsRenewed t u p
  pub values : SameValues (value_at t) (value_at u)
  pub outside : (b : Cube) → block_in t p ≡ Some b → IsSameOutside t u b
  pub linked : IsLinked u

pub renew_step : (t u : Tree) (p : Place) (id : GroupId) (v m : ℤ) → IsLinked t → IsPlace t p
    → node_in t p ≡ Inner v id → IsGreatest t.groups id.number m → u ≡ tree_with t p (Inner m id)
    → IsRenewStep t u p
renew_step t u p id v m l ok link greatest is =
    let w : IsWritten t u p (Inner m id) =
    subst (λ x. IsWritten t x p (Inner m id)) (sym is) (is_written t p (Inner m id) l.arena ok) in
    let a =
    subst (λ (x : Tree). IsArena x.groups) (sym is) (arena_with t.groups p (Inner m id) l.arena) in
    record {
      renewed =
          λ b x h. (let same = inner_both v x id b (sym link ∙ h) in (
            m,
            subst (λ (i : GroupId). IsGreatest t.groups i.number m) same.1 greatest,
            subst
                (λ (i : GroupId). IsWritten t u p (Inner m i)) same.1 w,
          ));
      values = λ k _. sym (alike_values t u (λ q. elim (same_place q p) [
        | inl e ↦ (
          ap (λ r. link_of (node_in u r)) e ∙ ap link_of w.there ∙ sym (ap link_of link)
              ∙ ap (λ r. link_of (node_in t r)) (sym e),
          ap (λ r. value_of (node_in u r)) e ∙ ap value_of w.there ∙ sym (ap value_of link)
              ∙ ap (λ r. value_of (node_in t r)) (sym e),
        )
        | inr e ↦ (ap link_of (w.others q e), ap value_of (w.others q e))
      ]) k);
      outside = λ b e. written_same_outside t u p (Inner m id) b w e;
      linked = written_linked t u p (Inner m id) l w (sym (ap link_of link)) a tt;
    }

-- The same as the calls of the code need them: t is the tree by its fields and s as its callers see
-- it, and the list and the root are what
-- the call leaves.
pub set_call : (t s : Tree) (p : Place) (n : Node) (gs : Groups) (root : Node) → t ≡ s → IsLinked t
    → IsPlace s p → link_of (node_in s p) ≡ None → link_of n ≡ None → IsWithin s.odds (value_of n)
    → gs ≡ groups_with t.groups p n → root ≡ root_with t.root p n
    → IsSetStep s (record { groups = gs; root = root; res = t.res; odds = t.odds }) p n
set_call t s p n gs root e l ok before none within f g =
    let u : Tree = record { groups = gs; root = root; res = t.res; odds = t.odds } in
    let is : ◌≡◌ {A = Tree} (record { groups = gs; root = root; res = t.res; odds = t.odds })
    (tree_with t p n) =
    rw (f, g) refl in
    set_step s u p n (subst IsLinked e l) ok before none within (is ∙ ap (λ x. tree_with x p n) e)

pub split_call : (t s : Tree) (p : Place) (id : GroupId) (v : ℤ) (gs : Groups) (root : Node)
    → t ≡ s
    → IsLinked t → IsPlace s p → link_of (node_in s p) ≡ None
    → ((b : Cube) → block_in s p ≡ Some b → b.depth ≤ 15) → entry t.groups id.number ≡ None
    → id.number < length t.groups
    → ((b : Cube) → block_in t p ≡ Some b → gs ≡ groups_with (slice_set t.groups id.number
    (Some (copies_group b (node_in t p)))) p (Inner v id))
    → root ≡ root_with t.root p (Inner v id)
    → IsSplitStep s (record { groups = gs; root = root; res = t.res; odds = t.odds }) p id v
split_call t s p id v gs root e l ok none low vacant within f g =
    let u : Tree = record { groups = gs; root = root; res = t.res; odds = t.odds } in
    let (b, block) = place_block s p ok in
    let is : ◌≡◌ {A = Tree} (record { groups = gs; root = root; res = t.res; odds = t.odds })
    (split_tree t p id v b) =
    rw (f b (subst (λ x. block_in x p ≡ Some b) (sym e) block), g) refl in
    split_step s u p id v b (subst IsLinked e l) ok block (low b block) none
    (subst (λ (x : Tree). entry x.groups id.number ≡ None) e vacant)
    (subst (λ (x : Tree). id.number < length x.groups) e within)
    (is ∙ ap (λ x. split_tree x p id v b) e)

pub collapse_call : (t s : Tree) (p : Place) (id : GroupId) (v : ℤ) (n : Node) (gs : Groups)
    (root : Node)
    → t ≡ s → IsLinked t → IsPlace s p → node_in t p ≡ Inner v id → link_of n ≡ None
    → IsAll t.groups id.number n
    → gs ≡ groups_with (slice_set t.groups id.number None) p n → root ≡ root_with t.root p n
    → IsCollapseStep s (record { groups = gs; root = root; res = t.res; odds = t.odds }) p
collapse_call t s p id v n gs root e l ok link none all f g =
    let u : Tree = record { groups = gs; root = root; res = t.res; odds = t.odds } in
    let is : ◌≡◌ {A = Tree} (record { groups = gs; root = root; res = t.res; odds = t.odds })
    (collapsed_tree t p id n) =
    rw (f, g) refl in
    subst (λ x. IsCollapseStep x u p) e
    (collapse_step t u p id v n l (subst (λ x. IsPlace x p) (sym e) ok) link none all is)

pub renew_call : (t s : Tree) (p : Place) (id : GroupId) (v m : ℤ) (gs : Groups) (root : Node)
    → t ≡ s → IsLinked t → IsPlace s p → node_in t p ≡ Inner v id → IsGreatest t.groups id.number m
    → gs ≡ groups_with t.groups p (Inner m id) → root ≡ root_with t.root p (Inner m id)
    → IsRenewStep s (record { groups = gs; root = root; res = t.res; odds = t.odds }) p
renew_call t s p id v m gs root e l ok link greatest f g =
    let u : Tree = record { groups = gs; root = root; res = t.res; odds = t.odds } in
    let is : ◌≡◌ {A = Tree} (record { groups = gs; root = root; res = t.res; odds = t.odds })
    (tree_with t p (Inner m id)) =
    rw (f, g) refl in
    subst (λ x. IsRenewStep x u p) e
    (renew_step t u p id v m l (subst (λ x. IsPlace x p) (sym e) ok) link greatest is)

-- the group that the place links is live
pub live_call : (t s : Tree) (p : Place) (id : GroupId) (v : ℤ) → t ≡ s → IsLinked t → IsPlace s p
    → node_in t p ≡ Inner v id → IsLive t.groups id.number
live_call t s p id v e l ok link =
    linked_live t l p (subst (λ x. IsPlace x p) (sym e) ok) id.number (ap link_of link)

-- the place that links a group is Inner
pub linked_at : (t s : Tree) (p : Place) (id : GroupId) → t ≡ s
    → link_of (node_in s p) ≡ Some id.number → (v : ℤ) × (node_in t p ≡ Inner v id)
linked_at t s p id e link =
    linked_node (node_in t p) id (subst (λ x. link_of (node_in x p) ≡ Some id.number) (sym e) link)

-- the place can be collapsed where its group's nodes are one node that is not Inner
pub can_collapse : (t s : Tree) (p : Place) (id : GroupId) (v : ℤ) (n : Node) → t ≡ s
    → node_in t p ≡ Inner v id → link_of n ≡ None → IsAll t.groups id.number n → CanCollapse s p
can_collapse t s p id v n e link none all =
    subst (λ x. CanCollapse x p) e
    (id.number, ap link_of link, all_collapsible t.groups id.number n none all)

-- and nowhere else
pub cannot_collapse : (t s : Tree) (p : Place) (id : GroupId) (v : ℤ) → t ≡ s
    → node_in t p ≡ Inner v id → (IsCollapsible t.groups id.number → ⊥) → CanCollapse s p → ⊥
cannot_collapse t s p id v e link none can =
    let (x, f, c) = subst (λ x. CanCollapse x p) (sym e) can in
    none (subst (IsCollapsible t.groups) (some_injective (sym f ∙ ap link_of link)) c)
