-- What the links of a tree mean, part by part.
use Rattle.std.proofs.Common.{◌≡◌, ℕ, zero, suc, ◌+◌, ◌≤◌, refl, sym, ◌∙◌, ap, subst, arith, Some}
use Rattle.std.proofs.Common.{None}
use Rattle.std.specs.Prelude.{Option}
use Rattle.oct_key.specs.Voxel.{Voxel, IsInMap}
use Rattle.oct_key.specs.Block.{Cube, child_index_of, lowest_voxel}
use Rattle.oct_key.proofs.Blocks.{child_index_below, lowest_held, lowest_in_map, depth_child_of}
use Rattle.oct_odds.specs.Odds.{Odds}
use Rattle.oct_odds.specs.Update.{IsWithin}
use Rattle.oct_arena.specs.declared.node.Group.{Group}
use Rattle.oct_arena.specs.declared.node.Node.TheVariants.{Absent}
use Rattle.oct_arena.specs.Entries.{entry, home_at, home_of, node_of}
use Rattle.oct_tree.specs.declared.place.Place.{Place}
use Rattle.oct_tree.specs.declared.place.Place.TheVariants.{Root, Slot}
use Rattle.oct_arena.specs.Nodes.{link_of, value_of}
use Rattle.oct_tree.specs.Tree.{Tree, IsLinked, IsPlace, node_in, reach}
use Rattle.oct_tree.specs.Shape.{IsShaped}
use Rattle.oct_tree.specs.Tidiness.{IsTrueOf}
use Rattle.oct_tree.specs.declared.tidiness.Tidiness.{Tidiness}
use Rattle.oct_tree.proofs.Paths.{some_not_none, linked_step, link_down, reach_zero, reach_live}
use Rattle.oct_tree.proofs.Paths.{same_home, only_link, live_home, stays}

-- what a path links is linked by a place
pub path_place : (t : Tree) (k : Voxel) → IsLinked t → IsInMap k → (d x : ℕ) → d ≤ 16
    → link_of (reach t d k) ≡ Some x → (p : Place) × IsPlace t p × (link_of (node_in t p) ≡ Some x)
unfolding reach
path_place t k l v zero x m h = (Root, tt, h)
path_place t k l v (suc d) x m h =
    let (y, p, q) = linked_step t.groups (reach t d k) x (child_index_of d k) h in (
      Slot y (child_index_of d k),
      (reach_live t k l v d y.number p (omega arith), child_index_below d k),
      q,
    )

-- each group is linked by a place
pub linked_place : (t : Tree) → IsLinked t → (x : ℕ) (b : Cube) → home_at t.groups x ≡ Some b
    → (p : Place) × IsPlace t p × (link_of (node_in t p) ≡ Some x)
linked_place t l x b h =
    let of = l.homes x b h in
    let v = lowest_in_map b of.0 in
    path_place t (lowest_voxel b) l v b.depth x of.0.depth
    (l.reached x b h (lowest_voxel b) v (lowest_held b))

-- where the root is not Inner, no group is live
bare : (t : Tree) → IsLinked t → link_of t.root ≡ None → (x : ℕ) (e : Option Group)
    → entry t.groups x ≡ e → e ≡ None
bare t l none x None h = refl
bare t l none x (Some g) h =
    let b = live_home (Some g) refl in
    let home : home_at t.groups x ≡ Some b.0 = ap home_of h ∙ b.1 in
    let of = l.homes x b.0 home in
    let v = lowest_in_map b.0 of.0 in
    let zeroth : link_of (reach t 0 (lowest_voxel b.0)) ≡ None =
    ap link_of (reach_zero t (lowest_voxel b.0)) ∙ none in
    let deep : b.0.depth ≡ b.0.depth + 0 = omega arith in
    absurd (some_not_none (l.reached x b.0 home (lowest_voxel b.0) v (lowest_held b.0))
    (ap link_of (stays t (lowest_voxel b.0) 0 b.0.depth b.0.depth deep zeroth) ∙ zeroth))

pub shaped : (t : Tree) → IsLinked t → IsShaped t
shaped t l = record {
  down =
      λ y id i v b h e. (let f = link_down t l y i id.number b h (ap link_of e) in
      let low = (l.homes id.number _ f).1 in
      let deep = depth_child_of b i in
      (f, omega arith));
  root = λ id v e. l.links Root id.number (ap link_of e);
  bare = λ none x. bare t l none x (entry t.groups x) refl;
  linked = λ x live. (let (b, h) = live_home (entry t.groups x) live in linked_place t l x b h);
  once = λ p q x e f. only_link t l p q x e f;
  homes = λ x b h. (l.homes x b h).0;
  distinct = λ x y b g h. same_home t l x y b g h;
  leaves = λ p v e. subst (λ n. IsWithin t.odds (value_of n)) e (l.leaves p);
}

-- a tree that knows nothing is linked with any log-odds
pub unknown_linked : (t : Tree) (odds : Odds) → IsLinked t → t.root ≡ Absent
    → IsLinked (record { groups = t.groups; root = t.root; res = t.res; odds = odds })
unknown_linked t odds l none = record {
  arena = l.arena;
  homes = l.homes;
  links = l.links;
  reached = λ id b home. absurd (some_not_none home (ap home_of (empty id)));
  leaves = leaves;
}
  where
    empty : (x : ℕ) → entry t.groups x ≡ None
    empty x = bare t l (ap link_of none) x (entry t.groups x) refl

    leaves : (p : Place) → IsWithin odds (value_of (node_in t p))
    leaves Root = subst (λ n. IsWithin odds (value_of n)) (sym none) tt
    leaves (Slot id i) =
        subst (λ e. IsWithin odds (value_of (node_of e i))) (sym (empty id.number)) tt

-- and what is known of it is still so
pub unknown_known : (t : Tree) (odds : Odds) (known : Tidiness) → IsLinked t → t.root ≡ Absent
    → IsTrueOf known t
    → IsTrueOf known (record { groups = t.groups; root = t.root; res = t.res; odds = odds })
unknown_known t odds known l none h = record {
  fresh = λ is. (let f = h.fresh is in record {
    formed = record { linked = unknown_linked t odds l none; known = f.formed.known };
    greatest = f.greatest;
  });
  pruned = h.pruned;
}
