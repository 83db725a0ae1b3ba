-- A tree with more vacant entries is the same tree: it has the same nodes, paths and values, and is
-- as well-formed, fresh and pruned.
use Rattle.std.proofs.Common.{◌≡◌, ℕ, zero, suc, ◌++◌, length, refl, sym, ◌∙◌, ap, subst, arith}
use Rattle.std.specs.Prelude.{IsSome, option_map}
use Rattle.oct_key.specs.Voxel.{Voxel}
use Rattle.oct_key.specs.Block.{child_of, child_index_of}
use Rattle.oct_arena.specs.declared.node.Node.{Node}
use Rattle.oct_arena.specs.declared.node.Node.TheVariants.{Absent, Leaf, Inner}
use Rattle.oct_arena.specs.Entries.{Groups, IsArena, IsLive, entry, home_at, home_of, node_of}
use Rattle.oct_arena.specs.Entries.{node_at, spare, vacant}
use Rattle.oct_arena.specs.Nodes.{link_of, value_of}
use Rattle.oct_arena.proofs.Entries.{entry_grown, length_grown, spare_grown}
use Rattle.oct_tree.specs.declared.place.Place.{Place}
use Rattle.oct_tree.specs.declared.place.Place.TheVariants.{Root, Slot}
use Rattle.oct_tree.specs.Tree.{Tree, IsLinked, node_in, block_in, step, reach, value_at}
use Rattle.oct_tree.specs.Shape.{IsWellFormed, IsFresh}
use Rattle.oct_tree.specs.Changes.{IsGrown}
use Rattle.oct_tree.proofs.Links.{same_links, alike_values, within_kept}
use Rattle.oct_tree.proofs.Formed.{known_of, greatest_of}

-- the nodes of a group are the same
same_nodes : (t u : Tree) → IsGrown t u → (x i : ℕ) → node_at u.groups x i ≡ node_at t.groups x i
same_nodes t u g x i = ap (λ e. node_of e i) (g.entries x)

-- each path comes to the same nodes
pub grown_reach : (t u : Tree) → IsGrown t u → (d : ℕ) (k : Voxel) → reach u d k ≡ reach t d k
unfolding reach
grown_reach t u g zero k = g.root
grown_reach t u g (suc d) k =
    ap (λ n. step u.groups n (child_index_of d k)) (grown_reach t u g d k) ∙ same_step (reach t d k)
  where
    same_step : (n : Node)
        → step u.groups n (child_index_of d k) ≡ step t.groups n (child_index_of d k)
    same_step Absent = refl
    same_step (Leaf v) = refl
    same_step (Inner v id) = same_nodes t u g id.number (child_index_of d k)

-- more vacant entries change no node, no block and no path
pub grown_nodes : (t u : Tree) → IsGrown t u → (p : Place) → node_in u p ≡ node_in t p
grown_nodes t u g Root = g.root
grown_nodes t u g (Slot id i) = ap (λ e. node_of e i) (g.entries id.number)

pub grown_blocks : (t u : Tree) → IsGrown t u → (p : Place) → block_in u p ≡ block_in t p
grown_blocks t u g Root = refl
grown_blocks t u g (Slot id i) =
    ap (λ e. option_map (λ b. child_of b i) (home_of e)) (g.entries id.number)

pub grown_values : (t u : Tree) → IsGrown t u → (k : Voxel) → value_at u k ≡ value_at t k
grown_values t u g k =
    alike_values t u (λ q. (ap link_of (grown_nodes t u g q), ap value_of (grown_nodes t u g q))) k

pub grown_linked : (t u : Tree) → IsLinked t → IsGrown t u → IsArena u.groups → IsLinked u
grown_linked t u l g a = record {
  arena = a;
  homes = λ id b h. l.homes id b (sym (home id) ∙ h);
  links =
      λ q id h. home id ∙ l.links q id (sym (ap link_of (grown_nodes t u g q)) ∙ h)
      ∙ sym (grown_blocks t u g q);
  reached =
      λ id b h k v inside. same_links t u (λ _. Unit {0}) k
      (λ q x _ e. ap link_of (grown_nodes t u g q) ∙ e) (λ _ _ _ _ _. tt) b.depth id tt
      (l.reached id b (sym (home id) ∙ h) k v inside);
  leaves =
      λ q. within_kept t.odds u.odds (value_of (node_in t q)) (value_of (node_in u q)) g.odds
      (ap value_of (grown_nodes t u g q)) (l.leaves q);
}
  where
    home : (x : ℕ) → home_at u.groups x ≡ home_at t.groups x
    home x = ap home_of (g.entries x)

-- what an arena's reserve does to the tree
pub is_grown : (t : Tree) (gs : Groups) (k : ℕ) → gs ≡ t.groups ++ vacant k → IsGrown t (record {
  groups = gs;
  root = t.root;
  res = t.res;
  odds = t.odds;
})
is_grown t gs k e = record {
  entries = λ x. ap (λ g. entry g x) e ∙ entry_grown t.groups k x;
  length =
      (let all = ap (λ (g : Groups). length g) e ∙ length_grown t.groups k in omega (arith, all));
  spare = (let all = ap spare e ∙ spare_grown t.groups k in omega (arith, all));
  root = refl;
  res = refl;
  odds = refl;
}

-- a group was there before
grown_live : (t u : Tree) → IsGrown t u → (x : ℕ) → IsLive u.groups x → IsLive t.groups x
grown_live t u g x live = subst IsSome (g.entries x) live

pub grown_formed : (t u : Tree) → IsGrown t u → IsLinked u → IsWellFormed t → IsWellFormed u
grown_formed t u g l h = record {
  linked = l;
  known =
      λ x live. known_of t.groups u.groups x (g.entries x) (h.known x (grown_live t u g x live));
}

pub grown_fresh : (t u : Tree) → IsGrown t u → IsLinked u → IsFresh t → IsFresh u
grown_fresh t u g l h = record {
  formed = grown_formed t u g l h.formed;
  greatest =
      λ p id v link. greatest_of t.groups u.groups id.number v (g.entries id.number)
      (h.greatest p id v (sym (grown_nodes t u g p) ∙ link));
}
