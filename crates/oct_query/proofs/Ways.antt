-- The way to a voxel, as the way to another one leads to it.
use Rattle.std.proofs.Common.{◌≡◌, ℕ, zero, suc, ◌+◌, ◌-◌, ◌<◌, ◌≤◌, List, ◌∷◌, inl, inr, ◌∙◌, ap}
use Rattle.std.proofs.Common.{sym, arith}
use Rattle.std.specs.Prelude.{slice_index_or, slice_set, length}
use Rattle.oct_key.specs.Voxel.{Voxel}
use Rattle.oct_key.specs.Block.{block_of, child_index_of}
use Rattle.oct_key.proofs.Blocks.{block_step, in_child, child_index_below}
use Rattle.oct_arena.specs.declared.node.Node.{Node}
use Rattle.oct_tree.specs.Tree.{Tree, IsLinked, reach, step}
use Rattle.oct_tree.proofs.Over.{same_reach}
use Rattle.oct_tree.proofs.Paths.{reach_suc}
use Rattle.std.proofs.lemmas.Bool.{cases_eq}
use Rattle.std.proofs.lemmas.List.{get_or-set_same, get_or-set_other}
use Rattle.oct_query.specs.declared.path.Path.{Path}
use Rattle.oct_query.specs.Paths.{IsPathOf}

-- voxels of one block are so of the blocks above it
same_block_up : (d : ℕ) (a b : Voxel) → d < 16 → block_of (d + 1) a ≡ block_of (d + 1) b
    → block_of d a ≡ block_of d b
same_block_up d a b l e =
    (in_child d (child_index_of d b) (block_of d b) a l (child_index_below d b)
    (e ∙ block_step d b l)).0

pub same_block_above : (n d j : ℕ) (a b : Voxel) → j + n ≡ d → d ≤ 16 → block_of d a ≡ block_of d b
    → block_of j a ≡ block_of j b
same_block_above zero d j a b e l same =
    ap (λ i. block_of i a) level ∙ same ∙ ap (λ i. block_of i b) (sym level)
  where
    level : j ≡ d
    level = omega (arith, e)
same_block_above (suc n) d j a b e l same =
    same_block_up j a b (omega (arith, e, l))
    (same_block_above n d (j + 1) a b (omega (arith, e)) l same)

-- the nodes of a path that are shared with the way to another voxel
pub path_shared : (t : Tree) (path : Path) (k : Voxel) (from : ℕ) → IsPathOf t path
    → from ≤ path.depth
    → block_of from path.key ≡ block_of from k → (j : ℕ) (d : Node) → j ≤ from
    → slice_index_or path.nodes j d ≡ reach t j k
path_shared t path k from is few same j d l =
    let deep = is.few in
    is.nodes j d (omega (arith, l, few))
    ∙ same_reach t j path.key k (omega (arith, l, few, deep))
    (same_block_above (from - j) from j path.key k (omega (arith, l)) (omega (arith, few, deep))
    same)

-- the root is the path to every voxel, no further than itself
pub path_start : (t : Tree) (n : Node) (ns : List Node) → IsLinked t → n ≡ t.root
    → IsPathOf t (record { nodes = n ∷ ns; key = record { x = 0; y = 0; z = 0 }; depth = 0 })
unfolding reach
path_start t n ns l e = record {
  linked = l;
  few = omega arith;
  in_map = record { x = omega arith; y = omega arith; z = omega arith };
  nodes = λ j d few. at j d few;
}
  where
    at : (j : ℕ) (d : Node) → j ≤ 0
        → slice_index_or (n ∷ ns) j d ≡ reach t j (record { x = 0; y = 0; z = 0 })
    at zero d few = e
    at (suc j) d few = absurd (omega (arith, few))

-- one node more
pub path_step : (t : Tree) (ns : List Node) (k : Voxel) (level : ℕ) (n : Node)
    → level + 1 < length ns
    → ((j : ℕ) (d : Node) → j ≤ level → slice_index_or ns j d ≡ reach t j k)
    → n ≡ step t.groups (reach t level k) (child_index_of level k)
    → (j : ℕ) (d : Node) → j ≤ level + 1
    → slice_index_or (slice_set ns (level + 1) n) j d ≡ reach t j k
path_step t ns k level n room before e j d few = elim (cases_eq j (level + 1)) [
  | inl same ↦ ap (λ i. slice_index_or (slice_set ns (level + 1) n) i d) same
      ∙ get_or-set_same ns (level + 1) n d room ∙ e
      ∙ sym (reach_suc t level k) ∙ ap (λ i. reach t i k) (same_back same)
  | inr other ↦ get_or-set_other ns (level + 1) j n d other ∙ before j d (omega (arith, few, other))
]
  where
    same_back : j ≡ level + 1 → level + 1 ≡ j
    same_back s = omega (arith, s)
