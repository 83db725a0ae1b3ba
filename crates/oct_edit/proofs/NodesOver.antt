-- The node over a block, and those over its children.
use Rattle.std.proofs.Common.{◌≡◌, ℕ, ◌<◌, ◌≤◌, Some, sym, ◌∙◌, ap, subst, arith}
use Rattle.oct_key.specs.Block.{Cube, IsBlock, child_of, child_index_of, root_block}
use Rattle.oct_key.proofs.Blocks.{depth_child_of, child_holds}
use Rattle.oct_key.proofs.Held.{held_by_parent}
use Rattle.oct_arena.specs.declared.node.Node.{Node}
use Rattle.oct_arena.specs.Entries.{entry, IsLive}
use Rattle.oct_arena.specs.Nodes.{link_of}
use Rattle.oct_tree.specs.Tree.{Tree, IsLinked, IsOver, step, reach}
use Rattle.oct_tree.proofs.Paths.{homed_entry, reach_zero, reach_suc}
use Rattle.oct_tree.proofs.Over.{over_home}

-- from a block to its children
pub over_step : (t : Tree) (b : Cube) (n : Node) (i : ℕ) → b.depth < 16 → i < 8 → IsOver t b n
    → IsOver t (child_of b i) (step t.groups n i)
over_step t b n i low li over k held =
    ap (λ d. reach t d k) (depth_child_of b i) ∙ reach_suc t b.depth k
    ∙ ap (λ m. step t.groups m (child_index_of b.depth k))
    (over k (held_by_parent b i k low li held))
    ∙ ap (step t.groups n) ((child_holds b i k low li).0 held).1

-- the same, for a block and a node that are known to be these
pub over_next : (t : Tree) (b c : Cube) (n m : Node) (i : ℕ) → b.depth ≤ 15 → i < 8
    → c ≡ child_of b i → m ≡ step t.groups n i → IsOver t b n → IsOver t c m
over_next t b c n m i low li block node over =
    subst (IsOver t c) (sym node)
    (subst (λ a. IsOver t a (step t.groups n i)) (sym block)
    (over_step t b n i (omega (arith, low)) li over))

-- at the root
pub over_root : (t : Tree) → IsOver t root_block t.root
over_root t k held = reach_zero t k

-- the group that it links is live
pub over_live : (t : Tree) (b : Cube) (n : Node) → IsLinked t → IsBlock b → IsOver t b n → (x : ℕ)
    → link_of n ≡ Some x → IsLive t.groups x
over_live t b n l ok over x link =
    homed_entry (entry t.groups x) b (over_home t b n x l ok over link)
