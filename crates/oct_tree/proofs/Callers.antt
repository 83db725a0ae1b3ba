-- What the calls of a tree leave, for those who make one after another.
use Rattle.std.proofs.Common.{◌≡◌, ◌≢◌, ℕ, ◌<◌, ◌≤◌, ap, ◌∙◌, subst, arith, Some, None}
use Rattle.std.specs.Prelude.{Option, ℤ}
use Rattle.oct_key.specs.Block.{Cube, root_block}
use Rattle.oct_arena.specs.declared.node.GroupId.{GroupId}
use Rattle.oct_arena.specs.declared.node.Node.{Node}
use Rattle.oct_arena.specs.Entries.{IsLive}
use Rattle.oct_arena.specs.Nodes.{link_of}
use Rattle.oct_tree.specs.declared.place.Place.TheVariants.{Root, Slot}
use Rattle.oct_tree.specs.Tree.{Tree, node_in}
use Rattle.oct_tree.specs.Changes.{IsWritten, IsSplit}
use Rattle.oct_tree.proofs.Paths.{homed_entry, some_injective}

-- the whole map is above the voxels
pub root_above : (b : Cube) → ◌≡◌ {A = Option Cube} (Some root_block) (Some b) → b.depth ≤ 15
root_above b e = subst (λ (c : Cube). c.depth ≤ 15) (some_injective e) (omega arith)

-- the group under a root that was split is live
pub live_under_root : (t u : Tree) (id : GroupId) (v : ℤ) → IsSplit t u Root id v
    → IsLive u.groups id.number
live_under_root t u id v s = homed_entry _ root_block s.home

-- a write to a slot leaves the others as they were made, where the root was split
pub other_slot : (id : GroupId) (i j : ℕ) → i ≢ j → Slot id i ≢ Slot id j
other_slot id i j ne e = ne (number e)
  where
    number : Slot id i ≡ Slot id j → i ≡ j
    number e = cc

pub other_plain : (t u v : Tree) (id : GroupId) (a : ℤ) (i j : ℕ) (n : Node) → IsSplit t u Root id a
    → IsWritten u v (Slot id i) n → j < 8 → j ≢ i → link_of t.root ≡ None
    → link_of (node_in v (Slot id j)) ≡ None
other_plain t u v id a i j n s w lj ne none =
    ap link_of (w.others (Slot id j) (other_slot id j i ne)) ∙ ap link_of (s.copies j lj) ∙ none

pub ruleset callers = (root_above, live_under_root)
