use Rattle.std.proofs.Common.{◌≡◌, ◌≢◌, ℕ, ◌<◌, None, IsSome, refl, sym, ◌∙◌, ap, subst, arith}
use Rattle.std.specs.Prelude.{ℤ}
use Rattle.oct_arena.specs.declared.node.GroupId.{GroupId}
use Rattle.oct_arena.specs.declared.node.Node.{Node}
use Rattle.oct_arena.specs.declared.node.Node.TheVariants.{Inner}
use Rattle.oct_tree.specs.declared.place.Place.TheVariants.{Root, Slot}
use Rattle.oct_arena.specs.Nodes.{link_of}
use Rattle.oct_tree.specs.Tree.{Tree, node_in}
use Rattle.oct_tree.specs.Changes.{IsWritten, IsSplit}
use Rattle.oct_tree_tests.proofs.leaves.two_children.Goals as goal

-- the slots of one group are as many places
other_slot : (id : GroupId) (i j : ℕ) → i ≢ j → Slot id i ≢ Slot id j
other_slot id i j ne e = ne (number e)
  where
    number : Slot id i ≡ Slot id j → i ≡ j
    number e = cc

-- a write to a slot leaves the others, which a split of the root made
other_plain : (t u v : Tree) (id : GroupId) (a : ℤ) (i j : ℕ) (n : Node) → IsSplit t u Root id a
    → IsWritten u v (Slot id i) n → j < 8
    → j ≢ i → link_of t.root ≡ None → link_of (node_in v (Slot id j)) ≡ None
other_plain t u v id a i j n s w lj ne none =
    ap link_of (w.others (Slot id j) (other_slot id j i ne)) ∙ ap link_of (s.copies j lj) ∙ none

-- and the root
root_kept : (t u : Tree) (id : GroupId) (i : ℕ) (n : Node) → IsWritten t u (Slot id i) n
    → u.root ≡ t.root
root_kept t u id i n w = w.others Root (λ e. cc)

still_inner : (t u v w : Tree) (id : GroupId) (a : ℤ) (i j : ℕ) (m n : Node) → IsSplit t u Root id a
    → IsWritten u v (Slot id i) m
    → IsWritten v w (Slot id j) n → IsSome (link_of w.root)
still_inner t u v w id a i j m n s first second =
    let e : w.root ≡ Inner a id =
    root_kept v w id j n second ∙ root_kept u v id i m first ∙ s.link in
    subst (λ r. IsSome (link_of r)) (sym e) refl

pub set_place-requires-2-clause-before : goal.set_place-requires-2-clause-before
set_place-requires-2-clause-before c =
    let none : link_of c.reserve.new.self.root ≡ None =
    ap link_of
    (c.in_ok-reserve.ensures.kept.root ∙ ap (λ (t : Tree). t.root) c.new-tree.ensures.exact) in
    other_plain _ _ _ c.split-id.result _ _ _ _ c.split-id.ensures.split c.set_place.ensures.written
    (omega arith) (λ e. omega arith) none

pub settle-requires-clause-inner : goal.settle-requires-clause-inner
settle-requires-clause-inner c =
    still_inner _ _ _ _ c.split-id.result _ _ _ _ _ c.split-id.ensures.split
    c.set_place.ensures.written c.set_place-2.ensures.written
