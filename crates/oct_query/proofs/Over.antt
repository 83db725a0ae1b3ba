-- What the node over a block answers for it.
use Rattle.std.proofs.Common.{◌≡◌, ℕ, zero, suc, ◌+◌, ◌-◌, ◌<◌, ◌≤◌, Some, None, refl, sym, ◌∙◌, ap}
use Rattle.std.proofs.Common.{arith, subst}
use Rattle.std.specs.Prelude.{ℤ, ◌≤ℤ◌}
use Rattle.std.proofs.lemmas.Int.{ints}
use Rattle.oct_key.specs.Voxel.{Voxel}
use Rattle.oct_key.specs.Values.{Values}
use Rattle.oct_key.specs.Block.{Cube, IsBlock, HoldsVoxel, child_of, child_index_of, lowest_voxel}
use Rattle.oct_key.proofs.Blocks.{child_index_below, lowest_held, child_in_map}
use Rattle.oct_odds.specs.Update.{Value}
use Rattle.oct_values.specs.Depths.{IsLargestKnown, IsLargestIn}
use Rattle.oct_key.proofs.Held.{held_by_parent, held_by_child, child_depths}
use Rattle.oct_arena.specs.declared.node.Node.{Node}
use Rattle.oct_arena.specs.declared.node.Node.TheVariants.{Absent, Leaf, Inner}
use Rattle.oct_arena.specs.Entries.{node_at}
use Rattle.oct_tree.specs.Nodes.{IsGreatest}
use Rattle.oct_arena.specs.Nodes.{stored_in}
use Rattle.oct_tree.specs.Tree.{IsOver, Tree, IsLinked, reach, value_at}
use Rattle.oct_tree.specs.Shape.{IsFresh}
use Rattle.oct_tree.proofs.Over.{over_child, over_value, over_home, over_lowest, reach_place}
use Rattle.oct_tree.proofs.Paths.{some_injective}

-- a known voxel is at most the answer of its block
at_most : (values : Values) (b : Cube) (answer : Value) (k : Voxel) (v : ℤ)
    → IsLargestIn values b answer → HoldsVoxel b k
    → values k ≡ Some v → (m : ℤ) × (answer ≡ Some m) × (v ≤ℤ m)
at_most values b None k v h held is = cc (sym (h k held) ∙ is)
at_most values b (Some m) k v h held is = (m, refl, h.most k v held is)

-- where all voxels have one value, it is the answer
pub answer_of_one : (values : Values) (b : Cube) (value : Value)
    → ((k : Voxel) → HoldsVoxel b k → values k ≡ value) → IsLargestIn values b value
answer_of_one values b None h = h
answer_of_one values b (Some m) h = record {
  there = (lowest_voxel b, lowest_held b, h (lowest_voxel b) (lowest_held b));
  most =
      λ k v held is. (let e : v ≡ m = some_injective (sym is ∙ h k held) in omega (arith, ints, e));
}

-- in a fresh tree the value that stands in the node over a block is the
-- largest known one of the block
pub answer_over : (t : Tree) → IsFresh t → (h : ℕ) (b : Cube) (n : Node) → IsBlock b
    → b.depth + h ≡ 16 → IsOver t b n
    → IsLargestIn (value_at t) b (stored_in n)
answer_over t f h b Absent ok d over =
    answer_of_one (value_at t) b None (over_value t b Absent ok.depth over refl)
answer_over t f h b (Leaf v) ok d over =
    answer_of_one (value_at t) b (Some v) (over_value t b (Leaf v) ok.depth over refl)
answer_over t f zero b (Inner v id) ok d over =
    let low =
    (f.formed.linked.homes id.number b (over_home t b (Inner v id) id.number f.formed.linked ok
    over refl)).1 in
    absurd (omega arith)
answer_over t f (suc h) b (Inner v id) ok d over =
    let low : b.depth ≤ 15 = omega arith in
    let (p, stands) = reach_place t b.depth (lowest_voxel b) in
    let greatest : IsGreatest t.groups id.number v =
    f.greatest p id v (stands ∙ over (lowest_voxel b) (lowest_held b)) in
    let child =
    λ (i : ℕ) (li : i < 8). answer_over t f h (child_of b i) (node_at t.groups id.number i)
    (child_in_map b i ok (omega arith)) (child_depths b h i d)
    (over_child t b (Inner v id) id.number i low li over refl) in
    record {
      there = (let (i, li, is) = greatest.there in
          let known : IsLargestKnown (value_at t) (child_of b i) v =
          subst (IsLargestIn (value_at t) (child_of b i)) is (child i li) in
          let (k, held, has) = known.there in
          (k, held_by_parent b i k (omega arith) li held, has));
      most = λ k value held is. (let (m, stored, le) =
          at_most (value_at t) (child_of b (child_index_of b.depth k))
          (stored_in (node_at t.groups id.number (child_index_of b.depth k))) k value
          (child (child_index_of b.depth k) (child_index_below b.depth k))
          (held_by_child b k (omega arith) held) is in
          let most =
          greatest.most (child_index_of b.depth k) m (child_index_below b.depth k) stored in
          omega (arith, ints, le, most));
    }

-- in each tree the node over a voxel has the voxel's value
pub answer_over_voxel : (t : Tree) → IsLinked t → (b : Cube) (n : Node) → IsBlock b → b.depth ≡ 16
    → IsOver t b n
    → IsLargestIn (value_at t) b (stored_in n)
answer_over_voxel t l b Absent ok d over =
    answer_of_one (value_at t) b None (over_value t b Absent ok.depth over refl)
answer_over_voxel t l b (Leaf v) ok d over =
    answer_of_one (value_at t) b (Some v) (over_value t b (Leaf v) ok.depth over refl)
answer_over_voxel t l b (Inner v id) ok d over =
    let low = (l.homes id.number b (over_home t b (Inner v id) id.number l ok over refl)).1 in
    absurd (omega arith)

-- what the node over the first voxel of a block answers for the block
pub record IsAnswer (t : Tree) (b : Cube) (answer : Value) : Type 0 where
  pub node : (k : Voxel) → HoldsVoxel b k → answer ≡ stored_in (reach t b.depth k)
  pub fresh : IsFresh t → IsLargestIn (value_at t) b answer
  pub voxel : b.depth ≡ 16 → IsLargestIn (value_at t) b answer

pub answered : (t : Tree) (b : Cube) (k : Voxel) (n : Node) (answer : Value) → IsLinked t
    → IsBlock b → k ≡ lowest_voxel b → n ≡ reach t b.depth k → answer ≡ stored_in n
    → IsAnswer t b answer
answered t b k n answer linked ok lowest is answers =
    let same : n ≡ reach t b.depth (lowest_voxel b) = is ∙ ap (reach t b.depth) lowest in
    let over : IsOver t b n = subst (IsOver t b) (sym same) (over_lowest t b ok) in
    let levels = ok.depth in
    record {
      node = λ k held. answers ∙ ap stored_in (sym (over k held));
      fresh = λ fresh. subst (IsLargestIn (value_at t) b) (sym answers)
          (answer_over t fresh (16 - b.depth) b n ok (omega (arith, levels)) over);
      voxel = λ deep. subst (IsLargestIn (value_at t) b) (sym answers)
          (answer_over_voxel t linked b n ok deep over);
    }
