-- The nodes that the values of a tree need, and those that aren't absent.
use Rattle.std.proofs.Common.{◌≡◌, ℕ, zero, suc, ◌+◌, ◌-◌, ◌<◌, ◌≤◌, Bool, true, false, cond, Some}
use Rattle.std.proofs.Common.{None, IsSome, inl, inr, refl, sym, ◌∙◌, ap, subst, arith}
use Rattle.std.specs.Prelude.{ℤ, Option, sum_by}
use Rattle.std.proofs.lemmas.Bool.{false≢true}
use Rattle.oct_key.specs.Voxel.{Voxel, IsInMap}
use Rattle.oct_key.specs.Values.{Values}
use Rattle.oct_key.specs.Block.{Cube, IsBlock, child_of, root_block, lowest_voxel}
use Rattle.oct_key.proofs.Blocks.{depth_child_of, lowest_held, child_in_map, root_holds}
use Rattle.oct_key.proofs.Blocks.{root_in_map}
use Rattle.oct_values.specs.Blocks.{child_numbers, blocks_above_voxels}
use Rattle.oct_values.specs.Counts.{IsKnownIn, is_uniform, is_known_in, known_children}
use Rattle.oct_values.specs.Counts.{needed_nodes, node_count}
use Rattle.oct_values.proofs.Eights.{all_eight}
use Rattle.oct_values.proofs.Sums.{All-follows, sum_by-same, sum_by-none, sum_by-each_le}
use Rattle.oct_values.proofs.Sums.{count_by-same}
use Rattle.oct_key.proofs.Held.{held_in_map, child_depths}
use Rattle.oct_values.proofs.Listed.{all_above_voxels}
use Rattle.oct_values.proofs.Children.{known_above}
use Rattle.oct_values.proofs.Uniform.{known_exactly, uniform_of, same_node_count}
use Rattle.oct_arena.specs.declared.node.Node.{Node}
use Rattle.oct_arena.specs.declared.node.Node.TheVariants.{Absent, Leaf, Inner}
use Rattle.oct_arena.specs.Entries.{entry, home_at, node_at}
use Rattle.oct_arena.specs.Nodes.{link_of, value_of}
use Rattle.oct_tree.specs.Tree.{IsOver, Tree, IsLinked, value_at}
use Rattle.oct_tree.specs.Shape.{IsWellFormed, IsPruned}
use Rattle.oct_tree.proofs.Paths.{homed_entry, reach_zero}
use Rattle.oct_query.specs.Nodes.{is_present, present_nodes, nodes_of}
use Rattle.oct_query.proofs.Homes.{at_home, no_home, by_homes}
use Rattle.oct_tree.proofs.Over.{over_value, over_home, slot_value, slot_home}
use Rattle.oct_query.proofs.Needed.{home_or_uniform, sum_at_home, home_varied}

-- a value that is there isn't none
known_value : (o : Option ℤ) → IsSome o → o ≡ None → ⊥
known_value None h e = cc
known_value (Some v) h e = cc

-- where a child holds a known voxel, its node isn't absent
known_present : (t : Tree) (b : Cube) (x i : ℕ) → IsLinked t → home_at t.groups x ≡ Some b → i < 8
    → is_known_in (value_at t) (child_of b i) ≡ true → is_present (node_at t.groups x i) ≡ true
known_present t b x i l home li known = by_node (node_at t.groups x i) refl
  where
    by_node : (n : Node) → node_at t.groups x i ≡ n → is_present n ≡ true
    by_node Absent e =
        (let (ok, low) = l.homes x b home in
        let (k, held, some) =
        (known_exactly (value_at t) (child_of b i) (child_in_map b i ok (omega arith))).0 known in
        absurd (known_value (value_at t k) some (slot_value t b x i l home li (ap link_of e) k held
        ∙ ap value_of e)))
    by_node (Leaf v) e = refl
    by_node (Inner v id) e = refl

-- a leaf is known
leaf_known : (t : Tree) (b : Cube) (x i : ℕ) (v : ℤ) → IsLinked t → home_at t.groups x ≡ Some b
    → i < 8 → node_at t.groups x i ≡ Leaf v
    → IsKnownIn (value_at t) (child_of b i)
leaf_known t b x i v l home li e =
    let k : Voxel = lowest_voxel (child_of b i) in
    let is : value_at t (lowest_voxel (child_of b i)) ≡ Some v =
    slot_value t b x i l home li (ap link_of e) (lowest_voxel (child_of b i))
    (lowest_held (child_of b i))
    ∙ ap value_of e in
    (lowest_voxel (child_of b i), lowest_held (child_of b i), subst IsSome (sym is) refl)

-- by its node a child of a group's home is known, where what groups below hold is
child_known : (t : Tree) (b : Cube) (x i : ℕ) → IsLinked t → home_at t.groups x ≡ Some b → i < 8
    → (n : Node) → node_at t.groups x i ≡ n
    → (n ≡ Absent → ⊥)
    → ((y : ℕ) → home_at t.groups y ≡ Some (child_of b i) → IsKnownIn (value_at t) (child_of b i))
    → IsKnownIn (value_at t) (child_of b i)
child_known t b x i l home li Absent e there below = absurd (there refl)
child_known t b x i l home li (Leaf v) e there below = leaf_known t b x i v l home li e
child_known t b x i l home li (Inner v id) e there below =
    below id.number (slot_home t b x id.number i l home (ap link_of e))

-- in a well-formed tree the home of a group holds a known voxel
home_known_at : (t : Tree) → IsWellFormed t → (h : ℕ) (b : Cube) (x : ℕ) → b.depth + suc h ≡ 16
    → home_at t.groups x ≡ Some b
    → IsKnownIn (value_at t) b
home_known_at t w zero b x d home =
    let (i, li, there) = w.known x (homed_entry _ b home) in
    known_above (value_at t) b i (w.linked.homes x b home).1 li
    (child_known t b x i w.linked home li (node_at t.groups x i) refl there (λ y below.
    (let low = (w.linked.homes y (child_of b i) below).1 in
    let deep = depth_child_of b i in
    absurd (omega arith))))
home_known_at t w (suc h) b x d home =
    let (i, li, there) = w.known x (homed_entry _ b home) in
    known_above (value_at t) b i (w.linked.homes x b home).1 li
    (child_known t b x i w.linked home li (node_at t.groups x i) refl there
    (λ y below. home_known_at t w h (child_of b i) y (child_depths b (suc h) i d) below))

home_known : (t : Tree) (b : Cube) (x : ℕ) → IsWellFormed t → home_at t.groups x ≡ Some b
    → IsKnownIn (value_at t) b
home_known t b x w home =
    home_known_at t w (15 - b.depth) b x (let low = (w.linked.homes x b home).1 in omega arith) home

-- where its node isn't absent, a child holds a known voxel
present_known : (t : Tree) (b : Cube) (x i : ℕ) → IsWellFormed t → home_at t.groups x ≡ Some b
    → i < 8
    → is_present (node_at t.groups x i) ≡ true → is_known_in (value_at t) (child_of b i) ≡ true
present_known t b x i w home li present =
    let (ok, low) = w.linked.homes x b home in
    (known_exactly (value_at t) (child_of b i) (child_in_map b i ok (omega arith))).1
    (child_known t b x i w.linked home li (node_at t.groups x i) refl
    (λ e. false≢true (ap is_present (sym e) ∙ present))
    (λ y below. home_known t (child_of b i) y w below))

-- two tests that follow from one another answer alike
same_test : (a b : Bool) → (a ≡ true → b ≡ true) → (b ≡ true → a ≡ true) → a ≡ b
same_test true true f g = refl
same_test true false f g = sym (f refl)
same_test false true f g = g refl
same_test false false f g = refl

weaker_test : (a b : Bool) → (a ≡ true → b ≡ true) → cond {A = ℕ} a 1 0 ≤ cond b 1 0
weaker_test true b f = let e : b ≡ true = f refl in rw e (omega arith)
weaker_test false b f = omega arith

-- how many nodes below it a block needs
abbrev needs_nodes : Tree → Cube → ℕ
needs_nodes t b = needed_nodes (value_at t) b

uniform_has_none : (uniform : Bool) (n : ℕ) → uniform ≡ true → cond uniform 0 n ≡ 0
uniform_has_none true n e = refl
uniform_has_none false n e = absurd (false≢true e)

varied_has_all : (uniform : Bool) (n : ℕ) → (uniform ≡ true → ⊥) → cond uniform 0 n ≡ n
varied_has_all true n e = absurd (e refl)
varied_has_all false n e = refl

at_most_all : (uniform : Bool) (n : ℕ) → cond uniform 0 n ≤ n
at_most_all true n = omega arith
at_most_all false n = omega arith

-- the children of a group's home that are known, and its nodes that aren't absent
children_le : (t : Tree) (b : Cube) (x : ℕ) → IsLinked t → home_at t.groups x ≡ Some b
    → known_children (value_at t) b ≤ present_nodes (entry t.groups x)
children_le t b x l home =
    sum_by-each_le (λ i. cond (is_known_in (value_at t) (child_of b i)) 1 0)
    (λ i. cond (is_present (node_at t.groups x i)) 1 0) child_numbers
    (all_eight
    (λ i. cond {A = ℕ} (is_known_in (value_at t) (child_of b i)) 1 0
    ≤ cond (is_present (node_at t.groups x i)) 1 0)
    (λ i li. weaker_test _ _ (known_present t b x i l home li)))

children_exact : (t : Tree) (b : Cube) (x : ℕ) → IsWellFormed t → home_at t.groups x ≡ Some b
    → known_children (value_at t) b ≡ present_nodes (entry t.groups x)
children_exact t b x w home =
    count_by-same (λ i. is_known_in (value_at t) (child_of b i))
    (λ i. is_present (node_at t.groups x i)) child_numbers
    (all_eight (λ i. is_known_in (value_at t) (child_of b i) ≡ is_present (node_at t.groups x i))
    (λ i li. same_test _ _ (known_present t b x i w.linked home li)
    (present_known t b x i w home li)))

-- block by block, a tree has the nodes that its values need
nodes_le : (t : Tree) (b : Cube) → IsLinked t → IsBlock b
    → needs_nodes t b ≤ at_home present_nodes t.groups b
nodes_le t b l ok = elim (home_or_uniform t b l ok) [
  | inl (none, uniform) ↦ (let zero_needed = uniform_has_none (is_uniform (value_at t) b)
      (known_children (value_at t) b) uniform in omega (arith, zero_needed))
  | inr (x, home) ↦ (let has = sum_at_home t present_nodes b x l home in
      let children = children_le t b x l home in
      let most = at_most_all (is_uniform (value_at t) b) (known_children (value_at t) b) in
      omega (arith, has, children, most))
]

-- and no more, where it is well-formed and pruned
nodes_same : (t : Tree) (b : Cube) → IsWellFormed t → IsPruned t → IsBlock b
    → needs_nodes t b ≡ at_home present_nodes t.groups b
nodes_same t b w pruned ok = elim (home_or_uniform t b w.linked ok) [
  | inl (none, uniform) ↦ uniform_has_none (is_uniform (value_at t) b)
      (known_children (value_at t) b) uniform
      ∙ sym (no_home present_nodes b t.groups none)
  | inr (x, home) ↦ varied_has_all (is_uniform (value_at t) b) (known_children (value_at t) b)
      (home_varied t b x w.linked pruned home)
      ∙ children_exact t b x w home ∙ sym (sum_at_home t present_nodes b x w.linked home)
]

nodes_by_homes : (t : Tree) → IsLinked t
    → sum_by (at_home present_nodes t.groups) blocks_above_voxels ≡ sum_by present_nodes t.groups
nodes_by_homes t l = by_homes present_nodes refl t.groups l.homes

-- the root is over the whole map
over_root : (t : Tree) → IsOver t root_block t.root
over_root t k held = reach_zero t k

known_root_present : (t : Tree) → IsLinked t → is_known_in (value_at t) root_block ≡ true
    → is_present t.root ≡ true
known_root_present t l known = by_node t.root refl
  where
    by_node : (n : Node) → t.root ≡ n → is_present n ≡ true
    by_node Absent e =
        (let (k, held, some) = (known_exactly (value_at t) root_block root_in_map).0 known in
        absurd (known_value (value_at t k) some (over_value t root_block t.root (omega arith)
        (over_root t) (ap link_of e) k held
        ∙ ap value_of e)))
    by_node (Leaf v) e = refl
    by_node (Inner v id) e = refl

present_root_known : (t : Tree) → IsWellFormed t → is_present t.root ≡ true
    → is_known_in (value_at t) root_block ≡ true
present_root_known t w present =
    (known_exactly (value_at t) root_block root_in_map).1 (by_node t.root refl)
  where
    by_node : (n : Node) → t.root ≡ n → IsKnownIn (value_at t) root_block
    by_node Absent e = absurd (false≢true (ap is_present (sym e) ∙ present))
    by_node (Leaf v) e =
        (let is : value_at t (lowest_voxel root_block) ≡ Some v =
        over_value t root_block t.root (omega arith) (over_root t) (ap link_of e)
        (lowest_voxel root_block) (lowest_held root_block)
        ∙ ap value_of e in
        (lowest_voxel root_block, lowest_held root_block, subst IsSome (sym is) refl))
    by_node (Inner v id) e = home_known t root_block id.number w
        (over_home t root_block t.root id.number w.linked root_in_map (over_root t) (ap link_of e))

-- where no voxel is known, each block is uniform
none_known : (o : Option ℤ) → (IsSome o → ⊥) → o ≡ None
none_known None h = refl
none_known (Some v) h = absurd (h refl)

unknown_uniform : (values : Values) (b : Cube) → IsBlock b → is_known_in values root_block ≡ false
    → is_uniform values b ≡ true
unknown_uniform values b ok unknown =
    uniform_of values b None ok (λ k held. none_known (values k) (λ some.
    false≢true
    (sym unknown
    ∙ (known_exactly values root_block root_in_map).1
    (k, root_holds k (held_in_map b k ok held), some))))

-- no tree of these values has fewer nodes
node_step_le : (known present : Bool) (needed has : ℕ) → (known ≡ true → present ≡ true)
    → needed ≤ has
    → cond {A = ℕ} known (1 + needed) 0 ≤ cond present 1 0 + has
node_step_le true present needed has f le = let e : present ≡ true = f refl in rw e (omega arith)
node_step_le false present needed has f le = omega arith

pub nodes_needed : (t : Tree) → IsLinked t → node_count (value_at t) ≤ nodes_of t.groups t.root
unfolding node_count nodes_of
nodes_needed t l =
    let each = sum_by-each_le (needs_nodes t) (at_home present_nodes t.groups) blocks_above_voxels
    (All-follows (λ b. IsBlock b × (b.depth ≤ 15))
    (λ b. needs_nodes t b ≤ at_home present_nodes t.groups b) blocks_above_voxels
    (λ b at. nodes_le t b l at.0) all_above_voxels) in
    let all = nodes_by_homes t l in
    let enough : sum_by (needs_nodes t) blocks_above_voxels ≤ sum_by present_nodes t.groups =
    omega (arith, each, all) in
    node_step_le (is_known_in (value_at t) root_block) (is_present t.root)
    (sum_by (needs_nodes t) blocks_above_voxels)
    (sum_by present_nodes t.groups) (known_root_present t l) enough

-- and a tree that is well-formed and pruned has as many
node_step : (known present : Bool) (needed has : ℕ) → known ≡ present → needed ≡ has
    → (known ≡ false → needed ≡ 0)
    → cond {A = ℕ} known (1 + needed) 0 ≡ cond present 1 0 + has
node_step true present needed has e same none = rw (sym e, same) refl
node_step false present needed has e same none =
    (let zero_needed = none refl in rw (sym e) (omega arith))

pub pruned_nodes : (t : Tree) → IsWellFormed t → IsPruned t
    → node_count (value_at t) ≡ nodes_of t.groups t.root
unfolding node_count nodes_of
pruned_nodes t w pruned =
    let same = sum_by-same (needs_nodes t) (at_home present_nodes t.groups) blocks_above_voxels
    (All-follows (λ b. IsBlock b × (b.depth ≤ 15))
    (λ b. needs_nodes t b ≡ at_home present_nodes t.groups b) blocks_above_voxels
    (λ b at. nodes_same t b w pruned at.0) all_above_voxels)
    ∙ nodes_by_homes t w.linked in
    let none =
    λ (unknown : is_known_in (value_at t) root_block ≡ false). sum_by-same (needs_nodes t)
    (λ b. 0) blocks_above_voxels
    (All-follows (λ b. IsBlock b × (b.depth ≤ 15)) (λ b. needs_nodes t b ≡ 0) blocks_above_voxels
    (λ b at. uniform_has_none (is_uniform (value_at t) b) (known_children (value_at t) b)
    (unknown_uniform (value_at t) b at.0 unknown)) all_above_voxels)
    ∙ sum_by-none blocks_above_voxels in
    node_step (is_known_in (value_at t) root_block) (is_present t.root)
    (sum_by (needs_nodes t) blocks_above_voxels) (sum_by present_nodes t.groups)
    (same_test (is_known_in (value_at t) root_block) (is_present t.root)
    (known_root_present t w.linked) (present_root_known t w))
    same none

-- such a tree has the fewest nodes of all trees of its values
pub least_nodes : (t u : Tree) → IsWellFormed t → IsLinked u → IsPruned t
    → ((k : Voxel) → IsInMap k → value_at t k ≡ value_at u k)
    → nodes_of t.groups t.root ≤ nodes_of u.groups u.root
least_nodes t u w m pruned same =
    let has = pruned_nodes t w pruned in
    let needs = nodes_needed u m in
    let values = same_node_count (value_at t) (value_at u) same in
    omega (arith, has, needs, values)
