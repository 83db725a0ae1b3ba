-- A pass down the tree counts each node once.
use Rattle.std.proofs.Common.{◌≡◌, ℕ, zero, suc, ◌+◌, ◌-◌, ◌*◌, ◌^◌, ◌<◌, ◌≤◌, cond, Some, None}
use Rattle.std.proofs.Common.{refl, sym, ◌∙◌, ap, subst, arith, add-one}
use Rattle.std.specs.Prelude.{ℤ, Option, sum_by}
use Rattle.std.proofs.Math.Nat.{one-le-pow, pow-suc, pow-le-pow_right, mul-le-mul_right}
use Rattle.oct_key.specs.Block.{Cube, IsBlock, child_of, child_index_of, root_block, lowest_voxel}
use Rattle.oct_key.proofs.Blocks.{depth_child_of, child_in_map, lowest_held, lowest_in_map}
use Rattle.oct_key.proofs.Blocks.{root_in_map}
use Rattle.oct_values.specs.Blocks.{child_numbers, blocks_below}
use Rattle.oct_values.proofs.Eights.{same_eight, none_of_eight}
use Rattle.oct_values.proofs.Sums.{sum_by-plus}
use Rattle.oct_key.proofs.Held.{child_depths, held_by_parent}
use Rattle.oct_values.proofs.Listed.{sum_of_blocks, sum_of_no_blocks}
use Rattle.oct_arena.specs.declared.node.GroupId.{GroupId}
use Rattle.oct_arena.specs.declared.node.Group.{Group}
use Rattle.oct_arena.specs.declared.node.Node.{Node}
use Rattle.oct_arena.specs.declared.node.Node.TheVariants.{Absent, Leaf, Inner}
use Rattle.oct_arena.specs.Entries.{Groups, node_at}
use Rattle.oct_tree.specs.declared.place.Place.{Place}
use Rattle.oct_tree.specs.declared.place.Place.TheVariants.{Slot}
use Rattle.oct_arena.specs.Nodes.{link_of}
use Rattle.oct_tree.specs.Tree.{IsOver, Tree, IsLinked, IsPlace, node_in, block_in, reach, step}
use Rattle.oct_tree.proofs.Paths.{some_injective, some_not_none, place_block, linked_block}
use Rattle.oct_tree.proofs.Paths.{slot_place, slot_block, reach_zero, reach_suc, unlinked_step}
use Rattle.oct_query.specs.Nodes.{is_present, present_nodes, nodes_of}
use Rattle.oct_query.specs.Under.{sum_below, nodes_under}
use Rattle.oct_query.proofs.Homes.{at_home, no_home, by_homes}
use Rattle.oct_tree.proofs.Over.{over_child, over_home}
use Rattle.oct_query.proofs.Needed.{sum_at_home}

-- the sum over the eight numbers
pub sum_below_eight : (f : ℕ → ℕ) → sum_below f 8 ≡ sum_by f child_numbers
unfolding sum_below
sum_below_eight f = refl

pub sum_below_next : (f : ℕ → ℕ) (n : ℕ) → sum_below f (n + 1) ≡ sum_below f n + f n
unfolding sum_below
sum_below_next f n = rw add-one refl

pub sum_below_none : (f : ℕ → ℕ) → sum_below f 0 ≡ 0
unfolding sum_below
sum_below_none f = refl

-- a node that isn't Inner is over the block's children too
covers_child : (t : Tree) (b : Cube) (n : Node) (i : ℕ) → b.depth < 16 → i < 8 → IsOver t b n
    → link_of n ≡ None → IsOver t (child_of b i) n
covers_child t b n i low li over none k held =
    ap (λ d. reach t d k) (depth_child_of b i) ∙ reach_suc t b.depth k
    ∙ ap (λ m. step t.groups m (child_index_of b.depth k))
    (over k (held_by_parent b i k low li held))
    ∙ unlinked_step t.groups n (child_index_of b.depth k) none

-- where no group is linked, no block from here down is a home
none_under : (t : Tree) (f : Option Group → ℕ) → IsLinked t → (h : ℕ) (b : Cube) (n : Node)
    → IsBlock b → b.depth + h ≡ 16 → IsOver t b n
    → link_of n ≡ None → sum_by (at_home f t.groups) (blocks_below h b) ≡ 0
none_under t f l zero b n ok d over none = sum_of_no_blocks (at_home f t.groups) b
none_under t f l (suc h) b n ok d over none =
    let all = sum_of_blocks (at_home f t.groups) h b in
    let here =
    no_home f b t.groups
    (λ x home. some_not_none
    (l.reached x b home (lowest_voxel b) (lowest_in_map b ok) (lowest_held b))
    (ap link_of (over (lowest_voxel b) (lowest_held b)) ∙ none)) in
    let rest =
    none_of_eight (λ i. sum_by (at_home f t.groups) (blocks_below h (child_of b i))) (λ i li.
    none_under t f l h (child_of b i) n (child_in_map b i ok (omega arith)) (child_depths b h i d)
    (covers_child t b n i (omega arith) li over none) none) in
    omega (arith, all, here, rest)

-- the nodes of a block and of those in it: its own, and those of the groups whose homes are there
under_is : (t : Tree) → IsLinked t → (h : ℕ) (b : Cube) (n : Node) → IsBlock b → b.depth + h ≡ 16
    → IsOver t b n
    → nodes_under t.groups h n
    ≡ cond (is_present n) 1 0 + sum_by (at_home present_nodes t.groups) (blocks_below h b)
unfolding nodes_under
under_is t l h b Absent ok d over =
    let none = none_under t present_nodes l h b Absent ok d over refl in omega (arith, none)
under_is t l h b (Leaf v) ok d over =
    let none = none_under t present_nodes l h b (Leaf v) ok d over refl in omega (arith, none)
under_is t l zero b (Inner v id) ok d over =
    let none = sum_of_no_blocks (at_home present_nodes t.groups) b in omega (arith, none)
under_is t l (suc h) b (Inner v id) ok d over =
    let all = sum_of_blocks (at_home present_nodes t.groups) h b in
    let here =
    sum_at_home t present_nodes b id.number l
    (over_home t b (Inner v id) id.number l ok over refl) in
    let eight = sum_below_eight (λ i. nodes_under t.groups h (node_at t.groups id.number i)) in
    let each = same_eight (λ i. nodes_under t.groups h (node_at t.groups id.number i))
    (λ i. cond (is_present (node_at t.groups id.number i)) 1 0
    + sum_by (at_home present_nodes t.groups)
    (blocks_below h (child_of b i))) (λ i li.
    under_is t l h (child_of b i) (node_at t.groups id.number i)
    (child_in_map b i ok (omega arith)) (child_depths b h i d)
    (over_child t b (Inner v id) id.number i (omega arith) li over refl)) in
    let both = sum_by-plus (λ i. cond {A = ℕ} (is_present (node_at t.groups id.number i)) 1 0)
    (λ i. sum_by (at_home present_nodes t.groups) (blocks_below h (child_of b i))) child_numbers in
    omega (arith, all, here, eight, each, both)

-- from the root on, the pass counts all nodes that aren't absent
pub under_root : (t : Tree) → IsLinked t → nodes_under t.groups 16 t.root ≡ nodes_of t.groups t.root
unfolding nodes_of
under_root t l =
    under_is t l 16 root_block t.root root_in_map refl (λ k held. reach_zero t k)
    ∙ ap (λ n. cond (is_present t.root) 1 0 + n) (by_homes present_nodes refl t.groups l.homes)

-- a place above its group's slots isn't a voxel's
pub inner_above : (t : Tree) (p : Place) (d : ℕ) (v : ℤ) (id : GroupId) → IsLinked t → IsPlace t p
    → ((b : Cube) → block_in t p ≡ Some b → b.depth ≡ d) → node_in t p ≡ Inner v id → d ≤ 15
inner_above t p d v id l ok deep is =
    let (b, at) = place_block t p ok in
    let low = (l.homes id.number b (linked_block t l p id.number b (ap link_of is) at)).1 in
    let e = deep b at in
    omega arith

-- a slot's block is one deeper
pub slot_deeper : (t : Tree) (p : Place) (d i : ℕ) (v : ℤ) (id : GroupId) → IsLinked t → IsPlace t p
    → ((b : Cube) → block_in t p ≡ Some b → b.depth ≡ d) → node_in t p ≡ Inner v id → (b : Cube)
    → block_in t (Slot id i) ≡ Some b
    → b.depth ≡ d + 1
slot_deeper t p d i v id l ok deep is b at =
    let (a, above) = place_block t p ok in
    let e = deep a above in
    let child : child_of a i ≡ b =
    some_injective (sym (slot_block t l p id i a (ap link_of is) above) ∙ at) in
    let down = ap (λ (c : Cube). c.depth) child in
    let next = depth_child_of a i in
    omega arith

pub slot_is_place : (t : Tree) (p : Place) (i : ℕ) (v : ℤ) (id : GroupId) → IsLinked t → IsPlace t p
    → node_in t p ≡ Inner v id → i < 8
    → IsPlace t (Slot id i)
slot_is_place t p i v id l ok is li = slot_place t l p ok id i (ap link_of is) li

-- what the pass counts at each kind of node
pub under_absent : (gs : Groups) (h : ℕ) (n : Node) → n ≡ Absent → nodes_under gs h n ≡ 0
unfolding nodes_under
under_absent gs h n e = rw e refl

pub under_leaf : (gs : Groups) (h : ℕ) (n : Node) (v : ℤ) → n ≡ Leaf v → nodes_under gs h n ≡ 1
unfolding nodes_under
under_leaf gs h n v e = rw e refl

inner_next : (gs : Groups) (h m : ℕ) (v : ℤ) (id : GroupId) → h ≡ suc m
    → nodes_under gs h (Inner v id)
    ≡ 1 + sum_below (λ i. nodes_under gs m (node_at gs id.number i)) 8
unfolding nodes_under
inner_next gs h m v id e = rw e refl

pub under_inner : (gs : Groups) (d : ℕ) (n : Node) (v : ℤ) (id : GroupId) → d ≤ 15 → n ≡ Inner v id
    → nodes_under gs (16 - d) n
    ≡ 1 + sum_below (λ i. nodes_under gs (15 - d) (node_at gs id.number i)) 8
under_inner gs d n v id low is =
    let next : 16 - d ≡ suc (15 - d) = omega arith in
    ap (nodes_under gs (16 - d)) is ∙ inner_next gs (16 - d) (15 - d) v id next

-- eight times at most this many, and one, are at most this many one depth up
pub nine_times : (d : ℕ) → d ≤ 15 → 1 + 8 * 9 ^ (15 - d) ≤ 9 ^ (16 - d)
nine_times d low =
    let next : 16 - d ≡ suc (15 - d) = omega arith in
    let power : 9 ^ (16 - d) ≡ 9 ^ (15 - d) * 9 = ap (λ (m : ℕ). 9 ^ m) next ∙ pow-suc 9 (15 - d) in
    let some : 1 ≤ 9 ^ (15 - d) = one-le-pow (15 - d) 9 (omega arith) in
    omega (arith, power, some)

-- a step of the sum over the eight
pub counted_first : (f : ℕ → ℕ) → ◌≡◌ {A = ℕ} 1 (1 + sum_below f 0)
counted_first f = let none = sum_below_none f in omega (arith, none)

pub counted_next : (f : ℕ → ℕ) (nodes more i : ℕ) → nodes ≡ 1 + sum_below f i → more ≡ f i
    → nodes + more ≡ 1 + sum_below f (i + 1)
counted_next f nodes more i sum is = let next = sum_below_next f i in omega (arith, sum, is, next)

pub few_next : (nodes more i power : ℕ) → nodes ≤ 1 + i * power → more ≤ power
    → nodes + more ≤ 1 + (i + 1) * power
few_next nodes more i power few le = omega (arith, few, le)

-- the sum fits 64 bits
pub sum_fits : (nodes more i d : ℕ) → d ≤ 15 → i < 8 → nodes ≤ 1 + i * 9 ^ (15 - d)
    → more ≤ 9 ^ (15 - d) → nodes + more < 18446744073709551616
sum_fits nodes more i d low li few le =
    let most : i * 9 ^ (15 - d) ≤ 7 * 9 ^ (15 - d) =
    mul-le-mul_right (9 ^ (15 - d)) (omega arith) in
    let power : 9 ^ (15 - d) ≤ 9 ^ 15 =
    pow-le-pow_right {n = 9} (omega arith) {i = 15 - d} {j = 15} (omega arith) in
    omega (arith, most, power, few, le)

-- what one depth down is, from the depth above
pub depths_down : (d : ℕ) → 16 - (d + 1) ≡ 15 - d
depths_down d = omega arith

-- once all eight are summed
pub counted_all : (gs : Groups) (d : ℕ) (n : Node) (v : ℤ) (id : GroupId) (nodes i : ℕ) → d ≤ 15
    → n ≡ Inner v id → i ≡ 8
    → nodes ≡ 1 + sum_below (λ j. nodes_under gs (15 - d) (node_at gs id.number j)) i
    → nodes ≡ nodes_under gs (16 - d) n
counted_all gs d n v id nodes i low is end sum =
    sum ∙ ap (λ m. 1 + sum_below (λ j. nodes_under gs (15 - d) (node_at gs id.number j)) m) end
    ∙ sym (under_inner gs d n v id low is)

pub few_all : (nodes i d : ℕ) → d ≤ 15 → i ≡ 8 → nodes ≤ 1 + i * 9 ^ (15 - d) → nodes ≤ 9 ^ (16 - d)
few_all nodes i d low end few =
    let at : nodes ≤ 1 + 8 * 9 ^ (15 - d) = subst (λ m. nodes ≤ 1 + m * 9 ^ (15 - d)) end few in
    omega (arith, at, nine_times d low)
