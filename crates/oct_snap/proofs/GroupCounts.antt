-- The nodes that have nodes of their own are as many as the groups that the values need.
use Rattle.std.proofs.Common.{◌≡◌, ℕ, zero, suc, ◌+◌, ◌<◌, ◌≤◌, Option, Some, None, cond, refl, sym}
use Rattle.std.proofs.Common.{subst, ◌∙◌, ap, arith}
use Rattle.std.specs.Prelude.{ℤ, Bool, true, false, not, is_some, sum_by}
use Rattle.std.proofs.lemmas.Bool.{false≢true}
use Rattle.std.proofs.lemmas.List.Sums.{sum_by-cons}
use Rattle.oct_key.specs.Voxel.{Voxel, IsInMap}
use Rattle.oct_key.specs.Values.{Values}
use Rattle.oct_key.specs.Block.{Cube, IsBlock, HoldsVoxel, child_of, root_block, lowest_voxel}
use Rattle.oct_key.proofs.Blocks.{child_in_map, depth_child_of, root_in_map}
use Rattle.oct_key.proofs.Held.{child_depths, held_in_map}
use Rattle.oct_odds.specs.Odds.{Odds}
use Rattle.oct_values.specs.Blocks.{child_numbers, blocks_below}
use Rattle.oct_values.specs.Counts.{is_uniform, group_count}
use Rattle.oct_values.specs.Uniform.{uniform_answer}
use Rattle.oct_values.proofs.Children.{uniform_child}
use Rattle.oct_values.proofs.Eights.{none_of_eight}
use Rattle.oct_values.proofs.Listed.{sum_of_blocks, sum_of_no_blocks}
use Rattle.oct_values.proofs.Uniform.{uniform_of}
use Rattle.oct_snap.specs.Nodes.{Nodes, End, Whole, Parted, AreNodes, group_total, value_in}
use Rattle.oct_snap.specs.Texts.{common_value}
use Rattle.oct_snap.proofs.Meanings.{numbers, Agree, first_agrees, row_agrees, node_is}

-- how many of a block and the blocks in it have several values
abbrev varied_in : Values → Cube → ℕ
varied_in values c = cond (not (is_uniform values c)) 1 0

abbrev varied_below : Values → ℕ → Cube → ℕ
varied_below values h b = sum_by (varied_in values) (blocks_below h b)

uniform_in : (values : Values) (b : Cube) (test : Bool) → is_uniform values b ≡ test
    → varied_in values b ≡ cond {A = ℕ} (not test) 1 0
uniform_in values b test e = ap (λ (t : Bool). cond {A = ℕ} (not t) 1 0) e

-- none do in a block of one value
none_below : (values : Values) (h : ℕ) (b : Cube) → IsBlock b → b.depth + h ≡ 16
    → is_uniform values b ≡ true → varied_below values h b ≡ 0
none_below values zero b ok deep one = sum_of_no_blocks (varied_in values) b
none_below values (suc h) b ok deep one =
    let all = sum_of_blocks (varied_in values) h b in
    let here = uniform_in values b true one in
    let rest = none_of_eight (λ i. varied_below values h (child_of b i))
    (λ i li. none_below values h (child_of b i) (child_in_map b i ok (omega (arith, deep)))
    (child_depths b h i deep)
    (uniform_child values b i ok (omega (arith, deep)) li one)) in
    omega (arith, all, here, rest)

several_test : (values : Values) (b : Cube) (test : Bool) → is_uniform values b ≡ test
    → None ≡ common_value values b → test ≡ false
unfolding uniform_answer
several_test values b true e none = absurd (false≢true (ap is_some (none
    ∙ ap (λ (t : Bool). cond {A = Option (Option ℤ)} t (Some (values (lowest_voxel b))) None) e)))
several_test values b false e none = refl

-- each child's node has as many
abbrev EachCounts : Odds → Values → ℕ → ℕ → Cube → Type 0
EachCounts o values h d b = (i : ℕ) (one : Nodes) → i < 8 → AreNodes o h 1 one
    → ((k : Voxel) → HoldsVoxel (child_of b i) k → value_in d one 0 k ≡ values k)
    → varied_below values h (child_of b i) ≡ group_total one

row_counts : (o : Odds) (values : Values) (h d : ℕ) (b : Cube) → EachCounts o values h d b
    → (m n : ℕ) (row : Nodes) → m + n ≤ 8
    → AreNodes o h n row → Agree values d b m n row
    → sum_by (λ i. varied_below values h (child_of b i)) (numbers m n) ≡ group_total row
unfolding group_total value_in numbers
row_counts o values h d b each m zero End few are agree = refl
row_counts o values h d b each m zero (Whole v row) few are agree = absurd are
row_counts o values h d b each m (suc n) End few are agree = absurd are
row_counts o values h d b each m (suc n) (Whole v row) few (within, are) agree =
    let all = sum_by-cons (λ i. varied_below values h (child_of b i)) m (numbers (suc m) n) in
    let here = each m (Whole v End) (omega (arith, few)) (within, tt)
    (λ k held. first_agrees values d b m n (Whole v row) agree k held) in
    let later = row_counts o values h d b each (suc m) n row (omega (arith, few)) are
    (λ j k lj held. (let e : suc m + j ≡ m + suc j = omega arith in
    agree (suc j) k (omega (arith, lj)) (subst (λ (i : ℕ). HoldsVoxel (child_of b i) k) e held))) in
    omega (arith, all, here, later)
row_counts o values zero d b each m zero (Parted i row) few are agree = absurd are
row_counts o values (suc h) d b each m zero (Parted i row) few are agree = absurd are
row_counts o values zero d b each m (suc n) (Parted i row) few are agree = absurd are
row_counts o values (suc h) d b each m (suc n) (Parted i row) few (inner, varied, are) agree =
    let all = sum_by-cons (λ i. varied_below values (suc h) (child_of b i)) m (numbers (suc m) n) in
    let here = each m (Parted i End) (omega (arith, few)) (inner, varied, tt)
    (λ k held. first_agrees values d b m n (Parted i row) agree k held) in
    let later = row_counts o values (suc h) d b each (suc m) n row (omega (arith, few)) are
    (λ j k lj held. (let e : suc m + j ≡ m + suc j = omega arith in
    agree (suc j) k (omega (arith, lj)) (subst (λ (i : ℕ). HoldsVoxel (child_of b i) k) e held))) in
    omega (arith, all, here, later)

parted_counts : (values : Values) (h : ℕ) (b : Cube) (row : Nodes) → None ≡ common_value values b
    → sum_by (λ i. varied_below values h (child_of b i)) child_numbers ≡ group_total row
    → varied_below values (suc h) b ≡ group_total (Parted row End)
unfolding group_total
parted_counts values h b row several rest =
    let all = sum_of_blocks (varied_in values) h b in
    let here = uniform_in values b false (ap (λ (t : Bool). t) refl
    ∙ several_test values b (is_uniform values b) refl several) in
    omega (arith, all, here, rest)

node_counts : (o : Odds) (values : Values) (h d : ℕ) (b : Cube) (nodes : Nodes) → b.depth ≡ d
    → d + h ≡ 16 → IsBlock b → AreNodes o h 1 nodes
    → ((k : Voxel) → HoldsVoxel b k → value_in d nodes 0 k ≡ values k) → varied_below values h b
    ≡ group_total nodes
unfolding value_in group_total numbers
node_counts o values h d b End deep all ok are agree = absurd are
node_counts o values h d b (Whole v End) deep all ok are agree =
    none_below values h b ok (omega (arith, deep, all))
    (uniform_of values b v ok (λ k held. sym (agree k held)))
node_counts o values h d b (Whole v (Whole w more)) deep all ok (within, are) agree = absurd are
node_counts o values zero d b (Whole v (Parted i more)) deep all ok (within, are) agree = absurd are
node_counts o values (suc h) d b (Whole v (Parted i more)) deep all ok (within, are) agree =
    absurd are
node_counts o values zero d b (Parted i more) deep all ok are agree = absurd are
node_counts o values (suc h) d b (Parted i (Whole w more)) deep all ok (inner, varied, are) agree =
    absurd are
node_counts o values (suc h) d b (Parted i (Parted j more)) deep all ok (inner, varied, are) agree =
    absurd are
node_counts o values (suc h) d b (Parted i End) deep all ok (inner, varied, are) agree =
    parted_counts values h b i
    (node_is o values (suc h) d b (Parted i End) deep all ok (inner, varied, are) agree).kind
    (row_counts o values h (suc d) b
    (λ j one lj one_are one_agree. node_counts o values h (suc d) (child_of b j) one
    (let down = depth_child_of b j in omega (arith, down, deep)) (omega (arith, all))
    (child_in_map b j ok (omega (arith, deep, all))) one_are one_agree)
    0 8 i (omega arith) inner (row_agrees values d b i deep (omega (arith, all)) agree))

-- the nodes of the map have as many as its values need
pub groups_are : (o : Odds) (values : Values) (nodes : Nodes) → AreNodes o 16 1 nodes
    → ((k : Voxel) → IsInMap k → value_in 0 nodes 0 k ≡ values k)
    → group_total nodes ≡ group_count values
unfolding group_count
groups_are o values nodes are agree =
    sym (node_counts o values 16 0 root_block nodes refl refl root_in_map are
    (λ k held. agree k (held_in_map root_block k root_in_map held)))
