-- Uniform blocks and blocks with a known voxel, in words of voxels, and what values that
-- agree in the map have in common.
use Rattle.std.proofs.Common.{◌≡◌, ◌≤◌, ◌↔◌, true, cond, Some, None, refl, sym, ◌∙◌, ap, arith}
use Rattle.std.specs.Prelude.{IsTrue, is_some, not, sum_by}
use Rattle.std.specs.Cmp.{signed_Decides}
use Rattle.std.proofs.lemmas.Bool.{false≢true}
use Rattle.oct_key.specs.Voxel.{Voxel, IsInMap}
use Rattle.oct_key.specs.Values.{Values}
use Rattle.oct_key.specs.Block.{Cube, IsBlock, HoldsVoxel, child_of, root_block, lowest_voxel}
use Rattle.oct_key.proofs.Blocks.{lowest_held, lowest_in_map, child_in_map, root_in_map}
use Rattle.oct_odds.specs.Update.{Value}
use Rattle.oct_values.specs.Blocks.{child_numbers, voxels_of, blocks_above_voxels}
use Rattle.oct_values.specs.Uniform.{IsUniform, is_uniform_by}
use Rattle.oct_values.specs.Counts.{IsKnownIn, is_same_value, is_uniform, is_known_in, group_count}
use Rattle.oct_values.specs.Counts.{known_children, node_count}
use Rattle.oct_values.proofs.Alike.{uniform_by_exactly}
use Rattle.oct_values.proofs.Eights.{all_eight}
use Rattle.oct_values.proofs.Equality.{IsEquality}
use Rattle.oct_values.proofs.Held.{all_held, some_passes, one_passes}
use Rattle.oct_key.proofs.Held.{held_in_map}
use Rattle.oct_values.proofs.Listed.{all_above_voxels}
use Rattle.oct_values.proofs.Sums.{All-follows, sum_by-same, list_all-same, list_any-same}
use Rattle.oct_values.proofs.Sums.{count_by-same}

-- a value passes the test with itself, and with no other
pub is_same_value_refl : (a : Value) → is_same_value a a ≡ true
is_same_value_refl None = refl
is_same_value_refl (Some m) = (signed_Decides m m).1 refl

pub is_same_value_exact : (a b : Value) → is_same_value a b ≡ true → a ≡ b
is_same_value_exact None None h = refl
is_same_value_exact None (Some n) h = absurd (false≢true h)
is_same_value_exact (Some m) None h = absurd (false≢true h)
is_same_value_exact (Some m) (Some n) h = ap Some ((signed_Decides m n).0 h)

pub same_value_equality : IsEquality is_same_value
same_value_equality a b = (is_same_value_exact a b, λ is. rw is (is_same_value_refl b))

-- the test tells the uniform blocks
pub uniform_exactly : (values : Values) (b : Cube) → IsBlock b
    → IsTrue (is_uniform values b) ↔ IsUniform values b
uniform_exactly values b ok = uniform_by_exactly is_same_value values b same_value_equality ok

-- the test tells the blocks with a known voxel
pub known_exactly : (values : Values) (b : Cube) → IsBlock b
    → IsTrue (is_known_in values b) ↔ IsKnownIn values b
unfolding is_known_in
known_exactly values b ok =
    let to : IsTrue (is_known_in values b) → IsKnownIn values b =
    λ h. one_passes (λ k. is_some (values k)) b ok h in
    let from : IsKnownIn values b → IsTrue (is_known_in values b) =
    λ (k, held, known). some_passes (λ k. is_some (values k)) b k ok held known in
    (to, from)

-- a block whose voxels all have this value is uniform
pub uniform_of : (values : Values) (b : Cube) (value : Value) → IsBlock b
    → ((k : Voxel) → HoldsVoxel b k → values k ≡ value)
    → is_uniform values b ≡ true
uniform_of values b value ok h =
    (uniform_exactly values b ok).1 (λ j k held_j held_k. h j held_j ∙ sym (h k held_k))

-- all voxels of a uniform block have the value of the lowest
pub value_of_uniform : (values : Values) (b : Cube) (k : Voxel) → IsBlock b
    → is_uniform values b ≡ true → HoldsVoxel b k
    → values k ≡ values (lowest_voxel b)
value_of_uniform values b k ok h held =
    (uniform_exactly values b ok).0 h k (lowest_voxel b) held (lowest_held b)

-- values that agree in the map have the same uniform blocks
pub same_uniform : (v w : Values) (b : Cube) → IsBlock b → ((k : Voxel) → IsInMap k → v k ≡ w k)
    → is_uniform v b ≡ is_uniform w b
unfolding is_uniform_by
same_uniform v w b ok same =
    list_all-same (λ k. is_same_value (v k) (v (lowest_voxel b)))
    (λ k. is_same_value (w k) (w (lowest_voxel b))) (voxels_of b)
    (All-follows (HoldsVoxel b)
    (λ k. is_same_value (v k) (v (lowest_voxel b)) ≡ is_same_value (w k) (w (lowest_voxel b)))
    (voxels_of b)
    (λ k held. rw (same k (held_in_map b k ok held), same (lowest_voxel b) (lowest_in_map b ok))
    refl)
    (all_held b ok))

-- and the same blocks with a known voxel
pub same_known : (v w : Values) (b : Cube) → IsBlock b → ((k : Voxel) → IsInMap k → v k ≡ w k)
    → is_known_in v b ≡ is_known_in w b
unfolding is_known_in
same_known v w b ok same = list_any-same (λ k. is_some (v k)) (λ k. is_some (w k)) (voxels_of b)
    (All-follows (HoldsVoxel b) (λ k. is_some (v k) ≡ is_some (w k)) (voxels_of b)
    (λ k held. ap is_some (same k (held_in_map b k ok held))) (all_held b ok))

-- and need as many groups
pub same_group_count : (v w : Values) → ((k : Voxel) → IsInMap k → v k ≡ w k)
    → group_count v ≡ group_count w
unfolding group_count
same_group_count v w same =
    count_by-same (λ b. not (is_uniform v b)) (λ b. not (is_uniform w b)) blocks_above_voxels
    (All-follows (λ b. IsBlock b × (b.depth ≤ 15))
    (λ b. not (is_uniform v b) ≡ not (is_uniform w b)) blocks_above_voxels
    (λ b at. ap not (same_uniform v w b at.0 same)) all_above_voxels)

same_known_children : (v w : Values) (b : Cube) → IsBlock b → b.depth ≤ 15
    → ((k : Voxel) → IsInMap k → v k ≡ w k)
    → known_children v b ≡ known_children w b
same_known_children v w b ok low same =
    count_by-same (λ i. is_known_in v (child_of b i)) (λ i. is_known_in w (child_of b i))
    child_numbers
    (all_eight (λ i. is_known_in v (child_of b i) ≡ is_known_in w (child_of b i))
    (λ i li. same_known v w (child_of b i) (child_in_map b i ok (omega arith)) same))

-- and as many nodes
pub same_node_count : (v w : Values) → ((k : Voxel) → IsInMap k → v k ≡ w k)
    → node_count v ≡ node_count w
unfolding node_count
same_node_count v w same =
    let root : is_known_in v root_block ≡ is_known_in w root_block =
    same_known v w root_block root_in_map same in
    let counts : sum_by (λ b. cond (is_uniform v b) 0 (known_children v b)) blocks_above_voxels
    ≡ sum_by
    (λ b. cond (is_uniform w b) 0 (known_children w b)) blocks_above_voxels =
    sum_by-same (λ b. cond (is_uniform v b) 0 (known_children v b))
    (λ b. cond (is_uniform w b) 0 (known_children w b)) blocks_above_voxels
    (All-follows (λ b. IsBlock b × (b.depth ≤ 15))
    (λ b. cond (is_uniform v b) 0 (known_children v b)
    ≡ cond (is_uniform w b) 0 (known_children w b))
    blocks_above_voxels
    (λ b at. rw (same_uniform v w b at.0 same, same_known_children v w b at.0 at.1 same) refl)
    all_above_voxels) in
    rw (root, counts) refl
