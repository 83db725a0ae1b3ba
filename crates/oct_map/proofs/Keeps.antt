-- The groups that forgetting all outside of a box takes, by a tree and by its values.
use Rattle.std.proofs.Common.{◌≡◌, ℕ, ◌+◌, ◌≤◌, Bool, true, false, cond, Some, None}
use Rattle.std.proofs.Common.{inl, inr, refl, sym, ◌∙◌, ap, arith}
use Rattle.std.specs.Prelude.{◌&&◌, not, Option, is_some}
use Rattle.std.proofs.lemmas.Bool.{false≢true, and_parts}
use Rattle.oct_key.specs.Voxel.{Voxel}
use Rattle.oct_key.specs.Values.{Values, SameValues}
use Rattle.oct_key.specs.Block.{Cube, IsBlock, lowest_voxel}
use Rattle.oct_key.proofs.Blocks.{lowest_held, lowest_in_map}
use Rattle.oct_values.specs.Blocks.{blocks_above_voxels}
use Rattle.oct_values.specs.Boxes.{is_cut_by}
use Rattle.oct_values.specs.Counts.{is_uniform, group_count}
use Rattle.oct_values.proofs.Listed.{all_above_voxels}
use Rattle.oct_values.proofs.Sums.{All-follows, count_by-same, sum_by-each_le, sum_by-plus}
use Rattle.oct_values.proofs.Uniform.{same_uniform}
use Rattle.oct_arena.specs.Entries.{live}
use Rattle.oct_arena.specs.Nodes.{link_of, value_of}
use Rattle.oct_arena.specs.declared.node.Node.{Node}
use Rattle.oct_tree.specs.Tree.{Tree, IsLinked, reach, value_at}
use Rattle.oct_tree.specs.Shape.{IsPruned}
use Rattle.oct_tree.proofs.Over.{over_lowest, over_value, over_home}
use Rattle.oct_edit.specs.Keep.{is_in_leaf, parts_leaf, keep_need}
use Rattle.oct_edit.proofs.Counts.{test_follows}
use Rattle.oct_edit.proofs.Keeps.{same_test}
use Rattle.oct_edit.proofs.UpdateEnds.{known_plain}
use Rattle.oct_query.proofs.Needed.{home_or_uniform, home_varied}
use Rattle.oct_merge.specs.Walk.{is_split, is_needed, is_common}
use Rattle.oct_merge.proofs.Homes.{need_by_blocks, live_by_blocks}
use Rattle.oct_map.specs.Keeps.{is_known_as_one, parted_need}

-- whether the box cuts a block that is known with one value
abbrev parts_value : Values → Voxel → Voxel → Cube → Bool
parts_value v lo hi b = is_cut_by lo hi b && is_known_as_one v b

-- the node over a block
abbrev node_over : Tree → Cube → Node
node_over t b = reach t b.depth (lowest_voxel b)

-- a block over which no group is has one value, that of its node
plain_value : (t : Tree) (b : Cube) → IsLinked t → IsBlock b → link_of (node_over t b) ≡ None
    → value_at t (lowest_voxel b) ≡ value_of (node_over t b)
plain_value t b l ok plain =
    over_value t b (node_over t b) ok.depth (over_lowest t b ok) plain (lowest_voxel b)
    (lowest_held b)

plain_uniform : (t : Tree) (b : Cube) → IsLinked t → IsBlock b → link_of (node_over t b) ≡ None
    → is_uniform (value_at t) b ≡ true
plain_uniform t b l ok plain = elim (home_or_uniform t b l ok) [
  | inl (none, uniform) ↦ uniform
  | inr (x, home) ↦ absurd (some_link x (l.reached x b home (lowest_voxel b) (lowest_in_map b ok)
      (lowest_held b)) plain)
]
  where
    some_link : (x : ℕ) → link_of (node_over t b) ≡ Some x → link_of (node_over t b) ≡ None → ⊥
    some_link x e f = cc

both_true : (p q : Bool) → p ≡ true → q ≡ true → (p && q) ≡ true
both_true p q e f = rw (e, f) refl

-- a block in a leaf is known with one value
leaf_known : (t : Tree) (b : Cube) → IsLinked t → IsBlock b → is_in_leaf t b ≡ true
    → is_known_as_one (value_at t) b ≡ true
leaf_known t b l ok leaf =
    let plain = known_plain (node_over t b) leaf in
    both_true (is_uniform (value_at t) b) (is_some (value_at t (lowest_voxel b)))
    (plain_uniform t b l ok plain) (ap is_some (plain_value t b l ok plain) ∙ leaf)

-- and one that is known so lies in a leaf, or has a group
known_leaf : (t : Tree) (b : Cube) → IsLinked t → IsBlock b
    → is_known_as_one (value_at t) b ≡ true → is_split t b ≡ false → is_in_leaf t b ≡ true
known_leaf t b l ok known unsplit =
    let some = (and_parts (is_uniform (value_at t) b)
    (is_some (value_at t (lowest_voxel b))) known).1 in
    sym (ap is_some (plain_value t b l ok (no_link (link_of (node_over t b)) unsplit))) ∙ some
  where
    no_link : (o : Option ℕ) → is_some o ≡ false → o ≡ None
    no_link None e = refl
    no_link (Some x) e = absurd (false≢true (sym e))

-- no group of a pruned tree is over a block of one value
pruned_unsplit : (t : Tree) (b : Cube) → IsLinked t → IsPruned t → IsBlock b
    → is_uniform (value_at t) b ≡ true → is_split t b ≡ false
pruned_unsplit t b l pruned ok uniform = by_link (link_of (node_over t b)) refl
  where
    by_link : (o : Option ℕ) → link_of (node_over t b) ≡ o → is_split t b ≡ false
    by_link None e = ap is_some e
    by_link (Some x) e =
        absurd (home_varied t b x l pruned
        (over_home t b (node_over t b) x l ok (over_lowest t b ok) e) uniform)

-- a tree takes no more groups than its values need
pub parted_most : (t : Tree) (lo hi : Voxel) → IsLinked t
    → keep_need t lo hi ≤ parted_need (value_at t) lo hi
unfolding keep_need parted_need
parted_most t lo hi l =
    sum_by-each_le (λ b. cond {A = ℕ} (parts_leaf t lo hi b) 1 0)
    (λ b. cond {A = ℕ} (parts_value (value_at t) lo hi b) 1 0) blocks_above_voxels
    (All-follows (λ b. IsBlock b × (b.depth ≤ 15))
    (λ b. cond {A = ℕ} (parts_leaf t lo hi b) 1 0
    ≤ cond {A = ℕ} (parts_value (value_at t) lo hi b) 1 0) blocks_above_voxels
    (λ b at. test_follows (parts_leaf t lo hi b) (parts_value (value_at t) lo hi b)
    (λ h. (let p = and_parts (is_cut_by lo hi b) (is_in_leaf t b) h in
    both_true (is_cut_by lo hi b) (is_known_as_one (value_at t) b) p.0
    (leaf_known t b l at.0 p.1))))
    all_above_voxels)

-- and a pruned one takes as many
pub pruned_parted : (t : Tree) (lo hi : Voxel) → IsLinked t → IsPruned t
    → keep_need t lo hi ≡ parted_need (value_at t) lo hi
unfolding keep_need parted_need
pruned_parted t lo hi l pruned =
    count_by-same (parts_leaf t lo hi) (parts_value (value_at t) lo hi) blocks_above_voxels
    (All-follows (λ b. IsBlock b × (b.depth ≤ 15))
    (λ b. parts_leaf t lo hi b ≡ parts_value (value_at t) lo hi b) blocks_above_voxels
    (λ b at. ap (λ a. is_cut_by lo hi b && a)
    (same_test (is_in_leaf t b) (is_known_as_one (value_at t) b) (leaf_known t b l at.0)
    (λ known. known_leaf t b l at.0 known
    (pruned_unsplit t b l pruned at.0 (and_parts (is_uniform (value_at t) b)
    (is_some (value_at t (lowest_voxel b))) known).0))))
    all_above_voxels)

-- the values of the map's voxels alone decide it
pub same_parted : (v w : Values) (lo hi : Voxel) → SameValues v w
    → parted_need v lo hi ≡ parted_need w lo hi
unfolding parted_need
same_parted v w lo hi same =
    count_by-same (parts_value v lo hi) (parts_value w lo hi) blocks_above_voxels
    (All-follows (λ b. IsBlock b × (b.depth ≤ 15))
    (λ b. parts_value v lo hi b ≡ parts_value w lo hi b) blocks_above_voxels
    (λ b at. ap (λ a. is_cut_by lo hi b && (a && is_some (v (lowest_voxel b))))
    (same_uniform v w b at.0 same)
    ∙ ap (λ a. is_cut_by lo hi b && (is_uniform w b && is_some a))
    (same (lowest_voxel b) (lowest_in_map b at.0)))
    all_above_voxels)

-- block by block, what the values need beside one another is there, or is taken
each_le : (uniform known cut split leaf : Bool) → (split ≡ false → uniform ≡ true)
    → ((uniform && known) ≡ true → split ≡ false → leaf ≡ true)
    → cond {A = ℕ} (not uniform) 1 0 + cond {A = ℕ} (cut && (uniform && known)) 1 0
    ≤ cond {A = ℕ} (split && not split) 1 0 + cond {A = ℕ} (split && split) 1 0
    + cond {A = ℕ} (cut && leaf) 1 0
each_le false known cut false leaf f g = absurd (false≢true (f refl))
each_le false known true true leaf f g = omega arith
each_le false known false true leaf f g = omega arith
each_le true known false split leaf f g = omega arith
each_le true false true split leaf f g = omega arith
each_le true true true true leaf f g = omega arith
each_le true true true false leaf f g =
    (let one : cond {A = ℕ} leaf 1 0 ≡ 1 = ap (λ test. cond {A = ℕ} test 1 0) (g refl refl) in
    omega (arith, one))

-- so the groups of a tree, and those that it takes, are no fewer than the values need
pub parted_groups : (t : Tree) (lo hi : Voxel) → IsLinked t
    → group_count (value_at t) + parted_need (value_at t) lo hi
    ≤ live t.groups + keep_need t lo hi
unfolding group_count keep_need parted_need
parted_groups t lo hi l =
    let needed = need_by_blocks t t l l in
    let lives = live_by_blocks t t l l in
    let mine = sum_by-plus (λ b. cond {A = ℕ} (not (is_uniform (value_at t) b)) 1 0)
    (λ b. cond {A = ℕ} (parts_value (value_at t) lo hi b) 1 0) blocks_above_voxels in
    let held = sum_by-plus (λ b. cond {A = ℕ} (is_needed t t b) 1 0)
    (λ b. cond {A = ℕ} (is_common t t b) 1 0) blocks_above_voxels in
    let all = sum_by-plus (λ b. cond {A = ℕ} (is_needed t t b) 1 0
    + cond {A = ℕ} (is_common t t b) 1 0)
    (λ b. cond {A = ℕ} (parts_leaf t lo hi b) 1 0) blocks_above_voxels in
    let each =
    sum_by-each_le (λ b. cond {A = ℕ} (not (is_uniform (value_at t) b)) 1 0
    + cond {A = ℕ} (parts_value (value_at t) lo hi b) 1 0)
    (λ b. cond {A = ℕ} (is_needed t t b) 1 0 + cond {A = ℕ} (is_common t t b) 1 0
    + cond {A = ℕ} (parts_leaf t lo hi b) 1 0) blocks_above_voxels
    (All-follows (λ b. IsBlock b × (b.depth ≤ 15))
    (λ b. cond {A = ℕ} (not (is_uniform (value_at t) b)) 1 0
    + cond {A = ℕ} (parts_value (value_at t) lo hi b) 1 0
    ≤ cond {A = ℕ} (is_needed t t b) 1 0 + cond {A = ℕ} (is_common t t b) 1 0
    + cond {A = ℕ} (parts_leaf t lo hi b) 1 0) blocks_above_voxels
    (λ b at. each_le (is_uniform (value_at t) b) (is_some (value_at t (lowest_voxel b)))
    (is_cut_by lo hi b) (is_split t b) (is_in_leaf t b)
    (λ unsplit. plain_uniform t b l at.0 (no_link (link_of (node_over t b)) unsplit))
    (λ known unsplit. known_leaf t b l at.0 known unsplit))
    all_above_voxels) in
    omega (arith, needed, lives, mine, held, all, each)
  where
    no_link : (o : Option ℕ) → is_some o ≡ false → o ≡ None
    no_link None e = refl
    no_link (Some x) e = absurd (false≢true (sym e))
