-- What the least tree of some values has, block by block.
use Rattle.std.proofs.Common.{◌≡◌, ℕ, zero, suc, ◌+◌, ◌-◌, ◌^◌, ◌<◌, ◌≤◌, Bool, true, false, cond}
use Rattle.std.proofs.Common.{List, Some, None, IsSome, is_some, inl, inr, refl, sym, subst, ◌∙◌}
use Rattle.std.proofs.Common.{ap, arith}
use Rattle.std.specs.Prelude.{Option, ◌⊎◌, not, length, sum_by}
use Rattle.std.specs.Option.{option_eq}
use Rattle.std.specs.Ordering.{int_eq}
use Rattle.std.proofs.lemmas.Bool.{false≢true, false_from_ne_true}
use Rattle.std.proofs.lemmas.List.{length-append}
use Rattle.std.proofs.Math.Nat.{one-le-pow}
use Rattle.oct_key.specs.Voxel.{Voxel, IsInMap}
use Rattle.oct_key.specs.Values.{Values}
use Rattle.oct_key.specs.Block.{Cube, IsBlock, HoldsVoxel, child_of, lowest_voxel, root_block}
use Rattle.oct_key.proofs.Blocks.{child_in_map, depth_child_of, lowest_held, root_in_map}
use Rattle.oct_key.proofs.Held.{child_depths, held_in_map, only_voxel}
use Rattle.oct_odds.specs.Update.{Value}
use Rattle.oct_values.specs.Blocks.{child_numbers, blocks_below}
use Rattle.oct_values.specs.Counts.{group_count, is_known_in, is_uniform, known_children}
use Rattle.oct_values.specs.Counts.{needed_nodes, node_count}
use Rattle.oct_values.specs.Uniform.{IsUniform}
use Rattle.oct_values.proofs.Children.{uniform_child}
use Rattle.oct_values.proofs.Eights.{none_of_eight, same_eight}
use Rattle.oct_values.proofs.Listed.{sum_of_blocks, sum_of_no_blocks}
use Rattle.oct_values.proofs.Sums.{sum_by-plus}
use Rattle.oct_values.proofs.Uniform.{known_exactly, uniform_exactly, uniform_of, value_of_uniform}
use Rattle.oct_arena.specs.Entries.{Groups, home_at, node_at}
use Rattle.oct_arena.specs.Nodes.{link_of, value_of}
use Rattle.oct_tree.specs.Tree.{Tree, IsLinked, value_at}
use Rattle.oct_tree.proofs.Over.{slot_home, slot_value}
use Rattle.oct_tree.proofs.Paths.{some_injective}
use Rattle.oct_query.specs.Leaves.{IsOneValue, leaves_below, leaves_of, own_leaf}
use Rattle.oct_query.specs.Least.{IsPart, varied_below}
use Rattle.oct_query.specs.Shown.{Shown}
use Rattle.oct_query.specs.Under.{sum_below}
use Rattle.oct_query.proofs.LeafWalks.{IsOneFirst, first_leaves, leaves_next, leaves_of_one}
use Rattle.oct_query.proofs.LeafWalks.{leaves_of_parts, one_first, one_next, one_whole, several_in}
use Rattle.oct_query.proofs.LeafWalks.{several_of, tells_same}
use Rattle.oct_query.proofs.Under.{depths_down, sum_below_eight, sum_below_next, sum_below_none}

-- ---- counts

-- whether a block is counted
abbrev varied : Values → Cube → ℕ
varied v b = cond (not (is_uniform v b)) 1 0

uniform_counts_none : (uniform : Bool) → uniform ≡ true → cond {A = ℕ} (not uniform) 1 0 ≡ 0
uniform_counts_none true e = refl
uniform_counts_none false e = absurd (false≢true e)

uniform_needs_none : (uniform : Bool) (n : ℕ) → uniform ≡ true → cond uniform 0 n ≡ 0
uniform_needs_none true n e = refl
uniform_needs_none false n e = absurd (false≢true e)

-- a number that uniform blocks don't have comes to nothing in a uniform block
none_in_uniform : (v : Values) (f : Cube → ℕ) → ((c : Cube) → is_uniform v c ≡ true → f c ≡ 0)
    → (h : ℕ) (b : Cube) → IsBlock b → b.depth + h ≡ 16 → is_uniform v b ≡ true
    → sum_by f (blocks_below h b) ≡ 0
none_in_uniform v f none zero b ok d uniform = sum_of_no_blocks f b
none_in_uniform v f none (suc h) b ok d uniform =
    let all = sum_of_blocks f h b in
    let here = none b uniform in
    let rest = none_of_eight (λ i. sum_by f (blocks_below h (child_of b i))) (λ i li.
    none_in_uniform v f none h (child_of b i) (child_in_map b i ok (omega arith))
    (child_depths b h i d) (uniform_child v b i ok (omega arith) li uniform)) in
    omega (arith, all, here, rest)

varied_none : (v : Values) (h : ℕ) (b : Cube) → IsBlock b → b.depth + h ≡ 16
    → is_uniform v b ≡ true → varied_below v h b ≡ 0
varied_none v h b ok d uniform = none_in_uniform v (varied v)
    (λ c is. uniform_counts_none (is_uniform v c) is) h b ok d uniform

varied_parts : (v : Values) (h : ℕ) (b : Cube) → is_uniform v b ≡ false
    → varied_below v (suc h) b ≡ 1 + sum_by (λ i. varied_below v h (child_of b i)) child_numbers
varied_parts v h b several =
    let all = sum_of_blocks (varied v) h b in
    let here : varied v b ≡ 1 = ap (λ t. cond {A = ℕ} (not t) 1 0) several in
    omega (arith, all, here)

-- how many leaves the children have
pub leaves_so_far : (v : Values) (h : ℕ) (b : Cube) (i : ℕ)
    → length (first_leaves v h b (i + 1))
    ≡ length (first_leaves v h b i) + length (leaves_below v h (child_of b i))
leaves_so_far v h b i = ap (λ (l : List Shown). length l) (leaves_next v h b i)
    ∙ length-append (first_leaves v h b i) (leaves_below v h (child_of b i))

-- ---- parts

-- a block whose voxels have one value
pub part_of_one : (v : Values) (b : Cube) (value : Value) (groups leaves : ℕ) → IsBlock b
    → ((k : Voxel) → HoldsVoxel b k → v k ≡ value) → groups ≡ 0
    → leaves ≡ cond (is_some value) 1 0 → IsPart v b (Some value) groups leaves
part_of_one v b value groups leaves ok all no_groups own = record {
  same = all;
  counted = (let deep = ok.depth in
      no_groups ∙ sym (varied_none v (16 - b.depth) b ok (omega (arith, deep))
      (uniform_of v b value ok all)));
  listed = own ∙ own_length value
      ∙ ap (λ (l : List Shown). length l) (sym (leaves_of_one v (16 - b.depth) b value ok all));
}
  where
    own_length : (value : Value) → cond {A = ℕ} (is_some value) 1 0 ≡ length (own_leaf b value)
    own_length None = refl
    own_length (Some x) = refl

-- a block whose voxels have several
pub part_of_several : (v : Values) (h : ℕ) (b : Cube) (groups leaves : ℕ) → IsBlock b
    → 16 - b.depth ≡ suc h → IsOneValue v b None
    → groups ≡ 1 + sum_below (λ i. varied_below v h (child_of b i)) 8
    → leaves ≡ length (first_leaves v h b 8) → IsPart v b None groups leaves
part_of_several v h b groups leaves ok high several counted listed =
    let parted : is_uniform v b ≡ false =
    false_from_ne_true (is_uniform v b) (λ is. several ((uniform_exactly v b ok).0 is)) in
    let eight = sum_below_eight (λ i. varied_below v h (child_of b i)) in
    let all = varied_parts v h b parted in
    record {
      same = several;
      counted = subst (λ (m : ℕ). groups ≡ varied_below v m b) (sym high)
          (omega (arith, counted, eight, all));
      listed = subst (λ (m : ℕ). leaves ≡ length (leaves_below v m b)) (sym high)
          (listed ∙ ap (λ (l : List Shown). length l) (sym (leaves_of_parts v h b parted)));
    }

-- ---- nodes

-- a block with a known voxel, by the value that all have
known_by_one : (v : Values) (b : Cube) → IsBlock b → is_uniform v b ≡ true
    → cond {A = ℕ} (is_known_in v b) 1 0 ≡ length (own_leaf b (v (lowest_voxel b)))
known_by_one v b ok uniform = by (v (lowest_voxel b)) refl
  where
    by : (value : Value) → v (lowest_voxel b) ≡ value
        → cond {A = ℕ} (is_known_in v b) 1 0 ≡ length (own_leaf b (v (lowest_voxel b)))
    by None is =
        (let none = false_from_ne_true (is_known_in v b) (λ known.
        (let (k, held, some) = (known_exactly v b ok).0 known in
        false≢true (ap is_some (sym (value_of_uniform v b k ok uniform held ∙ is)) ∙ some))) in
        rw (none, is) refl)
    by (Some x) is =
        (let some = (known_exactly v b ok).1
        (lowest_voxel b, lowest_held b, ap is_some is) in
        rw (some, is) refl)

-- a block of several values has a known voxel
varied_known : (v : Values) (b : Cube) → IsBlock b → is_uniform v b ≡ false
    → is_known_in v b ≡ true
varied_known v b ok several = by (is_known_in v b) refl
  where
    unknown : (value : Value) → (IsSome value → ⊥) → value ≡ None
    unknown None none = refl
    unknown (Some x) none = absurd (none refl)

    by : (test : Bool) → is_known_in v b ≡ test → is_known_in v b ≡ true
    by true is = is
    by false is = absurd (false≢true (sym several ∙ uniform_of v b None ok
        (λ k held. unknown (v k) (λ some.
        false≢true (sym is ∙ (known_exactly v b ok).1 (k, held, some))))))

-- the leaves of the eight children
eight_lengths : (v : Values) (h : ℕ) (b : Cube) → length (first_leaves v h b 8)
    ≡ sum_by (λ i. length (leaves_below v h (child_of b i))) child_numbers
unfolding first_leaves
eight_lengths v h b =
    let s0 = leaves_so_far v h b 0 in
    let s1 = leaves_so_far v h b 1 in
    let s2 = leaves_so_far v h b 2 in
    let s3 = leaves_so_far v h b 3 in
    let s4 = leaves_so_far v h b 4 in
    let s5 = leaves_so_far v h b 5 in
    let s6 = leaves_so_far v h b 6 in
    let s7 = leaves_so_far v h b 7 in
    omega (arith, s0, s1, s2, s3, s4, s5, s6, s7)

-- the nodes below a block, and its own: each block of several values has one, and so has each leaf
abbrev AreNodesBelow : Values → ℕ → Cube → Type 0
AreNodesBelow v h b =
    sum_by (needed_nodes v) (blocks_below h b) + cond {A = ℕ} (is_known_in v b) 1 0
    ≡ varied_below v h b + length (leaves_below v h b)

nodes_of_one : (v : Values) (h : ℕ) (b : Cube) → IsBlock b → b.depth + h ≡ 16
    → is_uniform v b ≡ true → AreNodesBelow v h b
nodes_of_one v h b ok d uniform =
    let needed = none_in_uniform v (needed_nodes v)
    (λ c is. uniform_needs_none (is_uniform v c) (known_children v c) is) h b ok d uniform in
    let groups = varied_none v h b ok d uniform in
    let known = known_by_one v b ok uniform in
    let leaves = ap (λ (l : List Shown). length l)
    (leaves_of_one v h b (v (lowest_voxel b)) ok
    (λ k held. value_of_uniform v b k ok uniform held)) in
    omega (arith, needed, groups, known, leaves)

nodes_of_parts : (v : Values) (h : ℕ) (b : Cube) → IsBlock b → is_uniform v b ≡ false
    → ((i : ℕ) → i < 8 → AreNodesBelow v h (child_of b i)) → AreNodesBelow v (suc h) b
nodes_of_parts v h b ok several below =
    let all = sum_of_blocks (needed_nodes v) h b in
    let here : needed_nodes v b ≡ known_children v b =
    ap (λ t. cond t 0 (known_children v b)) several in
    let groups = varied_parts v h b several in
    let own : cond {A = ℕ} (is_known_in v b) 1 0 ≡ 1 =
    ap (λ t. cond {A = ℕ} t 1 0) (varied_known v b ok several) in
    let each = same_eight
    (λ i. sum_by (needed_nodes v) (blocks_below h (child_of b i))
    + cond (is_known_in v (child_of b i)) 1 0)
    (λ i. varied_below v h (child_of b i) + length (leaves_below v h (child_of b i))) below in
    let needed = sum_by-plus (λ i. sum_by (needed_nodes v) (blocks_below h (child_of b i)))
    (λ i. cond {A = ℕ} (is_known_in v (child_of b i)) 1 0) child_numbers in
    let parts = sum_by-plus (λ i. varied_below v h (child_of b i))
    (λ i. length (leaves_below v h (child_of b i))) child_numbers in
    let leaves = ap (λ (l : List Shown). length l) (leaves_of_parts v h b several) in
    let eight = eight_lengths v h b in
    omega (arith, all, here, groups, own, each, needed, parts, leaves, eight)

nodes_below : (v : Values) (h : ℕ) (b : Cube) → IsBlock b → b.depth + h ≡ 16
    → AreNodesBelow v h b
nodes_below v zero b ok d =
    nodes_of_one v 0 b ok d (uniform_of v b (v (lowest_voxel b)) ok
    (λ k held. ap v (only_voxel b k (omega (arith, d)) held)))
nodes_below v (suc h) b ok d =
    by (λ i li. nodes_below v h (child_of b i) (child_in_map b i ok (omega (arith, d)))
    (child_depths b h i d)) (is_uniform v b) refl
  where
    by : ((i : ℕ) → i < 8 → AreNodesBelow v h (child_of b i)) → (t : Bool)
        → is_uniform v b ≡ t → AreNodesBelow v (suc h) b
    by below true is = nodes_of_one v (suc h) b ok d is
    by below false is = nodes_of_parts v h b ok is below

-- the root counts where it is known
with_root : (known : Bool) (below all : ℕ) → (known ≡ false → below ≡ 0)
    → below + cond known 1 0 ≡ all → cond known (1 + below) 0 ≡ all
with_root true below all none sum = omega (arith, sum)
with_root false below all none sum = (let nothing = none refl in omega (arith, nothing, sum))

-- the least tree has a node for each group, and one for each leaf
pub nodes_are : (v : Values) → node_count v ≡ group_count v + length (leaves_of v)
unfolding node_count group_count
nodes_are v =
    with_root (is_known_in v root_block) (sum_by (needed_nodes v) (blocks_below 16 root_block))
    (varied_below v 16 root_block + length (leaves_of v)) (by (is_uniform v root_block) refl)
    (nodes_below v 16 root_block root_in_map refl)
  where
    by : (t : Bool) → is_uniform v root_block ≡ t → is_known_in v root_block ≡ false
        → sum_by (needed_nodes v) (blocks_below 16 root_block) ≡ 0
    by true is unknown = none_in_uniform v (needed_nodes v)
        (λ c is. uniform_needs_none (is_uniform v c) (known_children v c) is) 16 root_block
        root_in_map refl is
    by false is unknown =
        absurd (false≢true (sym unknown ∙ varied_known v root_block root_in_map is))

-- ---- the walk

-- the one value of the first n children of a block, if they have one
abbrev pub IsOneSoFar : Values → Cube → ℕ → Option Value → Type 0
IsOneSoFar v b n (Some value) = IsOneFirst v b n value
IsOneSoFar v b n None = IsUniform v b → ⊥

-- this is the one of two answers, or none where they differ
abbrev pub IsCommon : Option Value → Option Value → Option Value → Type 0
IsCommon a b common = ((common ≡ a) × (a ≡ b)) ⊎ ((common ≡ None) × (a ≡ b → ⊥))

pub none_yet : (v : Values) (b : Cube) → IsOneSoFar v b 0 (Some None)
none_yet v b j k less held = absurd (omega (arith, less))

-- the answer of the first child
pub first_value : (v : Values) (b : Cube) (value : Option Value) → b.depth < 16
    → IsOneValue v (child_of b 0) value → IsOneSoFar v b 1 value
first_value v b (Some value) low here = one_first v b (child_of b 0) value refl here
first_value v b None low here = several_in v b (child_of b 0) 0 low (omega arith) refl here

-- that of a child more, where it is the same
kept_value : (v : Values) (b : Cube) (i : ℕ) (before here : Option Value)
    → IsOneSoFar v b i before → IsOneValue v (child_of b i) here → before ≡ here
    → IsOneSoFar v b (i + 1) before
kept_value v b i None here so_far is e = so_far
kept_value v b i (Some x) None so_far is e = cc
kept_value v b i (Some x) (Some y) so_far is e =
    one_next v b (child_of b i) i x y refl so_far is
    (ap not ((tells_same y x).1 (sym (some_injective e))))

-- where it is another one
other_value : (v : Values) (b : Cube) (i : ℕ) (before here : Option Value) → b.depth < 16 → 1 ≤ i
    → i < 8 → IsOneSoFar v b i before → IsOneValue v (child_of b i) here → (before ≡ here → ⊥)
    → IsOneSoFar v b (i + 1) None
other_value v b i None here low some li so_far is differ = so_far
other_value v b i (Some x) None low some li so_far is differ =
    several_in v b (child_of b i) i low li refl is
other_value v b i (Some x) (Some y) low some li so_far is differ =
    several_of v b (child_of b i) i x y low some li refl so_far is
    (by (option_eq int_eq y x) (tells_same y x).0)
  where
    by : (t : Bool) → (t ≡ true → y ≡ x) → not t ≡ true
    by true same = absurd (differ (ap Some (sym (same refl))))
    by false same = refl

pub next_value : (v : Values) (b : Cube) (i : ℕ) (before here now : Option Value) → b.depth < 16
    → 1 ≤ i → i < 8 → IsOneSoFar v b i before → IsOneValue v (child_of b i) here
    → IsCommon before here now → IsOneSoFar v b (i + 1) now
next_value v b i before here now low some li so_far is common = elim common [
  | inl (same, e) ↦ subst (IsOneSoFar v b (i + 1)) (sym same)
      (kept_value v b i before here so_far is e)
  | inr (none, differ) ↦ subst (IsOneSoFar v b (i + 1)) (sym none)
      (other_value v b i before here low some li so_far is differ)
]

-- the value of all eight
pub all_values : (v : Values) (b : Cube) (value : Option Value) → b.depth < 16
    → IsOneSoFar v b 8 value → IsOneValue v b value
all_values v b (Some value) low so_far = one_whole v b 8 value low refl so_far
all_values v b None low so_far = so_far

-- what is counted of the first n children of a block, with the block's own group
pub record IsWalked (v : Values) (b : Cube) (n : ℕ) (value : Option Value) (groups leaves : ℕ)
    : Type 0 where
  pub same : IsOneSoFar v b n value
  pub counted : groups ≡ 1 + sum_below (λ i. varied_below v (15 - b.depth) (child_of b i)) n
  pub listed : leaves ≡ length (first_leaves v (15 - b.depth) b n)

pub walked_none : (v : Values) (b : Cube) → IsWalked v b 0 (Some None) 1 0
unfolding first_leaves
walked_none v b = record {
  same = none_yet v b;
  counted = (let none = sum_below_none (λ i. varied_below v (15 - b.depth) (child_of b i)) in
      omega (arith, none));
  listed = refl;
}

-- the answer after a child more: of the first one its own
abbrev pub IsNextValue : ℕ → Option Value → Option Value → Option Value → Type 0
IsNextValue zero before here now = now ≡ here
IsNextValue (suc i) before here now = IsCommon before here now

next_so_far : (v : Values) (b : Cube) (i : ℕ) (before here now : Option Value) → b.depth < 16
    → i < 8 → IsOneSoFar v b i before → IsOneValue v (child_of b i) here
    → IsNextValue i before here now → IsOneSoFar v b (i + 1) now
next_so_far v b zero before here now low li so_far is next =
    subst (IsOneSoFar v b 1) (sym next) (first_value v b here low is)
next_so_far v b (suc i) before here now low li so_far is next =
    next_value v b (suc i) before here now low (omega arith) li so_far is next

pub walked_next : (v : Values) (b : Cube) (i : ℕ) (before here now : Option Value)
    (groups leaves more_groups more_leaves : ℕ) → b.depth < 16 → i < 8
    → IsWalked v b i before groups leaves → IsPart v (child_of b i) here more_groups more_leaves
    → IsNextValue i before here now
    → IsWalked v b (i + 1) now (groups + more_groups) (leaves + more_leaves)
walked_next v b i before here now groups leaves more_groups more_leaves low li walked part next =
    let down = depth_child_of b i in
    let level : 16 - (child_of b i).depth ≡ 15 - b.depth = omega (arith, down) in
    let here_groups = part.counted ∙ ap (λ (h : ℕ). varied_below v h (child_of b i)) level in
    let here_leaves = part.listed
    ∙ ap (λ (h : ℕ). length (leaves_below v h (child_of b i))) level in
    let sum = sum_below_next (λ j. varied_below v (15 - b.depth) (child_of b j)) i in
    let listed = leaves_so_far v (15 - b.depth) b i in
    record {
      same = next_so_far v b i before here now low li walked.same part.same next;
      counted = (let was = walked.counted in omega (arith, was, here_groups, sum));
      listed = (let was = walked.listed in omega (arith, was, here_leaves, listed));
    }

-- all eight, where the block has one value
pub walked_one : (v : Values) (b : Cube) (value : Value) (groups leaves : ℕ) → b.depth < 16
    → IsWalked v b 8 (Some value) groups leaves → (k : Voxel) → HoldsVoxel b k → v k ≡ value
walked_one v b value groups leaves low walked = all_values v b (Some value) low walked.same

-- and where it has several
pub walked_several : (v : Values) (b : Cube) (groups leaves : ℕ) → IsBlock b → b.depth < 16
    → IsWalked v b 8 None groups leaves → IsPart v b None groups leaves
walked_several v b groups leaves ok low walked =
    part_of_several v (15 - b.depth) b groups leaves ok (omega (arith, low))
    (all_values v b None low walked.same) walked.counted walked.listed

-- the part of a child that has no group
pub part_of_slot : (t : Tree) (b : Cube) (x i : ℕ) (value : Value) (found : Option Value)
    (groups leaves : ℕ) → IsLinked t → home_at t.groups x ≡ Some b → i < 8
    → link_of (node_at t.groups x i) ≡ None → value ≡ value_of (node_at t.groups x i)
    → found ≡ Some value → groups ≡ 0 → leaves ≡ cond (is_some value) 1 0
    → IsPart (value_at t) (child_of b i) found groups leaves
part_of_slot t b x i value found groups leaves l home li none is same no_groups own =
    let (ok, low) = l.homes x b home in
    subst (λ (o : Option Value). IsPart (value_at t) (child_of b i) o groups leaves) (sym same)
    (part_of_one (value_at t) (child_of b i) value groups leaves
    (child_in_map b i ok (omega (arith, low)))
    (λ k held. slot_value t b x i l home li none k held ∙ sym is) no_groups own)

-- the answer for a whole map without a group
pub part_of_root : (t : Tree) (value : Value) (found : Option Value) (groups leaves : ℕ)
    → ((k : Voxel) → IsInMap k → HoldsVoxel root_block k → value_at t k ≡ value)
    → found ≡ Some value → groups ≡ 0 → leaves ≡ cond (is_some value) 1 0
    → IsPart (value_at t) root_block found groups leaves
part_of_root t value found groups leaves all same no_groups own =
    subst (λ (o : Option Value). IsPart (value_at t) root_block o groups leaves) (sym same)
    (part_of_one (value_at t) root_block value groups leaves root_in_map
    (λ k held. all k (held_in_map root_block k root_in_map held) held) no_groups own)

-- a part is counted within 64 bits
pub one_fits : (leaves : ℕ) (value : Value) (h : ℕ) → leaves ≡ cond (is_some value) 1 0
    → leaves ≤ 9 ^ h
one_fits leaves None h is = (let some = one-le-pow h 9 (omega arith) in omega (arith, is, some))
one_fits leaves (Some x) h is =
    (let some = one-le-pow h 9 (omega arith) in omega (arith, is, some))

-- what child i of the block of a group comes to, which has this depth
pub record IsNext (t : Tree) (id d i : ℕ) (found : Option Value) (groups leaves : ℕ) : Type 0 where
  pub part : (b : Cube) → home_at t.groups id ≡ Some b
      → IsPart (value_at t) (child_of b i) found groups leaves
  pub few_groups : groups ≤ 9 ^ (15 - d)
  pub few_leaves : leaves ≤ 9 ^ (15 - d)

-- a child that has a group
pub next_below : (t : Tree) (gs : Groups) (id x d i : ℕ) (found : Option Value)
    (groups leaves : ℕ) → IsLinked t → gs ≡ t.groups → i < 8 → Some x ≡ link_of (node_at gs id i)
    → ((b : Cube) → home_at t.groups x ≡ Some b → IsPart (value_at t) b found groups leaves)
    → (groups ≤ 9 ^ (16 - (d + 1))) × (leaves ≤ 9 ^ (16 - (d + 1)))
    → IsNext t id d i found groups leaves
next_below t gs id x d i found groups leaves l same li link part few = record {
  part = λ b home. part (child_of b i)
      (slot_home t b id x i l home (ap (λ g. link_of (node_at g id i)) (sym same) ∙ sym link));
  few_groups = subst (λ (h : ℕ). groups ≤ 9 ^ h) (depths_down d) few.0;
  few_leaves = subst (λ (h : ℕ). leaves ≤ 9 ^ h) (depths_down d) few.1;
}

-- and one that has none
pub next_plain : (t : Tree) (gs : Groups) (id d i : ℕ) (value : Value) (found : Option Value)
    (groups leaves : ℕ) → IsLinked t → gs ≡ t.groups → i < 8 → None ≡ link_of (node_at gs id i)
    → value ≡ value_of (node_at t.groups id i) → found ≡ Some value → groups ≡ 0
    → leaves ≡ cond (is_some value) 1 0 → IsNext t id d i found groups leaves
next_plain t gs id d i value found groups leaves l same li none is told no_groups own = record {
  part = λ b home. part_of_slot t b id i value found groups leaves l home li
      (ap (λ g. link_of (node_at g id i)) (sym same) ∙ sym none) is told no_groups own;
  few_groups = (let some = one-le-pow (15 - d) 9 (omega arith) in
      omega (arith, no_groups, some));
  few_leaves = one_fits leaves value (15 - d) own;
}

-- the answer after the first child, and after a later one
pub after_first : (i : ℕ) (before here now : Option Value) → i ≡ 0 → now ≡ here
    → IsNextValue i before here now
after_first zero before here now first is = is
after_first (suc i) before here now first is = absurd (omega (arith, first))

pub after_later : (i : ℕ) (before here now : Option Value) → (i ≡ 0 → ⊥)
    → IsCommon before here now → IsNextValue i before here now
after_later zero before here now later is = absurd (later refl)
after_later (suc i) before here now later is = is

-- the block of a group lies above the voxels
pub low_of : (t : Tree) (id d : ℕ) → IsLinked t
    → (b : Cube) × (home_at t.groups id ≡ Some b) × (b.depth ≡ d) → d ≤ 15
low_of t id d l (b, home, deep) = (let low = (l.homes id b home).1 in omega (arith, low, deep))

-- one child more
pub walked_child : (t : Tree) (id d i : ℕ) (before here now : Option Value)
    (groups leaves more_groups more_leaves : ℕ) → IsLinked t → i < 8
    → ((b : Cube) → home_at t.groups id ≡ Some b
    → IsWalked (value_at t) b i before groups leaves)
    → IsNext t id d i here more_groups more_leaves → IsNextValue i before here now
    → (b : Cube) → home_at t.groups id ≡ Some b
    → IsWalked (value_at t) b (i + 1) now (groups + more_groups) (leaves + more_leaves)
walked_child t id d i before here now groups leaves more_groups more_leaves l li walked next value
    b home =
    let low = (l.homes id b home).1 in
    walked_next (value_at t) b i before here now groups leaves more_groups more_leaves
    (omega (arith, low)) li (walked b home) (next.part b home) value

-- all eight, with one value
pub finished_one : (t : Tree) (id i : ℕ) (so_far : Option Value) (value : Value)
    (found : Option Value) (groups leaves own_groups own_leaves : ℕ) → IsLinked t → i ≡ 8
    → ((b : Cube) → home_at t.groups id ≡ Some b
    → IsWalked (value_at t) b i so_far groups leaves) → so_far ≡ Some value
    → found ≡ Some value → own_groups ≡ 0 → own_leaves ≡ cond (is_some value) 1 0
    → (b : Cube) → home_at t.groups id ≡ Some b
    → IsPart (value_at t) b found own_groups own_leaves
finished_one t id i so_far value found groups leaves own_groups own_leaves l end walked is told
    no_groups own b home =
    let (ok, low) = l.homes id b home in
    let all = subst (λ (n : ℕ). IsWalked (value_at t) b n (Some value) groups leaves) end
    (subst (λ (o : Option Value). IsWalked (value_at t) b i o groups leaves) is (walked b home)) in
    subst (λ (o : Option Value). IsPart (value_at t) b o own_groups own_leaves) (sym told)
    (part_of_one (value_at t) b value own_groups own_leaves ok
    (walked_one (value_at t) b value groups leaves (omega (arith, low)) all) no_groups own)

-- and with several
pub finished_several : (t : Tree) (id i : ℕ) (so_far : Option Value) (groups leaves : ℕ)
    → IsLinked t → i ≡ 8
    → ((b : Cube) → home_at t.groups id ≡ Some b
    → IsWalked (value_at t) b i so_far groups leaves) → so_far ≡ None
    → (b : Cube) → home_at t.groups id ≡ Some b → IsPart (value_at t) b None groups leaves
finished_several t id i so_far groups leaves l end walked is b home =
    let (ok, low) = l.homes id b home in
    let all = subst (λ (n : ℕ). IsWalked (value_at t) b n None groups leaves) end
    (subst (λ (o : Option Value). IsWalked (value_at t) b i o groups leaves) is (walked b home)) in
    walked_several (value_at t) b groups leaves ok (omega (arith, low)) all

-- the part of the whole map is the least tree
pub least_of_part : (v : Values) (found : Option Value) (groups leaves : ℕ)
    → IsPart v root_block found groups leaves
    → (groups ≡ group_count v) × (groups + leaves ≡ node_count v)
    × (leaves ≡ length (leaves_of v))
unfolding group_count
least_of_part v found groups leaves part =
    let counted = part.counted in
    let listed = part.listed in
    let nodes = nodes_are v in
    (counted, omega (arith, counted, listed, nodes), listed)
