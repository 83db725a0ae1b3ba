-- The leaves in a block are the leaves of the map there, in the order of their Morton codes.
use Rattle.std.proofs.Common.{◌≡◌, ℕ, zero, suc, ◌+◌, ◌<◌, ◌≤◌, Bool, true}
use Rattle.std.proofs.Common.{false, List, [], ◌∷◌, ◌++◌, Some, None, inl, inr, refl, sym, subst}
use Rattle.std.proofs.Common.{◌∙◌, ap, arith}
use Rattle.std.specs.Prelude.{ℤ, ◌⊎◌}
use Rattle.std.specs.List.{All, AllPairs, AllByRecursion, Contains}
use Rattle.std.proofs.lemmas.Bool.{false≢true, cases_lt}
use Rattle.std.proofs.lemmas.List.Elements.{All-contains, All-from_recursion}
use Rattle.std.proofs.lemmas.List.Elements.{Contains-append_left, Contains-append_right}
use Rattle.std.proofs.lemmas.List.Kept.{AllPairs-cons}
use Rattle.oct_key.specs.Voxel.{Voxel, IsInMap}
use Rattle.oct_key.specs.Values.{Values}
use Rattle.oct_key.specs.Block.{Cube, IsBlock, HoldsVoxel, LiesIn, block_of, child_of, parent_of}
use Rattle.oct_key.specs.Block.{child_index_of, index_in_parent, lowest_voxel, root_block}
use Rattle.oct_key.proofs.Blocks.{block_of_held, child_in_map, child_index_below}
use Rattle.oct_key.proofs.Blocks.{child_of_parent, depth_child_of, lowest_held, lowest_in_map}
use Rattle.oct_key.proofs.Blocks.{parent_of_child, root_holds, root_in_map}
use Rattle.oct_key.proofs.ChildCodes.{below_by_child}
use Rattle.oct_key.proofs.Held.{held_by_parent, held_by_child, only_voxel}
use Rattle.oct_key.proofs.Nested.{child_lies_in, lies_in_self, lies_in_trans, lies_in_block_of}
use Rattle.oct_key.proofs.OneOrder.{on_first}
use Rattle.oct_odds.specs.Update.{Value}
use Rattle.oct_values.specs.Uniform.{IsUniform}
use Rattle.oct_values.specs.Counts.{is_uniform}
use Rattle.oct_values.proofs.Uniform.{uniform_exactly, value_of_uniform}
use Rattle.oct_tree.proofs.Paths.{some_injective, some_not_none}
use Rattle.oct_query.specs.Shown.{Shown}
use Rattle.oct_query.specs.Leaves.{IsLeaf, IsLeafList, StandsBefore, own_leaf, leaves_below}
use Rattle.oct_query.specs.Leaves.{leaves_of}
use Rattle.oct_query.proofs.LeafWalks.{first_leaves, leaves_of_one, leaves_of_parts}

-- ---- lists

-- each stands before all after it
abbrev pub Rises : List Shown → Type 0
Rises [] = Unit {0}
Rises (a ∷ more) = AllByRecursion (StandsBefore a) more × Rises more

all_append : (P : Shown → Type 0) (xs ys : List Shown) → AllByRecursion P xs → AllByRecursion P ys
    → AllByRecursion P (xs ++ ys)
all_append P [] ys p q = q
all_append P (x ∷ xs) ys (p, more) q = (p, all_append P xs ys more q)

pub all_mapped : (P Q : Shown → Type 0) (xs : List Shown) → ((x : Shown) → P x → Q x)
    → AllByRecursion P xs → AllByRecursion Q xs
all_mapped P Q [] f p = tt
all_mapped P Q (x ∷ xs) f (p, more) = (f x p, all_mapped P Q xs f more)

rises_append : (xs ys : List Shown) → Rises xs → Rises ys
    → AllByRecursion (λ x. AllByRecursion (StandsBefore x) ys) xs → Rises (xs ++ ys)
rises_append [] ys p q below = q
rises_append (x ∷ xs) ys (p, more) q (here, later) =
    (all_append (StandsBefore x) xs ys p here, rises_append xs ys more q later)

pairs : (xs : List Shown) → Rises xs → AllPairs StandsBefore xs
pairs [] r = λ i j d less short. absurd (omega arith)
pairs (x ∷ xs) (p, more) =
    AllPairs-cons StandsBefore x xs (All-from_recursion (StandsBefore x) xs p) (pairs xs more)

-- ---- what is known of the leaves in a block

-- a leaf of the map in a block, or the block itself, if all its voxels have the value
pub record IsLeafIn (v : Values) (b : Cube) (leaf : Shown) : Type 0 where
  pub block : IsBlock leaf.block
  pub within : LiesIn leaf.block b
  pub value : (k : Voxel) → HoldsVoxel leaf.block k → v k ≡ Some leaf.value
  pub greatest : (leaf.block ≡ b) ⊎ (IsUniform v (parent_of leaf.block) → ⊥)

-- a voxel of a value lies in a leaf of the list that has the value
abbrev pub IsCovered : List Shown → Voxel → ℤ → Type 0
IsCovered leaves k x =
    (leaf : Shown) × Contains leaves leaf × HoldsVoxel leaf.block k × (leaf.value ≡ x)

pub record AreLeavesIn (v : Values) (b : Cube) (leaves : List Shown) : Type 0 where
  pub each : AllByRecursion (IsLeafIn v b) leaves
  pub rise : Rises leaves
  pub covers : (k : Voxel) (x : ℤ) → HoldsVoxel b k → v k ≡ Some x → IsCovered leaves k x

-- a block whose voxels have one value
of_one : (v : Values) (b : Cube) (value : Value) → IsBlock b
    → ((k : Voxel) → HoldsVoxel b k → v k ≡ value) → AreLeavesIn v b (own_leaf b value)
of_one v b None ok all = record {
  each = tt;
  rise = tt;
  covers = λ k x held is. absurd (some_not_none is (all k held));
}
of_one v b (Some y) ok all = record {
  each = (
    record {
      block = ok;
      within = lies_in_self b;
      value = all;
      greatest = inl refl;
    },
    tt,
  );
  rise = (tt, tt);
  covers = λ k x held is. (
    record { block = b; value = y },
    on_first [] (record { block = b; value = y }),
    held,
    some_injective (sym (all k held) ∙ is),
  );
}

-- a leaf in a child is one in the block, whose voxels have several values
in_parent : (v : Values) (b : Cube) (i : ℕ) (leaf : Shown) → b.depth < 16
    → (IsUniform v b → ⊥) → IsLeafIn v (child_of b i) leaf → IsLeafIn v b leaf
in_parent v b i leaf low several is = record {
  block = is.block;
  within = lies_in_trans leaf.block (child_of b i) b is.within
      (child_lies_in b i (omega (arith, low)));
  value = is.value;
  greatest = elim is.greatest [
    | inl same ↦ inr (λ uniform. several
        (subst (IsUniform v) (ap parent_of same ∙ parent_of_child b i) uniform))
    | inr parted ↦ inr parted
  ];
}

-- a leaf begins in one of the first n children of a block
abbrev StartsInFirst : Cube → ℕ → Shown → Type 0
StartsInFirst b n a = (i : ℕ) × (i < n) × HoldsVoxel (child_of b i) (lowest_voxel a.block)

starts : (v : Values) (b : Cube) (a : Shown) → IsLeafIn v b a → HoldsVoxel b (lowest_voxel a.block)
starts v b a is = is.within (lowest_voxel a.block) (lowest_held a.block)

first_start : (v : Values) (h : ℕ) (b : Cube)
    → ((i : ℕ) → i < 8 → AreLeavesIn v (child_of b i) (leaves_below v h (child_of b i)))
    → (n : ℕ) → n ≤ 8 → AllByRecursion (StartsInFirst b n) (first_leaves v h b n)
unfolding first_leaves
first_start v h b each zero l = tt
first_start v h b each (suc n) l =
    all_append (StartsInFirst b (suc n)) (first_leaves v h b n) (leaves_below v h (child_of b n))
    (all_mapped (StartsInFirst b n) (StartsInFirst b (suc n)) (first_leaves v h b n)
    (λ a (i, less, held). (i, omega (arith, less), held))
    (first_start v h b each n (omega (arith, l))))
    (all_mapped (IsLeafIn v (child_of b n)) (StartsInFirst b (suc n))
    (leaves_below v h (child_of b n))
    (λ a is. (n, omega arith, starts v (child_of b n) a is)) (each n (omega (arith, l))).each)

first_rise : (v : Values) (h : ℕ) (b : Cube) → IsBlock b → b.depth < 16
    → ((i : ℕ) → i < 8 → AreLeavesIn v (child_of b i) (leaves_below v h (child_of b i)))
    → (n : ℕ) → n ≤ 8 → Rises (first_leaves v h b n)
unfolding first_leaves
first_rise v h b ok low each zero l = tt
first_rise v h b ok low each (suc n) l =
    rises_append (first_leaves v h b n) (leaves_below v h (child_of b n))
    (first_rise v h b ok low each n (omega (arith, l))) (each n (omega (arith, l))).rise
    (all_mapped (StartsInFirst b n)
    (λ x. AllByRecursion (StandsBefore x) (leaves_below v h (child_of b n)))
    (first_leaves v h b n)
    (λ a (i, less, held). all_mapped (IsLeafIn v (child_of b n)) (StandsBefore a)
    (leaves_below v h (child_of b n))
    (λ e there. below_by_child b i n (lowest_voxel a.block) (lowest_voxel e.block) ok low
    (omega (arith, less, l)) (omega (arith, l)) less held (starts v (child_of b n) e there))
    (each n (omega (arith, l))).each)
    (first_start v h b each n (omega (arith, l))))

first_each : (v : Values) (h : ℕ) (b : Cube) → b.depth < 16 → (IsUniform v b → ⊥)
    → ((i : ℕ) → i < 8 → AreLeavesIn v (child_of b i) (leaves_below v h (child_of b i)))
    → (n : ℕ) → n ≤ 8 → AllByRecursion (IsLeafIn v b) (first_leaves v h b n)
unfolding first_leaves
first_each v h b low several each zero l = tt
first_each v h b low several each (suc n) l =
    all_append (IsLeafIn v b) (first_leaves v h b n) (leaves_below v h (child_of b n))
    (first_each v h b low several each n (omega (arith, l)))
    (all_mapped (IsLeafIn v (child_of b n)) (IsLeafIn v b) (leaves_below v h (child_of b n))
    (λ a is. in_parent v b n a low several is) (each n (omega (arith, l))).each)

first_contains : (v : Values) (h : ℕ) (b : Cube) (leaf : Shown) (i : ℕ)
    → Contains (leaves_below v h (child_of b i)) leaf → (n : ℕ) → i < n
    → Contains (first_leaves v h b n) leaf
unfolding first_leaves
first_contains v h b leaf i there zero less = absurd (omega (arith, less))
first_contains v h b leaf i there (suc n) less = elim (cases_lt i n) [
  | inl before ↦ Contains-append_left (first_leaves v h b n) (leaves_below v h (child_of b n)) leaf
      (first_contains v h b leaf i there n before)
  | inr last ↦ (let e : i ≡ n = omega (arith, less, last) in
      Contains-append_right (first_leaves v h b n) (leaves_below v h (child_of b n)) leaf
      (subst (λ (m : ℕ). Contains (leaves_below v h (child_of b m)) leaf) e there))
]

of_parts : (v : Values) (h : ℕ) (b : Cube) → IsBlock b → b.depth < 16 → (IsUniform v b → ⊥)
    → ((i : ℕ) → i < 8 → AreLeavesIn v (child_of b i) (leaves_below v h (child_of b i)))
    → AreLeavesIn v b (first_leaves v h b 8)
of_parts v h b ok low several each = record {
  each = first_each v h b low several each 8 (omega arith);
  rise = first_rise v h b ok low each 8 (omega arith);
  covers = λ k x held is. (let li = child_index_below b.depth k in
      let (leaf, there, holds, same) = (each (child_index_of b.depth k) li).covers k x
      (held_by_child b k low held) is in
      (leaf, first_contains v h b leaf (child_index_of b.depth k) there 8 li, holds, same));
}

pub leaves_are : (v : Values) (h : ℕ) (b : Cube) → IsBlock b → b.depth + h ≡ 16
    → AreLeavesIn v b (leaves_below v h b)
leaves_are v zero b ok d =
    let all = λ (k : Voxel) (held : HoldsVoxel b k).
    ap v (only_voxel b k (omega (arith, d)) held) in
    subst (AreLeavesIn v b) (sym (leaves_of_one v 0 b (v (lowest_voxel b)) ok all))
    (of_one v b (v (lowest_voxel b)) ok all)
leaves_are v (suc h) b ok d =
    by (λ i li. (let down = depth_child_of b i in
    leaves_are v h (child_of b i) (child_in_map b i ok (omega (arith, d)))
    (omega (arith, d, down))))
    (is_uniform v b) refl
  where
    by : ((i : ℕ) → i < 8 → AreLeavesIn v (child_of b i) (leaves_below v h (child_of b i)))
        → (t : Bool) → is_uniform v b ≡ t → AreLeavesIn v b (leaves_below v (suc h) b)
    by each true is =
        (let all = λ (k : Voxel) (held : HoldsVoxel b k). value_of_uniform v b k ok is held in
        subst (AreLeavesIn v b) (sym (leaves_of_one v (suc h) b (v (lowest_voxel b)) ok all))
        (of_one v b (v (lowest_voxel b)) ok all))
    by each false is =
        subst (AreLeavesIn v b) (sym (leaves_of_parts v h b is))
        (of_parts v h b ok (omega (arith, d))
        (λ uniform. false≢true (sym is ∙ (uniform_exactly v b ok).1 uniform)) each)

-- ---- a voxel lies in one leaf

number_below : (b : Cube) → index_in_parent b < 8
unfolding index_in_parent
number_below b = omega arith

-- a leaf that holds a voxel of a block of one value isn't deeper than that
pub not_deeper : (v : Values) (c : Cube) (x : ℤ) (b : Shown) (k : Voxel)
    → ((j : Voxel) → HoldsVoxel c j → v j ≡ Some x) → IsLeaf v b
    → HoldsVoxel c k → HoldsVoxel b.block k → c.depth < b.block.depth → ⊥
not_deeper v c x b k all leaf held_c held_b less =
    let few = leaf.block.depth in
    let child = child_of_parent b.block (omega (arith, less)) in
    let down = sym (depth_child_of (parent_of b.block) (index_in_parent b.block))
    ∙ ap (λ (c : Cube). c.depth) child in
    let low : (parent_of b.block).depth < 16 = omega (arith, down, few) in
    let held = held_by_parent (parent_of b.block) (index_in_parent b.block) k low
    (number_below b.block) (subst (λ c. HoldsVoxel c k) (sym child) held_b) in
    let inside : LiesIn (parent_of b.block) c =
    subst (LiesIn (parent_of b.block)) (block_of_held c k held_c)
    (lies_in_block_of (parent_of b.block) c.depth k (omega (arith, low))
    (omega (arith, down, less)) held) in
    elim leaf.greatest [
      | inl top ↦ omega (arith, top, less)
      | inr parted ↦ parted (λ i j held_i held_j. all i (inside i held_i)
          ∙ sym (all j (inside j held_j)))
    ]

same_shown : (a b : Shown) → a.block ≡ b.block → a.value ≡ b.value → a ≡ b
same_shown a b block value =
    let shown : Cube → ℤ → Shown = λ c x. record { block = c; value = x } in
    let e : shown a.block a.value ≡ shown b.block b.value = rw (block, value) refl in
    e

one_leaf : (v : Values) (a b : Shown) (k : Voxel) → IsLeaf v a → IsLeaf v b
    → HoldsVoxel a.block k → HoldsVoxel b.block k → a ≡ b
one_leaf v a b k leaf_a leaf_b held_a held_b = elim (cases_lt a.block.depth b.block.depth) [
  | inl less ↦ absurd (not_deeper v a.block a.value b k leaf_a.value leaf_b held_a
      held_b less)
  | inr most ↦ elim (cases_lt b.block.depth a.block.depth) [
    | inl more ↦ absurd (not_deeper v b.block b.value a k leaf_b.value leaf_a held_b
        held_a more)
    | inr least ↦ (let level : a.block.depth ≡ b.block.depth = omega (arith, most, least) in
        same_shown a b
        (sym (block_of_held a.block k held_a) ∙ ap (λ (d : ℕ). block_of d k) level
        ∙ block_of_held b.block k held_b)
        (some_injective (sym (leaf_a.value k held_a) ∙ leaf_b.value k held_b)))
  ]
]

-- ---- the whole map

of_map : (v : Values) (leaf : Shown) → IsLeafIn v root_block leaf → IsLeaf v leaf
of_map v leaf is = record {
  block = is.block;
  value = is.value;
  greatest = elim is.greatest [
    | inl whole ↦ inl (ap (λ (c : Cube). c.depth) whole)
    | inr parted ↦ inr parted
  ];
}

pub leaf_list : (v : Values) → IsLeafList v (leaves_of v)
leaf_list v =
    let are : AreLeavesIn v root_block (leaves_of v) =
    leaves_are v 16 root_block root_in_map refl in
    let only : All (IsLeaf v) (leaves_of v) =
    All-from_recursion (IsLeaf v) (leaves_of v)
    (all_mapped (IsLeafIn v root_block) (IsLeaf v) (leaves_of v) (of_map v) are.each) in
    let covers = λ (k : Voxel) (x : ℤ) (inside : IsInMap k) (is : v k ≡ Some x).
    are.covers k x (root_holds k inside) is in
    let is_leaf = λ (leaf : Shown) (there : Contains (leaves_of v) leaf).
    All-contains (IsLeaf v) (leaves_of v) leaf only there in
    record {
      only = only;
      all = λ leaf is. (let k = lowest_voxel leaf.block in
          let here = lowest_held leaf.block in
          let (other, there, held, same) =
          covers k leaf.value (lowest_in_map leaf.block is.block) (is.value k here) in
          subst (Contains (leaves_of v))
          (sym (one_leaf v leaf other k is (is_leaf other there) here held)) there);
      rising = pairs (leaves_of v) are.rise;
      covers = covers;
      once = λ a b k in_a in_b held_a held_b.
          one_leaf v a b k (is_leaf a in_a) (is_leaf b in_b) held_a held_b;
    }
