-- How many of the blocks that a box cuts lie in a leaf: block by block, and at once in a leaf.
use Rattle.std.proofs.Common.{◌≡◌, ℕ, zero, suc, ◌+◌, ◌-◌, ◌*◌, ◌^◌, ◌<◌, ◌≤◌, Bool, true, false}
use Rattle.std.proofs.Common.{cond, inl, inr, sym, subst, ◌∙◌, ap, arith, refl, ℤ, None}
use Rattle.std.proofs.lemmas.Nat.{pow-add}
use Rattle.std.proofs.Math.Nat.{mul-le-mul_right, pow-le-pow_right}
use Rattle.std.proofs.lemmas.Bool.{false≢true, and_parts, cases_lt}
use Rattle.std.specs.Prelude.{◌&&◌, not, is_some, IsTrue, ◌↔◌, count_by}
use Rattle.oct_key.specs.Voxel.{Voxel}
use Rattle.oct_key.specs.Block.{Cube, IsBlock, child_of}
use Rattle.oct_key.specs.Block.{lowest_voxel, root_block}
use Rattle.oct_key.specs.Boxes.{IsInBox, MeetsBox, LiesInBox}
use Rattle.oct_key.proofs.Blocks.{lowest_held}
use Rattle.oct_key.proofs.Held.{only_voxel}
use Rattle.oct_values.specs.Blocks.{blocks_below}
use Rattle.oct_values.specs.Boxes.{is_cut_by}
use Rattle.oct_values.proofs.Axes.{sum_below}
use Rattle.oct_values.proofs.Boxes.{cut_exactly}
use Rattle.oct_values.proofs.Eights.{sum_of_eight}
use Rattle.oct_values.proofs.Listed.{sum_of_blocks, sum_of_no_blocks}
use Rattle.oct_arena.specs.Nodes.{link_of, value_of}
use Rattle.oct_arena.specs.declared.node.GroupId.{GroupId}
use Rattle.oct_arena.specs.declared.node.Node.{Node}
use Rattle.oct_arena.specs.declared.node.Node.TheVariants.{Absent, Leaf, Inner}
use Rattle.oct_tree.specs.Tree.{Tree, IsOver, reach}
use Rattle.oct_tree.proofs.Paths.{stays}
use Rattle.oct_edit.specs.Areas.{count_in, cut_in, keep_need_in}
use Rattle.oct_edit.specs.Keep.{is_in_leaf, parts_leaf, keep_need}
use Rattle.oct_edit.proofs.Counts.{IsInside, count_same, count_none, count_of_children}

-- the end of a block's numbers on an axis
pub end_in_map : (n d : ℕ) → d ≤ 16 → n < 2 ^ d → (n + 1) * 2 ^ (16 - d) ≤ 65536
end_in_map n d l h =
    let all : d + (16 - d) ≡ 16 = omega arith in
    let whole : 2 ^ d * 2 ^ (16 - d) ≡ 65536 =
    sym (pow-add 2 d (16 - d)) ∙ ap (λ (m : ℕ). 2 ^ m) all in
    let most : (n + 1) * 2 ^ (16 - d) ≤ 2 ^ d * 2 ^ (16 - d) =
    mul-le-mul_right (2 ^ (16 - d)) (omega arith) in
    omega (arith, whole, most)

-- tests that follow from one another are one
pub same_test : (p q : Bool) → (p ≡ true → q ≡ true) → (q ≡ true → p ≡ true) → p ≡ q
same_test true true f g = refl
same_test true false f g = sym (f refl)
same_test false true f g = g refl
same_test false false f g = refl

-- whether a block is cut, by the tests of a block that meets a box and of one that lies in it
pub cut_where : (lo hi : Voxel) (b : Cube) (covered : Bool) → IsBlock b → MeetsBox lo hi b
    → IsTrue covered ↔ LiesInBox lo hi b → not covered ≡ is_cut_by lo hi b
cut_where lo hi b covered ok meets covers =
    let cut = cut_exactly lo hi b ok in
    same_test (not covered) (is_cut_by lo hi b)
    (λ h. cut.1 (meets, λ lies. by_test covered h (covers.1 lies)))
    (λ h. by_case covered (λ e. (cut.0 h).1 (covers.0 e)))
  where
    by_test : (test : Bool) → not test ≡ true → test ≡ true → ⊥
    by_test true h e = false≢true h
    by_test false h e = false≢true e

    by_case : (test : Bool) → (test ≡ true → ⊥) → not test ≡ true
    by_case true out = absurd (out refl)
    by_case false out = refl

pub uncut_where : (lo hi : Voxel) (b : Cube) (met : Bool) → IsBlock b → met ≡ false
    → IsTrue met ↔ MeetsBox lo hi b → met ≡ is_cut_by lo hi b
uncut_where lo hi b met ok none meets =
    same_test met (is_cut_by lo hi b) (λ h. absurd (false≢true (sym none ∙ h)))
    (λ h. meets.1 ((cut_exactly lo hi b ok).0 h).0)

-- a block around one that is cut is cut
cut_above : (lo hi : Voxel) (b q : Cube) → IsBlock b → IsInside b q → is_cut_by lo hi q ≡ true
    → is_cut_by lo hi b ≡ true
cut_above lo hi b q ok at h =
    let ((k, held, inside), part) = (cut_exactly lo hi q at.of).0 h in
    (cut_exactly lo hi b ok).1 (
      (k, at.lies k held, inside),
      λ lies. part (λ j there. lies j (at.lies j there)),
    )

-- so where a block isn't, none in it is
pub uncut_none : (t : Tree) (lo hi : Voxel) (b : Cube) (cut : Bool) → IsBlock b
    → cut ≡ is_cut_by lo hi b → cut ≡ false → keep_need_in t lo hi b ≡ 0
uncut_none t lo hi b cut ok is not_cut =
    count_none (parts_leaf t lo hi) b ok
    (λ q at h. false≢true (sym not_cut ∙ is
    ∙ cut_above lo hi b q ok at (and_parts (is_cut_by lo hi q) (is_in_leaf t q) h).0))

-- a block that is cut is no voxel
pub cut_low : (lo hi : Voxel) (b : Cube) → IsBlock b → is_cut_by lo hi b ≡ true → b.depth ≤ 15
cut_low lo hi b ok h = elim (cases_lt b.depth 16) [
  | inl less ↦ omega (arith, less)
  | inr more ↦ (let ((k, held, inside), part) = (cut_exactly lo hi b ok).0 h in
      let top = ok.depth in
      let deep : b.depth ≡ 16 = omega (arith, more, top) in
      absurd (part (λ j there. subst (IsInBox lo hi)
      (only_voxel b k deep held ∙ sym (only_voxel b j deep there)) inside)))
]

-- under a node that links no group each path comes to it
covered_by : (t : Tree) (b q : Cube) (n : Node) → IsOver t b n → link_of n ≡ None → IsInside b q
    → reach t q.depth (lowest_voxel q) ≡ n
covered_by t b q n over plain at =
    let there = over (lowest_voxel q) (at.lies (lowest_voxel q) (lowest_held q)) in
    let deep = at.deep in
    stays t (lowest_voxel q) b.depth (q.depth - b.depth) q.depth (omega (arith, deep))
    (ap link_of there ∙ plain)
    ∙ there

-- where nothing is known there is no leaf
pub absent_none : (t : Tree) (lo hi : Voxel) (b : Cube) (n : Node) → IsBlock b → IsOver t b n
    → n ≡ Absent → keep_need_in t lo hi b ≡ 0
absent_none t lo hi b n ok over absent =
    count_none (parts_leaf t lo hi) b ok
    (λ q at h. false≢true (sym (ap (λ m. is_some (value_of m))
    (covered_by t b q n over (ap link_of absent) at ∙ absent))
    ∙ (and_parts (is_cut_by lo hi q) (is_in_leaf t q) h).1))

-- and under a leaf each block lies in it
pub leaf_all : (t : Tree) (lo hi : Voxel) (b : Cube) (n : Node) (v : ℤ) → IsBlock b → IsOver t b n
    → n ≡ Leaf v → keep_need_in t lo hi b ≡ cut_in lo hi b
leaf_all t lo hi b n v ok over leaf =
    count_same (parts_leaf t lo hi) (is_cut_by lo hi) b ok
    (λ q at. ap (λ m. is_cut_by lo hi q && is_some (value_of m))
    (covered_by t b q n over (ap link_of leaf) at ∙ leaf)
    ∙ and_true (is_cut_by lo hi q))
  where
    and_true : (test : Bool) → (test && true) ≡ test
    and_true true = refl
    and_true false = refl

-- a block with a group lies in none itself
pub inner_of_children : (t : Tree) (lo hi : Voxel) (b : Cube) (n : Node) (v : ℤ) (id : GroupId)
    → b.depth ≤ 15 → IsOver t b n → n ≡ Inner v id
    → keep_need_in t lo hi b ≡ sum_below (λ i. keep_need_in t lo hi (child_of b i)) 8
inner_of_children t lo hi b n v id low over inner =
    let all = count_of_children (parts_leaf t lo hi) b low in
    let here : parts_leaf t lo hi b ≡ false =
    ap (λ m. is_cut_by lo hi b && is_some (value_of m))
    (over (lowest_voxel b) (lowest_held b) ∙ inner)
    ∙ and_false (is_cut_by lo hi b) in
    let none : cond {A = ℕ} (parts_leaf t lo hi b) 1 0 ≡ 0 =
    ap (λ test. cond {A = ℕ} test 1 0) here in
    omega (arith, all, none)
  where
    and_false : (test : Bool) → (test && false) ≡ false
    and_false true = refl
    and_false false = refl

-- there are no more than this
at_most_one : (test : Bool) → cond {A = ℕ} test 1 0 ≤ 1
at_most_one true = omega arith
at_most_one false = omega arith

blocks_few : (f : Cube → Bool) (h : ℕ) (b : Cube) → count_by f (blocks_below h b) + 1 ≤ 9 ^ h
blocks_few f zero b =
    let none = sum_of_no_blocks (λ q. cond {A = ℕ} (f q) 1 0) b in
    omega (arith, none)
blocks_few f (suc h) b =
    let split = sum_of_blocks (λ q. cond {A = ℕ} (f q) 1 0) h b in
    let eight = sum_of_eight (λ i. count_by f (blocks_below h (child_of b i))) in
    let here = at_most_one (f b) in
    let f0 = blocks_few f h (child_of b 0) in
    let f1 = blocks_few f h (child_of b 1) in
    let f2 = blocks_few f h (child_of b 2) in
    let f3 = blocks_few f h (child_of b 3) in
    let f4 = blocks_few f h (child_of b 4) in
    let f5 = blocks_few f h (child_of b 5) in
    let f6 = blocks_few f h (child_of b 6) in
    let f7 = blocks_few f h (child_of b 7) in
    let power : 9 ^ (1 + h) ≡ 9 ^ 1 * 9 ^ h = pow-add 9 1 h in
    let next : 9 ^ suc h ≡ 9 ^ (1 + h) = ap (λ (m : ℕ). 9 ^ m) (one_more h) in
    let some : 1 ≤ 9 ^ h = omega (arith, f0) in
    omega (arith, split, eight, here, f0, f1, f2, f3, f4, f5, f6, f7, power, next, some)
  where
    one_more : (h : ℕ) → suc h ≡ 1 + h
    one_more h = omega arith

pub count_few : (f : Cube → Bool) (b : Cube) → count_in f b ≤ 9 ^ 16
count_few f b =
    let few = blocks_few f (16 - b.depth) b in
    let most : 9 ^ (16 - b.depth) ≤ 9 ^ 16 =
    pow-le-pow_right {n = 9} (omega arith) {i = 16 - b.depth} {j = 16} (omega arith) in
    omega (arith, few, most)

-- in the whole map
pub keep_need_whole : (t : Tree) (lo hi : Voxel)
    → keep_need_in t lo hi root_block ≡ keep_need t lo hi
unfolding keep_need
keep_need_whole t lo hi = refl
