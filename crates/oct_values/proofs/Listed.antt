-- The list of the blocks above the voxels has each block of depth 0 to 15, once, and no other.
use Rattle.std.proofs.Common.{◌≡◌, ℕ, zero, suc, ◌+◌, ◌<◌, ◌≤◌, Bool, true, false, cond, List, []}
use Rattle.std.proofs.Common.{◌∷◌, inl, inr, refl, sym, subst, ◌∙◌, ap, arith}
use Rattle.std.specs.Prelude.{sum_by, count_by}
use Rattle.std.specs.List.{All, flat_map}
use Rattle.std.proofs.lemmas.Bool.{cases_eq}
use Rattle.std.proofs.lemmas.List.Elements.{All-cons, All-nil}
use Rattle.std.proofs.lemmas.List.Sums.{sum_by-cons}
use Rattle.oct_key.specs.Block.{Cube, IsBlock, HoldsVoxel, block_of, child_of, child_index_of}
use Rattle.oct_key.specs.Block.{root_block, lowest_voxel, is_same_block}
use Rattle.oct_key.proofs.Blocks.{child_index_below, depth_child_of, lowest_held, lowest_in_map}
use Rattle.oct_key.proofs.Blocks.{child_in_map, child_holds, is_same_block_exact}
use Rattle.oct_key.proofs.Blocks.{is_same_block_refl, block_of_held, root_in_map, root_holds}
use Rattle.oct_values.specs.Blocks.{child_numbers, blocks_below, blocks_above_voxels}
use Rattle.oct_values.proofs.Eights.{sum_by-flat_map, one_of_eight, none_of_eight, all_eight}
use Rattle.oct_values.proofs.Eights.{All-flat_map}
use Rattle.oct_values.proofs.Sums.{first_of_all, rest_of_all}
use Rattle.oct_key.proofs.Held.{child_depths, held_by_parent, held_by_child}

-- the blocks of a list are blocks of the map, and no voxels
blocks_in_map : (h : ℕ) (b : Cube) → IsBlock b → b.depth + h ≡ 16
    → All (λ c. IsBlock c × (c.depth ≤ 15)) (blocks_below h b)
unfolding blocks_below
blocks_in_map zero b ok d = All-nil (λ c. IsBlock c × (c.depth ≤ 15))
blocks_in_map (suc h) b ok d =
    let low : b.depth ≤ 15 = omega arith in
    All-cons (λ c. IsBlock c × (c.depth ≤ 15)) b _ (ok, low)
    (All-flat_map (λ c. IsBlock c × (c.depth ≤ 15)) (λ i. blocks_below h (child_of b i))
    child_numbers
    (all_eight (λ i. All (λ c. IsBlock c × (c.depth ≤ 15)) (blocks_below h (child_of b i)))
    (λ i li. blocks_in_map h (child_of b i) (child_in_map b i ok (omega arith))
    (child_depths b h i d))))

-- sums over the blocks of this many depths
pub sum_of_blocks : (f : Cube → ℕ) (h : ℕ) (b : Cube)
    → sum_by f (blocks_below (suc h) b)
    ≡ f b + sum_by (λ i. sum_by f (blocks_below h (child_of b i))) child_numbers
unfolding blocks_below
sum_of_blocks f h b =
    let all = sum_by-cons f b (flat_map (λ i. blocks_below h (child_of b i)) child_numbers) in
    let rest = sum_by-flat_map f (λ i. blocks_below h (child_of b i)) child_numbers in
    omega (arith, all, rest)

pub sum_of_no_blocks : (f : Cube → ℕ) (b : Cube) → sum_by f (blocks_below zero b) ≡ 0
unfolding blocks_below
sum_of_no_blocks f b = refl

-- a test that fails counts nothing
pub uncounted : (test : Bool) → (test ≡ true → ⊥) → cond {A = ℕ} test 1 0 ≡ 0
uncounted true fails = absurd (fails refl)
uncounted false fails = refl

pub counted : (test : Bool) → test ≡ true → cond {A = ℕ} test 1 0 ≡ 1
counted test passes = rw passes refl

-- a block that doesn't lie in this one isn't counted
blocks_none : (h : ℕ) (b c : Cube) → b.depth + h ≡ 16
    → (b.depth ≤ c.depth → HoldsVoxel b (lowest_voxel c) → ⊥)
    → count_by (is_same_block c) (blocks_below h b) ≡ 0
blocks_none zero b c d out = sum_of_no_blocks (λ q. cond (is_same_block c q) 1 0) b
blocks_none (suc h) b c d out =
    let all = sum_of_blocks (λ q. cond (is_same_block c q) 1 0) h b in
    let here =
    uncounted (is_same_block c b) (λ same. (let e : c ≡ b = is_same_block_exact c b same in
    let level : c.depth ≡ b.depth = ap (λ (q : Cube). q.depth) e in
    out (omega arith) (subst (λ q. HoldsVoxel q (lowest_voxel c)) e (lowest_held c)))) in
    let rest = none_of_eight (λ i. count_by (is_same_block c) (blocks_below h (child_of b i)))
    (λ i li. blocks_none h (child_of b i) c (child_depths b h i d)
    (λ m there. (let deep = depth_child_of b i in
    out (omega arith) (held_by_parent b i (lowest_voxel c) (omega arith) li there)))) in
    omega (arith, all, here, rest)

-- and one that does is counted once
blocks_once : (h : ℕ) (b c : Cube) → b.depth + h ≡ 16 → c.depth ≤ 15 → b.depth ≤ c.depth
    → HoldsVoxel b (lowest_voxel c)
    → count_by (is_same_block c) (blocks_below h b) ≡ 1
blocks_once zero b c d low m held = absurd (omega arith)
blocks_once (suc h) b c d low m held =
    let all = sum_of_blocks (λ q. cond (is_same_block c q) 1 0) h b in
    elim (cases_eq c.depth b.depth) [
      | inl level ↦ (let e : c ≡ b = sym (block_of_held c (lowest_voxel c) (lowest_held c))
          ∙ ap (λ n. block_of n (lowest_voxel c)) level
          ∙ block_of_held b (lowest_voxel c) held in
          let here =
          counted (is_same_block c b)
          (ap (is_same_block c) (sym e) ∙ is_same_block_refl c) in
          let rest =
          none_of_eight (λ i. count_by (is_same_block c) (blocks_below h (child_of b i)))
          (λ i li. blocks_none h (child_of b i) c (child_depths b h i d)
          (λ n there. (let deep = depth_child_of b i in omega (arith, deep, level, n)))) in
          omega (arith, all, here, rest))
      | inr other ↦ (let here = uncounted (is_same_block c b)
          (λ same. other (ap (λ (q : Cube). q.depth) (is_same_block_exact c b same))) in
          let deep = depth_child_of b (child_index_of b.depth (lowest_voxel c)) in
          let rest =
          one_of_eight (λ i. count_by (is_same_block c) (blocks_below h (child_of b i)))
          (child_index_of b.depth (lowest_voxel c)) (child_index_below b.depth (lowest_voxel c))
          (blocks_once h (child_of b (child_index_of b.depth (lowest_voxel c))) c
          (child_depths b h (child_index_of b.depth (lowest_voxel c)) d) low (omega arith)
          (held_by_child b (lowest_voxel c) (omega arith) held))
          (λ j lj apart. blocks_none h (child_of b j) c (child_depths b h j d)
          (λ n there. apart
          (sym ((child_holds b j (lowest_voxel c) (omega arith) lj).0 there).1))) in
          omega (arith, all, here, rest))
    ]

-- each listed block is one of the map, and no voxel
pub all_above_voxels : All (λ c. IsBlock c × (c.depth ≤ 15)) blocks_above_voxels
all_above_voxels = blocks_in_map 16 root_block root_in_map refl

-- each block of depth 0 to 15 is listed once
pub block_listed_once : (c : Cube) → IsBlock c → c.depth ≤ 15
    → count_by (is_same_block c) blocks_above_voxels ≡ 1
block_listed_once c ok low =
    blocks_once 16 root_block c refl low (omega arith)
    (root_holds (lowest_voxel c) (lowest_in_map c ok))

-- what holds of each listed block holds of one that is counted
counted_holds : (P : Cube → Type 0) (xs : List Cube) (b : Cube) → All P xs
    → 0 < count_by (is_same_block b) xs → P b
counted_holds P [] b h some = absurd (omega arith)
counted_holds P (c ∷ xs) b h some =
    by_test (is_same_block b c) refl (λ more. counted_holds P xs b (rest_of_all P c xs h) more)
  where
    by_test : (same : Bool) → is_same_block b c ≡ same → (0 < count_by (is_same_block b) xs → P b)
        → P b
    by_test true e rest = subst P (sym (is_same_block_exact b c e)) (first_of_all P c xs h)
    by_test false e rest =
        (let all = sum_by-cons (λ q. cond {A = ℕ} (is_same_block b q) 1 0) c xs in
        let here : cond {A = ℕ} (is_same_block b c) 1 0 ≡ 0 = rw e refl in
        rest (omega arith))

-- what holds of each listed block holds of each block of depth 0 to 15
pub holds_of_block : (P : Cube → Type 0) → All P blocks_above_voxels → (b : Cube) → IsBlock b
    → b.depth ≤ 15 → P b
holds_of_block P h b ok low =
    counted_holds P blocks_above_voxels b h (let once = block_listed_once b ok low in omega arith)
