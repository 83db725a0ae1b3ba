-- A box cuts as many blocks in a block as its part there does, which cuts each block above besides.
use Rattle.std.proofs.Common.{◌≡◌, ℕ, zero, suc, ◌+◌, ◌<◌, ◌≤◌, ◌≢◌, true, cond, inl, inr}
use Rattle.std.proofs.Common.{sym, subst, ◌∙◌, ap, arith, refl}
use Rattle.std.proofs.lemmas.Bool.{cases_eq}
use Rattle.oct_key.specs.Voxel.{Voxel, IsInMap}
use Rattle.oct_key.specs.Block.{Cube, IsBlock, HoldsVoxel, child_of, child_index_of}
use Rattle.oct_key.specs.Block.{block_of, lowest_voxel, root_block}
use Rattle.oct_key.specs.Boxes.{IsInBox, Window, MeetsBox, LiesInBox}
use Rattle.oct_key.proofs.Blocks.{depth_block_of, child_holds, child_in_map}
use Rattle.oct_key.proofs.Blocks.{block_step, block_of_root, lowest_held, lowest_in_map}
use Rattle.oct_key.proofs.Blocks.{child_index_below, block_of_in_map}
use Rattle.oct_values.specs.Boxes.{is_cut_by, box_need}
use Rattle.oct_values.proofs.Axes.{sum_below}
use Rattle.oct_values.proofs.Boxes.{cut_exactly}
use Rattle.oct_edit.specs.Areas.{cut_in, IsClipped}
use Rattle.oct_edit.proofs.Counts.{IsInside, count_same, count_none, count_of_children}
use Rattle.oct_edit.proofs.Insides.{around, around_lies, above_apart}
use Rattle.oct_edit.proofs.Keeps.{same_test}

-- in the block both cut the same
pub clip_cuts : (all part : Window) (b : Cube) → IsBlock b → IsClipped all b part
    → cut_in all.lo all.hi b ≡ cut_in part.lo part.hi b
clip_cuts all part b ok clip =
    count_same (is_cut_by all.lo all.hi) (is_cut_by part.lo part.hi) b ok
    (λ q at. same_test (is_cut_by all.lo all.hi q) (is_cut_by part.lo part.hi q)
    (λ h. to q at ((cut_exactly all.lo all.hi q at.of).0 h))
    (λ h. from q at ((cut_exactly part.lo part.hi q at.of).0 h)))
  where
    to : (q : Cube) → IsInside b q → MeetsBox all.lo all.hi q × (LiesInBox all.lo all.hi q → ⊥)
        → is_cut_by part.lo part.hi q ≡ true
    to q at ((k, held, inside), some) =
        (cut_exactly part.lo part.hi q at.of).1 (
          (k, held, clip.from k inside (at.lies k held)),
          λ lies. some (λ j there. (clip.both j (lies j there)).0),
        )

    from : (q : Cube) → IsInside b q
        → MeetsBox part.lo part.hi q × (LiesInBox part.lo part.hi q → ⊥)
        → is_cut_by all.lo all.hi q ≡ true
    from q at ((k, held, inside), some) =
        (cut_exactly all.lo all.hi q at.of).1 (
          (k, held, (clip.both k inside).0),
          λ lies. some (λ j there. clip.from j (lies j there) (at.lies j there)),
        )

-- a sum of none, and one of which one number alone counts
sum_of_none : (f : ℕ → ℕ) (n : ℕ) → ((j : ℕ) → j < n → f j ≡ 0) → sum_below f n ≡ 0
unfolding sum_below
sum_of_none f zero none = refl
sum_of_none f (suc n) none =
    let before = sum_of_none f n (λ j l. none j (omega arith)) in
    let here = none n (omega arith) in
    omega (arith, before, here)

sum_of_one : (f : ℕ → ℕ) (i n : ℕ) → i < n → ((j : ℕ) → j < n → j ≢ i → f j ≡ 0)
    → sum_below f n ≡ f i
unfolding sum_below
sum_of_one f i zero low none = absurd (omega arith)
sum_of_one f i (suc n) low none = elim (cases_eq n i) [
  | inl same ↦ (let before = sum_of_none f n
      (λ j l. none j (omega arith) (λ e. absurd (omega (arith, l, e, same)))) in
      let here : f n ≡ f i = ap f same in
      omega (arith, before, here))
  | inr other ↦ (let before = sum_of_one f i n (omega (arith, low, other))
      (λ j l. none j (omega arith)) in
      let here = none n (omega arith) other in
      omega (arith, before, here))
]

-- the voxel of the part with the lowest numbers lies in it
corner : (all part : Window) (b : Cube) → IsClipped all b part
    → IsInBox part.lo part.hi part.lo
corner all part b clip = record {
  x = (omega arith, clip.order.x);
  y = (omega arith, clip.order.y);
  z = (omega arith, clip.order.z);
}

-- a block above is cut
above_cut : (all part : Window) (b : Cube) (d : ℕ) (k : Voxel) → IsClipped all b part
    → b ≡ block_of b.depth k → IsInMap k → d < b.depth → b.depth ≤ 16
    → is_cut_by part.lo part.hi (block_of d k) ≡ true
above_cut all part b d k clip here v less top =
    let first = corner all part b clip in
    let inside = (clip.both part.lo first).1 in
    let up = around_lies d b.depth k (omega arith) top in
    (cut_exactly part.lo part.hi (block_of d k) (block_of_in_map d k (omega arith) v)).1 (
      (part.lo, up part.lo (subst (λ c. HoldsVoxel c part.lo) here inside), first),
      λ lies. above_apart d b.depth k less top
          (λ j there. subst (λ c. HoldsVoxel c j) here (clip.both j (lies j there)).1),
    )

-- of its children only the one around the voxel has blocks that are cut
others_none : (all part : Window) (b : Cube) (d j : ℕ) (k : Voxel) → IsClipped all b part
    → b ≡ block_of b.depth k → IsInMap k → d < b.depth → b.depth ≤ 16 → j < 8
    → j ≢ child_index_of d k → cut_in part.lo part.hi (child_of (block_of d k) j) ≡ 0
others_none all part b d j k clip here v less top few other =
    count_none (is_cut_by part.lo part.hi) (child_of (block_of d k) j)
    (child_in_map (block_of d k) j (block_of_in_map d k (omega arith) v) (omega (arith, level)))
    none
  where
    level : (block_of d k).depth ≡ d
    level = depth_block_of d k

    low : (block_of d k).depth < 16
    low = omega (arith, level, less, top)

    none : (q : Cube) → IsInside (child_of (block_of d k) j) q
        → is_cut_by part.lo part.hi q ≡ true → ⊥
    none q at h =
        let ((m, held, inside), _) = (cut_exactly part.lo part.hi q at.of).0 h in
        let in_b = subst (λ c. HoldsVoxel c m) here (clip.both m inside).1 in
        let next = around_lies (d + 1) b.depth k (omega (arith, less)) top m in_b in
        let mine = (child_holds (block_of d k) (child_index_of d k) m low
        (child_index_below d k)).0 (subst (λ c. HoldsVoxel c m)
        (block_step d k (omega (arith, less, top))) next) in
        let theirs = (child_holds (block_of d k) j m low few).0 (at.lies m held) in
        other (sym theirs.1 ∙ mine.1)

-- so from the whole map down to the block each one above counts one
clip_above : (all part : Window) (b : Cube) (d : ℕ) (k : Voxel) → IsClipped all b part
    → b ≡ block_of b.depth k → IsInMap k → d ≤ b.depth → b.depth ≤ 16
    → cut_in part.lo part.hi root_block ≡ d + cut_in part.lo part.hi (block_of d k)
clip_above all part b zero k clip here v low top =
    sym (ap (cut_in part.lo part.hi) (block_of_root k v)) ∙ none_more _
  where
    none_more : (n : ℕ) → n ≡ 0 + n
    none_more n = omega arith
clip_above all part b (suc d) k clip here v low top =
    let before = clip_above all part b d k clip here v (omega arith) top in
    let level = depth_block_of d k in
    let split = count_of_children (is_cut_by part.lo part.hi) (block_of d k)
    (omega (arith, level, low, top)) in
    let cut : cond {A = ℕ} (is_cut_by part.lo part.hi (block_of d k)) 1 0 ≡ 1 =
    ap (λ test. cond {A = ℕ} test 1 0) (above_cut all part b d k clip here v (omega arith) top) in
    let one =
    sum_of_one (λ i. cut_in part.lo part.hi (child_of (block_of d k) i)) (child_index_of d k) 8
    (child_index_below d k)
    (λ j few other. others_none all part b d j k clip here v (omega arith) top few other) in
    let next : cut_in part.lo part.hi (child_of (block_of d k) (child_index_of d k))
    ≡ cut_in part.lo part.hi (block_of (suc d) k) =
    ap (cut_in part.lo part.hi)
    (sym (block_step d k (omega (arith, low, top))) ∙ ap (λ n. block_of n k) (one_more d)) in
    omega (arith, before, split, cut, one, next)
  where
    one_more : (d : ℕ) → d + 1 ≡ suc d
    one_more d = omega arith

-- what the part of a box in a block needs, by what the box cuts there
pub clip_need : (all part : Window) (b : Cube) → IsBlock b → IsClipped all b part
    → box_need part.lo part.hi ≡ b.depth + cut_in all.lo all.hi b
unfolding box_need
clip_need all part b ok clip =
    let here = around b (lowest_voxel b) (lowest_held b) in
    let above = clip_above all part b b.depth (lowest_voxel b) clip here (lowest_in_map b ok)
    (omega arith) ok.depth in
    let same = clip_cuts all part b ok clip in
    let at : cut_in part.lo part.hi (block_of b.depth (lowest_voxel b)) ≡ cut_in part.lo part.hi b =
    ap (cut_in part.lo part.hi) (sym here) in
    omega (arith, above, same, at)
