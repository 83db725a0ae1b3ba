-- How many blocks meet a box and don't lie in it, depth by depth.
use Rattle.std.proofs.Common.{◌≡◌, ℕ, zero, suc, ◌+◌, ◌-◌, ◌*◌, ◌/◌, ◌^◌, ◌<◌, ◌≤◌, ◌↔◌, Bool, true}
use Rattle.std.proofs.Common.{false, cond, refl, sym, ◌∙◌, ap, arith, pow_pos}
use Rattle.std.specs.Prelude.{nat_le, nat_lt, count_by}
use Rattle.std.proofs.Math.Nat.{le-div_iff_mul-le, div-lt_iff_lt-mul, div-mul-le_self, mul-le-mul}
use Rattle.std.proofs.Math.Nat.{pow-le-pow_right}
use Rattle.std.proofs.lemmas.Bool.{true≢false, and_parts, le-leb, leb-true, lt-ltb, ltb-true}
use Rattle.std.proofs.lemmas.Nat.{pow-add}
use Rattle.oct_key.specs.Voxel.{Voxel, IsInMap}
use Rattle.oct_key.specs.Block.{Cube, IsBlock, side, lowest_voxel, root_block}
use Rattle.oct_key.proofs.Blocks.{lowest_held, quotient_below}
use Rattle.oct_values.specs.Blocks.{blocks_above_voxels}
use Rattle.oct_key.specs.Boxes.{IsBox, MeetsBox, LiesInBox, MeetsSpan, LiesInSpan}
use Rattle.oct_key.proofs.BoxBlocks.{meets_exactly, lies_exactly, parts_of_three, three_pass}
use Rattle.oct_values.specs.Boxes.{is_cut_by, box_need}
use Rattle.oct_values.specs.Boxes.{met_on, within_on, cut_at}
use Rattle.oct_values.proofs.Listed.{all_above_voxels}
use Rattle.oct_values.proofs.Sums.{All-follows, sum_by-same, sum_by-plus}
use Rattle.oct_values.proofs.Axes.{AxisTest, on_axis, passes, level, sum_below, sum_below-same}
use Rattle.oct_values.proofs.Axes.{count_by_levels}
use Rattle.oct_values.proofs.Spans.{is_in_span, span_of_depth}
use Rattle.oct_values.proofs.Boxes.{cut_exactly}

-- the first and the last of the blocks of a depth that meet a span of
-- numbers, and of those that lie in it
abbrev met_test : ℕ → ℕ → AxisTest
met_test low high depth n = is_in_span (low / side depth) (high / side depth + 1) n

abbrev within_test : ℕ → ℕ → AxisTest
within_test low high depth n =
    is_in_span ((low + (side depth - 1)) / side depth) ((high + 1) / side depth) n

span_exactly : (from to n : ℕ) → (is_in_span from to n ≡ true) ↔ ((from ≤ n) × (n < to))
span_exactly from to n = (
  λ h. (let p = and_parts (nat_le from n) (nat_lt n to) h in
      (leb-true from n p.0, ltb-true n to p.1)),
  λ (low, high). (let a : nat_le from n ≡ true = le-leb from n low in
      let b : nat_lt n to ≡ true = lt-ltb n to high in
      rw (a, b) refl),
)

met_exactly : (low high depth n : ℕ)
    → (met_test low high depth n ≡ true) ↔ MeetsSpan low high depth n
met_exactly low high depth n =
    let some : 0 < 2 ^ (16 - depth) = pow_pos (16 - depth) in
    let is = span_exactly (low / side depth) (high / side depth + 1) n in (
      λ h. (let (a, b) = is.0 h in (
        (div-lt_iff_lt-mul some).0 (omega (arith, a)),
        (le-div_iff_mul-le some).0 (omega (arith, b)),
      )),
      λ (a, b). (let c = (div-lt_iff_lt-mul some).1 a in
          let d = (le-div_iff_mul-le some).1 b in
          is.1 (omega (arith, c), omega (arith, d))),
    )

within_exactly : (low high depth n : ℕ)
    → (within_test low high depth n ≡ true) ↔ LiesInSpan low high depth n
within_exactly low high depth n =
    let some : 0 < 2 ^ (16 - depth) = pow_pos (16 - depth) in
    let is = span_exactly ((low + (side depth - 1)) / side depth) ((high + 1) / side depth) n in
    let low_is : (low + (side depth - 1) < (n + 1) * side depth) ↔ (low ≤ n * side depth) =
    (λ a. omega (arith, a, some), λ a. omega (arith, a, some)) in (
      λ h. (let (a, b) = is.0 h in (
        low_is.0 ((div-lt_iff_lt-mul some).0 (omega (arith, a))),
        (le-div_iff_mul-le some).0 (omega (arith, b)),
      )),
      λ (a, b). (let c = (div-lt_iff_lt-mul some).1 (low_is.1 a) in
          let d = (le-div_iff_mul-le some).1 b in
          is.1 (omega (arith, c), omega (arith, d))),
    )

-- the tests of all axes
abbrev meets_by : Voxel → Voxel → Cube → Bool
meets_by lo hi b = passes (met_test lo.x hi.x) (met_test lo.y hi.y) (met_test lo.z hi.z) b

abbrev lies_by : Voxel → Voxel → Cube → Bool
lies_by lo hi b = passes (within_test lo.x hi.x) (within_test lo.y hi.y) (within_test lo.z hi.z) b

meets_by_exactly : (lo hi : Voxel) (b : Cube) → IsBox lo hi
    → (meets_by lo hi b ≡ true) ↔ MeetsBox lo hi b
meets_by_exactly lo hi b box = (
  λ h. (let (x, y, z) = parts_of_three _ _ _ h in
      (meets_exactly lo hi b box).1
      (record {
        x = (met_exactly lo.x hi.x b.depth b.x).0 x;
        y = (met_exactly lo.y hi.y b.depth b.y).0 y;
        z = (met_exactly lo.z hi.z b.depth b.z).0 z;
      })),
  λ m. (let h = (meets_exactly lo hi b box).0 m in
      three_pass _ _ _ ((met_exactly lo.x hi.x b.depth b.x).1 h.x)
      ((met_exactly lo.y hi.y b.depth b.y).1 h.y) ((met_exactly lo.z hi.z b.depth b.z).1 h.z)),
)

lies_by_exactly : (lo hi : Voxel) (b : Cube) → (lies_by lo hi b ≡ true) ↔ LiesInBox lo hi b
lies_by_exactly lo hi b = (
  λ h. (let (x, y, z) = parts_of_three _ _ _ h in
      (lies_exactly lo hi b).1
      (record {
        x = (within_exactly lo.x hi.x b.depth b.x).0 x;
        y = (within_exactly lo.y hi.y b.depth b.y).0 y;
        z = (within_exactly lo.z hi.z b.depth b.z).0 z;
      })),
  λ m. (let h = (lies_exactly lo hi b).0 m in
      three_pass _ _ _ ((within_exactly lo.x hi.x b.depth b.x).1 h.x)
      ((within_exactly lo.y hi.y b.depth b.y).1 h.y)
      ((within_exactly lo.z hi.z b.depth b.z).1 h.z)),
)

-- block by block
one_or_other : (lo hi : Voxel) (b : Cube) → IsBox lo hi → IsBlock b
    → cond {A = ℕ} (is_cut_by lo hi b) 1 0 + cond {A = ℕ} (lies_by lo hi b) 1 0
    ≡ cond {A = ℕ} (meets_by lo hi b) 1 0
one_or_other lo hi b box ok =
    go (is_cut_by lo hi b) (lies_by lo hi b) (meets_by lo hi b) refl refl refl
  where
    clash : (test : Bool) → test ≡ false → test ≡ true → ⊥
    clash test e f = true≢false (sym f ∙ e)

    meets_where_lies : lies_by lo hi b ≡ true → meets_by lo hi b ≡ true
    meets_where_lies h =
        (meets_by_exactly lo hi b box).1 (
          lowest_voxel b,
          lowest_held b,
          (lies_by_exactly lo hi b).0 h (lowest_voxel b) (lowest_held b),
        )

    go : (c l m : Bool) → is_cut_by lo hi b ≡ c → lies_by lo hi b ≡ l → meets_by lo hi b ≡ m
        → cond {A = ℕ} (is_cut_by lo hi b) 1 0 + cond {A = ℕ} (lies_by lo hi b) 1 0
        ≡ cond {A = ℕ} (meets_by lo hi b) 1 0
    go true true m ec el em =
        absurd (((cut_exactly lo hi b ok).0 ec).1 ((lies_by_exactly lo hi b).0 el))
    go true false false ec el em =
        absurd (clash _ em ((meets_by_exactly lo hi b box).1 ((cut_exactly lo hi b ok).0 ec).0))
    go true false true ec el em = rw (ec, el, em) refl
    go false true false ec el em = absurd (clash _ em (meets_where_lies el))
    go false true true ec el em = rw (ec, el, em) refl
    go false false false ec el em = rw (ec, el, em) refl
    go false false true ec el em =
        absurd (clash _ ec ((cut_exactly lo hi b ok).1 (
          (meets_by_exactly lo hi b box).0 em,
          λ lies.
              clash _ el ((lies_by_exactly lo hi b).1 lies),
        )))

-- all of them
cut_and_within : (lo hi : Voxel) → IsBox lo hi
    → box_need lo hi + count_by (lies_by lo hi) blocks_above_voxels
    ≡ count_by (meets_by lo hi) blocks_above_voxels
unfolding box_need
cut_and_within lo hi box =
    sym (sum_by-plus (λ b. cond (is_cut_by lo hi b) 1 0) (λ b. cond (lies_by lo hi b) 1 0)
    blocks_above_voxels)
    ∙ sum_by-same (λ b. cond (is_cut_by lo hi b) 1 0 + cond (lies_by lo hi b) 1 0)
    (λ b. cond (meets_by lo hi b) 1 0) blocks_above_voxels
    (All-follows (λ b. IsBlock b × (b.depth ≤ 15))
    (λ b. cond {A = ℕ} (is_cut_by lo hi b) 1 0 + cond {A = ℕ} (lies_by lo hi b) 1 0
    ≡ cond {A = ℕ} (meets_by lo hi b) 1 0)
    blocks_above_voxels (λ b at. one_or_other lo hi b box at.0) all_above_voxels)

-- the numbers past the end of a depth
ends_in_depth : (high d : ℕ) → high < 65536 → d ≤ 16 → (high + 1) / side d ≤ 2 ^ d
ends_in_depth high d h l =
    let some : 0 < 2 ^ (16 - d) = pow_pos (16 - d) in
    let all : d + (16 - d) ≡ 16 = omega arith in
    let whole : 2 ^ d * 2 ^ (16 - d) ≡ 65536 =
    sym (pow-add 2 d (16 - d)) ∙ ap (λ (m : ℕ). 2 ^ m) all in
    let below : (high + 1) / 2 ^ (16 - d) < 2 ^ d + 1 =
    (div-lt_iff_lt-mul some).1 (omega (arith, whole, h, some)) in
    omega (arith, below)

meets_on_axis : (low high d : ℕ) → high < 65536 → d ≤ 16
    → on_axis (met_test low high d) d 0 ≡ met_on d low high
meets_on_axis low high d h l =
    (let below = quotient_below d high l h in
    span_of_depth (low / side d) (high / side d + 1) d (omega (arith, below)))

lies_on_axis : (low high d : ℕ) → high < 65536 → d ≤ 16
    → on_axis (within_test low high d) d 0 ≡ within_on d low high
lies_on_axis low high d h l =
    span_of_depth ((low + (side d - 1)) / side d) ((high + 1) / side d) d (ends_in_depth high d h l)

-- no more blocks lie among numbers than meet them
pub within_few : (low high d : ℕ) → within_on d low high ≤ met_on d low high
within_few low high d =
    let some : 0 < 2 ^ (16 - d) = pow_pos (16 - d) in
    let last : (high + 1) / 2 ^ (16 - d) * 2 ^ (16 - d) ≤ high + 1 =
    div-mul-le_self (high + 1) (2 ^ (16 - d)) in
    let low_end : low / 2 ^ (16 - d) * 2 ^ (16 - d) ≤ low = div-mul-le_self low (2 ^ (16 - d)) in
    let first : low / 2 ^ (16 - d) ≤ (low + (2 ^ (16 - d) - 1)) / 2 ^ (16 - d) =
    (le-div_iff_mul-le some).1 (omega (arith, low_end)) in
    let less : ((high + 1) / 2 ^ (16 - d) - 1) * 2 ^ (16 - d) ≤ high =
    one_less ((high + 1) / 2 ^ (16 - d)) (2 ^ (16 - d)) high some last in
    let next : (high + 1) / 2 ^ (16 - d) - 1 ≤ high / 2 ^ (16 - d) =
    (le-div_iff_mul-le some).1 less in
    omega (arith, first, next)
  where
    by_one : (q r s h : ℕ) → q ≡ r + 1 → 0 < s → q * s ≤ h + 1 → r * s ≤ h
    by_one q r s h e p l = (let m : (r + 1) * s ≤ h + 1 = rw e at l in omega (arith, m, p))

    one_less : (q s h : ℕ) → 0 < s → q * s ≤ h + 1 → (q - 1) * s ≤ h
    one_less zero s h p l = (let e : 0 - 1 ≡ 0 = omega arith in rw e (omega arith))
    one_less (suc q) s h p l = by_one (suc q) (suc q - 1) s h (omega arith) p l

-- a sum of differences
sum_below-less : (f g : ℕ → ℕ) (h : ℕ) → ((j : ℕ) → j < h → g j ≤ f j)
    → sum_below (λ j. f j - g j) h + sum_below g h ≡ sum_below f h
unfolding sum_below
sum_below-less f g zero less = refl
sum_below-less f g (suc h) less =
    let before = sum_below-less f g h (λ j l. less j (omega arith)) in
    let last = less h (omega arith) in
    omega (arith, before, last)

-- the blocks that meet a box and don't lie in it, depth by depth
pub need_by_depths : (lo hi : Voxel) → IsBox lo hi → IsInMap hi
    → box_need lo hi ≡ sum_below (cut_at lo hi) 16
unfolding cut_at
need_by_depths lo hi box v =
    let whole = cut_and_within lo hi box in
    let met =
    count_by_levels (met_test lo.x hi.x) (met_test lo.y hi.y) (met_test lo.z hi.z) 16
    root_block in
    let lies =
    count_by_levels (within_test lo.x hi.x) (within_test lo.y hi.y) (within_test lo.z hi.z) 16
    root_block in
    let met_is =
    sum_below-same
    (λ j. level (met_test lo.x hi.x) (met_test lo.y hi.y) (met_test lo.z hi.z) (0 + j) j
    root_block)
    (λ j. met_on j lo.x hi.x * met_on j lo.y hi.y * met_on j lo.z hi.z) 16
    (λ j l. met_level j l) in
    let lies_is =
    sum_below-same
    (λ j. level (within_test lo.x hi.x) (within_test lo.y hi.y) (within_test lo.z hi.z)
    (0 + j) j root_block)
    (λ j. within_on j lo.x hi.x * within_on j lo.y hi.y * within_on j lo.z hi.z) 16
    (λ j l. lies_level j l) in
    let apart =
    sum_below-less (λ j. met_on j lo.x hi.x * met_on j lo.y hi.y * met_on j lo.z hi.z)
    (λ j. within_on j lo.x hi.x * within_on j lo.y hi.y * within_on j lo.z hi.z) 16
    (λ j l. mul-le-mul (mul-le-mul (within_few lo.x hi.x j) (within_few lo.y hi.y j))
    (within_few lo.z hi.z j)) in
    omega (arith, whole, met, lies, met_is, lies_is, apart)
  where
    at_depth : (j : ℕ) → 0 + j ≡ j
    at_depth j = omega arith

    met_level : (j : ℕ) → j < 16
        → level (met_test lo.x hi.x) (met_test lo.y hi.y) (met_test lo.z hi.z) (0 + j) j root_block
        ≡ met_on j lo.x hi.x * met_on j lo.y hi.y * met_on j lo.z hi.z
    met_level j l =
        ap (λ d. level (met_test lo.x hi.x) (met_test lo.y hi.y) (met_test lo.z hi.z) d
        j root_block)
        (at_depth j)
        ∙ rw (
          meets_on_axis lo.x hi.x j v.x (omega arith),
          meets_on_axis lo.y hi.y j v.y (omega arith),
          meets_on_axis lo.z hi.z j v.z (omega arith),
        )
        refl

    lies_level : (j : ℕ) → j < 16
        → level (within_test lo.x hi.x) (within_test lo.y hi.y) (within_test lo.z hi.z) (0 + j) j
        root_block
        ≡ within_on j lo.x hi.x * within_on j lo.y hi.y * within_on j lo.z hi.z
    lies_level j l =
        ap (λ d. level (within_test lo.x hi.x) (within_test lo.y hi.y) (within_test lo.z hi.z) d
        j root_block)
        (at_depth j)
        ∙ rw (
          lies_on_axis lo.x hi.x j v.x (omega arith),
          lies_on_axis lo.y hi.y j v.y (omega arith),
          lies_on_axis lo.z hi.z j v.z (omega arith),
        )
        refl

-- no depth has more than this many
pub met_few : (low high d : ℕ) → high < 65536 → d ≤ 15 → met_on d low high ≤ 2 ^ 15
met_few low high d h l =
    let below = quotient_below d high (omega arith) h in
    let power : 2 ^ d ≤ 2 ^ 15 = pow-le-pow_right (omega arith) l in
    omega (arith, below, power)
