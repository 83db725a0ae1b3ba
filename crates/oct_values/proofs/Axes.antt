-- How many blocks of a depth have their numbers in a span on each axis: a product over the axes.
use Rattle.std.proofs.Common.{◌≡◌, ℕ, zero, suc, ◌+◌, ◌*◌, ◌<◌, Bool, true, false, cond, refl, ◌∙◌}
use Rattle.std.proofs.Common.{ap, arith, add-one}
use Rattle.std.specs.Prelude.{◌&&◌, sum_by, count_by}
use Rattle.oct_key.specs.Block.{Cube, child_of}
use Rattle.oct_key.proofs.Blocks.{depth_child_of}
use Rattle.oct_values.specs.Blocks.{child_numbers, blocks_below}
use Rattle.oct_values.proofs.Eights.{sum_of_eight, same_eight}
use Rattle.oct_values.proofs.Listed.{sum_of_blocks, sum_of_no_blocks}
use Rattle.oct_values.proofs.Sums.{sum_by-plus, sum_by-none}

-- the sum of a number of each depth below one
unfoldable pub sum_below : (ℕ → ℕ) → ℕ → ℕ
sum_below f zero = 0
sum_below f (suc i) = sum_below f i + f i

-- how many of the numbers this many halvings below one pass a test
unfoldable pub on_axis : (ℕ → Bool) → ℕ → ℕ → ℕ
on_axis p zero n = cond (p n) 1 0
on_axis p (suc h) n = on_axis p h (2 * n + 0) + on_axis p h (2 * n + 1)

-- a test of each axis, at each depth
abbrev pub AxisTest : Type 0
AxisTest = ℕ → ℕ → Bool

-- whether a block passes the tests of its depth
abbrev pub passes : AxisTest → AxisTest → AxisTest → Cube → Bool
passes px py pz b = px b.depth b.x && py b.depth b.y && pz b.depth b.z

-- how many blocks of a depth, so far below a block, pass them
abbrev pub level : AxisTest → AxisTest → AxisTest → ℕ → ℕ → Cube → ℕ
level px py pz d h b = on_axis (px d) h b.x * on_axis (py d) h b.y * on_axis (pz d) h b.z

-- the children of a block, all eight, are the halves of each axis
level_step : (px py pz : AxisTest) (d h : ℕ) (b : Cube)
    → sum_by (λ i. level px py pz d h (child_of b i)) child_numbers ≡ level px py pz d (suc h) b
unfolding on_axis child_of
level_step px py pz d h b =
    sum_of_eight (λ i. level px py pz d h (child_of b i))
    ∙ halves (on_axis (px d) h (2 * b.x + 0)) (on_axis (px d) h (2 * b.x + 1))
    (on_axis (py d) h (2 * b.y + 0)) (on_axis (py d) h (2 * b.y + 1))
    (on_axis (pz d) h (2 * b.z + 0)) (on_axis (pz d) h (2 * b.z + 1))
  where
    halves : (x0 x1 y0 y1 z0 z1 : ℕ)
        → x0 * y0 * z0 + x1 * y0 * z0 + x0 * y1 * z0 + x1 * y1 * z0 + x0 * y0 * z1 + x1 * y0 * z1
        + x0 * y1 * z1 + x1 * y1 * z1
        ≡ (x0 + x1) * (y0 + y1) * (z0 + z1)
    halves x0 x1 y0 y1 z0 z1 = omega arith

-- the first of a sum
sum_below-first : (f : ℕ → ℕ) (h : ℕ) → sum_below f (suc h) ≡ f 0 + sum_below (λ j. f (suc j)) h
unfolding sum_below
sum_below-first f zero = omega arith
sum_below-first f (suc h) = let before = sum_below-first f h in omega (arith, before)

pub sum_below-same : (f g : ℕ → ℕ) (h : ℕ) → ((j : ℕ) → j < h → f j ≡ g j)
    → sum_below f h ≡ sum_below g h
unfolding sum_below
sum_below-same f g zero same = refl
sum_below-same f g (suc h) same =
    let before = sum_below-same f g h (λ j l. same j (omega arith)) in
    let last = same h (omega arith) in
    omega (arith, before, last)

-- sums over the eight and over depths can be taken in either order
sum_below-turned : (f : ℕ → ℕ → ℕ) (h : ℕ)
    → sum_by (λ i. sum_below (f i) h) child_numbers
    ≡ sum_below (λ j. sum_by (λ i. f i j) child_numbers) h
unfolding sum_below
sum_below-turned f zero = sum_by-none child_numbers
sum_below-turned f (suc h) =
    let both = sum_by-plus (λ i. sum_below (f i) h) (λ i. f i h) child_numbers in
    let before = sum_below-turned f h in
    omega (arith, both, before)

-- three tests count as a product
pub both_count : (a b c : Bool)
    → cond {A = ℕ} (a && b && c) 1 0 ≡ cond {A = ℕ} a 1 0 * cond {A = ℕ} b 1 0 * cond {A = ℕ} c 1 0
both_count true true true = refl
both_count true true false = refl
both_count true false true = refl
both_count true false false = refl
both_count false true true = refl
both_count false true false = refl
both_count false false true = refl
both_count false false false = refl

here_counts : (px py pz : AxisTest) (b : Cube)
    → cond {A = ℕ} (passes px py pz b) 1 0 ≡ level px py pz b.depth 0 b
unfolding on_axis
here_counts px py pz b = both_count (px b.depth b.x) (py b.depth b.y) (pz b.depth b.z)

-- the blocks that pass, depth by depth
pub count_by_levels : (px py pz : AxisTest) (h : ℕ) (b : Cube)
    → count_by (passes px py pz) (blocks_below h b)
    ≡ sum_below (λ j. level px py pz (b.depth + j) j b) h
unfolding sum_below
count_by_levels px py pz zero b = sum_of_no_blocks (λ c. cond (passes px py pz c) 1 0) b
count_by_levels px py pz (suc h) b =
    let all = sum_of_blocks (λ c. cond (passes px py pz c) 1 0) h b in
    let here : cond {A = ℕ} (passes px py pz b) 1 0 ≡ level px py pz (b.depth + 0) 0 b =
    here_counts px py pz b ∙ ap (λ d. level px py pz d 0 b) (none_more b.depth) in
    let each =
    same_eight (λ i. count_by (passes px py pz) (blocks_below h (child_of b i)))
    (λ i. sum_below (λ j. level px py pz (b.depth + suc j) j (child_of b i)) h)
    (λ i li. count_by_levels px py pz h (child_of b i) ∙ sum_below-same _ _ h
    (λ j lj. ap (λ d. level px py pz d j (child_of b i)) (deeper i j))) in
    let turned = sum_below-turned (λ i j. level px py pz (b.depth + suc j) j (child_of b i)) h in
    let levels =
    sum_below-same
    (λ j. sum_by (λ i. level px py pz (b.depth + suc j) j (child_of b i)) child_numbers)
    (λ j. level px py pz (b.depth + suc j) (suc j) b) h
    (λ j lj. level_step px py pz (b.depth + suc j) j b) in
    let first = sum_below-first (λ j. level px py pz (b.depth + j) j b) h in
    omega (arith, all, here, each, turned, levels, first)
  where
    none_more : (d : ℕ) → d ≡ d + 0
    none_more d = omega arith

    deeper : (i j : ℕ) → (child_of b i).depth + j ≡ b.depth + suc j
    deeper i j = (let deep = depth_child_of b i in omega (arith, deep))

-- a sum of none, and of one more
pub sum_below_none : (f : ℕ → ℕ) → sum_below f 0 ≡ 0
unfolding sum_below
sum_below_none f = refl

pub sum_below_next : (f : ℕ → ℕ) (i : ℕ) → sum_below f (i + 1) ≡ sum_below f i + f i
unfolding sum_below
sum_below_next f i = ap (sum_below f) (add-one i)
