-- How many of the blocks in a block pass a test.
use Rattle.std.proofs.Common.{◌≡◌, ℕ, zero, suc, ◌+◌, ◌-◌, ◌≤◌, Bool, true, false, cond, refl}
use Rattle.std.proofs.Common.{◌∙◌, ap, arith}
use Rattle.std.specs.Prelude.{sum_by, count_by}
use Rattle.std.specs.List.{All}
use Rattle.std.proofs.lemmas.List.Elements.{All-cons, All-nil}
use Rattle.oct_key.specs.Block.{Cube, IsBlock, child_of, LiesIn}
use Rattle.oct_key.proofs.Blocks.{depth_child_of, child_in_map}
use Rattle.oct_key.proofs.Nested.{lies_in_self, lies_in_trans, child_lies_in}
use Rattle.oct_key.proofs.Held.{child_depths, depths_above}
use Rattle.oct_values.specs.Blocks.{child_numbers, blocks_below}
use Rattle.oct_values.proofs.Eights.{same_eight, sum_of_eight, all_eight, All-flat_map}
use Rattle.oct_values.proofs.Listed.{sum_of_blocks, uncounted}
use Rattle.oct_values.proofs.Sums.{sum_by-same, sum_by-none, sum_by-each_le, count_by-same}
use Rattle.oct_values.proofs.Sums.{All-follows}
use Rattle.oct_values.proofs.Axes.{sum_below}
use Rattle.oct_edit.specs.Areas.{count_in}

-- a block of depth 0 to 15 lies in another one, and is as deep or deeper
pub record IsInside (b q : Cube) : Type 0 where
  pub of : IsBlock q
  pub deep : b.depth ≤ q.depth
  pub low : q.depth ≤ 15
  pub lies : LiesIn q b

-- so do the blocks that are listed for it
pub blocks_inside : (h : ℕ) (b : Cube) → IsBlock b → b.depth + h ≡ 16
    → All (IsInside b) (blocks_below h b)
unfolding blocks_below
blocks_inside zero b ok d = All-nil (IsInside b)
blocks_inside (suc h) b ok d =
    All-cons (IsInside b) b _
    (record { of = ok; deep = omega arith; low = omega arith; lies = lies_in_self b })
    (All-flat_map (IsInside b) (λ i. blocks_below h (child_of b i)) child_numbers
    (all_eight (λ i. All (IsInside b) (blocks_below h (child_of b i)))
    (λ i li. All-follows (IsInside (child_of b i)) (IsInside b) (blocks_below h (child_of b i))
    (λ q at. wider i q at)
    (blocks_inside h (child_of b i) (child_in_map b i ok (omega arith)) (child_depths b h i d)))))
  where
    wider : (i : ℕ) (q : Cube) → IsInside (child_of b i) q → IsInside b q
    wider i q at = record {
      of = at.of;
      deep = (let level = depth_child_of b i in let m = at.deep in omega (arith, level, m));
      low = at.low;
      lies = lies_in_trans q (child_of b i) b at.lies (child_lies_in b i (omega arith));
    }

-- all that a block lists is inside it
each_inside : (P : Cube → Type 0) (b : Cube) → IsBlock b → ((q : Cube) → IsInside b q → P q)
    → All P (blocks_below (16 - b.depth) b)
each_inside P b ok f =
    All-follows (IsInside b) P (blocks_below (16 - b.depth) b) f
    (blocks_inside (16 - b.depth) b ok (depths_above b ok))

-- tests that agree count alike
pub count_same : (f g : Cube → Bool) (b : Cube) → IsBlock b
    → ((q : Cube) → IsInside b q → f q ≡ g q) → count_in f b ≡ count_in g b
count_same f g b ok same =
    count_by-same f g (blocks_below (16 - b.depth) b) (each_inside (λ q. f q ≡ g q) b ok same)

-- a test that passes where another one does
pub test_follows : (p q : Bool) → (p ≡ true → q ≡ true)
    → cond {A = ℕ} p 1 0 ≤ cond {A = ℕ} q 1 0
test_follows true q f =
    (let e : cond {A = ℕ} q 1 0 ≡ 1 = ap (λ test. cond {A = ℕ} test 1 0) (f refl) in
    omega (arith, e))
test_follows false q f = omega arith

-- one that passes no more often counts no more
pub count_follows : (f g : Cube → Bool) (b : Cube) → IsBlock b
    → ((q : Cube) → IsInside b q → f q ≡ true → g q ≡ true) → count_in f b ≤ count_in g b
count_follows f g b ok follows =
    sum_by-each_le (λ q. cond {A = ℕ} (f q) 1 0) (λ q. cond {A = ℕ} (g q) 1 0)
    (blocks_below (16 - b.depth) b)
    (each_inside (λ q. cond {A = ℕ} (f q) 1 0 ≤ cond {A = ℕ} (g q) 1 0) b ok
    (λ q at. test_follows (f q) (g q) (follows q at)))

-- one that never passes counts nothing
pub count_none : (f : Cube → Bool) (b : Cube) → IsBlock b
    → ((q : Cube) → IsInside b q → f q ≡ true → ⊥) → count_in f b ≡ 0
count_none f b ok fails =
    sum_by-same (λ q. cond {A = ℕ} (f q) 1 0) (λ q. 0) (blocks_below (16 - b.depth) b)
    (each_inside (λ q. cond {A = ℕ} (f q) 1 0 ≡ 0) b ok (λ q at. uncounted (f q) (fails q at)))
    ∙ sum_by-none (blocks_below (16 - b.depth) b)

-- the sum below eight is that of the eight children
pub sum_below_eight : (f : ℕ → ℕ) → sum_by f child_numbers ≡ sum_below f 8
unfolding sum_below
sum_below_eight f = (let eight = sum_of_eight f in omega (arith, eight))

-- a block counts itself, and what its children count
pub count_of_children : (f : Cube → Bool) (b : Cube) → b.depth ≤ 15
    → count_in f b ≡ cond (f b) 1 0 + sum_below (λ i. count_in f (child_of b i)) 8
count_of_children f b low =
    let level : 16 - b.depth ≡ suc (15 - b.depth) = omega arith in
    let whole : count_in f b
    ≡ sum_by (λ q. cond {A = ℕ} (f q) 1 0) (blocks_below (suc (15 - b.depth)) b) =
    ap (λ n. count_by f (blocks_below n b)) level in
    let split = sum_of_blocks (λ q. cond {A = ℕ} (f q) 1 0) (15 - b.depth) b in
    let each =
    same_eight
    (λ i. sum_by (λ q. cond {A = ℕ} (f q) 1 0) (blocks_below (15 - b.depth) (child_of b i)))
    (λ i. count_in f (child_of b i))
    (λ i li. ap (λ n. count_by f (blocks_below n (child_of b i))) (child_level i)) in
    let eight = sum_below_eight (λ i. count_in f (child_of b i)) in
    omega (arith, whole, split, each, eight)
  where
    child_level : (i : ℕ) → 15 - b.depth ≡ 16 - (child_of b i).depth
    child_level i = (let deep = depth_child_of b i in omega (arith, deep))
