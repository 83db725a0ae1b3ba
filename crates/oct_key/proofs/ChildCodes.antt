-- Which of two children of a block has the voxels of smaller Morton codes.
use Rattle.std.proofs.Common.{◌≡◌, ℕ, ◌+◌, ◌-◌, ◌*◌, ◌/◌, ◌%◌, ◌^◌, ◌<◌, ◌≤◌, sym, ◌∙◌, ap, arith}
use Rattle.std.proofs.Common.{pow_pos}
use Rattle.std.proofs.Math.Nat.{div-div-eq-div-mul, div-mul-le_self, div-lt_iff_lt-mul}
use Rattle.std.proofs.lemmas.Nat.{pow-add}
use Rattle.oct_key.specs.Voxel.{Voxel}
use Rattle.oct_key.specs.Block.{Cube, IsBlock, HoldsVoxel, child_of}
use Rattle.oct_key.specs.Morton.{morton_of, code_prefix}
use Rattle.oct_key.proofs.Blocks.{block_of_held, child_holds}
use Rattle.oct_key.proofs.Held.{held_in_map}
use Rattle.oct_key.proofs.Interleavings.{same_prefix, digit_of_morton}

-- a code without three more digits
next_prefix : (m h : ℕ) → m / 2 ^ (3 * h) / 8 ≡ m / 2 ^ (3 * (h + 1))
next_prefix m h =
    let more : 3 * (h + 1) ≡ 3 * h + 3 = omega arith in
    div-div-eq-div-mul m (2 ^ (3 * h)) 8
    ∙ ap (λ (n : ℕ). m / n) (sym (ap (λ (n : ℕ). 2 ^ n) more ∙ pow-add 2 (3 * h) 3))

-- the digits of a code down to a depth, without the last
pub prefix_above : (depth m : ℕ) → depth ≤ 15 → m / 2 ^ (3 * (15 - depth)) / 8 ≡ code_prefix depth m
prefix_above depth m low =
    (let deep : 15 - depth + 1 ≡ 16 - depth = omega arith in next_prefix m (15 - depth)
    ∙ ap (λ (n : ℕ). m / 2 ^ (3 * n)) deep)

-- a smaller quotient is of a smaller number
smaller : (m n d : ℕ) → 0 < d → m / d < n / d → m < n
smaller m n d some less =
    let low = (div-lt_iff_lt-mul {k = d} {x = m} {y = n / d} some).0 less in
    let most = div-mul-le_self n d in
    omega (arith, low, most)

-- of two children of a block, the voxels of the one with the smaller number have the smaller codes
pub below_by_child : (b : Cube) (i j : ℕ) (k l : Voxel) → IsBlock b → b.depth < 16 → i < 8 → j < 8
    → i < j
    → HoldsVoxel (child_of b i) k → HoldsVoxel (child_of b j) l → morton_of k < morton_of l
below_by_child b i j k l ok low li lj less held_k held_l =
    let in_k = (child_holds b i k low li).0 held_k in
    let in_l = (child_holds b j l low lj).0 held_l in
    let same = (same_prefix b.depth k l (omega (arith, low)) (held_in_map b k ok in_k.0)
    (held_in_map b l ok in_l.0)).1
    (block_of_held b k in_k.0 ∙ sym (block_of_held b l in_l.0)) in
    let above_k = prefix_above b.depth (morton_of k) (omega (arith, low)) in
    let above_l = prefix_above b.depth (morton_of l) (omega (arith, low)) in
    let digit_k = digit_of_morton b.depth k (omega (arith, low)) ∙ in_k.1 in
    let digit_l = digit_of_morton b.depth l (omega (arith, low)) ∙ in_l.1 in
    smaller (morton_of k) (morton_of l) (2 ^ (3 * (15 - b.depth))) (pow_pos (3 * (15 - b.depth)))
    (digits (morton_of k / 2 ^ (3 * (15 - b.depth)))
    (morton_of l / 2 ^ (3 * (15 - b.depth))) i j (above_k ∙ same ∙ sym above_l) digit_k digit_l
    less)
  where
    digits : (p q i j : ℕ) → p / 8 ≡ q / 8 → p % 8 ≡ i → q % 8 ≡ j → i < j → p < q
    digits p q i j e f h less = omega (arith, e, f, h, less)
