-- How many voxels of a block lie in a box.
use Rattle.std.proofs.Common.{◌≡◌, ℕ, zero, suc, ◌+◌, ◌-◌, ◌*◌, ◌^◌, ◌<◌, ◌≤◌, Bool, true, false}
use Rattle.std.proofs.Common.{cond, refl, sym, ◌∙◌, ap, arith, inl, inr, [], ◌∷◌}
use Rattle.std.specs.Prelude.{nat_le, sum_by, count_by}
use Rattle.std.proofs.Math.Nat.{pow-suc}
use Rattle.std.proofs.lemmas.Bool.{cases_lt, le-leb, lt-leb}
use Rattle.std.proofs.lemmas.List.Sums.{sum_by-cons}
use Rattle.oct_key.specs.Voxel.{Voxel, IsInMap}
use Rattle.oct_key.specs.Block.{Cube, side, child_of, lowest_voxel, root_block}
use Rattle.oct_key.specs.Boxes.{is_between, is_in_box, box_volume}
use Rattle.oct_key.proofs.Held.{child_depths}
use Rattle.oct_values.specs.Blocks.{child_numbers, voxels_below, voxels_of}
use Rattle.oct_values.proofs.Axes.{on_axis, both_count}
use Rattle.oct_values.proofs.Eights.{sum_by-flat_map, sum_of_eight, same_eight}
use Rattle.oct_merge.specs.Shared.{shared, shared_in}

shared_halves : (from to size n : ℕ)
    → shared from to size (2 * n + 0) + shared from to size (2 * n + 1)
    ≡ shared from to (size * 2) n
shared_halves from to size n = omega arith

shared_one : (low high n : ℕ) → cond {A = ℕ} (is_between low high n) 1 0 ≡ shared low (high + 1) 1 n
shared_one low high n = elim (cases_lt n low) [
  | inl less ↦ (let test : nat_le low n ≡ false = lt-leb low n less in
      let e : cond {A = ℕ} (is_between low high n) 1 0 ≡ 0 = rw test refl in
      omega (arith, e, less))
  | inr more ↦ elim (cases_lt high n) [
    | inl past ↦ (let first : nat_le low n ≡ true = le-leb low n more in
        let last : nat_le n high ≡ false = lt-leb n high past in
        let e : cond {A = ℕ} (is_between low high n) 1 0 ≡ 0 = rw (first, last) refl in
        omega (arith, e, past))
    | inr up ↦ (let first : nat_le low n ≡ true = le-leb low n more in
        let last : nat_le n high ≡ true = le-leb n high up in
        let e : cond {A = ℕ} (is_between low high n) 1 0 ≡ 1 = rw (first, last) refl in
        omega (arith, e, more, up))
  ]
]

-- on an axis, this many numbers lie in the part
axis_counts : (low high h n : ℕ)
    → on_axis (is_between low high) h n ≡ shared low (high + 1) (2 ^ h) n
unfolding on_axis
axis_counts low high zero n = shared_one low high n
axis_counts low high (suc h) n =
    let left = axis_counts low high h (2 * n + 0) in
    let right = axis_counts low high h (2 * n + 1) in
    let halves = shared_halves low (high + 1) (2 ^ h) n in
    let power : shared low (high + 1) (2 ^ h * 2) n ≡ shared low (high + 1) (2 ^ suc h) n =
    ap (λ size. shared low (high + 1) size n) (sym (pow-suc 2 h)) in
    omega (arith, left, right, halves, power)

-- on all axes
abbrev held_on : Voxel → Voxel → ℕ → Cube → ℕ
held_on lo hi h b =
    on_axis (is_between lo.x hi.x) h b.x * on_axis (is_between lo.y hi.y) h b.y
    * on_axis (is_between lo.z hi.z) h b.z

-- the children of a block, all eight, are the halves of each axis
held_halves : (lo hi : Voxel) (h : ℕ) (b : Cube)
    → sum_by (λ i. held_on lo hi h (child_of b i)) child_numbers ≡ held_on lo hi (suc h) b
unfolding on_axis child_of
held_halves lo hi h b =
    sum_of_eight (λ i. held_on lo hi h (child_of b i))
    ∙ halves (on_axis (is_between lo.x hi.x) h (2 * b.x + 0))
    (on_axis (is_between lo.x hi.x) h (2 * b.x + 1))
    (on_axis (is_between lo.y hi.y) h (2 * b.y + 0))
    (on_axis (is_between lo.y hi.y) h (2 * b.y + 1))
    (on_axis (is_between lo.z hi.z) h (2 * b.z + 0))
    (on_axis (is_between lo.z hi.z) h (2 * b.z + 1))
  where
    halves : (x0 x1 y0 y1 z0 z1 : ℕ)
        → x0 * y0 * z0 + x1 * y0 * z0 + x0 * y1 * z0 + x1 * y1 * z0 + x0 * y0 * z1 + x1 * y0 * z1
        + x0 * y1 * z1 + x1 * y1 * z1
        ≡ (x0 + x1) * (y0 + y1) * (z0 + z1)
    halves x0 x1 y0 y1 z0 z1 = omega arith

-- a block of depth 16 has its own numbers
own_number : (d n : ℕ) → d ≡ 16 → n * side d ≡ n
own_number d n deep = ap (λ a. n * side a) deep ∙ once n
  where
    once : (m : ℕ) → m * 1 ≡ m
    once m = omega arith

own_voxel : (b : Cube) → b.depth ≡ 16
    → ◌≡◌ {A = Voxel} (lowest_voxel b) (record { x = b.x; y = b.y; z = b.z })
own_voxel b deep =
    products_agree (own_number b.depth b.x deep) (own_number b.depth b.y deep)
    (own_number b.depth b.z deep)
  where
    products_agree : {x y z u v w : ℕ} → x ≡ u → y ≡ v → z ≡ w
        → ◌≡◌ {A = Voxel} (record { x = x; y = y; z = z }) (record { x = u; y = v; z = w })
    products_agree ex ey ez = rw (ex, ey, ez) refl

one_listed : (p : Voxel → Bool) (k : Voxel) → count_by p (k ∷ []) ≡ cond {A = ℕ} (p k) 1 0
one_listed p k =
    let all = sum_by-cons (λ q. cond {A = ℕ} (p q) 1 0) k [] in
    let none : sum_by (λ q. cond {A = ℕ} (p q) 1 0) [] ≡ 0 = refl in
    omega (arith, all, none)

-- the voxels of a block that lie in a box
box_below : (lo hi : Voxel) (h : ℕ) (b : Cube) → b.depth + h ≡ 16
    → count_by (is_in_box lo hi) (voxels_below h b) ≡ held_on lo hi h b
unfolding voxels_below on_axis
box_below lo hi zero b d =
    one_listed (is_in_box lo hi) (lowest_voxel b)
    ∙ ap (λ k. cond {A = ℕ} (is_in_box lo hi k) 1 0) (own_voxel b (omega (arith, d)))
    ∙ both_count (is_between lo.x hi.x b.x) (is_between lo.y hi.y b.y) (is_between lo.z hi.z b.z)
box_below lo hi (suc h) b d =
    sum_by-flat_map (λ k. cond {A = ℕ} (is_in_box lo hi k) 1 0) (λ i. voxels_below h (child_of b i))
    child_numbers
    ∙ same_eight (λ i. count_by (is_in_box lo hi) (voxels_below h (child_of b i)))
    (λ i. held_on lo hi h (child_of b i))
    (λ i li. box_below lo hi h (child_of b i) (child_depths b h i d))
    ∙ held_halves lo hi h b

pub box_in : (lo hi : Voxel) (b : Cube) → b.depth ≤ 16
    → count_by (is_in_box lo hi) (voxels_of b) ≡ shared_in lo hi b
box_in lo hi b m =
    box_below lo hi (16 - b.depth) b (omega (arith, m))
    ∙ rw (
      axis_counts lo.x hi.x (16 - b.depth) b.x,
      axis_counts lo.y hi.y (16 - b.depth) b.y,
      axis_counts lo.z hi.z (16 - b.depth) b.z,
    )
    refl

-- in the whole map it has all its voxels
pub box_whole : (lo hi : Voxel) → IsInMap hi → shared_in lo hi root_block ≡ box_volume lo hi
box_whole lo hi v = join (one lo.x hi.x v.x) (one lo.y hi.y v.y) (one lo.z hi.z v.z)
  where
    one : (low high : ℕ) → high < 65536 → shared low (high + 1) 65536 0 ≡ high + 1 - low
    one low high l = omega (arith, l)

    grouped : (x y z : ℕ) → x * y * z ≡ x * (y * z)
    grouped x y z = omega arith

    join : {a b c x y z : ℕ} → a ≡ x → b ≡ y → c ≡ z → a * b * c ≡ x * (y * z)
    join {a} {b} {c} {x} {y} {z} ea eb ec = rw (ea, eb, ec) (grouped x y z)
