-- Interleaved bits: their parts, their prefixes, and what they tell of blocks.
use Rattle.std.proofs.Common.{◌≡◌, ℕ, zero, suc, ◌+◌, ◌-◌, ◌*◌, ◌/◌, ◌%◌, ◌^◌, ◌<◌, ◌≤◌, ◌↔◌, refl}
use Rattle.std.proofs.Common.{sym, ◌∙◌, ap, arith, add-zero}
use Rattle.std.proofs.Math.Nat.{div-div-eq-div-mul, pow-suc, pow-succ', div-one, add-suc}
use Rattle.std.proofs.lemmas.Nat.{pow-add}
use Rattle.oct_key.specs.Voxel.{Voxel, IsInMap}
use Rattle.oct_key.specs.Block.{Cube, block_of, child_index_of}
use Rattle.oct_key.specs.Morton.{interleaved, gathered, morton_of, code_prefix}
use Rattle.oct_key.proofs.Blocks.{same_cube, quotient_below}
use Rattle.oct_key.proofs.Spreads.{spread}
use Rattle.oct_key.proofs.SameVoxels.{same_voxel}

-- this many interleaved bits are as many digits of 0 to 7
pub interleaved_below : (n x y z : ℕ) → interleaved n x y z < 8 ^ n
unfolding interleaved
interleaved_below zero x y z = omega arith
interleaved_below (suc n) x y z =
    omega (arith, interleaved_below n (x / 2) (y / 2) (z / 2), pow-suc 8 n)

-- the bits of one number alone
pub interleaved_one : (n x : ℕ) → interleaved n x 0 0 ≡ spread 2 n x
unfolding interleaved spread
interleaved_one zero x = refl
interleaved_one (suc n) x = omega (arith, interleaved_one n (x / 2))

-- three numbers are interleaved by their sum, each at its place
pub interleaved_sum : (n x y z : ℕ)
    → interleaved n x y z ≡ interleaved n x 0 0 + 2 * interleaved n y 0 0 + 4 * interleaved n z 0 0
unfolding interleaved
interleaved_sum zero x y z = refl
interleaved_sum (suc n) x y z = omega (arith, interleaved_sum n (x / 2) (y / 2) (z / 2))

-- a number is what its gathered bits make
pub interleaved_gathered : (n m : ℕ) → m < 8 ^ n
    → interleaved n (gathered n m) (gathered n (m / 2)) (gathered n (m / 4)) ≡ m
unfolding interleaved gathered
interleaved_gathered zero m below = omega arith
interleaved_gathered (suc n) m below =
    let part : m / 8 < 8 ^ n = omega (arith, pow-suc 8 n) in
    let half : m / 2 / 8 ≡ m / 8 / 2 = omega arith in
    let quarter : m / 4 / 8 ≡ m / 8 / 4 = omega arith in
    let x : (m % 2 + 2 * gathered n (m / 8)) / 2 ≡ gathered n (m / 8) = omega arith in
    let y : (m / 2 % 2 + 2 * gathered n (m / 8 / 2)) / 2 ≡ gathered n (m / 8 / 2) = omega arith in
    let z : (m / 4 % 2 + 2 * gathered n (m / 8 / 4)) / 2 ≡ gathered n (m / 8 / 4) = omega arith in
    rw (half, quarter, x, y, z) (omega (arith, interleaved_gathered n (m / 8) part))

-- gathered bits are this many
pub gathered_below : (n m : ℕ) → gathered n m < 2 ^ n
unfolding gathered
gathered_below zero m = omega arith
gathered_below (suc n) m = omega (arith, gathered_below n (m / 8), pow-suc 2 n)

-- numbers of this many bits are told by their interleaved bits
pub interleaved_injective : (n x y z x' y' z' : ℕ) → x < 2 ^ n → y < 2 ^ n → z < 2 ^ n → x' < 2 ^ n
    → y' < 2 ^ n → z' < 2 ^ n → interleaved n x y z ≡ interleaved n x' y' z'
    → (x ≡ x') × (y ≡ y') × (z ≡ z')
unfolding interleaved
interleaved_injective zero x y z x' y' z' lx ly lz lx' ly' lz' e =
    (omega arith, omega arith, omega arith)
interleaved_injective (suc n) x y z x' y' z' lx ly lz lx' ly' lz' e =
    let step = pow-suc 2 n in
    let tail : interleaved n (x / 2) (y / 2) (z / 2) ≡ interleaved n (x' / 2) (y' / 2) (z' / 2) =
    omega (arith, e) in
    let halves =
    interleaved_injective n (x / 2) (y / 2) (z / 2) (x' / 2) (y' / 2) (z' / 2)
    (omega (arith, step)) (omega (arith, step)) (omega (arith, step)) (omega (arith, step))
    (omega (arith, step)) (omega (arith, step)) tail in (
      omega (arith, e, tail, halves.0),
      omega (arith, e, tail, halves.1),
      omega (arith, e, tail, halves.2),
    )

-- without the last digits, interleaved bits are those of the numbers without their last bits
pub interleaved_shifted : (n h x y z : ℕ)
    → interleaved (n + h) x y z / 8 ^ h ≡ interleaved n (x / 2 ^ h) (y / 2 ^ h) (z / 2 ^ h)
unfolding interleaved
interleaved_shifted n zero x y z =
    rw (add-zero, div-one (interleaved n x y z), div-one x, div-one y, div-one z) refl
interleaved_shifted n (suc h) x y z =
    let rest : ℕ = interleaved (n + h) (x / 2) (y / 2) (z / 2) in
    let last : (x % 2 + 2 * (y % 2) + 4 * (z % 2) + 8 * rest) / 8 ≡ rest = omega arith in
    let half : (v : ℕ) → v / 2 / 2 ^ h ≡ v / 2 ^ suc h =
    λ v. div-div-eq-div-mul v 2 (2 ^ h) ∙ ap (λ (m : ℕ). v / m) (sym (pow-succ' 2 h)) in
    let eighth : (v : ℕ) → v / 8 ^ suc h ≡ v / 8 / 8 ^ h =
    λ v. ap (λ (m : ℕ). v / m) (pow-succ' 8 h) ∙ sym (div-div-eq-div-mul v 8 (8 ^ h)) in
    rw (add-suc, eighth (x % 2 + 2 * (y % 2) + 4 * (z % 2) + 8 * rest), last)
    (interleaved_shifted n h (x / 2) (y / 2) (z / 2) ∙ rw (half x, half y, half z) refl)

-- three bits are a digit of 0 to 7
three_bits : (h : ℕ) → 2 ^ (3 * h) ≡ 8 ^ h
three_bits zero = refl
three_bits (suc h) =
    ap (λ (n : ℕ). 2 ^ n) (let e : 3 * suc h ≡ 3 + 3 * h = omega arith in e) ∙ pow-add 2 3 (3 * h)
    ∙ ap (λ (n : ℕ). 8 * n) (three_bits h) ∙ sym (pow-succ' 8 h)

-- the leading bits of a code of the map are the interleaved numbers of a block
prefix_of_morton : (d : ℕ) (k : Voxel) → d ≤ 16
    → code_prefix d (morton_of k)
    ≡ interleaved d (k.x / 2 ^ (16 - d)) (k.y / 2 ^ (16 - d)) (k.z / 2 ^ (16 - d))
unfolding morton_of
prefix_of_morton d k l =
    let whole : 16 ≡ d + (16 - d) = omega arith in
    ap (λ (m : ℕ). interleaved 16 k.x k.y k.z / m) (three_bits (16 - d))
    ∙ ap (λ (n : ℕ). interleaved n k.x k.y k.z / 8 ^ (16 - d)) whole
    ∙ interleaved_shifted d (16 - d) k.x k.y k.z

-- a code tells the block of each depth by its leading bits
pub same_prefix : (d : ℕ) (k l : Voxel) → d ≤ 16 → IsInMap k → IsInMap l
    → (code_prefix d (morton_of k) ≡ code_prefix d (morton_of l)) ↔ (block_of d k ≡ block_of d l)
unfolding block_of
same_prefix d k l le on_k on_l =
    let p = prefix_of_morton d k le in
    let q = prefix_of_morton d l le in
    let to : code_prefix d (morton_of k) ≡ code_prefix d (morton_of l)
    → block_of d k ≡ block_of d l =
    λ e.
    let parts =
    interleaved_injective d _ _ _ _ _ _ (quotient_below d k.x le on_k.x)
    (quotient_below d k.y le on_k.y) (quotient_below d k.z le on_k.z)
    (quotient_below d l.x le on_l.x) (quotient_below d l.y le on_l.y)
    (quotient_below d l.z le on_l.z) (sym p ∙ e ∙ q) in
    same_cube _ _ refl parts.0 parts.1 parts.2 in
    let from : block_of d k ≡ block_of d l
    → code_prefix d (morton_of k) ≡ code_prefix d (morton_of l) =
    λ e.
    p ∙ ap (λ (c : Cube). interleaved d c.x c.y c.z) e ∙ sym q in
    (to, from)

-- a code has the index of the child of each depth as a digit
pub digit_of_morton : (d : ℕ) (k : Voxel) → d ≤ 15
    → morton_of k / 2 ^ (3 * (15 - d)) % 8 ≡ child_index_of d k
unfolding child_index_of interleaved morton_of
digit_of_morton d k le =
    let whole : 16 ≡ suc d + (15 - d) = omega arith in
    let number : morton_of k / 2 ^ (3 * (15 - d))
    ≡ interleaved (suc d) (k.x / 2 ^ (15 - d)) (k.y / 2 ^ (15 - d)) (k.z / 2 ^ (15 - d)) =
    ap (λ (m : ℕ). interleaved 16 k.x k.y k.z / m) (three_bits (15 - d))
    ∙ ap (λ (n : ℕ). interleaved n k.x k.y k.z / 8 ^ (15 - d)) whole
    ∙ interleaved_shifted (suc d) (15 - d) k.x k.y k.z in
    omega (arith, number)

-- a code of the map has 48 bits
pub morton_below : (k : Voxel) → morton_of k < 2 ^ 48
unfolding morton_of
morton_below k = interleaved_below 16 k.x k.y k.z

-- voxels of the map of the same code are one
pub morton_injective : (a b : Voxel) → IsInMap a → IsInMap b → morton_of a ≡ morton_of b → a ≡ b
unfolding morton_of
morton_injective a b on_a on_b e =
    let parts =
    interleaved_injective 16 a.x a.y a.z b.x b.y b.z on_a.x on_a.y on_a.z on_b.x on_b.y on_b.z
    e in
    same_voxel a b parts.0 parts.1 parts.2

-- the voxel that is gathered from a code has it
pub morton_of_gathered : (m x y z : ℕ) → m < 2 ^ 48 → x ≡ gathered 16 m → y ≡ gathered 16 (m / 2)
    → z ≡ gathered 16 (m / 4) → morton_of (record { x = x; y = y; z = z }) ≡ m
unfolding morton_of
morton_of_gathered m x y z below ex ey ez = rw (ex, ey, ez) (interleaved_gathered 16 m below)

-- a voxel whose numbers are gathered bits is one of the map
pub gathered_in_map : (m p q x y z : ℕ) → x ≡ gathered 16 m → y ≡ gathered 16 p → z ≡ gathered 16 q
    → IsInMap (record { x = x; y = y; z = z })
gathered_in_map m p q x y z ex ey ez = record {
  x = omega (arith, ex, gathered_below 16 m);
  y = omega (arith, ey, gathered_below 16 p);
  z = omega (arith, ez, gathered_below 16 q);
}

-- three numbers of 16 bits, each spread, make the code
pub morton_of_sum : (k : Voxel) (x y z : ℕ) → x ≡ interleaved 16 k.x 0 0
    → y ≡ interleaved 16 k.y 0 0 → z ≡ interleaved 16 k.z 0 0 → x < 2 ^ 46 → y < 2 ^ 46 → z < 2 ^ 46
    → x + y * 2 % 2 ^ 64 + z * 4 % 2 ^ 64 ≡ morton_of k
unfolding morton_of
morton_of_sum k x y z ex ey ez lx ly lz = omega (arith, ex, ey, ez, interleaved_sum 16 k.x k.y k.z)
