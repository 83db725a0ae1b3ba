-- How blocks lie in one another, and which voxels they hold.
use Rattle.std.proofs.Common.{◌≡◌, ℕ, suc, ◌+◌, ◌-◌, ◌*◌, ◌/◌, ◌%◌, ◌^◌, ◌<◌, ◌≤◌, ◌↔◌, true, ◌&&◌}
use Rattle.std.proofs.Common.{refl, sym, subst, ◌∙◌, ap, arith, add-one, pow_pos, bit_and}
use Rattle.std.proofs.Math.Nat.{div-div-eq-div-mul, pow-suc, pow-succ', div-mul-le_self}
use Rattle.std.proofs.Math.Nat.{lt-div-mul-add, div-eq_of_lt-le, div-lt_iff_lt-mul}
use Rattle.std.proofs.Math.Nat.{mul-lt-mul_of_pos_right}
use Rattle.std.proofs.lemmas.Nat.{and_mask, pow-add}
use Rattle.std.proofs.lemmas.Bool.{eqb-true, and_parts}
use Rattle.std.proofs.lemmas.Bool.Decides.{nat_tests}
use Rattle.std.specs.Prelude.{nat_eq}
use Rattle.oct_key.specs.declared.block.Block.{Block}
use Rattle.oct_key.specs.Voxel.{Voxel, IsInMap}
use Rattle.oct_key.specs.CubeOf.{cube_of}
use Rattle.oct_key.specs.Block.{Cube, IsBlock, HoldsNumber, HoldsVoxel, is_same_block, block_of}
use Rattle.oct_key.specs.Block.{child_of, parent_of, index_in_parent, child_index_of, root_block}
use Rattle.oct_key.specs.Block.{lowest_voxel}

-- a quotient by the next power of two is half of the one by this
half_quotient : (n h : ℕ) → n / 2 ^ suc h ≡ n / 2 ^ h / 2
half_quotient n h = ap (λ (m : ℕ). n / m) (pow-suc 2 h) ∙ sym (div-div-eq-div-mul n (2 ^ h) 2)

-- an index of a child is below 8
pub child_index_below : (d : ℕ) (k : Voxel) → child_index_of d k < 8
unfolding child_index_of
child_index_below d k = omega arith

-- the number of a child on an axis is that of its block, doubled, and a bit
bit_x : (n m p h : ℕ)
    → n / 2 ^ h ≡ 2 * (n / 2 ^ suc h) + (n / 2 ^ h % 2 + 2 * (m / 2 ^ h % 2) + 4 * (p / 2 ^ h % 2))
    % 2
bit_x n m p h = omega (arith, half_quotient n h)

bit_y : (n m p h : ℕ)
    → m / 2 ^ h ≡ 2 * (m / 2 ^ suc h) + (n / 2 ^ h % 2 + 2 * (m / 2 ^ h % 2) + 4 * (p / 2 ^ h % 2))
    / 2 % 2
bit_y n m p h = omega (arith, half_quotient m h)

bit_z : (n m p h : ℕ)
    → p / 2 ^ h ≡ 2 * (p / 2 ^ suc h) + (n / 2 ^ h % 2 + 2 * (m / 2 ^ h % 2) + 4 * (p / 2 ^ h % 2))
    / 4 % 2
bit_z n m p h = omega (arith, half_quotient p h)

-- cubes of the same numbers are one
pub same_cube : (a b : Cube) → a.depth ≡ b.depth → a.x ≡ b.x → a.y ≡ b.y → a.z ≡ b.z → a ≡ b
same_cube a b d x y z =
    let cube : ℕ → ℕ → ℕ → ℕ → Cube = λ d x y z. record { depth = d; x = x; y = y; z = z } in
    let e : cube a.depth a.x a.y a.z ≡ cube b.depth b.x b.y b.z = rw (d, x, y, z) refl in
    e

-- the test is passed by one block alone
pub is_same_block_exact : (a b : Cube) → is_same_block a b ≡ true → a ≡ b
is_same_block_exact a b h =
    let z =
    and_parts (nat_eq a.depth b.depth && nat_eq a.x b.x && nat_eq a.y b.y) (nat_eq a.z b.z) h in
    let y = and_parts (nat_eq a.depth b.depth && nat_eq a.x b.x) (nat_eq a.y b.y) z.0 in
    let x = and_parts (nat_eq a.depth b.depth) (nat_eq a.x b.x) y.0 in
    same_cube a b (eqb-true a.depth b.depth x.0) (eqb-true a.x b.x x.1) (eqb-true a.y b.y y.1)
    (eqb-true a.z b.z z.1)

-- a block passes the test with itself
pub is_same_block_refl : (b : Cube) → is_same_block b b ≡ true
is_same_block_refl b = grind (arith, nat_tests)

-- the step of a block to a child that is h levels above the voxels
step_at : (d h : ℕ) (k : Voxel) → d + h ≡ 15
    → block_of (d + 1) k ≡ child_of (block_of d k) (child_index_of d k)
unfolding block_of child_of child_index_of
step_at d h k e =
    let child : 16 - (d + 1) ≡ h = omega arith in
    let block : 16 - d ≡ suc h = omega arith in
    let bit : 15 - d ≡ h = omega arith in
    rw (child, block, bit)
    (same_cube _ _ refl (bit_x k.x k.y k.z h) (bit_y k.x k.y k.z h) (bit_z k.x k.y k.z h))

-- the block of a voxel that is one deeper is the child that the voxel's index says
pub block_step : (d : ℕ) (k : Voxel) → d < 16
    → block_of (d + 1) k ≡ child_of (block_of d k) (child_index_of d k)
block_step d k l = step_at d (15 - d) k (omega arith)

-- a child tells its parent and its index
pub child_injective : (a b : Cube) (i j : ℕ) → i < 8 → j < 8 → child_of a i ≡ child_of b j
    → (a ≡ b) × (i ≡ j)
unfolding child_of
child_injective a b i j li lj e =
    let d : a.depth + 1 ≡ b.depth + 1 = ap (λ (c : Cube). c.depth) e in
    let x : 2 * a.x + i % 2 ≡ 2 * b.x + j % 2 = ap (λ (c : Cube). c.x) e in
    let y : 2 * a.y + i / 2 % 2 ≡ 2 * b.y + j / 2 % 2 = ap (λ (c : Cube). c.y) e in
    let z : 2 * a.z + i / 4 % 2 ≡ 2 * b.z + j / 4 % 2 = ap (λ (c : Cube). c.z) e in
    (same_cube a b (omega arith) (omega arith) (omega arith) (omega arith), omega arith)

-- a voxel of a child lies in the block, and its index there is the child's
pub in_child : (d i : ℕ) (b : Cube) (k : Voxel) → d < 16 → i < 8 → block_of (d + 1) k ≡ child_of b i
    → (block_of d k ≡ b) × (child_index_of d k ≡ i)
in_child d i b k ld li e =
    child_injective (block_of d k) b (child_index_of d k) i (child_index_below d k) li
    (sym (block_step d k ld) ∙ e)

-- a voxel of the map is numbered on each axis from 0 to 65535
all_numbers : (n : ℕ) → n < 65536 → HoldsNumber 0 0 n
all_numbers n below = (omega arith, omega arith)

-- the root is a block
pub root_in_map : IsBlock root_block
root_in_map = record { depth = omega arith; x = omega arith; y = omega arith; z = omega arith }

-- the block of the whole map holds each voxel of it
pub root_holds : (k : Voxel) → IsInMap k → HoldsVoxel root_block k
root_holds k h = record {
  x = all_numbers k.x h.x;
  y = all_numbers k.y h.y;
  z = all_numbers k.z h.z;
}

first_quotient : (n : ℕ) → n < 65536 → n / 2 ^ 16 ≡ 0
first_quotient n below = omega arith

-- the block of depth 0 of each voxel of the map is the whole map
pub block_of_root : (k : Voxel) → IsInMap k → block_of 0 k ≡ root_block
unfolding block_of
block_of_root k h =
    same_cube _ _ refl (first_quotient k.x h.x) (first_quotient k.y h.y) (first_quotient k.z h.z)

pub depth_block_of : (d : ℕ) (k : Voxel) → (block_of d k).depth ≡ d
unfolding block_of
depth_block_of d k = refl

pub depth_child_of : (b : Cube) (i : ℕ) → (child_of b i).depth ≡ b.depth + 1
unfolding child_of
depth_child_of b i = refl

-- a quotient lies where its number does
quotient_holds : (d n : ℕ) → HoldsNumber d (n / 2 ^ (16 - d)) n
quotient_holds d n =
    let above : n < n / 2 ^ (16 - d) * 2 ^ (16 - d) + 2 ^ (16 - d) =
    lt-div-mul-add (pow_pos (16 - d)) in
    (div-mul-le_self n (2 ^ (16 - d)), omega (arith, above))

quotient_is : (d q n : ℕ) → HoldsNumber d q n → n / 2 ^ (16 - d) ≡ q
quotient_is d q n h = div-eq_of_lt-le (2 ^ (16 - d)) h.0 h.1

-- the block of a voxel holds it
pub block_of_holds : (d : ℕ) (k : Voxel) → HoldsVoxel (block_of d k) k
unfolding block_of
block_of_holds d k = record {
  x = quotient_holds d k.x;
  y = quotient_holds d k.y;
  z = quotient_holds d k.z;
}

-- a block that holds a voxel is the one of its depth that the division gives
pub block_of_held : (b : Cube) (k : Voxel) → HoldsVoxel b k → block_of b.depth k ≡ b
unfolding block_of
block_of_held b k h =
    same_cube _ _ refl (quotient_is b.depth b.x k.x h.x) (quotient_is b.depth b.y k.y h.y)
    (quotient_is b.depth b.z k.z h.z)

-- the block that the division gives holds the voxel
pub held_by_block_of : (b : Cube) (k : Voxel) → block_of b.depth k ≡ b → HoldsVoxel b k
held_by_block_of b k h = subst (λ c. HoldsVoxel c k) h (block_of_holds b.depth k)

-- of the blocks of a depth, one alone holds a voxel
pub only_block : (d : ℕ) (k : Voxel) (b : Cube) → b.depth ≡ d → HoldsVoxel b k → b ≡ block_of d k
only_block d k b e h = subst (λ d. b ≡ block_of d k) e (sym (block_of_held b k h))

-- the lowest of the voxels' numbers that a block holds on an axis
lowest_number : (d n : ℕ) → HoldsNumber d n (n * 2 ^ (16 - d))
lowest_number d n =
    let some : 0 < 2 ^ (16 - d) = pow_pos (16 - d) in
    (omega arith, omega (arith, some))

-- a block holds its lowest voxel
pub lowest_held : (b : Cube) → HoldsVoxel b (lowest_voxel b)
lowest_held b = record {
  x = lowest_number b.depth b.x;
  y = lowest_number b.depth b.y;
  z = lowest_number b.depth b.z;
}

-- blocks on an axis, times the voxels of each, are the voxels of the map on it
power_splits : (d : ℕ) → d ≤ 16 → 2 ^ d * 2 ^ (16 - d) ≡ 65536
power_splits d l =
    let all : d + (16 - d) ≡ 16 = omega arith in
    sym (pow-add 2 d (16 - d)) ∙ ap (λ (m : ℕ). 2 ^ m) all

-- on an axis the lowest number of a block of the map is one of the map
lowest_below : (d n : ℕ) → d ≤ 16 → n < 2 ^ d → n * 2 ^ (16 - d) < 65536
lowest_below d n l h =
    let p : n * 2 ^ (16 - d) < 2 ^ d * 2 ^ (16 - d) =
    mul-lt-mul_of_pos_right h (pow_pos (16 - d)) in
    omega (arith, p, power_splits d l)

-- the lowest voxel of a block of the map is a voxel of it
pub lowest_in_map : (b : Cube) → IsBlock b → IsInMap (lowest_voxel b)
lowest_in_map b h = record {
  x = lowest_below b.depth b.x h.depth h.x;
  y = lowest_below b.depth b.y h.depth h.y;
  z = lowest_below b.depth b.z h.depth h.z;
}

-- the quotient of a number of the map is a number of that depth
pub quotient_below : (d n : ℕ) → d ≤ 16 → n < 65536 → n / 2 ^ (16 - d) < 2 ^ d
quotient_below d n l h = (div-lt_iff_lt-mul (pow_pos (16 - d))).1 (omega (arith, power_splits d l))

-- the block of a voxel of the map is one of the map
pub block_of_in_map : (d : ℕ) (k : Voxel) → d ≤ 16 → IsInMap k → IsBlock (block_of d k)
unfolding block_of
block_of_in_map d k l h = record {
  depth = l;
  x = quotient_below d k.x l h.x;
  y = quotient_below d k.y l h.y;
  z = quotient_below d k.z l h.z;
}

-- the children of a block that is no voxel are blocks
pub child_in_map : (b : Cube) (i : ℕ) → IsBlock b → b.depth < 16 → IsBlock (child_of b i)
unfolding child_of
child_in_map b i h l =
    let p : 2 ^ (b.depth + 1) ≡ 2 * 2 ^ b.depth = rw add-one (pow-succ' 2 b.depth) in
    record {
      depth = omega arith;
      x = omega (arith, p, h.x);
      y = omega (arith, p, h.y);
      z = omega (arith, p, h.z);
    }

-- a child holds exactly the voxels of the block whose index there is the child's
pub child_holds : (b : Cube) (i : ℕ) (k : Voxel) → b.depth < 16 → i < 8
    → HoldsVoxel (child_of b i) k ↔ (HoldsVoxel b k × (child_index_of b.depth k ≡ i))
child_holds b i k l li =
    let e : (child_of b i).depth ≡ b.depth + 1 = depth_child_of b i in
    let to : HoldsVoxel (child_of b i) k → HoldsVoxel b k × (child_index_of b.depth k ≡ i) = λ h.
    let step : block_of (b.depth + 1) k ≡ child_of b i =
    subst (λ d. block_of d k ≡ child_of b i) e (block_of_held (child_of b i) k h) in
    let parts = in_child b.depth i b k l li step in
    (held_by_block_of b k parts.0, parts.1) in
    let from : HoldsVoxel b k × (child_index_of b.depth k ≡ i) → HoldsVoxel (child_of b i) k = λ h.
    let step : block_of (b.depth + 1) k ≡ child_of b i =
    block_step b.depth k l
    ∙ ap (λ c. child_of c (child_index_of b.depth k)) (block_of_held b k h.0)
    ∙ ap (child_of b) h.1 in
    held_by_block_of (child_of b i) k (subst (λ d. block_of d k ≡ child_of b i) (sym e) step) in
    (to, from)

-- the same of a cube that is known to be the child
pub holds_as_child : (b c : Cube) (i : ℕ) (k : Voxel) → b.depth < 16 → i < 8 → c ≡ child_of b i
    → HoldsVoxel c k ↔ (HoldsVoxel b k × (child_index_of b.depth k ≡ i))
holds_as_child b c i k l li e =
    subst (λ c. HoldsVoxel c k ↔ (HoldsVoxel b k × (child_index_of b.depth k ≡ i))) (sym e)
    (child_holds b i k l li)

-- a block is the child of its parent that its lowest bits say
pub child_of_parent : (b : Cube) → 1 ≤ b.depth → child_of (parent_of b) (index_in_parent b) ≡ b
unfolding child_of parent_of index_in_parent
child_of_parent b l = same_cube _ _ (omega arith) (omega arith) (omega arith) (omega arith)

-- the parent of a child is the block
pub parent_of_child : (b : Cube) (i : ℕ) → parent_of (child_of b i) ≡ b
unfolding child_of parent_of
parent_of_child b i = same_cube _ _ (omega arith) (omega arith) (omega arith) (omega arith)

-- the block of a voxel that is one less deep is the parent
pub parent_of_block_of : (d : ℕ) (k : Voxel) → d < 16
    → parent_of (block_of (d + 1) k) ≡ block_of d k
parent_of_block_of d k l =
    ap parent_of (block_step d k l) ∙ parent_of_child (block_of d k) (child_index_of d k)

-- a mask of 1 reads the last bit
last_bit : (n : ℕ) → bit_and n 1 ≡ n % 2
last_bit n = and_mask n 1

-- three bits make the index
pub index_of_bits : (d : ℕ) (k : Voxel)
    → bit_and (k.x / 2 ^ (15 - d)) 1 + 2 * bit_and (k.y / 2 ^ (15 - d)) 1
    + 4 * bit_and (k.z / 2 ^ (15 - d)) 1
    ≡ child_index_of d k
unfolding child_index_of
index_of_bits d k =
    rw (last_bit (k.x / 2 ^ (15 - d)), last_bit (k.y / 2 ^ (15 - d)), last_bit (k.z / 2 ^ (15 - d)))
    refl

-- a child by the bits of its index
pub child_of_bits : (b : Cube) (i x y z : ℕ) → x ≡ bit_and i 1 → y ≡ bit_and (i / 2) 1
    → z ≡ bit_and (i / 4) 1
    → ◌≡◌ {A = Cube}
    (record { depth = b.depth + 1; x = 2 * b.x + x; y = 2 * b.y + y; z = 2 * b.z + z })
    (child_of b i)
unfolding child_of
child_of_bits b i x y z ex ey ez =
    rw (ex, ey, ez, last_bit i, last_bit (i / 2), last_bit (i / 4)) refl

-- each block of the code is a block of the map
pub block_in_map : (b : Block) → IsBlock (cube_of b)
block_in_map b = record { depth = b.levels; x = b.on_x; y = b.on_y; z = b.on_z }
