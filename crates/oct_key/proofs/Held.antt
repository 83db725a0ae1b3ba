-- Which voxels a block of the map holds, and which of its children holds them.
use Rattle.std.proofs.Common.{◌≡◌, ℕ, suc, ◌+◌, ◌-◌, ◌*◌, ◌^◌, ◌<◌, ◌≤◌, refl, sym, ◌∙◌, ap, arith}
use Rattle.std.proofs.Common.{pow_pos}
use Rattle.std.proofs.Math.Nat.{mul-le-mul_right}
use Rattle.std.proofs.lemmas.Nat.{pow-add}
use Rattle.oct_key.specs.Voxel.{Voxel, IsInMap}
use Rattle.oct_key.specs.Block.{Cube, IsBlock, HoldsVoxel, HoldsNumber, side, child_of}
use Rattle.oct_key.specs.Block.{child_index_of, lowest_voxel}
use Rattle.oct_key.proofs.Blocks.{child_index_below, depth_child_of, child_holds}
use Rattle.oct_key.proofs.SameVoxels.{same_voxel}

-- the numbers that a block of the map holds are numbers of the map
number_in_map : (d n v : ℕ) → d ≤ 16 → n < 2 ^ d → HoldsNumber d n v → v < 65536
number_in_map d n v l h (low, high) =
    let some : 0 < 2 ^ (16 - d) = pow_pos (16 - d) in
    let next : (n + 1) * 2 ^ (16 - d) ≤ 2 ^ d * 2 ^ (16 - d) =
    mul-le-mul_right (2 ^ (16 - d)) (omega arith) in
    let all : d + (16 - d) ≡ 16 = omega arith in
    let whole : 2 ^ d * 2 ^ (16 - d) ≡ 65536 =
    sym (pow-add 2 d (16 - d)) ∙ ap (λ (m : ℕ). 2 ^ m) all in
    omega (arith, next, whole, high)

-- the voxels that a block of the map holds are voxels of the map
pub held_in_map : (b : Cube) (k : Voxel) → IsBlock b → HoldsVoxel b k → IsInMap k
held_in_map b k ok h =
    record {
      x = number_in_map b.depth b.x k.x ok.depth ok.x h.x;
      y = number_in_map b.depth b.y k.y ok.depth ok.y h.y;
      z =
          number_in_map b.depth b.z k.z ok.depth ok.z h.z;
    }

-- a block of depth 16 holds one number on an axis
only_number : (d n v : ℕ) → d ≡ 16 → HoldsNumber d n v → v ≡ n * side d
only_number d n v e h =
    let level : 16 - d ≡ 0 = omega arith in
    let one : 2 ^ (16 - d) ≡ 1 = ap (λ (m : ℕ). 2 ^ m) level in
    let low : n * 2 ^ (16 - d) ≤ v = h.0 in
    let high : v < (n + 1) * 2 ^ (16 - d) = h.1 in
    let low_is : n * 1 ≤ v = rw one at low in
    let high_is : v < (n + 1) * 1 = rw one at high in
    let is : v ≡ n * 1 = omega arith in
    rw one is

-- a block of depth 16 holds its lowest voxel alone
pub only_voxel : (b : Cube) (k : Voxel) → b.depth ≡ 16 → HoldsVoxel b k → k ≡ lowest_voxel b
only_voxel b k e h =
    same_voxel k (lowest_voxel b) (only_number b.depth b.x k.x e h.x)
    (only_number b.depth b.y k.y e h.y)
    (only_number b.depth b.z k.z e h.z)

-- a child stands one depth less above the voxels
pub child_depths : (b : Cube) (h i : ℕ) → b.depth + suc h ≡ 16 → (child_of b i).depth + h ≡ 16
child_depths b h i d = let deep = depth_child_of b i in omega arith

-- a voxel of a child is one of the block
pub held_by_parent : (b : Cube) (i : ℕ) (k : Voxel) → b.depth < 16 → i < 8
    → HoldsVoxel (child_of b i) k → HoldsVoxel b k
held_by_parent b i k low li h = ((child_holds b i k low li).0 h).0

-- a voxel of the block is one of the child that its index says
pub held_by_child : (b : Cube) (k : Voxel) → b.depth < 16 → HoldsVoxel b k
    → HoldsVoxel (child_of b (child_index_of b.depth k)) k
held_by_child b k low h =
    (child_holds b (child_index_of b.depth k) k low (child_index_below b.depth k)).1 (h, refl)

-- how many depths a block of the map stands above the voxels
pub depths_above : (b : Cube) → IsBlock b → b.depth + (16 - b.depth) ≡ 16
depths_above b ok = let l = ok.depth in omega arith
