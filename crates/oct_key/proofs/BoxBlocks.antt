-- Which blocks meet a box of voxels and which lie in it, axis by axis.
use Rattle.std.proofs.Common.{◌≡◌, ℕ, ◌+◌, ◌-◌, ◌*◌, ◌/◌, ◌^◌, ◌<◌, ◌≤◌, ◌↔◌, Bool, true, refl}
use Rattle.std.proofs.Common.{arith, pow_pos}
use Rattle.std.specs.Prelude.{◌&&◌, max, nat_le, IsTrue}
use Rattle.std.proofs.Math.Nat.{le-div_iff_mul-le, div-lt_iff_lt-mul}
use Rattle.std.proofs.lemmas.Bool.{and_parts, le-leb, leb-true}
use Rattle.oct_key.specs.Voxel.{Voxel}
use Rattle.oct_key.specs.Block.{Cube, HoldsVoxel, HoldsNumber, side, lowest_voxel}
use Rattle.oct_key.specs.Boxes.{IsBetween, IsBox, MeetsBox, LiesInBox, MeetsSpan, LiesInSpan}
use Rattle.oct_key.proofs.Blocks.{lowest_held}

-- a block meets a box where it does so on each axis
pub record MeetsSpans (lo hi : Voxel) (b : Cube) : Type 0 where
  pub x : MeetsSpan lo.x hi.x b.depth b.x
  pub y : MeetsSpan lo.y hi.y b.depth b.y
  pub z : MeetsSpan lo.z hi.z b.depth b.z

pub record LiesInSpans (lo hi : Voxel) (b : Cube) : Type 0 where
  pub x : LiesInSpan lo.x hi.x b.depth b.x
  pub y : LiesInSpan lo.y hi.y b.depth b.y
  pub z : LiesInSpan lo.z hi.z b.depth b.z

pub meets_exactly : (lo hi : Voxel) (b : Cube) → IsBox lo hi → MeetsBox lo hi b ↔ MeetsSpans lo hi b
meets_exactly lo hi b box = (to, from)
  where
    meets : (low high s n v : ℕ) → (n * s ≤ v) × (v < (n + 1) * s) → IsBetween low high v
        → (low < (n + 1) * s) × (n * s ≤ high)
    meets low high s n v held h =
        (let (a, z) = held in
        let (c, d) = h in
        (omega (arith, a, z, c, d), omega (arith, a, z, c, d)))

    to : MeetsBox lo hi b → MeetsSpans lo hi b
    to (k, held, h) = record {
      x = meets lo.x hi.x (side b.depth) b.x k.x held.x h.x;
      y = meets lo.y hi.y (side b.depth) b.y k.y held.y h.y;
      z = meets lo.z hi.z (side b.depth) b.z k.z held.z h.z;
    }

    some : (low high s n : ℕ) → 0 < s → low ≤ high → (low < (n + 1) * s) × (n * s ≤ high)
        → ((n * s ≤ max low (n * s)) × (max low (n * s) < (n + 1) * s))
        × IsBetween low high (max low (n * s))
    some low high s n p l h =
        (let (a, z) = h in ((omega arith, omega (arith, a, p)), (omega arith, omega (arith, l, z))))

    from : MeetsSpans lo hi b → MeetsBox lo hi b
    from h =
        let x = some lo.x hi.x (side b.depth) b.x (pow_pos (16 - b.depth)) box.x h.x in
        let y = some lo.y hi.y (side b.depth) b.y (pow_pos (16 - b.depth)) box.y h.y in
        let z = some lo.z hi.z (side b.depth) b.z (pow_pos (16 - b.depth)) box.z h.z in
        let k : Voxel = record {
          x = max lo.x (b.x * side b.depth);
          y = max lo.y (b.y * side b.depth);
          z = max lo.z (b.z * side b.depth);
        } in
        (k, record { x = x.0; y = y.0; z = z.0 }, record { x = x.1; y = y.1; z = z.1 })

-- the voxel of a block with the highest number on each axis
abbrev pub highest_voxel : Cube → Voxel
highest_voxel b = record {
  x = b.x * side b.depth + (side b.depth - 1);
  y = b.y * side b.depth + (side b.depth - 1);
  z = b.z * side b.depth + (side b.depth - 1);
}

pub highest_held : (b : Cube) → HoldsVoxel b (highest_voxel b)
highest_held b = record { x = axis b.x; y = axis b.y; z = axis b.z }
  where
    axis : (n : ℕ) → HoldsNumber b.depth n (n * side b.depth + (side b.depth - 1))
    axis n =
        (let some : 0 < 2 ^ (16 - b.depth) = pow_pos (16 - b.depth) in
        (omega arith, omega (arith, some)))

pub lies_exactly : (lo hi : Voxel) (b : Cube) → LiesInBox lo hi b ↔ LiesInSpans lo hi b
lies_exactly lo hi b = (to, from)
  where
    ends : (low high s n : ℕ) → 0 < s → IsBetween low high (n * s)
        → IsBetween low high (n * s + (s - 1)) → (low ≤ n * s) × ((n + 1) * s ≤ high + 1)
    ends low high s n p h g = (let (a, z) = h in let (c, d) = g in (a, omega (arith, p, d)))

    to : LiesInBox lo hi b → LiesInSpans lo hi b
    to h =
        let low = h (lowest_voxel b) (lowest_held b) in
        let high = h (highest_voxel b) (highest_held b) in
        record {
          x = ends lo.x hi.x (side b.depth) b.x (pow_pos (16 - b.depth)) low.x high.x;
          y = ends lo.y hi.y (side b.depth) b.y (pow_pos (16 - b.depth)) low.y high.y;
          z = ends lo.z hi.z (side b.depth) b.z (pow_pos (16 - b.depth)) low.z high.z;
        }

    each : (low high s n v : ℕ) → (n * s ≤ v) × (v < (n + 1) * s)
        → (low ≤ n * s) × ((n + 1) * s ≤ high + 1) → IsBetween low high v
    each low high s n v held h =
        (let (a, z) = held in let (c, d) = h in (omega (arith, a, c), omega (arith, z, d)))

    from : LiesInSpans lo hi b → LiesInBox lo hi b
    from h k held = record {
      x = each lo.x hi.x (side b.depth) b.x k.x held.x h.x;
      y = each lo.y hi.y (side b.depth) b.y k.y held.y h.y;
      z = each lo.z hi.z (side b.depth) b.z k.z held.z h.z;
    }

-- ---- three tests, one for each axis

pub parts_of_three : (a b c : Bool) → (a && b && c) ≡ true → (a ≡ true) × (b ≡ true) × (c ≡ true)
parts_of_three a b c h =
    (let z = and_parts (a && b) c h in let y = and_parts a b z.0 in (y.0, y.1, z.1))

pub three_pass : (a b c : Bool) → a ≡ true → b ≡ true → c ≡ true → (a && b && c) ≡ true
three_pass a b c x y z = rw (x, y, z) refl

-- on an axis, whether a block has voxels among these numbers, by division
pub meets_by_division : (low high depth n : ℕ)
    → ((low / side depth ≤ n) × (n ≤ high / side depth)) ↔ MeetsSpan low high depth n
meets_by_division low high depth n =
    let some : 0 < 2 ^ (16 - depth) = pow_pos (16 - depth) in (
      λ (a, b). ((div-lt_iff_lt-mul some).0 (omega (arith, a)), (le-div_iff_mul-le some).0 b),
      λ (a, b). (let c = (div-lt_iff_lt-mul some).1 a in
          (omega (arith, c), (le-div_iff_mul-le some).1 b)),
    )

-- where they tell of each axis, they tell of the box
pub meets_each : (lo hi : Voxel) (b : Cube) (x y z : Bool) → IsBox lo hi
    → IsTrue x ↔ MeetsSpan lo.x hi.x b.depth b.x → IsTrue y ↔ MeetsSpan lo.y hi.y b.depth b.y
    → IsTrue z ↔ MeetsSpan lo.z hi.z b.depth b.z → IsTrue (x && y && z) ↔ MeetsBox lo hi b
meets_each lo hi b x y z box ex ey ez = (
  λ h. (let (hx, hy, hz) = parts_of_three x y z h in
      (meets_exactly lo hi b box).1 (record { x = ex.0 hx; y = ey.0 hy; z = ez.0 hz })),
  λ m. (let h = (meets_exactly lo hi b box).0 m in
      three_pass x y z (ex.1 h.x) (ey.1 h.y) (ez.1 h.z)),
)

pub lies_each : (lo hi : Voxel) (b : Cube) (x y z : Bool)
    → IsTrue x ↔ LiesInSpan lo.x hi.x b.depth b.x → IsTrue y ↔ LiesInSpan lo.y hi.y b.depth b.y
    → IsTrue z ↔ LiesInSpan lo.z hi.z b.depth b.z → IsTrue (x && y && z) ↔ LiesInBox lo hi b
lies_each lo hi b x y z ex ey ez = (
  λ h. (let (hx, hy, hz) = parts_of_three x y z h in
      (lies_exactly lo hi b).1 (record { x = ex.0 hx; y = ey.0 hy; z = ez.0 hz })),
  λ m. (let h = (lies_exactly lo hi b).0 m in three_pass x y z (ex.1 h.x) (ey.1 h.y) (ez.1 h.z)),
)

-- the second of two tests on an axis
pub meets_second : (low high depth n m h : ℕ) → m ≡ n → h ≡ high → low / side depth ≤ n
    → IsTrue (nat_le m (h / side depth)) ↔ MeetsSpan low high depth n
meets_second low high depth n m h em eh first =
    rw (em, eh) (
      λ t. (meets_by_division low high depth n).0 (first, leb-true n (high / side depth) t),
      λ s.
          le-leb n (high / side depth) ((meets_by_division low high depth n).1 s).1,
    )
