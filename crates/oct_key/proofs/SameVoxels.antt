-- When two voxels are one.
use Rattle.std.proofs.Common.{◌≡◌, ℕ, true, ◌&&◌, refl, arith}
use Rattle.std.proofs.lemmas.Bool.{eqb-true, and_parts}
use Rattle.std.proofs.lemmas.Bool.Decides.{nat_tests}
use Rattle.std.specs.Prelude.{nat_eq}
use Rattle.oct_key.specs.Voxel.{Voxel}
use Rattle.oct_key.specs.Values.{is_same_voxel}

-- voxels of the same numbers are one
pub same_voxel : (a b : Voxel) → a.x ≡ b.x → a.y ≡ b.y → a.z ≡ b.z → a ≡ b
same_voxel a b x y z =
    let voxel : ℕ → ℕ → ℕ → Voxel = λ x y z. record { x = x; y = y; z = z } in
    let e : voxel a.x a.y a.z ≡ voxel b.x b.y b.z = rw (x, y, z) refl in
    e

-- the test is passed by one voxel alone
pub is_same_voxel_exact : (a b : Voxel) → is_same_voxel a b ≡ true → a ≡ b
is_same_voxel_exact a b h =
    let z = and_parts (nat_eq a.x b.x && nat_eq a.y b.y) (nat_eq a.z b.z) h in
    let xy = and_parts (nat_eq a.x b.x) (nat_eq a.y b.y) z.0 in
    same_voxel a b (eqb-true a.x b.x xy.0) (eqb-true a.y b.y xy.1) (eqb-true a.z b.z z.1)

-- a voxel passes the test with itself
pub is_same_voxel_refl : (k : Voxel) → is_same_voxel k k ≡ true
is_same_voxel_refl k = grind (arith, nat_tests)
