-- The order of voxels is total, tells them apart and goes one way.
use Rattle.std.proofs.Common.{◌≡◌, ◌<◌, sym, ap, ◌∙◌, refl, arith}
use Rattle.std.proofs.lemmas.Bool.Decides.{nat_tests}
use Rattle.std.proofs.lemmas.Cmp.{on_total, then_total, nat_cmp_total}
use Rattle.std.proofs.lemmas.Map.Lookups.{CmpEqualImpliesEq}
use Rattle.std.specs.BTreeMap.{is_at}
use Rattle.std.specs.Cmp.{IsTotalOrder}
use Rattle.std.specs.Ordering.{is_eq, ordering_reverse}
use Rattle.std.specs.declared.cmp.Ordering.{Ordering}
use Rattle.std.specs.declared.cmp.Ordering.TheVariants.{Less, Equal, Greater}
use Rattle.oct_key.specs.Voxel.{Voxel}
use Rattle.oct_key.specs.Values.{is_same_voxel}
use Rattle.oct_key.specs.Order.{key_cmp}
use Rattle.oct_key.proofs.SameVoxels.{is_same_voxel_exact}

-- the order of voxels is total
pub key_cmp_total : IsTotalOrder key_cmp
key_cmp_total =
    then_total (on_total (λ k. k.x) nat_cmp_total)
    (then_total (on_total (λ k. k.y) nat_cmp_total) (on_total (λ k. k.z) nat_cmp_total))

-- in the order one voxel is at the place of another exactly where the test says that they are one
pub is_at-key_cmp : (a b : Voxel) → is_at (key_cmp a) b ≡ is_same_voxel a b
is_at-key_cmp a b = grind (arith, nat_tests)

-- voxels that compare alike are one
pub key_cmp_exact : CmpEqualImpliesEq key_cmp
key_cmp_exact a b h = is_same_voxel_exact a b (sym (is_at-key_cmp a b) ∙ ap is_eq h)

less_reversed : (o : Ordering) → ordering_reverse o ≡ Less → o ≡ Greater
less_reversed Less h = cc
less_reversed Equal h = cc
less_reversed Greater h = refl

-- of two voxels at most one is below the other
pub one_way : (a b : Voxel) → key_cmp a b ≡ Less → key_cmp b a ≡ Less → ⊥
one_way a b f g =
    clash (sym (less_reversed (key_cmp b a) (sym (key_cmp_total.antisymm a b) ∙ f)) ∙ g)
  where
    clash : Greater ≡ Less → ⊥
    clash e = cc

-- a voxel is below another by its first number that differs
pub below_by_x : (a b : Voxel) → a.x < b.x → key_cmp a b ≡ Less
below_by_x a b l = grind (arith, nat_tests)

pub below_by_y : (a b : Voxel) → a.x ≡ b.x → a.y < b.y → key_cmp a b ≡ Less
below_by_y a b x l = grind (arith, nat_tests)

pub below_by_z : (a b : Voxel) → a.x ≡ b.x → a.y ≡ b.y → a.z < b.z → key_cmp a b ≡ Less
below_by_z a b x y l = grind (arith, nat_tests)
