-- The list of the voxels from where three axes stand.
use Rattle.std.proofs.Common.{◌≡◌, ℕ, zero, suc, ◌-◌, ◌<◌, ◌≤◌, true, false, eqb, List, [], ◌∷◌}
use Rattle.std.proofs.Common.{refl, arith, inl, inr, ◌⊎◌, sym, ◌∙◌, ap, length, slice_index_or}
use Rattle.std.proofs.Common.{Contains}
use Rattle.std.proofs.lemmas.Bool.Decides.{nat_tests}
use Rattle.oct_ray.specs.Axis.{HasRoom, crosses, axis_after}
use Rattle.oct_ray.specs.Axis.{axis_keys, axis_voxel}
use Rattle.oct_ray.specs.declared.axis.Axis.{Axis}
use Rattle.oct_key.specs.Voxel.{Voxel}
use Rattle.oct_ray.proofs.Crossings.{crossings_left, crossings_left-fall, axis_after-HasRoom}
use Rattle.oct_ray.proofs.Crossings.{crosses-crossings}

pub zero_is : (n : ℕ) → n ≡ 0 → eqb n 0 ≡ true
zero_is n h = grind (arith, nat_tests)

pub zero_from : (n : ℕ) → eqb n 0 ≡ true → n ≡ 0
zero_from n h = grind (arith, nat_tests)

pub nonzero_from : (n : ℕ) → eqb n 0 ≡ false → 0 < n
nonzero_from n h = grind (arith, nat_tests)

pub keys_suc : (f : ℕ) (x y z : Axis) → eqb (crossings_left x y z) 0 ≡ false →
    axis_keys (suc f) x y z ≡ axis_voxel x y z
    ∷ axis_keys f (axis_after (crosses x y z) x) (axis_after (crosses y z x) y)
    (axis_after (crosses z x y) z)
unfolding axis_keys
keys_suc f x y z e = rw e refl

pub keys_end : (f : ℕ) (x y z : Axis) → eqb (crossings_left x y z) 0 ≡ true
    → axis_keys f x y z ≡ axis_voxel x y z ∷ []
unfolding axis_keys
keys_end zero x y z e = refl
keys_end (suc f) x y z e = rw e refl

-- more fuel than crossings changes nothing
pub keys_enough : (f g : ℕ) (x y z : Axis) → HasRoom x → HasRoom y → HasRoom z
    → crossings_left x y z ≤ f → crossings_left x y z ≤ g → axis_keys f x y z ≡ axis_keys g x y z
keys_enough zero g x y z ix iy iz hf hg =
    let e = zero_is (crossings_left x y z) (omega arith) in
    keys_end zero x y z e ∙ sym (keys_end g x y z e)
keys_enough (suc f) zero x y z ix iy iz hf hg =
    let e = zero_is (crossings_left x y z) (omega arith) in
    keys_end (suc f) x y z e ∙ sym (keys_end zero x y z e)
keys_enough (suc f) (suc g) x y z ix iy iz hf hg =
    elim (eqb (crossings_left x y z) 0) as
    (λ b. eqb (crossings_left x y z) 0 ≡ b → axis_keys (suc f) x y z ≡ axis_keys (suc g) x y z) [
      | true ↦ λ e. keys_end (suc f) x y z e ∙ sym (keys_end (suc g) x y z e)
      | false ↦ λ e.
          let fall = crossings_left-fall x y z ix iy iz e in
          keys_suc f x y z e ∙ ap (λ ks. axis_voxel x y z ∷ ks)
          (keys_enough f g _ _ _
          (axis_after-HasRoom (crosses x y z) x (crosses-crossings x y z) ix)
          (axis_after-HasRoom (crosses y z x) y (crosses-crossings y z x) iy)
          (axis_after-HasRoom (crosses z x y) z (crosses-crossings z x y) iz)
          (omega arith) (omega arith)) ∙ sym (keys_suc g x y z e)
    ] refl

-- the keys of a walk that isn't at its end
pub keys_more : (x y z x' y' z' : Axis) → HasRoom x → HasRoom y → HasRoom z
    → eqb (crossings_left x y z) 0 ≡ false →
    x' ≡ axis_after (crosses x y z) x → y' ≡ axis_after (crosses y z x) y
    → z' ≡ axis_after (crosses z x y) z →
    axis_keys (crossings_left x y z) x y z ≡ axis_voxel x y z
    ∷ axis_keys (crossings_left x' y' z') x' y' z'
keys_more x y z x' y' z' ix iy iz e ex ey ez = rw (ex, ey, ez) (
    let f = nonzero_from (crossings_left x y z) e in
    let fall = crossings_left-fall x y z ix iy iz e in
    let s : crossings_left x y z ≡ suc (crossings_left x y z - 1) = omega arith in
    ap (λ n. axis_keys n x y z) s ∙ keys_suc (crossings_left x y z - 1) x y z e
    ∙ ap (λ ks. axis_voxel x y z ∷ ks)
    (keys_enough (crossings_left x y z - 1) _ _ _ _
    (axis_after-HasRoom (crosses x y z) x (crosses-crossings x y z) ix)
    (axis_after-HasRoom (crosses y z x) y (crosses-crossings y z x) iy)
    (axis_after-HasRoom (crosses z x y) z (crosses-crossings z x y) iz)
    (omega arith) (omega arith)))

-- the voxel is one of the list
abbrev pub Lists : List Voxel → Voxel → Type 0
Lists [] k = ⊥
Lists (l ∷ ls) k = (l ≡ k) ⊎ Lists ls k

-- each element of the list is one of it
pub listed_at : (ks : List Voxel) (i : ℕ) (d : Voxel) → i < length ks
    → Lists ks (slice_index_or ks i d)
listed_at [] i d h = absurd (omega arith)
listed_at (k ∷ ks) zero d h = inl refl
listed_at (k ∷ ks) (suc i) d h = inr (listed_at ks i d (omega arith))

contains_later : (k l : Voxel) (ks : List Voxel) → Contains ks k → Contains (l ∷ ks) k
contains_later k l ks c = (suc c.0, omega (arith, c.1), c.2)

-- what is one of the list is contained
pub contains_listed : (ks : List Voxel) (k : Voxel) → Lists ks k → Contains ks k
contains_listed [] k h = absurd h
contains_listed (l ∷ ks) k h = elim h [
  | inl e ↦ (0, omega arith, e)
  | inr t ↦ contains_later k l ks (contains_listed ks k t)
]
