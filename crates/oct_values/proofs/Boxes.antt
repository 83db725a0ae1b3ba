-- The test of a block that meets a box, and that of one that is cut by it.
use Rattle.std.proofs.Common.{◌≡◌, ◌-◌, ◌↔◌, Bool, true, false, refl}
use Rattle.std.specs.Prelude.{◌&&◌, not, IsTrue}
use Rattle.std.specs.List.{list_all}
use Rattle.std.proofs.lemmas.Bool.{false≢true, and_parts}
use Rattle.oct_key.specs.Voxel.{Voxel}
use Rattle.oct_key.specs.Block.{Cube, IsBlock}
use Rattle.oct_key.proofs.Boxes.{in_box_exactly}
use Rattle.oct_values.specs.Blocks.{voxels_of}
use Rattle.oct_key.specs.Boxes.{is_in_box, MeetsBox, LiesInBox}
use Rattle.oct_values.specs.Boxes.{is_met_by, is_cut_by}
use Rattle.oct_values.proofs.Held.{all_pass, each_passes, some_passes, one_passes}

-- the tests of a block
pub met_by_voxels : (lo hi : Voxel) (b : Cube) → IsBlock b
    → IsTrue (is_met_by lo hi b) ↔ MeetsBox lo hi b
unfolding is_met_by
met_by_voxels lo hi b ok = (
  λ h. (let (k, held, inside) = one_passes (is_in_box lo hi) b ok h in
      (k, held, (in_box_exactly lo hi k).0 inside)),
  λ (k, held, inside). some_passes (is_in_box lo hi) b k ok held
      ((in_box_exactly lo hi k).1 inside),
)

pub cut_exactly : (lo hi : Voxel) (b : Cube) → IsBlock b
    → IsTrue (is_cut_by lo hi b) ↔ (MeetsBox lo hi b × (LiesInBox lo hi b → ⊥))
unfolding is_cut_by
cut_exactly lo hi b ok = (to, from)
  where
    not_true : (test : Bool) → not test ≡ true → test ≡ true → ⊥
    not_true true h e = false≢true h
    not_true false h e = false≢true e

    to : (is_met_by lo hi b && not (list_all (is_in_box lo hi) (voxels_of b))) ≡ true
        → MeetsBox lo hi b × (LiesInBox lo hi b → ⊥)
    to h =
        let p =
        and_parts (is_met_by lo hi b) (not (list_all (is_in_box lo hi) (voxels_of b))) h in (
          (met_by_voxels lo hi b ok).0 p.0,
          λ lies. not_true _ p.1
              (all_pass (is_in_box lo hi) b ok
              (λ q held. (in_box_exactly lo hi q).1 (lies q held))),
        )

    by_test : (test : Bool) → list_all (is_in_box lo hi) (voxels_of b) ≡ test
        → (LiesInBox lo hi b → ⊥) → not test ≡ true
    by_test true e out =
        absurd (out (λ q held. (in_box_exactly lo hi q).0
        (each_passes (is_in_box lo hi) b ok e q held)))
    by_test false e out = refl

    from : MeetsBox lo hi b × (LiesInBox lo hi b → ⊥)
        → (is_met_by lo hi b && not (list_all (is_in_box lo hi) (voxels_of b))) ≡ true
    from (meets, out) =
        let met : is_met_by lo hi b ≡ true = (met_by_voxels lo hi b ok).1 meets in
        let leaves : not (list_all (is_in_box lo hi) (voxels_of b)) ≡ true = by_test _ refl out in
        rw (met, leaves) refl
