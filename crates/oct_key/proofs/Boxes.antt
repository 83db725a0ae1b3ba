-- The test of a voxel in a box.
use Rattle.std.proofs.Common.{◌≡◌, ℕ, ◌↔◌, Bool, true, Option, Some, None, refl}
use Rattle.std.specs.Prelude.{◌&&◌, nat_le, IsTrue}
use Rattle.std.proofs.lemmas.Bool.{and_parts, le-leb, leb-true}
use Rattle.oct_key.specs.Voxel.{Voxel}
use Rattle.oct_key.specs.Boxes.{IsBetween, IsInBox, IsBox, Window, IsInWindow, is_between}
use Rattle.oct_key.specs.Boxes.{is_in_box, is_box, is_in_window}

both : (a b : Bool) → a ≡ true → b ≡ true → (a && b) ≡ true
both a b ha hb = rw (ha, hb) refl

-- the test of a voxel
pub in_box_exactly : (lo hi k : Voxel) → IsTrue (is_in_box lo hi k) ↔ IsInBox lo hi k
in_box_exactly lo hi k = (to, from)
  where
    axis : (low high n : ℕ) → is_between low high n ≡ true → IsBetween low high n
    axis low high n h =
        (let p = and_parts (nat_le low n) (nat_le n high) h in
        (leb-true low n p.0, leb-true n high p.1))

    back : (low high n : ℕ) → IsBetween low high n → is_between low high n ≡ true
    back low high n h = both (nat_le low n) (nat_le n high) (le-leb low n h.0) (le-leb n high h.1)

    to : IsTrue (is_in_box lo hi k) → IsInBox lo hi k
    to h =
        let z =
        and_parts (is_between lo.x hi.x k.x && is_between lo.y hi.y k.y)
        (is_between lo.z hi.z k.z) h in
        let y = and_parts (is_between lo.x hi.x k.x) (is_between lo.y hi.y k.y) z.0 in
        record {
          x = axis lo.x hi.x k.x y.0;
          y = axis lo.y hi.y k.y y.1;
          z = axis lo.z hi.z k.z z.1;
        }

    from : IsInBox lo hi k → IsTrue (is_in_box lo hi k)
    from h =
        both _ _ (both _ _ (back lo.x hi.x k.x h.x) (back lo.y hi.y k.y h.y))
        (back lo.z hi.z k.z h.z)

-- the test of two corners
pub box_exactly : (lo hi : Voxel) → IsTrue (is_box lo hi) ↔ IsBox lo hi
box_exactly lo hi = (to, from)
  where
    to : IsTrue (is_box lo hi) → IsBox lo hi
    to h =
        let z = and_parts (nat_le lo.x hi.x && nat_le lo.y hi.y) (nat_le lo.z hi.z) h in
        let y = and_parts (nat_le lo.x hi.x) (nat_le lo.y hi.y) z.0 in
        record {
          x = leb-true lo.x hi.x y.0;
          y = leb-true lo.y hi.y y.1;
          z = leb-true lo.z hi.z z.1;
        }

    from : IsBox lo hi → IsTrue (is_box lo hi)
    from h =
        both _ _ (both _ _ (le-leb lo.x hi.x h.x) (le-leb lo.y hi.y h.y)) (le-leb lo.z hi.z h.z)

-- the test of a voxel where a box may stand
pub in_window_exactly : (window : Option Window) (k : Voxel)
    → IsTrue (is_in_window window k) ↔ IsInWindow window k
in_window_exactly None k = (λ h. tt, λ h. refl)
in_window_exactly (Some box) k = in_box_exactly box.lo box.hi k
