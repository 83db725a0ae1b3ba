-- Grids and scenes depend on the classes of the map's voxels alone.
use Rattle.std.proofs.Common.{◌≡◌, ℕ, zero, suc, ◌+◌, ◌-◌, ◌<◌, ◌≤◌, Bool, true, false, cond, List}
use Rattle.std.proofs.Common.{[], ◌∷◌, ◌++◌, refl, sym, ◌∙◌, ap, arith}
use Rattle.std.specs.Prelude.{codes, map}
use Rattle.std.specs.List.{flat_map, list_any}
use Rattle.oct_key.specs.Voxel.{Voxel, IsInMap}
use Rattle.oct_key.specs.Block.{Cube, IsBlock, HoldsVoxel, child_of, root_block}
use Rattle.oct_key.specs.Order.{numbers_from}
use Rattle.oct_key.proofs.Blocks.{child_in_map, depth_child_of, root_in_map}
use Rattle.oct_key.proofs.Held.{held_in_map}
use Rattle.oct_odds.specs.declared.event.Class.{Class}
use Rattle.oct_odds.specs.declared.event.Class.TheVariants.{Unknown, Free, Occupied}
use Rattle.oct_values.specs.Blocks.{voxels_of}
use Rattle.oct_values.specs.Classes.{Classes, is_same_class}
use Rattle.oct_values.proofs.Held.{all_held}
use Rattle.oct_values.proofs.Sums.{All-follows, list_all-same}
use Rattle.oct_export.specs.Bands.{band_class, has_class, numbers_to, shown}
use Rattle.oct_export.specs.Boxes.{is_full, boxes_of, boxes_below}
use Rattle.oct_export.specs.BoxTexts.{box_lines, scene_text}
use Rattle.oct_export.specs.Grids.{grey_of, shown_row, row_of, rows_of, grid_head, pgm_text}
use Rattle.oct_export.proofs.Boxes.{first_boxes, boxes_of_full, boxes_of_parts, boxes_of_root}

-- ---- numbers, one after another

any_same : (p q : ℕ → Bool) (z n : ℕ) → ((m : ℕ) → z ≤ m → m < z + n → p m ≡ q m)
    → list_any p (numbers_from z n) ≡ list_any q (numbers_from z n)
unfolding numbers_from
any_same p q z zero h = refl
any_same p q z (suc n) h =
    let here = h z (omega arith) (omega arith) in
    let rest = any_same p q (z + 1) n (λ m low high. h m (omega (arith, low)) (omega (arith, high)))
    in
    rw (here, rest) refl

map_same : (f g : ℕ → ℕ) (z n : ℕ) → ((m : ℕ) → z ≤ m → m < z + n → f m ≡ g m)
    → map f (numbers_from z n) ≡ map g (numbers_from z n)
unfolding numbers_from
map_same f g z zero h = refl
map_same f g z (suc n) h =
    ap (λ x. x ∷ map f (numbers_from (z + 1) n)) (h z (omega arith) (omega arith))
    ∙ ap (λ l. g z ∷ l)
    (map_same f g (z + 1) n (λ m low high. h m (omega (arith, low)) (omega (arith, high))))

flat_same : (f g : ℕ → List ℕ) (z n : ℕ) → ((m : ℕ) → z ≤ m → m < z + n → f m ≡ g m)
    → flat_map f (numbers_from z n) ≡ flat_map g (numbers_from z n)
unfolding numbers_from
flat_same f g z zero h = refl
flat_same f g z (suc n) h =
    ap (λ l. l ++ flat_map f (numbers_from (z + 1) n)) (h z (omega arith) (omega arith))
    ∙ ap (λ l. g z ++ l)
    (flat_same f g (z + 1) n (λ m low high. h m (omega (arith, low)) (omega (arith, high))))

-- ---- grids

same_band : (c d : Classes) (lo hi x y : ℕ) → ((k : Voxel) → IsInMap k → c k ≡ d k) → x < 65536
    → y < 65536 → hi < 65536
    → band_class c lo hi x y ≡ band_class d lo hi x y
unfolding shown
same_band c d lo hi x y same on_x on_y on_z =
    ap (λ t. cond t Occupied (cond (has_class c Free x y (numbers_to lo hi)) Free Unknown))
    (either Occupied)
    ∙ ap (λ t. cond (has_class d Occupied x y (numbers_to lo hi)) Occupied (cond t Free Unknown))
    (either Free)
  where
    either : (class : Class) → has_class c class x y (numbers_to lo hi)
        ≡ has_class d class x y (numbers_to lo hi)
    either class = any_same (λ z. is_same_class (c (record { x = x; y = y; z = z })) class)
        (λ z. is_same_class (d (record { x = x; y = y; z = z })) class)
        lo (hi + 1 - lo)
        (λ m low high. ap (λ k. is_same_class k class)
        (same (record { x = x; y = y; z = m })
        (record { x = on_x; y = on_y; z = omega (arith, low, high, on_z) })))

same_row : (c d : Classes) (lo hi : Voxel) (y : ℕ) → ((k : Voxel) → IsInMap k → c k ≡ d k)
    → IsInMap hi → y < 65536 → row_of c lo hi y ≡ row_of d lo hi y
unfolding shown_row
same_row c d lo hi y same inside on_y =
    let on_x = inside.x in
    map_same (λ x. grey_of (band_class c lo.z hi.z x y))
    (λ x. grey_of (band_class d lo.z hi.z x y)) lo.x (hi.x + 1 - lo.x)
    (λ m low high. ap grey_of
    (same_band c d lo.z hi.z m y same (omega (arith, low, high, on_x)) on_y inside.z))

same_rows : (c d : Classes) (lo hi : Voxel) (n : ℕ) → ((k : Voxel) → IsInMap k → c k ≡ d k)
    → IsInMap hi → rows_of c lo hi n ≡ rows_of d lo hi n
unfolding rows_of
same_rows c d lo hi n same inside =
    let on_y = inside.y in
    flat_same (λ m. row_of c lo hi (hi.y - m)) (λ m. row_of d lo hi (hi.y - m)) 0 n
    (λ m low high. same_row c d lo hi (hi.y - m) same inside (omega (arith, on_y)))

pub same_grid : (c d : Classes) (lo hi : Voxel) → ((k : Voxel) → IsInMap k → c k ≡ d k) → IsInMap hi
    → pgm_text c lo hi ≡ pgm_text d lo hi
unfolding pgm_text
same_grid c d lo hi same inside =
    ap (λ rows. grid_head (hi.x + 1 - lo.x) (hi.y + 1 - lo.y) ++ rows)
    (same_rows c d lo hi (hi.y + 1 - lo.y) same inside)

-- ---- boxes

same_full : (c d : Classes) (b : Cube) → ((k : Voxel) → IsInMap k → c k ≡ d k) → IsBlock b
    → is_full c b ≡ is_full d b
unfolding is_full
same_full c d b same ok =
    list_all-same (λ k. is_same_class (c k) Occupied) (λ k. is_same_class (d k) Occupied)
    (voxels_of b)
    (All-follows (HoldsVoxel b) (λ k. is_same_class (c k) Occupied ≡ is_same_class (d k) Occupied)
    (voxels_of b)
    (λ k held. ap (λ class. is_same_class class Occupied) (same k (held_in_map b k ok held)))
    (all_held b ok))

same_first : (c d : Classes) (h : ℕ) (b : Cube) (n : ℕ)
    → ((i : ℕ) → i < n → boxes_below c h (child_of b i) ≡ boxes_below d h (child_of b i))
    → first_boxes c h b n ≡ first_boxes d h b n
unfolding first_boxes
same_first c d h b zero each = refl
same_first c d h b (suc n) each =
    ap (λ l. l ++ boxes_below c h (child_of b n))
    (same_first c d h b n (λ i less. each i (omega (arith, less))))
    ∙ ap (λ l. first_boxes d h b n ++ l) (each n (omega arith))

same_below : (c d : Classes) (h : ℕ) (b : Cube) → ((k : Voxel) → IsInMap k → c k ≡ d k) → IsBlock b
    → b.depth + h ≡ 16
    → boxes_below c h b ≡ boxes_below d h b
unfolding boxes_below
same_below c d zero b same ok depth = ap (λ t. cond t (b ∷ []) []) (same_full c d b same ok)
same_below c d (suc h) b same ok depth = by (is_full d b) refl
    (λ i li. (let down = depth_child_of b i in
    same_below c d h (child_of b i) same (child_in_map b i ok (omega (arith, depth)))
    (omega (arith, depth, down))))
  where
    by : (t : Bool) → is_full d b ≡ t
        → ((i : ℕ) → i < 8 → boxes_below c h (child_of b i) ≡ boxes_below d h (child_of b i))
        → boxes_below c (suc h) b ≡ boxes_below d (suc h) b
    by true is each = boxes_of_full c (suc h) b (same_full c d b same ok ∙ is)
        ∙ sym (boxes_of_full d (suc h) b is)
    by false is each =
        boxes_of_parts c h b (same_full c d b same ok ∙ is) ∙ same_first c d h b 8 each
        ∙ sym (boxes_of_parts d h b is)

pub same_boxes : (c d : Classes) → ((k : Voxel) → IsInMap k → c k ≡ d k) → boxes_of c ≡ boxes_of d
same_boxes c d same = boxes_of_root c ∙ same_below c d 16 root_block same root_in_map refl
    ∙ sym (boxes_of_root d)

pub same_scene : (c d : Classes) (edge : ℕ) → ((k : Voxel) → IsInMap k → c k ≡ d k)
    → scene_text edge c ≡ scene_text edge d
unfolding scene_text
same_scene c d edge same = ap (scene_with edge) (same_boxes c d same)
  where
    scene_with : ℕ → List Cube → List ℕ
    scene_with edge boxes = codes "#VRML V2.0 utf8\n" ++ box_lines edge boxes
