-- The cells of a box, run by run and row by row.
use Rattle.std.proofs.Common.{◌≡◌, ℕ, zero, suc, ◌+◌, ◌-◌, ◌*◌, ◌<◌, ◌≤◌, List, [], ◌++◌, length}
use Rattle.std.proofs.Common.{take, drop, refl, sym, subst, ◌∙◌, ap, arith, append-nil, ℤ}
use Rattle.std.proofs.Common.{length-append}
use Rattle.std.specs.Prelude.{replicate}
use Rattle.std.specs.List.{flat_map}
use Rattle.std.proofs.Math.Nat.{mul_comm, mul-le-mul_right, suc-mul}
use native.Mathlib.Nat.{zero-mul}
use Rattle.std.proofs.Math.Seq.{take-length}
use Rattle.std.proofs.lemmas.Grind.{flat_map-append}
use Rattle.std.proofs.lemmas.List.{length-drop, length-replicate, length-take-le}
use Rattle.std.proofs.lemmas.Slice.{take-put_mid}
use Rattle.oct_key.specs.Voxel.{Voxel}
use Rattle.oct_key.specs.Order.{numbers_from}
use Rattle.oct_odds.specs.declared.event.Class.{Class}
use Rattle.oct_values.specs.Classes.{Classes}
use Rattle.oct_export.specs.Bands.{band_class}
use Rattle.oct_export.specs.Grids.{cell_of, cells_of, column_count, shown_row}
use Rattle.oct_export.proofs.Columns.{numbers_append}
use Rattle.oct_export.proofs.Rows.{row_front, row_length, row_more, row_none, row_whole}
use borrow.Rule.Slice.PartMut.{mid_of, put_mid, same_len_mid}

-- ---- parts of a list that are written anew

-- how long a part is
pub mid_length : {A : Type 0} (a k : ℕ) (row : List A) → a + k ≤ length row
    → length (mid_of a k row) ≡ k
mid_length a k row few =
    let rest : length (drop a row) ≡ length row - a = length-drop a row in
    length-take-le k (drop a row) (omega (arith, few, rest))

-- the list stays as long
pub put_length : {A : Type 0} (a k : ℕ) (row piece : List A) → a + k ≤ length row
    → length piece ≡ k → length (put_mid a k row piece) ≡ length row
put_length a k row piece few long =
    same_len_mid a k row piece (long ∙ sym (mid_length a k row few))

-- a part behind a front of the list makes the front longer
pub piece_put : {A : Type 0} (a k : ℕ) (row piece before : List A) → a ≤ length row
    → length piece ≡ k → take a row ≡ before
    → take (a + k) (put_mid a k row piece) ≡ before ++ piece
piece_put a k row piece before few long front =
    take-put_mid a k row piece (a + k) (omega (arith, long)) few ∙ ap (λ l. l ++ piece) front

-- ---- runs of a row

-- a run as it is written
run_of : {A : Type 0} (a k : ℕ) (row piece : List A) (g : A) → a + k ≤ length row
    → piece ≡ replicate (length (mid_of a k row)) g → piece ≡ replicate k g
run_of a k row piece g few is = is ∙ ap (λ n. replicate n g) (mid_length a k row few)

-- how long it is
pub run_length : {A : Type 0} (a k : ℕ) (row piece : List A) (g : A) → a + k ≤ length row
    → piece ≡ replicate (length (mid_of a k row)) g
    → length (put_mid a k row piece) ≡ length row
run_length a k row piece g few is =
    put_length a k row piece few (ap length (run_of a k row piece g few is) ∙ length-replicate k g)

-- columns that show the same, put into their row behind those before them
pub row_filled : (c : Classes) (lo hi : Voxel) (y x next first : ℕ) (row piece : List ℤ) (g : ℤ)
    (k : Class) → lo.x ≤ x → x < next → next ≤ hi.x + 1 → first ≡ lo.x
    → length row ≡ hi.x + 1 - lo.x
    → piece ≡ replicate (length (mid_of (x - first) (next - first - (x - first)) row)) g
    → g ≡ cell_of k → ((m : ℕ) → x ≤ m → m < next → band_class c lo.z hi.z m y ≡ k)
    → take (x - lo.x) row ≡ row_front cell_of c lo hi y (x - lo.x)
    → take (next - lo.x) (put_mid (x - first) (next - first - (x - first)) row piece)
    ≡ row_front cell_of c lo hi y (next - lo.x)
row_filled c lo hi y x next first row piece g k low up most is long written cell same front =
    let a : x - first ≡ x - lo.x = omega (arith, is) in
    let size : next - first - (x - first) ≡ next - x = omega (arith, is, low, up) in
    let all : next - lo.x ≡ (x - first) + (next - first - (x - first)) =
    omega (arith, is, low, up) in
    let few : (x - first) + (next - first - (x - first)) ≤ length row =
    omega (arith, is, low, up, most, long) in
    let run = run_of (x - first) (next - first - (x - first)) row piece g few written in
    ap (λ (n : ℕ). take n (put_mid (x - first) (next - first - (x - first)) row piece)) all
    ∙ piece_put (x - first) (next - first - (x - first)) row piece
    (row_front cell_of c lo hi y (x - lo.x)) (omega (arith, few))
    (ap length run ∙ length-replicate (next - first - (x - first)) g)
    (ap (λ (n : ℕ). take n row) a ∙ front)
    ∙ ap (λ (l : List ℤ). row_front cell_of c lo hi y (x - lo.x) ++ l)
    (run ∙ ap (λ (n : ℕ). replicate n g) size)
    ∙ row_more cell_of c lo hi y x next g k low up cell same

-- no column yet
pub row_begun : (c : Classes) (lo hi : Voxel) (y n : ℕ) (row : List ℤ) → n ≡ 0
    → take n row ≡ row_front cell_of c lo hi y n
row_begun c lo hi y n row none =
    ap (λ (m : ℕ). take m row) none ∙ sym (row_none cell_of c lo hi y n none)

-- the whole row
pub row_full : (c : Classes) (lo hi : Voxel) (y n : ℕ) (row : List ℤ)
    → length row ≡ hi.x + 1 - lo.x → n ≡ hi.x + 1 - lo.x
    → take n row ≡ row_front cell_of c lo hi y n → row ≡ shown_row cell_of c lo hi y
row_full c lo hi y n row long all front =
    let same : length row ≡ n = long ∙ sym all in
    sym (take-length row) ∙ ap (λ (m : ℕ). take m row) same ∙ front
    ∙ row_whole cell_of c lo hi y n all

-- ---- rows of a box

-- the cells of this many rows, the lowest y first
unfoldable pub rows_front : Classes → Voxel → Voxel → ℕ → List ℤ
rows_front c lo hi n = flat_map (shown_row cell_of c lo hi) (numbers_from lo.y n)

pub rows_start : (c : Classes) (lo hi : Voxel) (n : ℕ) → n ≡ 0 → rows_front c lo hi n ≡ []
unfolding rows_front numbers_from
rows_start c lo hi n is = ap (rows_front c lo hi) is

-- one row more
pub rows_more : (c : Classes) (lo hi : Voxel) (n : ℕ)
    → rows_front c lo hi n ++ shown_row cell_of c lo hi (lo.y + n) ≡ rows_front c lo hi (n + 1)
unfolding rows_front numbers_from
rows_more c lo hi n =
    sym (ap (flat_map (shown_row cell_of c lo hi)) (numbers_append lo.y n 1)
    ∙ flat_map-append (shown_row cell_of c lo hi) (numbers_from lo.y n) (numbers_from (lo.y + n) 1)
    ∙ ap (λ (l : List ℤ). rows_front c lo hi n ++ l)
    (append-nil (shown_row cell_of c lo hi (lo.y + n))))

-- all of them
pub rows_whole : (c : Classes) (lo hi : Voxel) (n : ℕ) → n ≡ hi.y + 1 - lo.y
    → rows_front c lo hi n ≡ cells_of c lo hi
unfolding rows_front cells_of
rows_whole c lo hi n is = ap (rows_front c lo hi) is

-- no row yet
pub rows_begun : (c : Classes) (lo hi : Voxel) (n width : ℕ) (cells : List ℤ) → n ≡ 0
    → take (n * width) cells ≡ rows_front c lo hi n
rows_begun c lo hi n width cells none =
    let nothing : n * width ≡ 0 = ap (λ (m : ℕ). m * width) none ∙ zero-mul width in
    ap (λ (m : ℕ). take m cells) nothing ∙ sym (rows_start c lo hi n none)

-- each row has its place in a list of so many rows
pub row_fits : (n width height long : ℕ) → n < height → long ≡ width * height
    → n * width + width ≤ long
row_fits n width height long few is =
    let one : n + 1 ≡ suc n = omega arith in
    let next : (n + 1) * width ≡ n * width + width =
    ap (λ (m : ℕ). m * width) one ∙ suc-mul n width ∙ omega arith in
    let most : (n + 1) * width ≤ height * width = mul-le-mul_right width (omega (arith, few)) in
    let turned : height * width ≡ width * height = mul_comm height width in
    omega (arith, next, most, turned, is)

-- a row that is put behind those before it
pub rows_filled : (c : Classes) (lo hi : Voxel) (n width at size : ℕ) (cells row : List ℤ)
    → at + width ≤ length cells → at ≡ n * width → size ≡ width
    → row ≡ shown_row cell_of c lo hi (lo.y + n) → length row ≡ width
    → take (n * width) cells ≡ rows_front c lo hi n
    → take ((n + 1) * width) (put_mid at size cells row) ≡ rows_front c lo hi (n + 1)
rows_filled c lo hi n width at size cells row few here same is long front =
    let one : n + 1 ≡ suc n = omega arith in
    let next : (n + 1) * width ≡ n * width + width =
    ap (λ (m : ℕ). m * width) one ∙ suc-mul n width ∙ omega arith in
    let all : (n + 1) * width ≡ at + size = omega (arith, next, here, same) in
    ap (λ (m : ℕ). take m (put_mid at size cells row)) all
    ∙ piece_put at size cells row (rows_front c lo hi n) (omega (arith, few)) (long ∙ sym same)
    (ap (λ (m : ℕ). take m cells) here ∙ front)
    ∙ ap (λ (l : List ℤ). rows_front c lo hi n ++ l) is ∙ rows_more c lo hi n

-- the same in the list of all rows, whose row is as wide as the box
pub row_put : (c : Classes) (lo hi : Voxel) (n w : ℕ) (cells row : List ℤ)
    → w ≡ hi.x + 1 - lo.x → n < hi.y + 1 - lo.y
    → length cells ≡ (hi.x + 1 - lo.x) * (hi.y + 1 - lo.y)
    → row ≡ shown_row cell_of c lo hi (lo.y + n)
    → take (n * (hi.x + 1 - lo.x)) cells ≡ rows_front c lo hi n
    → (length (put_mid (n * w) (n * w + w - n * w) cells row)
    ≡ (hi.x + 1 - lo.x) * (hi.y + 1 - lo.y))
    × (take ((n + 1) * (hi.x + 1 - lo.x)) (put_mid (n * w) (n * w + w - n * w) cells row)
    ≡ rows_front c lo hi (n + 1))
row_put c lo hi n w cells row wide few long is front =
    let size : n * w + w - n * w ≡ w = behind (n * w) w in
    let all : n * w + w ≤ length cells =
    row_fits n w (hi.y + 1 - lo.y) (length cells) few
    (long ∙ ap (λ (m : ℕ). m * (hi.y + 1 - lo.y)) (sym wide)) in
    let row_long : length row ≡ w =
    ap length is ∙ row_length cell_of c lo hi (lo.y + n) ∙ sym wide in (
      put_length (n * w) (n * w + w - n * w) cells row
          (subst (λ (m : ℕ). n * w + m ≤ length cells) (sym size) all) (row_long ∙ sym size)
          ∙ long,
      rows_filled c lo hi n (hi.x + 1 - lo.x) (n * w) (n * w + w - n * w) cells row
          (subst (λ (m : ℕ). n * w + m ≤ length cells) wide all) (ap (λ (m : ℕ). n * m) wide)
          (size ∙ wide) is (row_long ∙ wide) front,
    )
  where
    behind : (p q : ℕ) → p + q - p ≡ q
    behind p q = omega arith

-- all rows are the cells of the box
pub rows_full : (c : Classes) (lo hi : Voxel) (n : ℕ) (cells : List ℤ)
    → length cells ≡ (hi.x + 1 - lo.x) * (hi.y + 1 - lo.y) → n ≡ hi.y + 1 - lo.y
    → take (n * (hi.x + 1 - lo.x)) cells ≡ rows_front c lo hi n → cells ≡ cells_of c lo hi
rows_full c lo hi n cells long all front =
    let same : length cells ≡ n * (hi.x + 1 - lo.x) =
    long ∙ ap (λ (m : ℕ). (hi.x + 1 - lo.x) * m) (sym all) ∙ mul_comm (hi.x + 1 - lo.x) n in
    sym (take-length cells) ∙ ap (λ (m : ℕ). take m cells) same ∙ front ∙ rows_whole c lo hi n all

-- ---- lengths

rows_length : (c : Classes) (lo hi : Voxel) (n : ℕ)
    → length (rows_front c lo hi n) ≡ (hi.x + 1 - lo.x) * n
rows_length c lo hi zero = ap length (rows_start c lo hi zero refl) ∙ omega arith
rows_length c lo hi (suc n) =
    let before = rows_length c lo hi n in
    let one = row_length cell_of c lo hi (lo.y + n) in
    let next : suc n ≡ n + 1 = omega arith in
    let all : length (rows_front c lo hi (suc n))
    ≡ length (rows_front c lo hi n) + length (shown_row cell_of c lo hi (lo.y + n))
    = ap (λ (m : ℕ). length (rows_front c lo hi m)) next ∙ ap length (sym (rows_more c lo hi n))
    ∙ length-append (rows_front c lo hi n) (shown_row cell_of c lo hi (lo.y + n)) in
    omega (arith, before, one, all)

-- there are as many cells as columns
pub cells_length : (c : Classes) (lo hi : Voxel)
    → length (cells_of c lo hi) ≡ column_count (record { lo = lo; hi = hi })
cells_length c lo hi =
    ap length (sym (rows_whole c lo hi (hi.y + 1 - lo.y) refl))
    ∙ rows_length c lo hi (hi.y + 1 - lo.y)
