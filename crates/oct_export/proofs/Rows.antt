-- The rows of a picture, run by run.
use Rattle.std.proofs.Common.{◌≡◌, ℕ, zero, suc, ◌+◌, ◌-◌, ◌*◌, ◌<◌, ◌≤◌, List, [], ◌∷◌, ◌++◌}
use Rattle.std.proofs.Common.{Option, length, refl, sym, ◌∙◌, ap, arith, append-nil, length-append}
use Rattle.std.specs.Prelude.{codes, map, replicate}
use Rattle.std.specs.Fmt.{decimal}
use Rattle.std.specs.List.{flat_map}
use Rattle.std.proofs.lemmas.Grind.{flat_map-append}
use Rattle.std.proofs.lemmas.List.{map-append, length-map}
use Rattle.oct_key.specs.Voxel.{Voxel}
use Rattle.oct_key.specs.Order.{numbers_from}
use Rattle.oct_odds.specs.declared.event.Class.{Class}
use Rattle.oct_values.specs.Classes.{Classes}
use Rattle.oct_export.specs.Bands.{band_class, numbers_to}
use Rattle.oct_export.specs.Grids.{grey_of, shown_row, row_of, rows_of, grid_head, pgm_text}
use Rattle.oct_io.specs.Taken.{IsCutOff}
use Rattle.oct_export.specs.Pushed.{IsPushed}
use Rattle.oct_export.proofs.Columns.{numbers_append}
use Rattle.oct_export.proofs.Pushes.{second_cut}

pub numbers_length : (z n : ℕ) → length (numbers_from z n) ≡ n
unfolding numbers_from
numbers_length z zero = refl
numbers_length z (suc n) = ap suc (numbers_length (z + 1) n)

-- the first n columns of a row, as they are written
unfoldable pub row_front : {A : Type 0} → (Class → A) → Classes → Voxel → Voxel → ℕ → ℕ → List A
row_front f c lo hi y n = map (λ x. f (band_class c lo.z hi.z x y)) (numbers_from lo.x n)

pub row_none : {A : Type 0} (f : Class → A) (c : Classes) (lo hi : Voxel) (y n : ℕ) → n ≡ 0
    → row_front f c lo hi y n ≡ []
unfolding row_front numbers_from
row_none f c lo hi y n is = ap (row_front f c lo hi y) is

same_bytes : {A : Type 0} (f : ℕ → A) (z n : ℕ) (g : A)
    → ((m : ℕ) → z ≤ m → m < z + n → f m ≡ g) → map f (numbers_from z n) ≡ replicate n g
unfolding numbers_from
same_bytes f z zero g h = refl
same_bytes f z (suc n) g h =
    ap (λ x. x ∷ map f (numbers_from (z + 1) n)) (h z (omega arith) (omega arith))
    ∙ ap (λ l. g ∷ l)
    (same_bytes f (z + 1) n g (λ m low high. h m (omega (arith, low)) (omega (arith, high))))

-- columns that show the same, after these
pub row_more : {A : Type 0} (f : Class → A) (c : Classes) (lo hi : Voxel) (y x next : ℕ) (g : A)
    (k : Class) → lo.x ≤ x → x < next → g ≡ f k
    → ((m : ℕ) → x ≤ m → m < next → band_class c lo.z hi.z m y ≡ k)
    → row_front f c lo hi y (x - lo.x) ++ replicate (next - x) g
    ≡ row_front f c lo hi y (next - lo.x)
unfolding row_front
row_more {A} f c lo hi y x next g k low up grey same =
    let parts : next - lo.x ≡ (x - lo.x) + (next - x) = omega (arith, low, up) in
    let from : lo.x + (x - lo.x) ≡ x = omega (arith, low) in
    sym (ap (row_front f c lo hi y) parts
    ∙ ap (map (λ x. f (band_class c lo.z hi.z x y)))
    (numbers_append lo.x (x - lo.x) (next - x))
    ∙ map-append (λ x. f (band_class c lo.z hi.z x y)) (numbers_from lo.x (x - lo.x))
    (numbers_from (lo.x + (x - lo.x)) (next - x))
    ∙ ap (λ (l : List A). row_front f c lo hi y (x - lo.x) ++ l)
    (ap (λ (n : ℕ). map (λ x. f (band_class c lo.z hi.z x y)) (numbers_from n (next - x)))
    from
    ∙ same_bytes (λ x. f (band_class c lo.z hi.z x y)) x (next - x) g
    (λ m l h. ap f (same m l (omega (arith, h, up))) ∙ sym grey)))

-- the whole row
pub row_whole : {A : Type 0} (f : Class → A) (c : Classes) (lo hi : Voxel) (y n : ℕ)
    → n ≡ hi.x + 1 - lo.x → row_front f c lo hi y n ≡ shown_row f c lo hi y
unfolding row_front shown_row
row_whole f c lo hi y n is = ap (row_front f c lo hi y) is

-- what is left of it
row_rest : {A : Type 0} (f : Class → A) (c : Classes) (lo hi : Voxel) (y n : ℕ)
    → n ≤ hi.x + 1 - lo.x
    → (rest : List A) × (row_front f c lo hi y n ++ rest ≡ shown_row f c lo hi y)
unfolding row_front
row_rest f c lo hi y n few = (
  map (λ x. f (band_class c lo.z hi.z x y)) (numbers_from (lo.x + n) (hi.x + 1 - lo.x - n)),
  sym (map-append (λ x. f (band_class c lo.z hi.z x y)) (numbers_from lo.x n)
      (numbers_from (lo.x + n) (hi.x + 1 - lo.x - n)))
      ∙ ap (map (λ x. f (band_class c lo.z hi.z x y)))
      (sym (numbers_append lo.x n (hi.x + 1 - lo.x - n)))
      ∙ row_whole f c lo hi y (n + (hi.x + 1 - lo.x - n)) (omega (arith, few)),
)

-- a row that ends early in a run
pub row_cut : (c : Classes) (lo hi : Voxel) (y x next g : ℕ) (k : Class) → lo.x ≤ x → x < next
    → next ≤ hi.x + 1 → g ≡ grey_of k
    → ((m : ℕ) → x ≤ m → m < next → band_class c lo.z hi.z m y ≡ k)
    → (rest : List ℕ)
    × (row_front grey_of c lo hi y (x - lo.x) ++ (replicate (next - x) g ++ rest)
    ≡ row_of c lo hi y)
row_cut c lo hi y x next g k low up most grey same =
    let (rest, is) = row_rest grey_of c lo hi y (next - lo.x) (omega (arith, low, up, most)) in (
      rest,
      sym (append_parts (row_front grey_of c lo hi y (x - lo.x)) (replicate (next - x) g) rest)
          ∙ ap (λ (l : List ℕ). l ++ rest) (row_more grey_of c lo hi y x next g k low up grey same)
          ∙ is,
    )
  where
    append_parts : (a b d : List ℕ) → (a ++ b) ++ d ≡ a ++ (b ++ d)
    append_parts [] b d = refl
    append_parts (x ∷ a) b d = ap (λ l. x ∷ l) (append_parts a b d)

pub row_cut_off : (c : Classes) (lo hi : Voxel) (y x next g : ℕ) (k : Class) (h0 h1 : List ℕ)
    (w0 w1 w2 : Option (List ℕ))
    → IsPushed (row_front grey_of c lo hi y (x - lo.x)) h0 h1 w0 w1
    → IsCutOff w1 w2 (h1 ++ replicate (next - x) g) → g ≡ grey_of k
    → lo.x ≤ x → x < next → next ≤ hi.x + 1
    → ((m : ℕ) → x ≤ m → m < next → band_class c lo.z hi.z m y ≡ k)
    → IsCutOff w0 w2 (h0 ++ row_of c lo hi y)
row_cut_off c lo hi y x next g k h0 h1 w0 w1 w2 pushed cut grey low up most same =
    let (rest, is) = row_cut c lo hi y x next g k low up most grey same in
    second_cut (row_front grey_of c lo hi y (x - lo.x))
    (replicate (next - x) g) rest (row_of c lo hi y) h0 h1 w0 w1 w2 pushed cut is

-- ---- rows

pub rows_none : (c : Classes) (lo hi : Voxel) → rows_of c lo hi 0 ≡ []
unfolding rows_of numbers_from
rows_none c lo hi = refl

-- these rows and more
pub rows_append : (c : Classes) (lo hi : Voxel) (n m : ℕ)
    → rows_of c lo hi (n + m) ≡ rows_of c lo hi n ++ flat_map (λ k. row_of c lo hi (hi.y - k))
    (numbers_from n m)
unfolding rows_of
rows_append c lo hi n m =
    ap (flat_map (λ k. row_of c lo hi (hi.y - k))) (numbers_append 0 n m)
    ∙ flat_map-append (λ k. row_of c lo hi (hi.y - k)) (numbers_from 0 n) (numbers_from (0 + n) m)
    ∙ ap (λ (z : ℕ). rows_of c lo hi n ++ flat_map (λ k. row_of c lo hi (hi.y - k))
    (numbers_from z m)) first
  where
    first : 0 + n ≡ n
    first = omega arith

rows_one_more : (c : Classes) (lo hi : Voxel) (n m : ℕ)
    → flat_map (λ k. row_of c lo hi (hi.y - k)) (numbers_from n (suc m))
    ≡ row_of c lo hi (hi.y - n) ++ flat_map (λ k. row_of c lo hi (hi.y - k))
    (numbers_from (n + 1) m)
unfolding numbers_from
rows_one_more c lo hi n m = refl

pub rows_next : (c : Classes) (lo hi : Voxel) (n : ℕ)
    → rows_of c lo hi n ++ row_of c lo hi (hi.y - n) ≡ rows_of c lo hi (n + 1)
unfolding numbers_from
rows_next c lo hi n =
    sym (rows_append c lo hi n 1 ∙ ap (λ (l : List ℕ). rows_of c lo hi n ++ l)
    (append-nil (row_of c lo hi (hi.y - n))))

-- what comes after a row
pub rows_cut : (c : Classes) (lo hi : Voxel) (n all : ℕ) → n < all
    → (rest : List ℕ)
    × (rows_of c lo hi n ++ (row_of c lo hi (hi.y - n) ++ rest) ≡ rows_of c lo hi all)
rows_cut c lo hi n all few =
    let parts : n + suc (all - n - 1) ≡ all = omega (arith, few) in (
      flat_map (λ k. row_of c lo hi (hi.y - k)) (numbers_from (n + 1) (all - n - 1)),
      ap (λ (l : List ℕ). rows_of c lo hi n ++ l) (sym (rows_one_more c lo hi n (all - n - 1)))
          ∙ sym (rows_append c lo hi n (suc (all - n - 1))) ∙ ap (rows_of c lo hi) parts,
    )

-- ---- lengths

pub row_length : {A : Type 0} (f : Class → A) (c : Classes) (lo hi : Voxel) (y : ℕ)
    → length (shown_row f c lo hi y) ≡ hi.x + 1 - lo.x
unfolding shown_row
row_length f c lo hi y =
    length-map (numbers_to lo.x hi.x) (λ x. f (band_class c lo.z hi.z x y))
    ∙ numbers_length lo.x (hi.x + 1 - lo.x)

pub rows_length : (c : Classes) (lo hi : Voxel) (n : ℕ) → length (rows_of c lo hi n)
    ≡ (hi.x + 1 - lo.x) * n
rows_length c lo hi zero = ap length (rows_none c lo hi) ∙ omega arith
rows_length c lo hi (suc n) =
    let before = rows_length c lo hi n in
    let one = row_length grey_of c lo hi (hi.y - n) in
    let next : suc n ≡ n + 1 = omega arith in
    let all : length (rows_of c lo hi (suc n))
    ≡ length (rows_of c lo hi n) + length (row_of c lo hi (hi.y - n))
    = ap (λ (m : ℕ). length (rows_of c lo hi m)) next ∙ ap length (sym (rows_next c lo hi n))
    ∙ length-append (rows_of c lo hi n) (row_of c lo hi (hi.y - n)) in
    omega (arith, before, one, all)

pub pgm_parts : (c : Classes) (lo hi : Voxel) (head : List ℕ) (w h : ℕ) → head ≡ grid_head w h
    → w ≡ hi.x + 1 - lo.x → h ≡ hi.y + 1 - lo.y
    → head ++ rows_of c lo hi (hi.y + 1 - lo.y) ≡ pgm_text c lo hi
unfolding pgm_text
pgm_parts c lo hi head w h is wide high =
    ap (λ (l : List ℕ). l ++ rows_of c lo hi (hi.y + 1 - lo.y))
    (is ∙ ap (λ (n : ℕ). grid_head n h) wide ∙ ap (grid_head (hi.x + 1 - lo.x)) high)

pub pgm_length : (c : Classes) (lo hi : Voxel) (head : List ℕ) (w h : ℕ) → head ≡ grid_head w h
    → w ≡ hi.x + 1 - lo.x → h ≡ hi.y + 1 - lo.y
    → length head + w * h ≡ length (pgm_text c lo hi)
pgm_length c lo hi head w h is wide high =
    let all : length (pgm_text c lo hi) ≡ length head + length (rows_of c lo hi (hi.y + 1 - lo.y))
    = ap length (sym (pgm_parts c lo hi head w h is wide high))
    ∙ length-append head (rows_of c lo hi (hi.y + 1 - lo.y)) in
    let rows : length (rows_of c lo hi (hi.y + 1 - lo.y)) ≡ w * h =
    rows_length c lo hi (hi.y + 1 - lo.y) ∙ ap (λ (n : ℕ). n * (hi.y + 1 - lo.y)) (sym wide)
    ∙ ap (λ (n : ℕ). w * n) (sym high) in
    omega (arith, all, rows)

-- the lines before the rows, piece by piece
pub head_built : (t0 t1 t2 t3 t4 last a b e wide high : List ℕ) (w h : ℕ) → t0 ≡ [] → t1 ≡ t0 ++ a
    → t2 ≡ t1 ++ wide → t3 ≡ t2 ++ b
    → t4 ≡ t3 ++ high → last ≡ t4 ++ e → (((a ++ wide) ++ b) ++ high) ++ e ≡ grid_head w h
    → last ≡ grid_head w h
head_built t0 t1 t2 t3 t4 last a b e wide high w h p0 p1 p2 p3 p4 end is =
    end ∙ ap (λ t. t ++ e)
    (p4 ∙ ap (λ t. t ++ high)
    (p3 ∙ ap (λ t. t ++ b) (p2 ∙ ap (λ t. t ++ wide) (p1 ∙ ap (λ t. t ++ a) p0)))) ∙ is

pub head_pieces : (a b e wide high : List ℕ) (w h : ℕ) → a ≡ codes "P5\n" → b ≡ codes " "
    → e ≡ codes "\n255\n" → wide ≡ decimal w → high ≡ decimal h
    → (((a ++ wide) ++ b) ++ high) ++ e ≡ grid_head w h
unfolding grid_head
head_pieces a b e wide high w h is_a is_b is_e is_w is_h = rw (is_a, is_b, is_e, is_w, is_h) refl

pub head_as : (head : List ℕ) (w h wide high : ℕ) → head ≡ grid_head w h → wide ≡ w → high ≡ h
    → head ≡ grid_head wide high
head_as head w h wide high is e f = is ∙ ap (λ (n : ℕ). grid_head n h) (sym e)
    ∙ ap (grid_head wide) (sym f)
