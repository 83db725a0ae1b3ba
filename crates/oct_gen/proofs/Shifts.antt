-- What is drawn from a later state is drawn from the seed at a later index.
use Rattle.std.proofs.Common.{◌≡◌, ℕ, zero, suc, ◌+◌, ◌*◌, ◌/◌, ◌%◌, ◌^◌, pos, ◌-ℤ◌, List, ◌++◌}
use Rattle.std.proofs.Common.{refl, sym, ap, ◌∙◌, arith}
use Rattle.std.proofs.Math.Path.{fun_ext}
use Rattle.std.specs.List.{flat_map, range_with_len}
use Rattle.oct_gen.specs.Draws.{stepped, state_after, drawn_within}
use Rattle.oct_gen.specs.Script.{length_text, point_text, scan_line, point_line, points_text}
use Rattle.oct_gen.specs.Script.{scan_text, scans_text}

-- ---- draws and lines

pub states_join : (j i s : ℕ) → state_after (state_after s j) i ≡ state_after s (j + i)
states_join zero i s = (let none : i ≡ 0 + i = omega arith in ap (state_after s) none)
states_join (suc j) i s =
    let one_more : suc (j + i) ≡ suc j + i = omega arith in
    states_join j i (stepped s) ∙ ap (state_after s) one_more

pub drawn_shift : (reach j i s : ℕ) → drawn_within reach (state_after s j) i
    ≡ drawn_within reach s (j + i)
unfolding drawn_within
drawn_shift reach j i s =
    let steps : j + (i + 1) ≡ j + i + 1 = omega arith in
    ap (λ (state : ℕ). pos (state / 2 ^ 33 % (2 * reach + 1)) -ℤ pos reach)
    (states_join j (i + 1) s ∙ ap (state_after s) steps)

pub length_shift : (reach j i s : ℕ) → length_text reach (state_after s j) i
    ≡ length_text reach s (j + i)
unfolding length_text
length_shift reach j i s = rw (drawn_shift reach j i s) refl

point_shift : (reach j i s : ℕ) → point_text reach (state_after s j) i ≡ point_text reach s (j + i)
unfolding point_text
point_shift reach j i s =
    let second : j + (i + 1) ≡ j + i + 1 = omega arith in
    let third : j + (i + 2) ≡ j + i + 2 = omega arith in
    rw (
      length_shift reach j i s,
      length_shift reach j (i + 1) s,
      length_shift reach j (i + 2) s,
      second,
      third,
    ) refl

scan_line_shift : (j i s : ℕ) → scan_line (state_after s j) i ≡ scan_line s (j + i)
unfolding scan_line
scan_line_shift j i s =
    let fourth : j + (i + 3) ≡ j + i + 3 = omega arith in
    rw (point_shift 2000 j i s, drawn_shift 2 j (i + 3) s, fourth) refl

point_line_shift : (j i s : ℕ) → point_line (state_after s j) i ≡ point_line s (j + i)
unfolding point_line
point_line_shift j i s = rw (point_shift 5000 j i s) refl

-- ---- many lines

same_pieces : (f g : ℕ → List ℕ) (numbers : List ℕ) → ((k : ℕ) → f k ≡ g k) → flat_map f numbers
    ≡ flat_map g numbers
same_pieces f g numbers same = ap (λ h. flat_map h numbers) (fun_ext same)

from_one_on : (f : ℕ → List ℕ) (a n : ℕ) → flat_map f (range_with_len (a + 1) n)
    ≡ flat_map (λ k. f (k + 1)) (range_with_len a n)
from_one_on f a zero = refl
from_one_on f a (suc n) = ap (λ t. f (a + 1) ++ t) (from_one_on f (a + 1) n)

-- the points of a later state
pub points_shift : (j i s points : ℕ) → points_text (state_after s j) i points
    ≡ points_text s (j + i) points
unfolding points_text
points_shift j i s points = same_pieces _ _ (range_with_len 0 points) each
  where
    each : (k : ℕ) → point_line (state_after s j) (i + 3 * k) ≡ point_line s (j + i + 3 * k)
    each k = (let index : j + (i + 3 * k) ≡ j + i + 3 * k = omega arith in
        point_line_shift j (i + 3 * k) s ∙ ap (point_line s) index)

-- a scan of a later state
scan_shift : (j i s points : ℕ) → scan_text (state_after s j) i points ≡ scan_text s (j + i) points
unfolding scan_text
scan_shift j i s points =
    let index : j + (i + 4) ≡ j + i + 4 = omega arith in
    rw (scan_line_shift j i s, points_shift j (i + 4) s points, index) refl

-- the first point, and then those of a later state
pub points_first : (s points : ℕ) → points_text s 0 (suc points)
    ≡ point_line s 0 ++ points_text (state_after s 3) 0 points
unfolding points_text
points_first s points =
    ap (λ t. point_line s 0 ++ t) (from_one_on (λ k. point_line s (0 + 3 * k)) 0 points
    ∙ same_pieces _ _ (range_with_len 0 points) each)
  where
    each : (k : ℕ) → point_line s (0 + 3 * (k + 1)) ≡ point_line (state_after s 3) (0 + 3 * k)
    each k = (let index : 0 + 3 * (k + 1) ≡ 3 + (0 + 3 * k) = omega arith in
        ap (point_line s) index ∙ sym (point_line_shift 3 (0 + 3 * k) s))

-- the first scan, and then those of a later state
pub scans_first : (s scans points : ℕ) → scans_text s (suc scans) points
    ≡ scan_text s 0 points ++ scans_text (state_after s (4 + 3 * points)) scans points
unfolding scans_text
scans_first s scans points =
    let at_first : (4 + 3 * points) * 0 ≡ 0 = omega arith in
    ap (λ t. scan_text s ((4 + 3 * points) * 0) points ++ t)
    (from_one_on (λ k. scan_text s ((4 + 3 * points) * k) points) 0 scans
    ∙ same_pieces _ _ (range_with_len 0 scans) each)
    ∙ ap (λ (i : ℕ). scan_text s i points
    ++ flat_map (λ k. scan_text (state_after s (4 + 3 * points)) ((4 + 3 * points) * k) points)
    (range_with_len 0 scans)) at_first
  where
    each : (k : ℕ) → scan_text s ((4 + 3 * points) * (k + 1)) points
        ≡ scan_text (state_after s (4 + 3 * points)) ((4 + 3 * points) * k) points
    each k = (let index : (4 + 3 * points) * (k + 1) ≡ 4 + 3 * points + (4 + 3 * points) * k =
        omega arith in
        ap (λ (i : ℕ). scan_text s i points) index
        ∙ sym (scan_shift (4 + 3 * points) ((4 + 3 * points) * k) s points))
