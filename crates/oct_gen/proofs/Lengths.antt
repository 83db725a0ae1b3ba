-- How long a script can be.
use Rattle.std.proofs.Common.{ℕ, ◌+◌, ◌*◌, ◌/◌, ◌%◌, ◌^◌, ◌<◌, ◌≤◌, ℤ, pos, negsuc}
use Rattle.std.proofs.Common.{◌*ℤ◌, unsigned_abs, Bool, true, false, List, []}
use Rattle.std.proofs.Common.{◌∷◌, ◌++◌, length, get_or, subst, arith}
use Rattle.std.specs.Prelude.{codes}
use Rattle.std.specs.List.{flat_map, range_with_len, sum_by}
use Rattle.std.specs.Fmt.{decimal, signed_decimal}
use Rattle.std.proofs.Math.Nat.{mod-lt}
use Rattle.std.proofs.lemmas.Fmt.{length-decimal-le, length_signed_le}
use Rattle.std.proofs.lemmas.Int.{ints}
use Rattle.std.proofs.lemmas.List.{length-append}
use Rattle.std.proofs.lemmas.List.Concat.{length-flat_map}
use Rattle.std.proofs.lemmas.List.FromFn.{length-range_with_len}
use Rattle.std.proofs.lemmas.List.Sums.{sum_by-le}
use Rattle.std.specs.Int.{is_negative}
use Rattle.oct_num.specs.Form.{fraction_text}
use Rattle.oct_num.specs.MetresText.{leading_digits, metres_text}
use Rattle.oct_num.specs.Sign.{sign_text}
use Rattle.oct_num.proofs.MetresWriting.{leading_few}
use Rattle.oct_gen.specs.Draws.{draw, drawn_within}
use Rattle.oct_gen.specs.Script.{length_text, point_text, scan_line, point_line, points_text}
use Rattle.oct_gen.specs.Script.{scan_text, scans_text, header_line, script_of}

sign_short : (b : Bool) → length (sign_text b) ≤ 1
sign_short true = omega arith
sign_short false = omega arith

fraction_short : (digits : List ℕ) → length (fraction_text digits) ≤ length digits + 1
fraction_short [] = omega arith
fraction_short (digit ∷ digits) = omega arith

-- a length below ten metres
metres_short : (nm : ℤ) → unsigned_abs nm < 10 ^ 10 → length (metres_text nm) ≤ 12
unfolding metres_text
metres_short nm small =
    let whole : unsigned_abs nm / 10 ^ 9 < 10 = omega (arith, small) in
    let a = sign_short (is_negative nm) in
    let b = length-decimal-le 1 (unsigned_abs nm / 10 ^ 9) (omega arith) (omega (arith, whole))
    (omega (arith, whole)) in
    let c = fraction_short (leading_digits 9 (unsigned_abs nm % 10 ^ 9)) in
    let d = leading_few 9 (unsigned_abs nm % 10 ^ 9) in
    let e = length-append (sign_text (is_negative nm))
    (decimal (unsigned_abs nm / 10 ^ 9)
    ++ fraction_text (leading_digits 9 (unsigned_abs nm % 10 ^ 9))) in
    let f = length-append (decimal (unsigned_abs nm / 10 ^ 9))
    (fraction_text (leading_digits 9 (unsigned_abs nm % 10 ^ 9))) in
    omega (arith, a, b, c, d, e, f)

drawn_small : (reach seed index : ℕ) → unsigned_abs (drawn_within reach seed index) ≤ reach
unfolding drawn_within
drawn_small reach seed index =
    let below : draw seed index % (2 * reach + 1) < 2 * reach + 1 =
    mod-lt (draw seed index) (omega arith) in
    omega (arith, ints, below)

length_short : (reach seed index : ℕ) → reach ≤ 5000 → length (length_text reach seed index) ≤ 12
unfolding length_text
length_short reach seed index few =
    let small = drawn_small reach seed index in
    metres_short (pos 1000000 *ℤ drawn_within reach seed index) (omega (arith, ints, small, few))

-- five texts, one after the other
five_short : (k l m n o : List ℕ) (a b c d e : ℕ) → length k ≤ a → length l ≤ b → length m ≤ c
    → length n ≤ d → length o ≤ e → length (k ++ l ++ m ++ n ++ o) ≤ a + b + c + d + e
five_short k l m n o a b c d e ka lb mc nd oe =
    rw (
      length-append (((k ++ l) ++ m) ++ n) o,
      length-append ((k ++ l) ++ m) n,
      length-append (k ++ l) m,
      length-append k l,
    ) (omega (arith, ka, lb, mc, nd, oe))

three_short : (k l m : List ℕ) (a b c : ℕ) → length k ≤ a → length l ≤ b → length m ≤ c
    → length (k ++ l ++ m) ≤ a + b + c
three_short k l m a b c ka lb mc = rw (length-append (k ++ l) m, length-append k l)
    (omega (arith, ka, lb, mc))

point_short : (reach seed index : ℕ) → reach ≤ 5000 → length (point_text reach seed index) ≤ 38
unfolding point_text
point_short reach seed index few =
    five_short (length_text reach seed index) (codes " ") (length_text reach seed (index + 1))
    (codes " ") (length_text reach seed (index + 2)) 12 1 12 1 12
    (length_short reach seed index few) (omega arith) (length_short reach seed (index + 1) few)
    (omega arith) (length_short reach seed (index + 2) few)

point_line_short : (seed index : ℕ) → length (point_line seed index) ≤ 41
unfolding point_line
point_line_short seed index = three_short (codes "p ") (point_text 5000 seed index)
    (codes "\n") 2 38 1 (omega arith) (point_short 5000 seed index (omega arith)) (omega arith)

turn_short : (z : ℤ) → unsigned_abs z ≤ 2 → length (signed_decimal z) ≤ 2
turn_short (pos n) small = length_signed_le 1 (pos n) (omega (arith, ints, small))
    (omega (arith, ints, small))
turn_short (negsuc n) small = length_signed_le 1 (negsuc n) (omega (arith, ints, small))
    (omega (arith, ints, small))

scan_line_short : (seed index : ℕ) → length (scan_line seed index) ≤ 55
unfolding scan_line
scan_line_short seed index =
    five_short (codes "scan ") (point_text 2000 seed index) (codes " 1 0 0 ")
    (signed_decimal (drawn_within 2 seed (index + 3))) (codes " 8\n") 5 38 7 2 3
    (omega arith) (point_short 2000 seed index (omega arith)) (omega arith)
    (turn_short (drawn_within 2 seed (index + 3)) (drawn_small 2 seed (index + 3)))
    (omega arith)

-- texts of a number each, one after the other
pieces_short : (f : ℕ → List ℕ) (m n : ℕ) → ((k : ℕ) → length (f k) ≤ m)
    → length (flat_map f (range_with_len 0 n)) ≤ n * m
pieces_short f m n each =
    let all = sum_by-le (λ k. length (f k)) m (range_with_len 0 n)
    (λ k d l. each (get_or (range_with_len 0 n) k d)) in
    rw (length-flat_map f (range_with_len 0 n))
    (subst (λ (x : ℕ). sum_by (λ k. length (f k)) (range_with_len 0 n) ≤ x * m)
    (length-range_with_len 0 n) all)

scan_short : (seed index points : ℕ) → length (scan_text seed index points) ≤ 59 + points * 41
unfolding scan_text points_text
scan_short seed index points =
    let all = three_short (scan_line seed index)
    (flat_map (λ k. point_line seed (index + 4 + 3 * k)) (range_with_len 0 points))
    (codes "end\n") 55 (points * 41) 4
    (scan_line_short seed index)
    (pieces_short (λ k. point_line seed (index + 4 + 3 * k)) 41 points
    (λ k. point_line_short seed (index + 4 + 3 * k))) (omega arith) in
    omega (arith, all)

header_short : (seed scans points : ℕ) → seed < 2 ^ 64 → scans < 2 ^ 32 → points < 2 ^ 32
    → length (header_line seed scans points) ≤ 57
unfolding header_line
header_short seed scans points a b c =
    let front = five_short (codes "# octomap gen ") (decimal seed) (codes " ") (decimal scans)
    (codes " ") 14 20 1 10 1 (omega arith)
    (length-decimal-le 20 seed (omega arith) (omega (arith, a)) a) (omega arith)
    (length-decimal-le 10 scans (omega arith) (omega (arith, b)) (omega (arith, b))) (omega arith)
    in
    let whole = three_short (codes "# octomap gen " ++ decimal seed ++ codes " " ++ decimal scans
    ++ codes " ") (decimal points) (codes "\n") 46 10 1 (omega (arith, front))
    (length-decimal-le 10 points (omega arith) (omega (arith, c)) (omega (arith, c))) (omega arith)
    in
    omega (arith, whole)

-- at most 62 bytes, and for each scan 59, and 41 for each of its points
pub script_short : (seed scans points : ℕ) → seed < 2 ^ 64 → scans < 2 ^ 32 → points < 2 ^ 32
    → length (script_of seed scans points) ≤ 62 + scans * (59 + points * 41)
unfolding script_of scans_text
script_short seed scans points a b c =
    let scan : (k : ℕ) → length (scan_text seed ((4 + 3 * points) * k) points) ≤ 59 + points * 41 =
    λ k. scan_short seed ((4 + 3 * points) * k) points in
    let whole = three_short (header_line seed scans points)
    (flat_map (λ k. scan_text seed ((4 + 3 * points) * k) points) (range_with_len 0 scans))
    (codes "quit\n") 57 (scans * (59 + points * 41)) 5
    (header_short seed scans points a b c)
    (pieces_short (λ k. scan_text seed ((4 + 3 * points) * k) points)
    (59 + points * 41) scans scan) (omega arith) in
    omega (arith, whole)
