-- A draw in machine numbers.
use Rattle.std.proofs.Common.{◌≡◌, ℕ, ◌+◌, ◌*◌, ◌%◌, ◌^◌, ◌<◌, ◌≤◌, ℤ, pos, ◌-ℤ◌, ◌*ℤ◌}
use Rattle.std.proofs.Common.{unsigned_abs, refl, ap, ◌∙◌, arith}
use Rattle.std.proofs.Math.Nat.{mod-lt}
use Rattle.std.proofs.lemmas.Int.{ints, to_z-of_z, to_z_pos}
use mir.Val.{SFits, to_z, of_z}
use mir.Syntax.{w64}
use Rattle.oct_gen.specs.Draws.{stepped, drawn_within, draw}

-- the step may wrap after the product and after the sum
pub step_wraps : (state : ℕ)
    → (state * 6364136223846793005 % 18446744073709551616 + 1442695040888963407) %
    18446744073709551616 ≡ stepped state
unfolding stepped
step_wraps state = omega arith

-- a draw less its reach
pub drawn_is : (reach d r state : ℕ) → d ≡ draw state 0 → r ≡ reach → reach < 2 ^ 16
    → to_z w64 (of_z w64 (to_z w64 (d % (2 * r + 1)) -ℤ to_z w64 r)) ≡ drawn_within reach state 0
unfolding drawn_within
drawn_is reach d r state drawn same small =
    let below : d % (2 * r + 1) < 2 * r + 1 = mod-lt d (omega arith) in
    let first : to_z w64 (d % (2 * r + 1)) ≡ pos (d % (2 * r + 1)) =
    to_z_pos w64 (d % (2 * r + 1)) (omega (arith, below, same, small)) in
    let second : to_z w64 r ≡ pos r = to_z_pos w64 r (omega (arith, same, small)) in
    let fits : SFits w64 (pos (d % (2 * r + 1)) -ℤ pos r) = omega (arith, ints, below, same, small)
    in
    ap (λ (a : ℤ). to_z w64 (of_z w64 (a -ℤ to_z w64 r))) first
    ∙ ap (λ (b : ℤ). to_z w64 (of_z w64 (pos (d % (2 * r + 1)) -ℤ b))) second
    ∙ to_z-of_z w64 (pos (d % (2 * r + 1)) -ℤ pos r) fits
    ∙ ap (λ (n : ℕ). pos (n % (2 * r + 1)) -ℤ pos r) drawn
    ∙ ap (λ (n : ℕ). pos (draw state 0 % (2 * n + 1)) -ℤ pos n) same

-- a small number is kept
pub small_kept : (n z : ℤ) (reach : ℕ) → unsigned_abs n ≤ reach → reach < 2 ^ 16 → n ≡ z
    → to_z w64 (of_z w64 n) ≡ z
small_kept n z reach within small is =
    let fits : SFits w64 n = omega (arith, ints, within, small) in
    to_z-of_z w64 n fits ∙ is

-- and so are the nanometres of this many millimetres
pub nanometres_kept : (n z : ℤ) (reach : ℕ) → unsigned_abs n ≤ reach → reach < 2 ^ 16 → n ≡ z
    → to_z w64 (of_z w64 (pos 1000000 *ℤ to_z w64 (of_z w64 n))) ≡ pos 1000000 *ℤ z
nanometres_kept n z reach within small is =
    let fits : SFits w64 (pos 1000000 *ℤ n) = omega (arith, ints, within, small) in
    let kept : to_z w64 (of_z w64 n) ≡ n = small_kept n n reach within small refl in
    ap (λ (m : ℤ). to_z w64 (of_z w64 (pos 1000000 *ℤ m))) kept
    ∙ to_z-of_z w64 (pos 1000000 *ℤ n) fits ∙ ap (λ m. pos 1000000 *ℤ m) is
