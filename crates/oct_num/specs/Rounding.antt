-- Rounding to the nearest whole number.
use Rattle.std.specs.Prelude.{◌≡◌, ℕ, ◌≤◌, ℤ, pos, ◌+ℤ◌, ◌-ℤ◌, ◌*ℤ◌, ◌≤ℤ◌, unsigned_abs}
use Rattle.std.specs.Int.{int_div_euclid}

-- n / d and a half, rounded down
abbrev pub half_up : ℤ → ℤ → ℤ
half_up n d = int_div_euclid (pos 2 *ℤ n +ℤ d) (pos 2 *ℤ d)

-- how far a whole number lies from n / d, in parts of 1 / d
abbrev pub distance : ℤ → ℤ → ℤ → ℕ
distance n d k = unsigned_abs (n -ℤ k *ℤ d)

-- the whole number nearest to n / d, and the upper one where two are equally near
pub record IsNearest (n d k : ℤ) : Type 0 where
  pub nearest : (m : ℤ) → distance n d k ≤ distance n d m
  pub upper : (m : ℤ) → distance n d k ≡ distance n d m → m ≤ℤ k
