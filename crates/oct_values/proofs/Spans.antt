-- Spans of numbers on an axis: how many blocks of a depth have theirs in one.
use Rattle.std.proofs.Common.{◌≡◌, ℕ, zero, suc, ◌+◌, ◌-◌, ◌*◌, ◌^◌, ◌≤◌, Bool, true, false, cond}
use Rattle.std.proofs.Common.{refl, sym, ap, arith, inl, inr}
use Rattle.std.specs.Prelude.{◌&&◌, nat_le, nat_lt, min, max}
use Rattle.std.proofs.Math.Nat.{pow-suc}
use Rattle.std.proofs.lemmas.Bool.{cases_lt, le-leb, lt-leb, lt-ltb, le-ltb}
use Rattle.oct_values.proofs.Axes.{on_axis}

-- whether a number is at least the first and below the second
abbrev pub is_in_span : ℕ → ℕ → ℕ → Bool
is_in_span from to n = nat_le from n && nat_lt n to

-- how many numbers of a span lie in the part with this number, of the parts of this many numbers
-- each
abbrev pub shared : ℕ → ℕ → ℕ → ℕ → ℕ
shared from to size n = min to (n * size + size) - max from (n * size)

shared_halves : (from to size n : ℕ)
    → shared from to size (2 * n + 0) + shared from to size (2 * n + 1)
    ≡ shared from to (size * 2) n
shared_halves from to size n = omega arith

shared_one : (from to n : ℕ) → cond {A = ℕ} (is_in_span from to n) 1 0 ≡ shared from to 1 n
shared_one from to n = elim (cases_lt n from) [
  | inl less ↦ (let test : nat_le from n ≡ false = lt-leb from n less in
      let e : cond {A = ℕ} (is_in_span from to n) 1 0 ≡ 0 = rw test refl in
      omega (arith, e))
  | inr more ↦ elim (cases_lt n to) [
    | inl in_span ↦ (let low : nat_le from n ≡ true = le-leb from n more in
        let high : nat_lt n to ≡ true = lt-ltb n to in_span in
        let e : cond {A = ℕ} (is_in_span from to n) 1 0 ≡ 1 = rw (low, high) refl in
        omega (arith, e))
    | inr past ↦ (let low : nat_le from n ≡ true = le-leb from n more in
        let high : nat_lt n to ≡ false = le-ltb n to past in
        let e : cond {A = ℕ} (is_in_span from to n) 1 0 ≡ 0 = rw (low, high) refl in
        omega (arith, e))
  ]
]

span_counts : (from to h n : ℕ) → on_axis (is_in_span from to) h n ≡ shared from to (2 ^ h) n
unfolding on_axis
span_counts from to zero n = shared_one from to n
span_counts from to (suc h) n =
    let left = span_counts from to h (2 * n + 0) in
    let right = span_counts from to h (2 * n + 1) in
    let halves = shared_halves from to (2 ^ h) n in
    let power : shared from to (2 ^ h * 2) n ≡ shared from to (2 ^ suc h) n =
    ap (λ size. shared from to size n) (sym (pow-suc 2 h)) in
    omega (arith, left, right, halves, power)

-- of the numbers of a depth from 0 on, a span that ends in it has as many as it is long
pub span_of_depth : (from to d : ℕ) → to ≤ 2 ^ d → on_axis (is_in_span from to) d 0 ≡ to - from
span_of_depth from to d m = let all = span_counts from to d 0 in omega (arith, all)
