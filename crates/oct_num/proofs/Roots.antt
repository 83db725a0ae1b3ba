-- Square roots, rounded up.
use Rattle.std.proofs.Common.{ℕ, ◌+◌, ◌*◌, ◌<◌, ◌≤◌, inl, inr, arith}
use Rattle.std.proofs.lemmas.Bool.{cases_lt}
use Rattle.std.proofs.lemmas.Nat.{mul-le}

-- of two numbers the one with the smaller square is smaller
pub root_lt : (a b : ℕ) → a * a < b * b → a < b
root_lt a b h = elim (cases_lt a b) [
  | inl less ↦ less
  | inr more ↦ let squares : b * b ≤ a * a = mul-le _ _ _ _ more more in absurd (omega arith)
]

-- of two numbers the one with the square that isn't greater isn't greater
pub root_le : (a b : ℕ) → a * a ≤ b * b → a ≤ b
root_le a b h = elim (cases_lt b a) [
  | inl more ↦ let squares : (b + 1) * (b + 1)
      ≤ a * a = mul-le _ _ _ _ (omega arith) (omega arith) in absurd (omega arith)
  | inr not_more ↦ not_more
]

-- a square that is too small has a root that is too small
pub least_above : (n floor root : ℕ) → floor * floor < n → n ≤ root * root → floor + 1 ≤ root
least_above n floor root h k =
    let less : floor < root = root_lt floor root (omega arith) in omega arith

-- a square that isn't above the number has a root that isn't above
pub least_at : (n floor root : ℕ) → floor * floor ≤ n → n ≤ root * root → floor ≤ root
least_at n floor root h k = root_le floor root (omega arith)
