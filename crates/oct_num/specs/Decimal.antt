-- Decimal digits in ASCII, and the number that they stand for.
use Rattle.std.specs.Prelude.{ℕ, ◌+◌, ◌-◌, ◌*◌, ◌<◌, Bool, nat_le, ◌&&◌, List, fold, length}
use Rattle.std.specs.List.{AllPass}

-- an ASCII digit, `0` to `9`
abbrev pub is_digit : ℕ → Bool
is_digit byte = nat_le 48 byte && nat_le byte 57

-- the number that decimal digits stand for, the first digit the highest
abbrev pub decimal_value : List ℕ → ℕ
decimal_value digits = fold (λ value digit. value * 10 + (digit - 48)) 0 digits

-- one digit or more, and no other byte
pub record AreDigits (text : List ℕ) : Type 0 where
  pub all : AllPass is_digit text
  pub some : 0 < length text
