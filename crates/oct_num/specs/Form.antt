-- The form of a metres text, and where a text stops being of it, apart from how it is read.
use Rattle.std.specs.Prelude.{◌≡◌, ◌⊎◌, ℕ, ◌+◌, ◌-◌, ◌*◌, ◌^◌, ◌<◌, ◌≤◌, ℤ, Bool, List, [], ◌∷◌}
use Rattle.std.specs.Prelude.{◌++◌, length}
use Rattle.std.specs.List.{AllPass}
use Rattle.oct_num.specs.Decimal.{is_digit, decimal_value, AreDigits}
use Rattle.oct_num.specs.Sign.{sign_text, signed_number}

-- the nanometres that the digits before the point and the digits after it stand for
abbrev pub nanometres : List ℕ → List ℕ → ℕ
nanometres whole fraction =
    decimal_value whole * 10 ^ 9 + decimal_value fraction * 10 ^ (9 - length fraction)

-- the text of a fraction: a point and its digits, or nothing where there are none
abbrev pub fraction_text : List ℕ → List ℕ
fraction_text [] = []
fraction_text (digit ∷ digits) = 46 ∷ digit ∷ digits

-- an optional minus, digits, and optionally a point and digits, as many as there are
pub record IsForm (text : List ℕ) : Type 0 where
  pub minus : Bool
  pub whole : List ℕ
  pub fraction : List ℕ
  pub spelled : text ≡ sign_text minus ++ (whole ++ fraction_text fraction)
  pub before : AreDigits whole
  pub behind : AllPass is_digit fraction

-- the text of these nanometres: of the form, with at most seven digits before the point and nine
-- after it
pub record IsMetres (text : List ℕ) (nm : ℤ) : Type 0 where
  pub form : IsForm text
  pub before : length form.whole ≤ 7
  pub behind : length form.fraction ≤ 9
  pub value : nm ≡ signed_number form.minus (nanometres form.whole form.fraction)

-- the index of the eighth digit before the point, or else of the tenth after it, where the digits
-- begin at index `start`
abbrev pub IsExcessAt : ℕ → List ℕ → List ℕ → ℕ → Type 0
IsExcessAt start whole fraction at =
    ((7 < length whole) × (at ≡ start + 7))
    ⊎ ((length whole ≤ 7) × (9 < length fraction) × (at ≡ start + length whole + 1 + 9))

-- of the form, but with a digit too many at this index
pub record HasExcess (text : List ℕ) (at : ℕ) : Type 0 where
  pub form : IsForm text
  pub place : IsExcessAt (length (sign_text form.minus)) form.whole form.fraction at

-- some text of the form begins so
pub record CanGoOn (front : List ℕ) : Type 0 where
  pub more : List ℕ
  pub form : IsForm (front ++ more)

-- no text of the form goes on from this front with the next byte, or ends where none is left
abbrev pub IsStuck : List ℕ → List ℕ → Type 0
IsStuck front [] = ¬ IsForm front
IsStuck front (byte ∷ rest) = ¬ CanGoOn (front ++ byte ∷ [])

-- not of the form, and this is the first index where no text of the form goes on as this one does
pub record BreaksAt (text : List ℕ) (at : ℕ) : Type 0 where
  pub front : List ℕ
  pub rest : List ℕ
  pub spelled : text ≡ front ++ rest
  pub place : at ≡ length front
  pub begins : CanGoOn front
  pub stuck : IsStuck front rest

-- the text begins with the text of these nanometres, and the rest stands after it
pub record BeginsWith (text : List ℕ) (nm : ℤ) (rest : List ℕ) : Type 0 where
  pub front : List ℕ
  pub spelled : text ≡ front ++ rest
  pub metres : IsMetres front nm
