-- Whole numbers of at most eighteen digits, and their texts.
use Rattle.std.specs.Prelude.{◌≡◌, ℕ, ◌≤◌, ℤ, Bool, ◌||◌, not, List, ◌++◌, length, nat_lt, nat_eq}
use Rattle.std.specs.Prelude.{if◌then◌else◌, Option, Some, None, option_map}
use Rattle.std.specs.List.{list_all}
use Rattle.oct_num.specs.Decimal.{is_digit, decimal_value, AreDigits}
use Rattle.oct_num.specs.Sign.{sign_text, signed_number, has_minus, without_minus}

-- the number of one to eighteen digits
unfoldable pub natural_of : List ℕ → Option ℕ
natural_of text =
    if nat_eq (length text) 0 || nat_lt 18 (length text) || not (list_all is_digit text) then None
    else Some (decimal_value text)

-- the whole number that a text stands for
unfoldable pub whole_of : List ℕ → Option ℤ
whole_of text = option_map (signed_number (has_minus text)) (natural_of (without_minus text))

-- an optional minus and one to eighteen digits, for this number
pub record IsWholeNumber (text : List ℕ) (n : ℤ) : Type 0 where
  pub minus : Bool
  pub digits : List ℕ
  pub spelled : text ≡ sign_text minus ++ digits
  pub are_digits : AreDigits digits
  pub few : length digits ≤ 18
  pub value : n ≡ signed_number minus (decimal_value digits)
