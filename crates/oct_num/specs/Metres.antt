-- The reading of a metres text: its nanometres, or its fault.
use Rattle.std.specs.Prelude.{ℕ, ◌+◌, ℤ, nat_lt, nat_eq, Bool, ◌||◌, not, if◌then◌else◌, List, []}
use Rattle.std.specs.Prelude.{◌∷◌, length, drop, take_while, Option, Some, None, Result, Ok, Err}
use Rattle.std.specs.List.{prefix_len}
use Rattle.oct_num.specs.Decimal.{is_digit}
use Rattle.oct_num.specs.Form.{nanometres, fraction_text}
use Rattle.oct_num.specs.Sign.{sign_text, signed_number, has_minus, without_minus}
use Rattle.oct_num.specs.declared.metres.NumFault.{NumFault}
use Rattle.oct_num.specs.declared.metres.NumFault.TheVariants.{Syntax, Digits}

-- the digits after the point in what follows the digits before it, from index `point` on
unfoldable pub fraction_of : ℕ → List ℕ → Result (List ℕ) NumFault
fraction_of point [] = Ok []
fraction_of point (byte ∷ rest) =
    let count = prefix_len is_digit rest in
    if not (nat_eq byte 46) then Err (Syntax point)
    else if nat_eq count 0 || nat_lt count (length rest) then Err (Syntax (point + 1 + count))
    else Ok rest

-- the nanometres of at most seven digits before the point and at most nine after it
unfoldable pub limited_nanometres : ℕ → List ℕ → Result (List ℕ) NumFault → Result ℕ NumFault
limited_nanometres start whole (Err fault) = Err fault
limited_nanometres start whole (Ok fraction) =
    if nat_lt 7 (length whole) then Err (Digits (start + 7))
    else if nat_lt 9 (length fraction) then Err (Digits (start + length whole + 1 + 9))
    else Ok (nanometres whole fraction)

-- the nanometres of a metres text after its sign, from index `start` on
unfoldable pub magnitude_of : ℕ → List ℕ → Result ℕ NumFault
magnitude_of start text =
    let count = prefix_len is_digit text in
    if nat_eq count 0 then Err (Syntax start)
    else limited_nanometres start (take_while is_digit text)
    (fraction_of (start + count) (drop count text))

-- the same answer about a number with this sign
abbrev pub signed_answer : Bool → Result ℕ NumFault → Result ℤ NumFault
signed_answer minus (Ok n) = Ok (signed_number minus n)
signed_answer minus (Err fault) = Err fault

-- the nanometres of a metres text
unfoldable pub metres_of : List ℕ → Result ℤ NumFault
metres_of text =
    let minus = has_minus text in
    signed_answer minus (magnitude_of (length (sign_text minus)) (without_minus text))

-- the digits after the point that a text begins with, and none where it begins with no point
abbrev pub fraction_front : List ℕ → List ℕ
fraction_front [] = []
fraction_front (byte ∷ rest) = if nat_eq byte 46 then take_while is_digit rest else []

-- the text after a point and its digits, or the text itself where no digit follows a point
abbrev pub fraction_rest : List ℕ → List ℕ
fraction_rest text = drop (length (fraction_text (fraction_front text))) text

-- the nanometres of the length that a text begins with, as far as digits go, and the rest of the
-- text
unfoldable pub metres_front : List ℕ → Option (ℤ × List ℕ)
metres_front text =
    let magnitude = without_minus text in
    let whole = take_while is_digit magnitude in
    let behind = drop (prefix_len is_digit magnitude) magnitude in
    let fraction = fraction_front behind in
    if nat_eq (length whole) 0 then None
    else if nat_lt 7 (length whole) then None
    else if nat_lt 9 (length fraction) then None
    else Some (signed_number (has_minus text) (nanometres whole fraction), fraction_rest behind)
