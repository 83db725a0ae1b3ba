-- The text of a length in decimal metres.
use Rattle.std.specs.Prelude.{ℕ, zero, suc, ◌+◌, ◌/◌, ◌%◌, ◌^◌, ℤ, unsigned_abs, nat_eq, List, []}
use Rattle.std.specs.Prelude.{◌∷◌, ◌++◌, if◌then◌else◌}
use Rattle.std.specs.Int.{is_negative}
use Rattle.std.specs.Fmt.{decimal}
use Rattle.oct_num.specs.Sign.{sign_text}
use Rattle.oct_num.specs.Form.{fraction_text}

-- the first digits of a number of this many digits, up to the last one that isn't 0
unfoldable pub leading_digits : ℕ → ℕ → List ℕ
leading_digits zero n = []
leading_digits (suc places) n =
    if nat_eq n 0 then [] else (48 + n / 10 ^ places) ∷ leading_digits places (n % 10 ^ places)

-- the whole metres, and a point and the digits of the nanometres that are left, where some are
abbrev pub magnitude_text : ℕ → List ℕ
magnitude_text nm = decimal (nm / 10 ^ 9) ++ fraction_text (leading_digits 9 (nm % 10 ^ 9))

-- a minus where the length is below 0, and the text of its magnitude
unfoldable pub metres_text : ℤ → List ℕ
metres_text nm = sign_text (is_negative nm) ++ magnitude_text (unsigned_abs nm)
