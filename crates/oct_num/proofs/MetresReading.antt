-- Steps of the reading of a metres text.
use Rattle.std.proofs.Common.{◌≡◌, ℕ, ◌+◌, List, drop, Err, refl}
use Rattle.std.proofs.lemmas.Bool.{ne_eqb}
use Rattle.std.specs.List.{prefix_len}
use Rattle.oct_num.specs.Decimal.{is_digit}
use Rattle.oct_num.specs.declared.metres.NumFault.{NumFault}
use Rattle.oct_num.specs.Metres.{fraction_of, limited_nanometres, magnitude_of}

-- a fault after the digits before the point is the fault of the whole text
pub magnitude_fault : (start point : ℕ) (text rest : List ℕ) (fault : NumFault)
    → (prefix_len is_digit text ≡ 0 → ⊥) → point ≡ start + prefix_len is_digit text
    → rest ≡ drop (prefix_len is_digit text) text → fraction_of point rest ≡ Err fault
    → Err fault ≡ magnitude_of start text
unfolding magnitude_of limited_nanometres
magnitude_fault start point text rest fault some at behind wrong =
    let here : fraction_of (start + prefix_len is_digit text) (drop (prefix_len is_digit text) text)
    ≡ Err fault =
    rw (← at, ← behind) wrong in
    rw (ne_eqb (prefix_len is_digit text) 0 some, here) refl
