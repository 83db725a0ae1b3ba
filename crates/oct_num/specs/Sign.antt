-- The sign of a number's text: a minus, or nothing.
use Rattle.std.specs.Prelude.{ℕ, ℤ, pos, neg_ℤ, Bool, true, false, List, [], ◌∷◌, nat_eq}
use Rattle.std.specs.Prelude.{if◌then◌else◌}

-- the text of a sign, a minus or nothing
abbrev pub sign_text : Bool → List ℕ
sign_text true = 45 ∷ []
sign_text false = []

-- the number of this sign and magnitude
abbrev pub signed_number : Bool → ℕ → ℤ
signed_number true n = neg_ℤ (pos n)
signed_number false n = pos n

-- the text begins with a minus
abbrev pub has_minus : List ℕ → Bool
has_minus [] = false
has_minus (byte ∷ rest) = nat_eq byte 45

-- the text without the minus that it may begin with
abbrev pub without_minus : List ℕ → List ℕ
without_minus [] = []
without_minus (byte ∷ rest) = if nat_eq byte 45 then rest else (byte ∷ rest)
