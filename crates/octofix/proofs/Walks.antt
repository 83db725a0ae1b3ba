-- A walk that is gone along, beside the list that it goes through.
use Rattle.std.proofs.Common.{◌≡◌, ℕ, ◌+◌, ◌<◌, List, [], ◌∷◌, length, drop, ap, arith}
use Rattle.std.proofs.Common.{get_or}
use Rattle.std.proofs.lemmas.List.{drop_more, length-drop}

-- before its end there is another element
pub not_over : {A : Type 0} (all rest : List A) (i : ℕ) → i < length all → rest ≡ drop i all
    → rest ≡ [] → ⊥
not_over all rest i within is over = omega (arith, length-drop i all, ap length is, ap length over)

-- the element that is given is that at this place
pub given_at : {A : Type 0} (all rest after : List A) (i : ℕ) (a : A) → i < length all
    → rest ≡ drop i all → rest ≡ a ∷ after → a ≡ get_or all i a
given_at all rest after i a within is gives = let step = drop_more all i a within in cc

-- and behind it the rest is left
pub left_behind : {A : Type 0} (all rest after : List A) (i : ℕ) (a : A) → i < length all
    → rest ≡ drop i all → rest ≡ a ∷ after → after ≡ drop (i + 1) all
left_behind all rest after i a within is gives = let step = drop_more all i a within in cc
