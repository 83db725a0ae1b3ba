-- Numbers that make a model.
use Rattle.std.proofs.Common.{◌≡◌, None, sym, subst, ◌∙◌}
use Rattle.std.specs.Prelude.{Result, Ok, IfOk}
use Rattle.oct_odds.specs.Odds.{Odds, first_bad_field}

-- no condition fails for the numbers of a model that was made
pub good_model : {A E : Type 0} (made : Result A E) (x : A) (m o q : Odds) → made ≡ Ok x
    → IfOk made (λ _. first_bad_field o ≡ None) → m ≡ o → m ≡ q → first_bad_field q ≡ None
good_model made x m o q is good passed told =
    subst (λ (p : Odds). first_bad_field p ≡ None) (sym passed ∙ told)
    (subst (λ r. IfOk r (λ _. first_bad_field o ≡ None)) is good)
