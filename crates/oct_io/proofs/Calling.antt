-- Calls that fail by their numbers, and the count of those that failed.
use Rattle.std.proofs.Common.{◌≡◌, ℕ, suc, ◌+◌, List, inl, refl, sym, ◌∙◌, ap, arith, true, false}
use Rattle.std.specs.Prelude.{Bool, cond, IsTrue}
use Rattle.oct_io.specs.Failing.{is_to_fail, failed_within}
use Rattle.oct_io.specs.Told.{Rose}

add_one_is_suc : (n : ℕ) → n + 1 ≡ suc n
add_one_is_suc n = omega arith

one_call : (fails : List ℕ) (count : ℕ) → failed_within fails (count + 1)
    ≡ failed_within fails count + cond (is_to_fail fails (count + 1)) 1 0
unfolding failed_within
one_call fails count = rw (add_one_is_suc count) refl

-- one call more failed
pub call_rose : (fails : List ℕ) (count : ℕ) (b : Bool) → b ≡ is_to_fail fails (count + 1)
    → IsTrue b
    → Rose (failed_within fails count) (failed_within fails (count + 1))
call_rose fails count false same t = absurd (no t)
  where
    no : IsTrue false → ⊥
    no e = cc
call_rose fails count true same t =
    inl (one_call fails count ∙ ap (λ b. failed_within fails count + cond b 1 0) (sym same))

-- one call more, and none failed
pub call_stays : (fails : List ℕ) (count : ℕ) (b : Bool) → b ≡ is_to_fail fails (count + 1)
    → b ≡ false
    → failed_within fails (count + 1) ≡ failed_within fails count
call_stays fails count b same none =
    let is : is_to_fail fails (count + 1) ≡ false = sym same ∙ none in
    one_call fails count ∙ rw is (omega arith)
