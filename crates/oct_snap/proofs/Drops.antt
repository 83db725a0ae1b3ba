-- What stands at a place of a list.
use Rattle.std.proofs.Common.{◌≡◌, ℕ, zero, suc, ◌+◌, ◌<◌, ◌≤◌, List, [], ◌∷◌, length, drop, refl}
use Rattle.std.proofs.Common.{◌∙◌, ap, arith}
use Rattle.std.specs.Prelude.{slice_index}

drop_suc : (xs : List ℕ) (n : ℕ) → n < length xs → drop n xs ≡ slice_index xs n ∷ drop (suc n) xs
drop_suc [] n less = absurd (omega arith)
drop_suc (x ∷ xs) zero less = refl
drop_suc (x ∷ xs) (suc n) less = drop_suc xs n (omega arith)

pub drop_at : (xs : List ℕ) (n m : ℕ) → m ≡ n + 1 → n < length xs
    → drop n xs ≡ slice_index xs n ∷ drop m xs
drop_at xs n m is less = (let e : suc n ≡ m = omega arith in
    drop_suc xs n less ∙ ap (λ (k : ℕ). slice_index xs n ∷ drop k xs) e)

pub drop_end : (xs : List ℕ) (n : ℕ) → length xs ≤ n → drop n xs ≡ []
drop_end [] zero all = refl
drop_end [] (suc n) all = refl
drop_end (x ∷ xs) zero all = absurd (omega arith)
drop_end (x ∷ xs) (suc n) all = drop_end xs n (omega arith)

pub drop_four : (xs : List ℕ) (n : ℕ) → n + 4 ≤ length xs
    → drop n xs ≡ slice_index xs n ∷ slice_index xs (n + 1) ∷ slice_index xs (n + 2) ∷ slice_index
    xs (n + 3) ∷ drop (n + 4) xs
drop_four xs n less =
    drop_at xs n (n + 1) (omega arith) (omega arith)
    ∙ ap (λ (t : List ℕ). slice_index xs n ∷ t)
    (drop_at xs (n + 1) (n + 2) (omega arith) (omega arith)
    ∙ ap (λ (t : List ℕ). slice_index xs (n + 1) ∷ t)
    (drop_at xs (n + 2) (n + 3) (omega arith) (omega arith)
    ∙ ap (λ (t : List ℕ). slice_index xs (n + 2) ∷ t)
    (drop_at xs (n + 3) (n + 4) (omega arith) (omega arith))))
