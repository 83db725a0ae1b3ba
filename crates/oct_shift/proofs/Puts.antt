-- A list that is filled one place after another.
use Rattle.std.proofs.Common.{◌≡◌, ℕ, ◌+◌, ◌<◌, List, length, sym, subst, arith, inl, inr}
use Rattle.std.specs.Prelude.{slice_index_or, slice_set}
use Rattle.std.proofs.lemmas.Bool.{cases_eq}
use Rattle.std.proofs.lemmas.List.{get_or-set_same, get_or-set_other}

-- what is so of the first n is so of one more, which is put at their end
pub put_next : {A : Type 0} (P : ℕ → A → Type 0) (xs : List A) (n m : ℕ) (x d : A) → m ≡ n
    → n < length xs → ((i : ℕ) → i < n → P i (slice_index_or xs i d)) → P n x
    → (i : ℕ) → i < n + 1 → P i (slice_index_or (slice_set xs m x) i d)
put_next P xs n m x d is room before here i less = elim (cases_eq i m) [
  | inl same ↦
      (let back : m ≡ i = omega (arith, same) in
      let last : n ≡ m = omega (arith, is) in
      subst (λ (j : ℕ). P j (slice_index_or (slice_set xs m x) j d)) back
      (subst (P m) (sym (get_or-set_same xs m x d (omega (arith, is, room))))
      (subst (λ (j : ℕ). P j x) last here)))
  | inr other ↦ subst (P i) (sym (get_or-set_other xs m i x d other))
      (before i (omega (arith, less, other, is)))
]
