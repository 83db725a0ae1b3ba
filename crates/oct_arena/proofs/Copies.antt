-- Memory that is copied entry by entry.
use Rattle.std.proofs.Common.{◌≡◌, ℕ, suc, ◌<◌, ◌≤◌, [], ◌∷◌, length, None}
use Rattle.std.proofs.Common.{refl, sym, ◌∙◌, ap, arith, inl, inr, Option}
use Rattle.std.proofs.lemmas.Bool.{cases_lt}
use Rattle.std.proofs.lemmas.List.{length-replicate}
use Rattle.oct_arena.specs.declared.node.Group.{Group}
use Rattle.oct_arena.specs.Entries.{Groups, entry, vacant}
use Rattle.oct_arena.proofs.Entries.{none_in_vacant}

-- as many entries, of which the first i are those of the memory, and the others vacant
pub record IsCopied (memory new : Groups) (i : ℕ) : Type 0 where
  pub long : length new ≡ length memory
  pub below : (j : ℕ) → j < i → entry new j ≡ entry memory j
  pub above : (j : ℕ) → i ≤ j → entry new j ≡ None

pub copied_none : (m new : Groups) → new ≡ vacant (length m) → IsCopied m new 0
copied_none m new e = record {
  long = ap length e ∙ length-replicate {A = Option Group} (length m) None;
  below = λ j l. absurd (omega arith);
  above = λ j l. ap (λ gs. entry gs j) e ∙ none_in_vacant (length m) j;
}

same_entries : (xs ys : Groups) → length xs ≡ length ys
    → ((j : ℕ) → entry xs j ≡ entry ys j) → xs ≡ ys
same_entries [] [] l h = refl
same_entries [] (y ∷ ys) l h = absurd (omega arith)
same_entries (x ∷ xs) [] l h = absurd (omega arith)
same_entries (x ∷ xs) (y ∷ ys) l h =
    let rest : xs ≡ ys = same_entries xs ys (omega arith) (λ j. h (suc j)) in
    λ i. h 0 i ∷ rest i

-- the memory is copied once all entries that were ever taken are
pub copied_all : (m new : Groups) (n : ℕ) → IsCopied m new n
    → ((j : ℕ) → n ≤ j → entry m j ≡ None) → new ≡ m
copied_all m new n h empty =
    same_entries new m h.long
    (λ j. elim (cases_lt j n) [
      | inl l ↦ h.below j l
      | inr l ↦ h.above j l ∙ sym (empty j l)
    ])
