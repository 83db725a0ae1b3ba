-- Walks that end at a voxel, and what is left of them.
use Rattle.std.proofs.Common.{◌≡◌, ◌≢◌, suc, ◌-◌, ◌≤◌, List, [], ◌∷◌, length, Some, refl, sym}
use Rattle.std.proofs.Common.{subst, ◌∙◌, ap, arith}
use Rattle.std.specs.Prelude.{slice_get}
use Rattle.std.specs.List.{AllPairs, Contains}
use Rattle.std.proofs.lemmas.List.Elements.{All-contains, Contains-push}
use Rattle.oct_key.specs.Voxel.{Voxel}
use Rattle.oct_brick.proofs.Lists.{pairs_head, pairs_tail}
use Rattle.oct_scan.specs.Gathered.{EndsAt}
use Rattle.oct_scan.proofs.Gathering.{ends_with}

-- a list whose elements differ ends at its last one
pub ends_at : (ks : List Voxel) (end : Voxel) → slice_get ks (length ks - 1) ≡ Some end
    → AllPairs (λ k l. k ≢ l) ks → EndsAt end ks
ends_at [] end e once = absurd (let h : ⊥ = cc in h)
ends_at (k ∷ []) end e once = let s : k ≡ end = cc in s
ends_at (k ∷ l ∷ ks) end e once =
    let same : suc (suc (length ks)) - 1 ≡ suc (length ks) = omega arith in
    let below : suc (length ks) - 1 ≡ length ks = omega arith in
    let rest : slice_get (l ∷ ks) (suc (length ks) - 1) ≡ Some end = ap (slice_get (l ∷ ks)) below
    ∙ sym (ap (slice_get (k ∷ l ∷ ks)) same) ∙ e in
    let (front, is) = ends_with (l ∷ ks) end rest in
    let there : Contains (l ∷ ks) end =
    subst (λ xs. Contains xs end) (sym is) (Contains-push front end) in (
      All-contains (λ b. k ≢ b) (l ∷ ks) end (pairs_head (λ a b. a ≢ b) k (l ∷ ks) once) there,
      ends_at (l ∷ ks) end rest (pairs_tail (λ a b. a ≢ b) k (l ∷ ks) once),
    )

-- a voxel that others come after is none of the end
pub end_later : (end k : Voxel) (ks : List Voxel) → ks ≢ [] → EndsAt end (k ∷ ks)
    → (k ≢ end) × EndsAt end ks
end_later end k [] some e = absurd (some refl)
end_later end k (l ∷ ks) some e = e

-- where one voxel is left at most, it is the end
pub end_left : (end : Voxel) (ks : List Voxel) → length ks ≤ 1 → EndsAt end ks → ks ≡ end ∷ []
end_left end [] few e = absurd e
end_left end (k ∷ []) few e = ap (λ v. v ∷ []) e
end_left end (k ∷ l ∷ ks) few e = absurd (omega (arith, few))

-- the end is the last voxel
pub end_is_last : (end : Voxel) (ks : List Voxel) → EndsAt end ks
    → slice_get ks (length ks - 1) ≡ Some end
end_is_last end [] e = absurd e
end_is_last end (k ∷ []) e = ap Some e
end_is_last end (k ∷ l ∷ ks) e =
    let same : suc (suc (length ks)) - 1 ≡ suc (length ks) = omega arith in
    let below : suc (length ks) - 1 ≡ length ks = omega arith in
    ap (slice_get (k ∷ l ∷ ks)) same ∙ sym (ap (slice_get (l ∷ ks)) below)
    ∙ end_is_last end (l ∷ ks) e.1
