-- A brick of a list takes up another one of its code.
use Rattle.std.proofs.Common.{◌≡◌, ℕ, zero, suc, ◌<◌, ◌↔◌, ◌⊎◌, inl, inr, List, [], ◌∷◌, ◌++◌}
use Rattle.std.proofs.Common.{length, get_or, sym, subst, ◌∙◌, ap, arith}
use Rattle.std.specs.List.{All, Contains}
use Rattle.std.proofs.Math.ListN.{set}
use Rattle.std.proofs.lemmas.List.Elements.{All-push}
use Rattle.oct_brick.specs.declared.brick.Brick.{Brick}
use Rattle.oct_brick.specs.Masks.{HasCode}
use Rattle.oct_brick.specs.Bricks.{IsBrick}
use Rattle.oct_brick.proofs.BrickCodes.{codes_by, by_one, by_parted}
use Rattle.oct_brick.proofs.Merging.{pushed_has}
use Rattle.oct_scan.proofs.Holding.{HasMore}

-- the codes of a list are those of its first brick and of the others
first_has : (f : Brick → ℕ) (b : Brick) (bs : List Brick) (c : ℕ)
    → Contains (codes_by f (b ∷ bs)) c ↔ (HasCode b.code (f b) c ⊎ Contains (codes_by f bs) c)
first_has f b bs c = (
  λ h. elim ((by_parted f (b ∷ []) bs c).0 h)
      [ inl k ↦ inl ((by_one f b c).0 k) | inr k ↦ inr k ],
  λ h. (by_parted f (b ∷ []) bs c).1
      (elim h [ inl k ↦ inl ((by_one f b c).1 k) | inr k ↦ inr k ]),
)

-- the brick j has the codes of a and of b
abbrev pub HasBoth : (Brick → ℕ) → Brick → Brick → Brick → Type 0
HasBoth f a b j =
    (c : ℕ) → HasCode j.code (f j) c ↔ (HasCode a.code (f a) c ⊎ HasCode b.code (f b) c)

-- where one of a list has them, the list has those of b too
joined_more : (f : Brick → ℕ) (bs : List Brick) (i : ℕ) (a b j : Brick) → i < length bs
    → a ≡ get_or bs i a → HasBoth f a b j → HasMore f bs (set bs i j) b
joined_more f [] i a b j l is both c = absurd (omega (arith, l))
joined_more f (x ∷ bs) zero a b j l is both c =
    let here : HasBoth f x b j = subst (λ y. HasBoth f y b j) is both in (
      λ h. elim ((first_has f j bs c).0 h) [
        | inl k ↦ elim ((here c).0 k)
            [ inl m ↦ inl ((first_has f x bs c).1 (inl m)) | inr m ↦ inr m ]
        | inr k ↦ inl ((first_has f x bs c).1 (inr k))
      ],
      λ h. (first_has f j bs c).1 (elim h [
        | inl k ↦ elim ((first_has f x bs c).0 k)
            [ inl m ↦ inl ((here c).1 (inl m)) | inr m ↦ inr m ]
        | inr k ↦ inl ((here c).1 (inr k))
      ]),
    )
joined_more f (x ∷ bs) (suc i) a b j l is both c =
    let rest = joined_more f bs i a b j (omega (arith, l)) is both c in (
      λ h. elim ((first_has f x (set bs i j) c).0 h) [
        | inl k ↦ inl ((first_has f x bs c).1 (inl k))
        | inr k ↦ elim (rest.0 k)
            [ inl m ↦ inl ((first_has f x bs c).1 (inr m)) | inr m ↦ inr m ]
      ],
      λ h. (first_has f x (set bs i j) c).1 (elim h [
        | inl k ↦ elim ((first_has f x bs c).0 k)
            [ inl m ↦ inl m | inr m ↦ inr (rest.1 (inl m)) ]
        | inr k ↦ inr (rest.1 (inr k))
      ]),
    )

-- the same, where the list is another one
pub joined_from : (f : Brick → ℕ) (old bs : List Brick) (i : ℕ) (a b j : Brick) → bs ≡ old
    → i < length bs → a ≡ get_or bs i a → HasBoth f a b j → HasMore f old (set bs i j) b
joined_from f old bs i a b j same l is both =
    subst (λ xs. HasMore f xs (set bs i j) b) same (joined_more f bs i a b j l is both)

-- a brick behind a list gives it those of its codes
pub pushed_more : (f : Brick → ℕ) (old bs bs' : List Brick) (b : Brick) → bs ≡ old
    → bs' ≡ bs ++ b ∷ [] → HasMore f old bs' b
pushed_more f old bs bs' b same pushed c =
    subst (λ xs. Contains (codes_by f xs) c ↔
    (Contains (codes_by f old) c ⊎ HasCode b.code (f b) c))
    (sym (pushed ∙ ap (λ xs. xs ++ b ∷ []) same)) (pushed_has f old b c)

pub pushed_bricks : (old bs bs' : List Brick) (b : Brick) → bs ≡ old → bs' ≡ bs ++ b ∷ []
    → All IsBrick old → IsBrick b → All IsBrick bs'
pushed_bricks old bs bs' b same pushed all one =
    subst (All IsBrick) (sym (pushed ∙ ap (λ xs. xs ++ b ∷ []) same))
    (All-push IsBrick old b all one)
