-- A list that rises is told by its members.
use Rattle.std.proofs.Common.{◌≡◌, zero, suc, List, [], ◌∷◌, inl, inr, refl, sym, ap, subst, ◌∙◌}
use Rattle.std.proofs.Common.{arith}
use Rattle.std.specs.Prelude.{◌⊎◌}
use Rattle.std.specs.List.{AllByRecursion, Contains}
use Rattle.std.proofs.lemmas.List.Elements.{All-contains, All-from_recursion}

-- an element is the first, or one of the rest
pub on_first : {X : Type 0} (xs : List X) (x : X) → Contains (x ∷ xs) x
on_first xs x = (0, omega arith, refl)

pub on_rest : {X : Type 0} (x : X) (xs : List X) (y : X) → Contains xs y → Contains (x ∷ xs) y
on_rest x xs y (k, l, is) = (suc k, omega arith, is)

-- By a relation that goes one way, two lists that rise and have the same members are one.
pub one_order : {X : Type 0} (Below : X → X → Type 0) (Rises : List X → Type 0)
    → ((x y : X) → Below x y → Below y x → ⊥)
    → ((x : X) (xs : List X) → Rises (x ∷ xs) → AllByRecursion (Below x) xs × Rises xs)
    → (xs ys : List X) → Rises xs → Rises ys
    → ((x : X) → Contains xs x → Contains ys x) → ((x : X) → Contains ys x → Contains xs x)
    → xs ≡ ys
one_order Below Rises one_way step [] [] hx hy f g = refl
one_order Below Rises one_way step [] (y ∷ ys) hx hy f g =
    let (k, l, is) = g y (on_first ys y) in
    absurd (omega arith)
one_order Below Rises one_way step (x ∷ xs) [] hx hy f g =
    let (k, l, is) = f x (on_first xs x) in
    absurd (omega arith)
one_order {X = X} Below Rises one_way step (x ∷ xs) (y ∷ ys) hx hy f g =
    heads (one_order Below Rises one_way step xs ys (step x xs hx).1 (step y ys hy).1)
    (split y ys x (f x (on_first xs x))) (split x xs y (g y (on_first ys y)))
  where
    split : (b : X) (bs : List X) (a : X) → Contains (b ∷ bs) a → (b ≡ a) ⊎ Contains bs a
    split b bs a (zero, l, is) = inl is
    split b bs a (suc k, l, is) = inr (k, omega arith, is)

    above : (b : X) (bs : List X) (a : X) → AllByRecursion (Below b) bs → Contains bs a → Below b a
    above b bs a all there = All-contains (Below b) bs a (All-from_recursion (Below b) bs all) there

    same : x ≡ y → (zs ws : List X) → zs ≡ ws → x ∷ zs ≡ y ∷ ws
    same e zs ws f = ap (λ a. a ∷ zs) e ∙ ap (λ bs. y ∷ bs) f

    not_self : (a : X) → Below a a → ⊥
    not_self a h = one_way a a h h

    to : x ≡ y → (z : X) → Contains xs z → Contains ys z
    to e z there = elim (split y ys z (f z (on_rest x xs z there))) [
      | inl is ↦
          absurd (not_self x (subst (Below x) (sym (e ∙ is)) (above x xs z (step x xs hx).0 there)))
      | inr h ↦ h
    ]

    from : x ≡ y → (z : X) → Contains ys z → Contains xs z
    from e z there = elim (split x xs z (g z (on_rest y ys z there))) [
      | inl is ↦
          absurd (not_self y (subst (Below y) (sym (sym e ∙ is))
          (above y ys z (step y ys hy).0 there)))
      | inr h ↦ h
    ]

    heads :
        (((z : X) → Contains xs z → Contains ys z) → ((z : X) → Contains ys z → Contains xs z)
        → xs ≡ ys)
        → (y ≡ x) ⊎ Contains ys x → (x ≡ y) ⊎ Contains xs y → x ∷ xs ≡ y ∷ ys
    heads again (inl e) other = same (sym e) xs ys (again (to (sym e)) (from (sym e)))
    heads again (inr here) (inl e) = same e xs ys (again (to e) (from e))
    heads again (inr here) (inr there) =
        absurd (one_way x y (above x xs y (step x xs hx).0 there)
        (above y ys x (step y ys hy).0 here))
