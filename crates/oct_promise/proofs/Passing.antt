-- The elements of a list that pass a test, and lists that have each element once.
use Rattle.std.proofs.Common.{◌≡◌, ◌≢◌, ℕ, ◌≤◌, ◌↔◌, inl, inr, List, [], ◌∷◌, Bool, true}
use Rattle.std.proofs.Common.{false, cond, refl, sym, subst, arith, ◌∙◌}
use Rattle.std.specs.Prelude.{count_by}
use Rattle.std.specs.List.{AllPairs, Contains, filter}
use Rattle.std.proofs.lemmas.Bool.{cond_both}
use Rattle.std.proofs.lemmas.List.Kept.{AllPairs-cons}
use Rattle.std.proofs.lemmas.List.Sums.{sum_by-cons}
use Rattle.oct_brick.proofs.Lists.{contains_none, contains_here, contains_later, contains_cases}
use Rattle.oct_brick.proofs.Lists.{all_contained, pairs_nil}

module _ {X : Type 0} (p : X → Bool) where
  -- the filtered list with one element more, by whether that passes
  goes_in : (x y : X) (xs : List X) (b : Bool) → p y ≡ b → Contains xs x × (p x ≡ true)
      → Contains (cond b (y ∷ xs) xs) x
  goes_in x y xs true is (there, passes) = contains_later y x xs there
  goes_in x y xs false is (there, passes) = there

  came_in : (x y : X) (xs ys : List X) (b : Bool) → p y ≡ b → Contains (cond b (y ∷ ys) ys) x
      → (Contains ys x → Contains xs x × (p x ≡ true)) → Contains (y ∷ xs) x × (p x ≡ true)
  came_in x y xs ys true is there below = elim (contains_cases y x ys there) [
    | inl e ↦ (
      subst (λ z. Contains (y ∷ xs) z) e (contains_here y xs),
      subst (λ z. p z ≡ true) e is,
    )
    | inr k ↦ (contains_later y x xs (below k).0, (below k).1)
  ]
  came_in x y xs ys false is there below =
      (contains_later y x xs (below there).0, (below there).1)

  passing_came : (xs : List X) (x : X) → Contains (filter p xs) x
      → Contains xs x × (p x ≡ true)
  passing_came [] x h = absurd (contains_none x h)
  passing_came (y ∷ ys) x h =
      came_in x y ys (filter p ys) (p y) refl h (passing_came ys x)

  passing_kept : (xs : List X) (x : X) → Contains xs x → p x ≡ true → Contains (filter p xs) x
  passing_kept [] x there passes = absurd (contains_none x there)
  passing_kept (y ∷ ys) x there passes = elim (contains_cases y x ys there) [
    | inl e ↦
        subst (λ z. Contains (cond (p y) (y ∷ filter p ys) (filter p ys)) z) e
        (cond_both (p y) (y ∷ filter p ys) (filter p ys) (λ zs. Contains zs y)
        (λ is. contains_here y (filter p ys))
        (λ is. absurd (apart (sym is ∙ subst (λ z. p z ≡ true) (sym e) passes))))
    | inr k ↦
        cond_both (p y) (y ∷ filter p ys) (filter p ys) (λ zs. Contains zs x)
        (λ is. contains_later y x (filter p ys) (passing_kept ys x k passes))
        (λ is. passing_kept ys x k passes)
  ]
    where
      apart : false ≡ true → ⊥
      apart is = cc

  -- what passes of a list is its elements that pass
  pub passing_exactly : (xs : List X) (x : X)
      → Contains (filter p xs) x ↔ (Contains xs x × (p x ≡ true))
  passing_exactly xs x =
      (passing_came xs x, λ (there, passes). passing_kept xs x there passes)

  -- an element that passes is counted
  counted_there : (xs : List X) (x : X) → Contains xs x → p x ≡ true → 1 ≤ count_by p xs
  counted_there [] x there passes = absurd (contains_none x there)
  counted_there (y ∷ ys) x there passes =
      let sum = sum_by-cons (λ x. cond {A = ℕ} (p x) 1 0) y ys in
      elim (contains_cases y x ys there) [
        | inl e ↦
            let here : cond {A = ℕ} (p y) 1 0 ≡ 1 =
            rw (subst (λ z. p z ≡ true) (sym e) passes) refl in
            omega (arith, sum, here)
        | inr k ↦ let below = counted_there ys x k passes in omega (arith, sum, below)
      ]

-- a list has each element once where each is equal to one of its elements alone
pub each_once : {X : Type 0} (same : X → X → Bool) → ((x : X) → same x x ≡ true) → (xs : List X)
    → ((x : X) → Contains xs x → count_by (same x) xs ≤ 1) → AllPairs (λ x y. x ≢ y) xs
each_once same itself [] few = pairs_nil (λ x y. x ≢ y)
each_once {X} same itself (x ∷ xs) few =
    AllPairs-cons (λ x y. x ≢ y) x xs (all_contained (λ y. x ≢ y) xs beside)
    (each_once same itself xs below)
  where
    beside : (y : X) → Contains xs y → x ≢ y
    beside y there e =
        let sum = sum_by-cons (λ z. cond {A = ℕ} (same x z) 1 0) x xs in
        let here : cond {A = ℕ} (same x x) 1 0 ≡ 1 = rw (itself x) refl in
        let more = counted_there (same x) xs x (subst (Contains xs) (sym e) there) (itself x) in
        let most = few x (contains_here x xs) in absurd (omega (arith, sum, here, more, most))

    below : (y : X) → Contains xs y → count_by (same y) xs ≤ 1
    below y there =
        let sum = sum_by-cons (λ z. cond {A = ℕ} (same y z) 1 0) x xs in
        let most = few y (contains_later x y xs there) in omega (arith, sum, most)
