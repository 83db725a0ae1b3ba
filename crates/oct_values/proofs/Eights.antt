-- Lists and sums that go over the eight children.
use Rattle.std.proofs.Common.{◌≡◌, ◌≢◌, ℕ, zero, suc, ◌+◌, ◌<◌, Bool, true, false, cond, List, []}
use Rattle.std.proofs.Common.{◌∷◌, refl, sym, subst, ◌∙◌, ap, arith}
use Rattle.std.specs.Prelude.{◌==◌, sum_by}
use Rattle.std.proofs.lemmas.Bool.{false≢true, eqb-true, eq-eqb}
use Rattle.std.specs.List.{All, Contains, flat_map}
use Rattle.std.proofs.lemmas.List.Elements.{All-append, Contains-append_left, Contains-append_right}
use Rattle.std.proofs.lemmas.List.Sums.{sum_by-cons, sum_by-append}
use Rattle.oct_values.specs.Blocks.{child_numbers}

-- a sum over joined lists is the sum of their sums
pub sum_by-flat_map : {X : Type 0} (f : X → ℕ) (g : ℕ → List X) (xs : List ℕ)
    → sum_by f (flat_map g xs) ≡ sum_by (λ i. sum_by f (g i)) xs
sum_by-flat_map f g [] = refl
sum_by-flat_map f g (x ∷ xs) =
    let here = sum_by-append f (g x) (flat_map g xs) in
    let rest = sum_by-flat_map f g xs in
    let all = sum_by-cons (λ i. sum_by f (g i)) x xs in
    omega (arith, here, rest, all)

-- what each of the numbers below 8 gives
pub sum_of_eight : (f : ℕ → ℕ)
    → sum_by f child_numbers ≡ f 0 + f 1 + f 2 + f 3 + f 4 + f 5 + f 6 + f 7
sum_of_eight f = omega arith

-- sums of the same numbers
pub same_eight : (f g : ℕ → ℕ) → ((i : ℕ) → i < 8 → f i ≡ g i)
    → sum_by f child_numbers ≡ sum_by g child_numbers
same_eight f g h =
    let h0 = h 0 (omega arith) in
    let h1 = h 1 (omega arith) in
    let h2 = h 2 (omega arith) in
    let h3 = h 3 (omega arith) in
    let h4 = h 4 (omega arith) in
    let h5 = h 5 (omega arith) in
    let h6 = h 6 (omega arith) in
    let h7 = h 7 (omega arith) in
    omega (arith, sum_of_eight f, sum_of_eight g, h0, h1, h2, h3, h4, h5, h6, h7)

-- a sum of zeros
pub none_of_eight : (f : ℕ → ℕ) → ((i : ℕ) → i < 8 → f i ≡ 0) → sum_by f child_numbers ≡ 0
none_of_eight f h = same_eight f (λ i. 0) h ∙ refl

-- which numbers the eight are
pub number_of_eight : (i : ℕ) → i < 8 → Contains child_numbers i
number_of_eight zero l = (0, omega arith, refl)
number_of_eight (suc zero) l = (1, omega arith, refl)
number_of_eight (suc (suc zero)) l = (2, omega arith, refl)
number_of_eight (suc (suc (suc zero))) l = (3, omega arith, refl)
number_of_eight (suc (suc (suc (suc zero)))) l = (4, omega arith, refl)
number_of_eight (suc (suc (suc (suc (suc zero))))) l = (5, omega arith, refl)
number_of_eight (suc (suc (suc (suc (suc (suc zero)))))) l = (6, omega arith, refl)
number_of_eight (suc (suc (suc (suc (suc (suc (suc zero))))))) l = (7, omega arith, refl)
number_of_eight (suc (suc (suc (suc (suc (suc (suc (suc i)))))))) l = absurd (omega arith)

-- the other way: what holds of each number below 8 holds of the eight
pub all_eight : (P : ℕ → Type 0) → ((i : ℕ) → i < 8 → P i) → All P child_numbers
all_eight P h zero d l = h 0 (omega arith)
all_eight P h (suc zero) d l = h 1 (omega arith)
all_eight P h (suc (suc zero)) d l = h 2 (omega arith)
all_eight P h (suc (suc (suc zero))) d l = h 3 (omega arith)
all_eight P h (suc (suc (suc (suc zero)))) d l = h 4 (omega arith)
all_eight P h (suc (suc (suc (suc (suc zero))))) d l = h 5 (omega arith)
all_eight P h (suc (suc (suc (suc (suc (suc zero)))))) d l = h 6 (omega arith)
all_eight P h (suc (suc (suc (suc (suc (suc (suc zero))))))) d l = h 7 (omega arith)
all_eight P h (suc (suc (suc (suc (suc (suc (suc (suc i)))))))) d l = absurd (omega arith)

-- one number of the eight counts one, and the others nothing
one_at : (i : ℕ) → i < 8 → sum_by (λ (j : ℕ). cond {A = ℕ} (j == i) 1 0) child_numbers ≡ 1
one_at zero l = refl
one_at (suc zero) l = refl
one_at (suc (suc zero)) l = refl
one_at (suc (suc (suc zero))) l = refl
one_at (suc (suc (suc (suc zero)))) l = refl
one_at (suc (suc (suc (suc (suc zero))))) l = refl
one_at (suc (suc (suc (suc (suc (suc zero)))))) l = refl
one_at (suc (suc (suc (suc (suc (suc (suc zero))))))) l = refl
one_at (suc (suc (suc (suc (suc (suc (suc (suc i)))))))) l = absurd (omega arith)

-- a sum in which one of the eight counts one, and the others nothing
pub one_of_eight : (f : ℕ → ℕ) (i : ℕ) → i < 8 → f i ≡ 1 → ((j : ℕ) → j < 8 → j ≢ i → f j ≡ 0)
    → sum_by f child_numbers ≡ 1
one_of_eight f i l one none =
    same_eight f (λ j. cond (j == i) 1 0) (λ j lj. at_number j lj (j == i) refl) ∙ one_at i l
  where
    at_number : (j : ℕ) → j < 8 → (same : Bool) → (j == i) ≡ same → f j ≡ cond (j == i) 1 0
    at_number j lj true e = (let s : j ≡ i = eqb-true j i e in rw e (ap f s ∙ one))
    at_number j lj false e = rw e (none j lj (λ s. false≢true (sym e ∙ eq-eqb j i s)))

-- what holds of each element of each list holds of each of the joined ones
pub All-flat_map : {X : Type 0} (P : X → Type 0) (g : ℕ → List X) (xs : List ℕ)
    → All (λ i. All P (g i)) xs → All P (flat_map g xs)
All-flat_map P g [] h = λ k d l. absurd (omega arith)
All-flat_map P g (x ∷ xs) h =
    All-append P (g x) (flat_map g xs) (h 0 x (omega arith))
    (All-flat_map P g xs (λ k d l. h (suc k) d (omega arith)))

-- an element of one of the lists is one of the joined ones
pub Contains-flat_map : {X : Type 0} (g : ℕ → List X) (xs : List ℕ) (i : ℕ) (x : X) → Contains xs i
    → Contains (g i) x
    → Contains (flat_map g xs) x
Contains-flat_map g [] i x (k, l, is) h = absurd (omega arith)
Contains-flat_map g (y ∷ ys) i x (zero, l, is) h =
    Contains-append_left (g y) (flat_map g ys) x (subst (λ j. Contains (g j) x) (sym is) h)
Contains-flat_map g (y ∷ ys) i x (suc k, l, is) h =
    Contains-append_right (g y) (flat_map g ys) x
    (Contains-flat_map g ys i x (k, omega arith, is) h)
