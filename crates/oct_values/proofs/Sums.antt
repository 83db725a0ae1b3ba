-- Sums and tests over lists, element by element.
use Rattle.std.proofs.Common.{◌≡◌, ℕ, zero, suc, ◌+◌, ◌*◌, ◌≤◌, Bool, true, false, cond, List, []}
use Rattle.std.proofs.Common.{◌∷◌, get_or, refl, sym, ◌∙◌, ap, arith}
use Rattle.std.specs.Prelude.{sum_by, count_by}
use Rattle.std.specs.List.{All, list_all, list_any}
use Rattle.std.proofs.lemmas.List.Sums.{sum_by-cons}

-- what holds of all elements holds of the first, and of the rest
pub first_of_all : {X : Type 0} (P : X → Type 0) (x : X) (xs : List X) → All P (x ∷ xs) → P x
first_of_all P x xs h = h 0 x (omega arith)

pub rest_of_all : {X : Type 0} (P : X → Type 0) (x : X) (xs : List X) → All P (x ∷ xs) → All P xs
rest_of_all P x xs h = λ k d l. h (suc k) d (omega arith)

-- a fact that follows for each element
pub All-follows : {X : Type 0} (P Q : X → Type 0) (xs : List X) → ((x : X) → P x → Q x) → All P xs
    → All Q xs
All-follows P Q xs f h = λ k d l. f (get_or xs k d) (h k d l)

-- sums of the same numbers
pub sum_by-same : {X : Type 0} (f g : X → ℕ) (xs : List X) → All (λ x. f x ≡ g x) xs
    → sum_by f xs ≡ sum_by g xs
sum_by-same f g [] h = refl
sum_by-same f g (x ∷ xs) h =
    let left = sum_by-cons f x xs in
    let right = sum_by-cons g x xs in
    let here = first_of_all (λ x. f x ≡ g x) x xs h in
    let rest = sum_by-same f g xs (rest_of_all (λ x. f x ≡ g x) x xs h) in
    omega (arith, left, right, here, rest)

-- a sum of numbers that are no greater
pub sum_by-each_le : {X : Type 0} (f g : X → ℕ) (xs : List X) → All (λ x. f x ≤ g x) xs
    → sum_by f xs ≤ sum_by g xs
sum_by-each_le f g [] h = omega arith
sum_by-each_le f g (x ∷ xs) h =
    let left = sum_by-cons f x xs in
    let right = sum_by-cons g x xs in
    let here = first_of_all (λ x. f x ≤ g x) x xs h in
    let rest = sum_by-each_le f g xs (rest_of_all (λ x. f x ≤ g x) x xs h) in
    omega (arith, left, right, here, rest)

-- what holds of the first and of the rest holds of all
all_with_first : {X : Type 0} (P : X → Type 0) (x : X) (xs : List X) → P x → All P xs
    → All P (x ∷ xs)
all_with_first P x xs here rest zero d l = here
all_with_first P x xs here rest (suc k) d l = rest k d (omega arith)

-- where numbers that are no greater have the same sum, they are the same
pub sum_by-each_exact : {X : Type 0} (f g : X → ℕ) (xs : List X) → All (λ x. f x ≤ g x) xs
    → sum_by f xs ≡ sum_by g xs → All (λ x. f x ≡ g x) xs
sum_by-each_exact f g [] h e = λ k d l. absurd (omega arith)
sum_by-each_exact f g (x ∷ xs) h e =
    let here : f x ≤ g x = first_of_all (λ x. f x ≤ g x) x xs h in
    let rest : sum_by f xs ≤ sum_by g xs =
    sum_by-each_le f g xs (rest_of_all (λ x. f x ≤ g x) x xs h) in
    let split : f x + sum_by f xs ≡ g x + sum_by g xs =
    sym (sum_by-cons f x xs) ∙ e ∙ sum_by-cons g x xs in
    let sums : sum_by f xs ≡ sum_by g xs = omega (arith, here, rest, split) in
    let same : f x ≡ g x = omega (arith, here, rest, split) in
    all_with_first (λ x. f x ≡ g x) x xs same
    (sum_by-each_exact f g xs (rest_of_all (λ x. f x ≤ g x) x xs h) sums)

-- a sum of sums
pub sum_by-plus : {X : Type 0} (f g : X → ℕ) (xs : List X)
    → sum_by (λ x. f x + g x) xs ≡ sum_by f xs + sum_by g xs
sum_by-plus f g [] = refl
sum_by-plus f g (x ∷ xs) =
    let both = sum_by-cons (λ x. f x + g x) x xs in
    let left = sum_by-cons f x xs in
    let right = sum_by-cons g x xs in
    let rest = sum_by-plus f g xs in
    omega (arith, both, left, right, rest)

-- a sum of zeros
pub sum_by-none : {X : Type 0} (xs : List X) → sum_by (λ x. 0) xs ≡ 0
sum_by-none [] = refl
sum_by-none (x ∷ xs) =
    let all = sum_by-cons (λ x. 0) x xs in
    let rest = sum_by-none xs in
    omega (arith, all, rest)

-- sums over two lists can be taken in either order
pub sum_by-turned : {X Y : Type 0} (f : X → Y → ℕ) (xs : List X) (ys : List Y)
    → sum_by (λ x. sum_by (λ y. f x y) ys) xs ≡ sum_by (λ y. sum_by (λ x. f x y) xs) ys
sum_by-turned f [] ys = sym (sum_by-none ys)
sum_by-turned f (x ∷ xs) ys =
    let all = sum_by-cons (λ x. sum_by (λ y. f x y) ys) x xs in
    let rest = sum_by-turned f xs ys in
    let both = sum_by-plus (λ y. f x y) (λ y. sum_by (λ x. f x y) xs) ys in
    let each =
    sum_by-same (λ y. sum_by (λ x. f x y) (x ∷ xs)) (λ y. f x y + sum_by (λ x. f x y) xs) ys
    (λ k d l. sum_by-cons (λ x. f x (get_or ys k d)) x xs) in
    omega (arith, all, rest, both, each)

-- one number for each element that passes a test
counted_step : (test : Bool) (n count rest : ℕ) → rest ≡ count * n
    → cond test n 0 + rest ≡ (cond test 1 0 + count) * n
counted_step true n count rest e = omega (arith, e)
counted_step false n count rest e = omega (arith, e)

pub sum_by-counted : {X : Type 0} (p : X → Bool) (n : ℕ) (xs : List X)
    → sum_by (λ x. cond (p x) n 0) xs ≡ count_by p xs * n
sum_by-counted p n [] = omega arith
sum_by-counted p n (x ∷ xs) =
    sum_by-cons (λ x. cond (p x) n 0) x xs
    ∙ counted_step (p x) n (count_by p xs) (sum_by (λ x. cond (p x) n 0) xs)
    (sum_by-counted p n xs)
    ∙ ap (λ m. m * n) (sym (sum_by-cons (λ x. cond {A = ℕ} (p x) 1 0) x xs))

-- tests that answer alike
pub list_all-same : {X : Type 0} (p q : X → Bool) (xs : List X) → All (λ x. p x ≡ q x) xs
    → list_all p xs ≡ list_all q xs
list_all-same p q [] h = refl
list_all-same p q (x ∷ xs) h =
    let here = first_of_all (λ x. p x ≡ q x) x xs h in
    let rest = list_all-same p q xs (rest_of_all (λ x. p x ≡ q x) x xs h) in
    rw (here, rest) refl

pub list_any-same : {X : Type 0} (p q : X → Bool) (xs : List X) → All (λ x. p x ≡ q x) xs
    → list_any p xs ≡ list_any q xs
list_any-same p q [] h = refl
list_any-same p q (x ∷ xs) h =
    let here = first_of_all (λ x. p x ≡ q x) x xs h in
    let rest = list_any-same p q xs (rest_of_all (λ x. p x ≡ q x) x xs h) in
    rw (here, rest) refl

pub count_by-same : {X : Type 0} (p q : X → Bool) (xs : List X) → All (λ x. p x ≡ q x) xs
    → count_by p xs ≡ count_by q xs
count_by-same p q xs h =
    sum_by-same (λ x. cond (p x) 1 0) (λ x. cond (q x) 1 0) xs
    (All-follows (λ x. p x ≡ q x) (λ x. cond {A = ℕ} (p x) 1 0 ≡ cond (q x) 1 0) xs
    (λ x e. ap (λ test. cond test 1 0) e) h)
