-- Triples of numbers stand in their order, each that there is, and no other.
use Rattle.std.proofs.Common.{◌≡◌, ℕ, zero, suc, ◌+◌, ◌<◌, ◌≤◌, List, [], ◌∷◌, ◌++◌, map, inl, inr}
use Rattle.std.proofs.Common.{refl, subst, arith}
use Rattle.std.specs.List.{AllByRecursion, Contains, flat_map}
use Rattle.std.specs.List.Sorted.{IsStrictlySortedBy}
use Rattle.std.specs.declared.cmp.Ordering.{Ordering}
use Rattle.std.specs.declared.cmp.Ordering.TheVariants.{Less}
use Rattle.std.proofs.lemmas.Bool.{cases_eq}
use Rattle.std.proofs.lemmas.List.Elements.{Contains-append_left, Contains-append_right}
use Rattle.oct_key.specs.Voxel.{Voxel}
use Rattle.oct_key.specs.Order.{key_cmp, numbers_from, triples_of}
use Rattle.oct_key.proofs.OneOrder.{on_first, on_rest}
use Rattle.oct_key.proofs.Order.{below_by_x, below_by_y, below_by_z}

-- what holds of two lists holds of both joined
all_joined : {X : Type 0} (P : X → Type 0) (xs ys : List X) → AllByRecursion P xs
    → AllByRecursion P ys
    → AllByRecursion P (xs ++ ys)
all_joined P [] ys h g = g
all_joined P (x ∷ xs) ys h g = (h.0, all_joined P xs ys h.1 g)

-- what holds of all that numbers from the first on give
all_of_each : {X : Type 0} (P : X → Type 0) (f : ℕ → List X) (first count : ℕ)
    → ((n : ℕ) → first ≤ n → n < first + count → AllByRecursion P (f n))
    → AllByRecursion P (flat_map f (numbers_from first count))
unfolding numbers_from
all_of_each P f first zero h = tt
all_of_each P f first (suc count) h =
    all_joined P (f first) (flat_map f (numbers_from (first + 1) count))
    (h first (omega arith) (omega arith))
    (all_of_each P f (first + 1) count (λ n l m. h n (omega arith) (omega arith)))

all_of_row : {X : Type 0} (P : X → Type 0) (f : ℕ → X) (first count : ℕ)
    → ((n : ℕ) → first ≤ n → n < first + count → P (f n))
    → AllByRecursion P (map f (numbers_from first count))
unfolding numbers_from
all_of_row P f first zero h = tt
all_of_row P f first (suc count) h = (
  h first (omega arith) (omega arith),
  all_of_row P f (first + 1) count (λ n l m. h n (omega arith) (omega arith)),
)

-- what they give is in order, where each gives a list in order, below what later ones give
sorted_joined : {X : Type 0} (cmp : X → X → Ordering) (xs ys : List X) → IsStrictlySortedBy cmp xs
    → IsStrictlySortedBy cmp ys → AllByRecursion (λ x. AllByRecursion (λ y. cmp x y ≡ Less) ys) xs
    → IsStrictlySortedBy cmp (xs ++ ys)
unfolding IsStrictlySortedBy
sorted_joined cmp [] ys h g cross = g
sorted_joined cmp (x ∷ xs) ys h g cross =
    (all_joined (λ y. cmp x y ≡ Less) xs ys h.0 cross.0, sorted_joined cmp xs ys h.1 g cross.1)

turned : {X Y : Type 0} (R : X → Y → Type 0) (xs : List X) (ys : List Y)
    → AllByRecursion (λ y. AllByRecursion (λ x. R x y) xs) ys
    → AllByRecursion (λ x. AllByRecursion (R x) ys) xs
turned R [] ys h = tt
turned {Y = Y} R (x ∷ xs) ys h = (firsts ys h, turned R xs ys (rests ys h))
  where
    firsts : (ys : List Y) → AllByRecursion (λ y. R x y × AllByRecursion (λ x. R x y) xs) ys
        → AllByRecursion (R x) ys
    firsts [] h = tt
    firsts (y ∷ ys) h = (h.0.0, firsts ys h.1)

    rests : (ys : List Y) → AllByRecursion (λ y. R x y × AllByRecursion (λ x. R x y) xs) ys
        → AllByRecursion (λ y. AllByRecursion (λ x. R x y) xs) ys
    rests [] h = tt
    rests (y ∷ ys) h = (h.0.1, rests ys h.1)

sorted_each : {X : Type 0} (cmp : X → X → Ordering) (f : ℕ → List X) (first count : ℕ)
    → ((n : ℕ) → IsStrictlySortedBy cmp (f n))
    → ((m n : ℕ) → m < n → AllByRecursion (λ y. AllByRecursion (λ x. cmp x y ≡ Less) (f m)) (f n))
    → IsStrictlySortedBy cmp (flat_map f (numbers_from first count))
unfolding numbers_from IsStrictlySortedBy
sorted_each cmp f first zero each cross = tt
sorted_each cmp f first (suc count) each cross =
    sorted_joined cmp (f first) (flat_map f (numbers_from (first + 1) count)) (each first)
    (sorted_each cmp f (first + 1) count each cross)
    (turned (λ x y. cmp x y ≡ Less) (f first) (flat_map f (numbers_from (first + 1) count))
    (all_of_each (λ y. AllByRecursion (λ x. cmp x y ≡ Less) (f first)) f (first + 1) count
    (λ n l m. cross first n (omega arith))))

sorted_row : {X : Type 0} (cmp : X → X → Ordering) (f : ℕ → X) (first count : ℕ)
    → ((m n : ℕ) → m < n → cmp (f m) (f n) ≡ Less)
    → IsStrictlySortedBy cmp (map f (numbers_from first count))
unfolding numbers_from IsStrictlySortedBy
sorted_row cmp f first zero h = tt
sorted_row cmp f first (suc count) h = (
  all_of_row (λ y. cmp (f first) y ≡ Less) f (first + 1) count (λ n l m. h first n (omega arith)),
  sorted_row cmp f (first + 1) count h,
)

-- each that they give is there
in_each : {X : Type 0} (f : ℕ → List X) (first count n : ℕ) (x : X) → first ≤ n → n < first + count
    → Contains (f n) x → Contains (flat_map f (numbers_from first count)) x
unfolding numbers_from
in_each f first zero n x l m there = absurd (omega arith)
in_each f first (suc count) n x l m there = elim (cases_eq first n) [
  | inl same ↦ Contains-append_left (f first) (flat_map f (numbers_from (first + 1) count)) x
      (subst (λ a. Contains (f a) x) (same_back same) there)
  | inr other ↦ Contains-append_right (f first) (flat_map f (numbers_from (first + 1) count)) x
      (in_each f (first + 1) count n x (omega arith) (omega arith) there)
]
  where
    same_back : first ≡ n → n ≡ first
    same_back e = omega arith

in_row : {X : Type 0} (f : ℕ → X) (first count n : ℕ) → first ≤ n → n < first + count
    → Contains (map f (numbers_from first count)) (f n)
unfolding numbers_from
in_row f first zero n l m = absurd (omega arith)
in_row f first (suc count) n l m = elim (cases_eq first n) [
  | inl same ↦ subst (λ a. Contains (f first ∷ map f (numbers_from (first + 1) count)) (f a)) same
      (on_first (map f (numbers_from (first + 1) count)) (f first))
  | inr other ↦ on_rest (f first) (map f (numbers_from (first + 1) count)) (f n)
      (in_row f (first + 1) count n (omega arith) (omega arith))
]

-- the triples of numbers from these three on, this many of each
abbrev pub triples_from : Voxel → Voxel → List Voxel
triples_from first count =
    triples_of (numbers_from first.x count.x) (numbers_from first.y count.y)
    (numbers_from first.z count.z)

-- a triple is one of them
pub record IsAmong (first count n : Voxel) : Type 0 where
  pub x : (first.x ≤ n.x) × (n.x < first.x + count.x)
  pub y : (first.y ≤ n.y) × (n.y < first.y + count.y)
  pub z : (first.z ≤ n.z) × (n.z < first.z + count.z)

-- one voxel, the voxels of a row, and those of a plane
abbrev voxel : ℕ → ℕ → ℕ → Voxel
voxel x y z = record { x = x; y = y; z = z }

abbrev row : Voxel → Voxel → ℕ → ℕ → List Voxel
row first count x y = map (λ z. record { x = x; y = y; z = z }) (numbers_from first.z count.z)

abbrev plane : Voxel → Voxel → ℕ → List Voxel
plane first count x = flat_map (row first count x) (numbers_from first.y count.y)

pub all_triples : (P : Voxel → Type 0) (first count : Voxel)
    → ((n : Voxel) → IsAmong first count n → P n) → AllByRecursion P (triples_from first count)
unfolding triples_of
all_triples P first count h =
    all_of_each P (plane first count) first.x count.x
    (λ x l m. all_of_each P (row first count x) first.y count.y
    (λ y l' m'. all_of_row P (voxel x y) first.z count.z
    (λ z l'' m''. h (voxel x y z) (record { x = (l, m); y = (l', m'); z = (l'', m'') }))))

pub triples_sorted : (first count : Voxel) → IsStrictlySortedBy key_cmp (triples_from first count)
unfolding triples_of
triples_sorted first count =
    sorted_each key_cmp (plane first count) first.x count.x
    (λ x. sorted_each key_cmp (row first count x) first.y count.y
    (λ y. sorted_row key_cmp (voxel x y) first.z count.z
    (λ m n l. below_by_z (voxel x y m) (voxel x y n) refl refl l))
    (λ m n l. all_of_row (λ v. AllByRecursion (λ u. key_cmp u v ≡ Less) (row first count x m))
    (voxel x n) first.z count.z
    (λ b j k. all_of_row (λ u. key_cmp u (voxel x n b) ≡ Less) (voxel x m) first.z count.z
    (λ a j' k'. below_by_y (voxel x m a) (voxel x n b) refl l))))
    (λ m n l. all_of_each (λ v. AllByRecursion (λ u. key_cmp u v ≡ Less) (plane first count m))
    (row first count n) first.y count.y
    (λ c j k. all_of_row (λ v. AllByRecursion (λ u. key_cmp u v ≡ Less) (plane first count m))
    (voxel n c) first.z count.z
    (λ d j' k'. all_of_each (λ u. key_cmp u (voxel n c d) ≡ Less) (row first count m)
    first.y count.y
    (λ a i o. all_of_row (λ u. key_cmp u (voxel n c d) ≡ Less) (voxel m a) first.z
    count.z
    (λ b i' o'. below_by_x (voxel m a b) (voxel n c d) l)))))

pub in_triples : (first count n : Voxel) → IsAmong first count n
    → Contains (triples_from first count) n
unfolding triples_of
in_triples first count n h =
    in_each (plane first count) first.x count.x n.x n h.x.0 h.x.1
    (in_each (row first count n.x) first.y count.y n.y n h.y.0 h.y.1
    (in_row (voxel n.x n.y) first.z count.z n.z h.z.0 h.z.1))
