-- Lists of voxels that have each voxel once, in whatever order.
use Rattle.std.proofs.Common.{◌≡◌, ℕ, zero, suc, ◌+◌, ◌*◌, ◌≤◌, Bool, true, false, List, [], ◌∷◌}
use Rattle.std.proofs.Common.{cond, get_or, refl, sym, ap, subst, ◌∙◌, arith}
use Rattle.std.specs.Prelude.{filter, count_by, sum_by}
use Rattle.std.specs.List.{All, AllByRecursion, Contains}
use Rattle.std.specs.List.Sorted.{IsSorted, IsStrictlySortedBy}
use Rattle.std.specs.Ordering.{is_lt, ordering_reverse}
use Rattle.std.specs.declared.cmp.Ordering.{Ordering}
use Rattle.std.specs.declared.cmp.Ordering.TheVariants.{Less, Equal, Greater}
use Rattle.std.proofs.lemmas.Bool.{false≢true}
use Rattle.std.proofs.lemmas.List.Sums.{sum_by-cons}
use Rattle.std.proofs.lemmas.List.Elements.{All-contains, All-filter, All-contains_itself}
use Rattle.std.proofs.lemmas.List.Elements.{All-from_recursion, recursion_from_All, Contains-get_or}
use Rattle.std.proofs.lemmas.List.Elements.{filter_passes}
use Rattle.std.proofs.lemmas.List.Sorted.{sorted_far}
use Rattle.std.proofs.lemmas.List.MinMax.{ranks_by}
use Rattle.oct_key.specs.Voxel.{Voxel}
use Rattle.oct_key.specs.Values.{is_same_voxel}
use Rattle.oct_key.specs.Order.{key_cmp}
use Rattle.oct_key.proofs.Order.{one_way, key_cmp_total, key_cmp_exact}
use Rattle.oct_key.proofs.OneOrder.{on_first, on_rest}
use Rattle.oct_key.proofs.SameVoxels.{is_same_voxel_exact, is_same_voxel_refl}
use Rattle.oct_values.proofs.Sums.{sum_by-same, sum_by-turned, sum_by-counted, All-follows}

-- how often a list has a voxel
abbrev pub times : Voxel → List Voxel → ℕ
times k ks = count_by (is_same_voxel k) ks

times_here : (k q : Voxel) (ks : List Voxel) → is_same_voxel k q ≡ true
    → times k (q ∷ ks) ≡ 1 + times k ks
times_here k q ks e = sum_by-cons (λ x. cond {A = ℕ} (is_same_voxel k x) 1 0) q ks
    ∙ ap (λ (test : Bool). cond {A = ℕ} test 1 0 + times k ks) e

times_other : (k q : Voxel) (ks : List Voxel) → is_same_voxel k q ≡ false
    → times k (q ∷ ks) ≡ times k ks
times_other k q ks e = sum_by-cons (λ x. cond {A = ℕ} (is_same_voxel k x) 1 0) q ks
    ∙ ap (λ (test : Bool). cond {A = ℕ} test 1 0 + times k ks) e ∙ omega arith

-- a voxel below all of a list isn't there
times_below : (k : Voxel) (ks : List Voxel) → AllByRecursion (λ q. key_cmp k q ≡ Less) ks
    → times k ks ≡ 0
times_below k [] h = refl
times_below k (q ∷ ks) h = times_other k q ks (other (is_same_voxel k q) refl)
    ∙ times_below k ks h.1
  where
    other : (test : Bool) → is_same_voxel k q ≡ test → is_same_voxel k q ≡ false
    other false e = e
    other true e = (let same = is_same_voxel_exact k q e in
        let self : key_cmp k k ≡ Less = subst (λ (v : Voxel). key_cmp k v ≡ Less) (sym same) h.0 in
        absurd (one_way k k self self))

-- a list that rises has each of its voxels once
pub times_rising : (ks : List Voxel) (k : Voxel) → IsStrictlySortedBy key_cmp ks → Contains ks k
    → times k ks ≡ 1
unfolding IsStrictlySortedBy
times_rising [] k h (n, l, is) = absurd (omega arith)
times_rising (q ∷ ks) k h (zero, l, is) =
    let same : q ≡ k = is in
    subst (λ (v : Voxel). times v (q ∷ ks) ≡ 1) same
    (times_here q q ks (is_same_voxel_refl q) ∙ ap (λ (n : ℕ). 1 + n) (times_below q ks h.0))
times_rising (q ∷ ks) k h (suc n, l, is) =
    times_other k q ks (other (is_same_voxel k q) refl) ∙ times_rising ks k h.1 (n, omega arith, is)
  where
    there : Contains ks k
    there = (n, omega arith, is)

    other : (test : Bool) → is_same_voxel k q ≡ test → is_same_voxel k q ≡ false
    other false e = e
    other true e = (let same = is_same_voxel_exact k q e in
        let above : key_cmp q k ≡ Less =
        All-contains (λ v. key_cmp q v ≡ Less) ks k
        (All-from_recursion (λ v. key_cmp q v ≡ Less) ks h.0) there in
        let self : key_cmp k k ≡ Less =
        subst (λ (v : Voxel). key_cmp v k ≡ Less) (sym same) above in
        absurd (one_way k k self self))

-- a list that has a voxel counts it
pub times_some : (ks : List Voxel) (k : Voxel) → Contains ks k → 1 ≤ times k ks
times_some [] k (n, l, is) = absurd (omega arith)
times_some (q ∷ ks) k (zero, l, is) =
    let same : q ≡ k = is in
    let here = times_here k q ks
    (subst (λ (v : Voxel). is_same_voxel k v ≡ true) (sym same) (is_same_voxel_refl k)) in
    omega (arith, here)
times_some (q ∷ ks) k (suc n, l, is) =
    let later = times_some ks k (n, omega arith, is) in
    by_test (is_same_voxel k q) refl later
  where
    by_test : (test : Bool) → is_same_voxel k q ≡ test → 1 ≤ times k ks → 1 ≤ times k (q ∷ ks)
    by_test true e h = (let here = times_here k q ks e in omega (arith, here, h))
    by_test false e h = (let here = times_other k q ks e in omega (arith, here, h))

-- a list in order that has no voxel twice rises
pub rises : (ks : List Voxel) → IsSorted key_cmp ks → ((k : Voxel) → Contains ks k → times k ks ≤ 1)
    → IsStrictlySortedBy key_cmp ks
unfolding IsStrictlySortedBy
rises [] sorted once = tt
rises (q ∷ ks) sorted once = (
  recursion_from_All (λ v. key_cmp q v ≡ Less) ks first,
  rises ks tail (λ k there. fewer k there (is_same_voxel k q) refl),
)
  where
    tail : IsSorted key_cmp ks
    tail k d from l =
        (let same : suc k + 1 ≡ suc (k + 1) = omega arith in
        subst (λ m. is_lt (key_cmp (get_or (q ∷ ks) m d) (get_or ks k d)) ≡ false) same
        (sorted (suc k) d (omega arith) (omega arith)))

    fewer : (k : Voxel) → Contains ks k → (test : Bool) → is_same_voxel k q ≡ test → times k ks ≤ 1
    fewer k there true e = (let here = times_here k q ks e in
        let most = once k (on_rest q ks k there) in omega (arith, here, most))
    fewer k there false e = (let here = times_other k q ks e in
        let most = once k (on_rest q ks k there) in omega (arith, here, most))

    none : times q ks ≡ 0
    none = (let here = times_here q q ks (is_same_voxel_refl q) in
        let most = once q (on_first ks q) in omega (arith, here, most))

    is_less : (v : Voxel) (o : Ordering) → key_cmp q v ≡ o → is_lt (key_cmp v q) ≡ false
        → Contains ks v → key_cmp q v ≡ Less
    is_less v Less e not_below there = e
    is_less v Equal e not_below there =
        (let same : q ≡ v = key_cmp_exact q v e in
        let some = times_some ks q (subst (Contains ks) (sym same) there) in
        absurd (omega (arith, some, none)))
    is_less v Greater e not_below there =
        (let back : is_lt (key_cmp v q)
        ≡ true = ap is_lt (key_cmp_total.antisymm v q ∙ ap ordering_reverse e) in
        absurd (false≢true (sym not_below ∙ back)))

    first : All (λ v. key_cmp q v ≡ Less) ks
    first n d l = is_less (get_or ks n d) (key_cmp q (get_or ks n d)) refl
        (sorted_far (λ x y. is_lt (key_cmp x y)) (ranks_by key_cmp_total (λ k. k)) (q ∷ ks) sorted 0
        (suc n) d (omega arith) (omega arith))
        (Contains-get_or ks n d l)

-- one voxel passes the test of another as the other does that of the one
turned : (x y : Voxel) (w : Voxel → ℕ)
    → cond {A = ℕ} (is_same_voxel x y) (w x) 0 ≡ cond {A = ℕ} (is_same_voxel y x) (w y) 0
turned x y w = by_tests (is_same_voxel x y) (is_same_voxel y x) refl refl
  where
    by_tests : (a b : Bool) → is_same_voxel x y ≡ a → is_same_voxel y x ≡ b
        → cond {A = ℕ} (is_same_voxel x y) (w x) 0 ≡ cond {A = ℕ} (is_same_voxel y x) (w y) 0
    by_tests true true e f = ap (λ (test : Bool). cond {A = ℕ} test (w x) 0) e
        ∙ ap w (is_same_voxel_exact x y e)
        ∙ sym (ap (λ (test : Bool). cond {A = ℕ} test (w y) 0) f)
    by_tests false false e f = ap (λ (test : Bool). cond {A = ℕ} test (w x) 0) e
        ∙ sym (ap (λ (test : Bool). cond {A = ℕ} test (w y) 0) f)
    by_tests true false e f = (let same = is_same_voxel_exact x y e in
        let self : is_same_voxel y x ≡ true =
        subst (λ (v : Voxel). is_same_voxel y v ≡ true) (sym same) (is_same_voxel_refl y) in
        absurd (false≢true (sym f ∙ self)))
    by_tests false true e f = (let same = is_same_voxel_exact y x f in
        let self : is_same_voxel x y ≡ true =
        subst (λ (v : Voxel). is_same_voxel x v ≡ true) (sym same) (is_same_voxel_refl x) in
        absurd (false≢true (sym e ∙ self)))

-- where a list has a voxel once, the weights of those that are it add up to its own
weight_once : (x : Voxel) (n : ℕ) (ys : List Voxel) → times x ys ≡ 1
    → n ≡ sum_by (λ y. cond (is_same_voxel x y) n 0) ys
weight_once x n ys once = (let all = sum_by-counted (is_same_voxel x) n ys in
    let one : times x ys * n ≡ 1 * n = ap (λ (m : ℕ). m * n) once in omega (arith, all, one))

-- Two lists that have each voxel of the other one once have as many that pass a test.
pub same_count : (p : Voxel → Bool) (xs ys : List Voxel)
    → ((k : Voxel) → Contains xs k → times k ys ≡ 1)
    → ((k : Voxel) → Contains ys k → times k xs ≡ 1)
    → count_by p xs ≡ count_by p ys
same_count p xs ys in_ys in_xs =
    sum_by-same w (λ x. sum_by (λ y. cond (is_same_voxel x y) (w x) 0) ys) xs
    (All-follows (Contains xs) (λ x. w x ≡ sum_by (λ y. cond (is_same_voxel x y) (w x) 0) ys) xs
    (λ x there. weight_once x (w x) ys (in_ys x there)) (All-contains_itself xs))
    ∙ sum_by-turned (λ x y. cond (is_same_voxel x y) (w x) 0) xs ys
    ∙ sum_by-same (λ y. sum_by (λ x. cond (is_same_voxel x y) (w x) 0) xs) w ys
    (All-follows (Contains ys) (λ y. sum_by (λ x. cond (is_same_voxel x y) (w x) 0) xs ≡ w y) ys
    (λ y there. sum_by-same (λ x. cond (is_same_voxel x y) (w x) 0)
    (λ x. cond (is_same_voxel y x) (w y) 0) xs
    (All-follows (Contains xs)
    (λ x. cond {A = ℕ} (is_same_voxel x y) (w x) 0 ≡ cond {A = ℕ} (is_same_voxel y x) (w y) 0) xs
    (λ x _. turned x y w) (All-contains_itself xs))
    ∙ sym (weight_once y (w y) xs (in_xs y there))) (All-contains_itself ys))
  where
    w : Voxel → ℕ
    w x = cond (p x) 1 0

-- what is kept of a list by a test
pub kept_passes : (p : Voxel → Bool) (xs : List Voxel) (x : Voxel) → Contains xs x → p x ≡ true
    → Contains (filter p xs) x
kept_passes p [] x (k, l, is) h = absurd (omega arith)
kept_passes p (y ∷ ys) x (zero, l, is) h =
    let passes : p y ≡ true = ap p is ∙ h in
    let e : filter p (y ∷ ys) ≡ y ∷ filter p ys =
    ap (λ test. cond test (y ∷ filter p ys) (filter p ys)) passes in
    subst (λ (a : Voxel). Contains (filter p (y ∷ ys)) a) is
    (subst (λ l. Contains l y) (sym e) (on_first (filter p ys) y))
kept_passes p (y ∷ ys) x (suc k, l, is) h =
    by_test (p y) (kept_passes p ys x (k, omega arith, is) h)
  where
    by_test : (test : Bool) → Contains (filter p ys) x
        → Contains (cond test (y ∷ filter p ys) (filter p ys)) x
    by_test true there = on_rest y (filter p ys) x there
    by_test false there = there

pub kept_from : (p : Voxel → Bool) (xs : List Voxel) (x : Voxel) → Contains (filter p xs) x
    → Contains xs x × (p x ≡ true)
kept_from p xs x there = (
  All-contains (Contains xs) (filter p xs) x
      (All-filter p (Contains xs) xs (All-contains_itself xs)) there,
  All-contains (λ k. p k ≡ true) (filter p xs) x (filter_passes p xs) there,
)

-- a voxel isn't kept more often than it is there
pub times_kept : (p : Voxel → Bool) (k : Voxel) (xs : List Voxel)
    → times k (filter p xs) ≤ times k xs
times_kept p k [] = omega arith
times_kept p k (x ∷ xs) = by_test (times_kept p k xs) (p x)
  where
    by_test : times k (filter p xs) ≤ times k xs → (test : Bool)
        → times k (cond test (x ∷ filter p xs) (filter p xs)) ≤ times k (x ∷ xs)
    by_test later true =
        (let one = sum_by-cons (λ v. cond {A = ℕ} (is_same_voxel k v) 1 0) x (filter p xs) in
        let all = sum_by-cons (λ v. cond {A = ℕ} (is_same_voxel k v) 1 0) x xs in
        omega (arith, later, one, all))
    by_test later false =
        (let all = sum_by-cons (λ v. cond {A = ℕ} (is_same_voxel k v) 1 0) x xs in
        omega (arith, later, all))
