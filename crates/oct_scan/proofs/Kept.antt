-- The voxels of a list that lie in a box, where one stands.
use Rattle.std.proofs.Common.{◌≡◌, ◌≤◌, Bool, true, false, cond, Option, Some, None, List, [], ◌∷◌}
use Rattle.std.proofs.Common.{length, refl, sym, subst, ◌∙◌, ap, arith, inl, inr}
use Rattle.std.specs.List.{Contains, filter}
use Rattle.std.proofs.lemmas.Bool.{cases_Bool}
use Rattle.std.proofs.lemmas.List.Elements.{All-contains, All-filter, filter_passes}
use Rattle.std.proofs.lemmas.List.Sums.{length-filter, count_by-le-length}
use Rattle.oct_key.specs.Voxel.{Voxel}
use Rattle.oct_key.specs.Boxes.{Window, IsInBox, IsInWindow, is_in_box}
use Rattle.oct_key.proofs.Boxes.{in_box_exactly}
use Rattle.oct_brick.proofs.Lists.{contains_none, contains_here, contains_later, contains_cases}
use Rattle.oct_brick.proofs.Lists.{all_contained}
use Rattle.oct_scan.specs.Gathered.{kept}

-- the first element passes, or it doesn't
with_first : {X : Type 0} (p : X → Bool) (x : X) (xs : List X) → p x ≡ true
    → filter p (x ∷ xs) ≡ x ∷ filter p xs
with_first p x xs h = ap (λ test. cond test (x ∷ filter p xs) (filter p xs)) h

without_first : {X : Type 0} (p : X → Bool) (x : X) (xs : List X) → p x ≡ false
    → filter p (x ∷ xs) ≡ filter p xs
without_first p x xs h = ap (λ test. cond test (x ∷ filter p xs) (filter p xs)) h

-- what passes of a list is in it
pub passed_from : {X : Type 0} (p : X → Bool) (xs : List X) (x : X) → Contains (filter p xs) x
    → Contains xs x × (p x ≡ true)
passed_from p xs x h = (
  All-contains (λ y. Contains xs y) (filter p xs) x
      (All-filter p (λ y. Contains xs y) xs (all_contained (λ y. Contains xs y) xs (λ y m. m))) h,
  All-contains (λ y. p y ≡ true) (filter p xs) x (filter_passes p xs) h,
)

pub passed_listed : {X : Type 0} (p : X → Bool) (xs : List X) (x : X) → Contains xs x → p x ≡ true
    → Contains (filter p xs) x
passed_listed p [] x h t = absurd (contains_none x h)
passed_listed p (y ∷ ys) x h t = elim (contains_cases y x ys h) [
  | inl e ↦
      let first : filter p (y ∷ ys) ≡ y ∷ filter p ys = with_first p y ys (ap p e ∙ t) in
      subst (λ l. Contains l x) (sym first)
      (subst (λ v. Contains (y ∷ filter p ys) v) e (contains_here y (filter p ys)))
  | inr m ↦
      let rest = passed_listed p ys x m t in
      elim (cases_Bool (p y)) [
        | inl e ↦ subst (λ l. Contains l x) (sym (with_first p y ys e))
            (contains_later y x (filter p ys) rest)
        | inr e ↦ subst (λ l. Contains l x) (sym (without_first p y ys e)) rest
      ]
]

all_passed : {X : Type 0} (p : X → Bool) (xs : List X) → ((x : X) → Contains xs x → p x ≡ true)
    → filter p xs ≡ xs
all_passed p [] h = refl
all_passed p (x ∷ xs) h = with_first p x xs (h x (contains_here x xs))
    ∙ ap (λ l. x ∷ l) (all_passed p xs (λ y m. h y (contains_later x y xs m)))

none_passed : {X : Type 0} (p : X → Bool) (xs : List X) → ((x : X) → Contains xs x → p x ≡ false)
    → filter p xs ≡ []
none_passed p [] h = refl
none_passed p (x ∷ xs) h = without_first p x xs (h x (contains_here x xs))
    ∙ none_passed p xs (λ y m. h y (contains_later x y xs m))

-- what is kept lies in the list and in the box, and all that does is kept
pub kept_from : (window : Option Window) (ks : List Voxel) (k : Voxel)
    → Contains (kept window ks) k → Contains ks k × IsInWindow window k
kept_from None ks k h = (h, tt)
kept_from (Some box) ks k h = let r = passed_from (is_in_box box.lo box.hi) ks k h in
    (r.0, (in_box_exactly box.lo box.hi k).0 r.1)

pub kept_listed : (window : Option Window) (ks : List Voxel) (k : Voxel) → Contains ks k
    → IsInWindow window k → Contains (kept window ks) k
kept_listed None ks k h within = h
kept_listed (Some box) ks k h within =
    passed_listed (is_in_box box.lo box.hi) ks k h ((in_box_exactly box.lo box.hi k).1 within)

pub kept_few : (window : Option Window) (ks : List Voxel) → length (kept window ks) ≤ length ks
kept_few None ks = omega arith
kept_few (Some box) ks =
    omega (
      arith,
      length-filter (is_in_box box.lo box.hi) ks,
      count_by-le-length (is_in_box box.lo box.hi) ks,
    )

-- one voxel after the other
pub kept_first : (box : Window) (k : Voxel) (ks : List Voxel) → is_in_box box.lo box.hi k ≡ true
    → kept (Some box) (k ∷ ks) ≡ k ∷ kept (Some box) ks
kept_first box k ks h = with_first (is_in_box box.lo box.hi) k ks h

pub kept_without : (box : Window) (k : Voxel) (ks : List Voxel) → is_in_box box.lo box.hi k ≡ false
    → kept (Some box) (k ∷ ks) ≡ kept (Some box) ks
kept_without box k ks h = without_first (is_in_box box.lo box.hi) k ks h

-- a list in the box, and one outside
pub kept_all : (box : Window) (ks : List Voxel)
    → ((k : Voxel) → Contains ks k → IsInBox box.lo box.hi k) → kept (Some box) ks ≡ ks
kept_all box ks h = all_passed (is_in_box box.lo box.hi) ks
    (λ k m. (in_box_exactly box.lo box.hi k).1 (h k m))

pub kept_none : (box : Window) (ks : List Voxel)
    → ((k : Voxel) → Contains ks k → IsInBox box.lo box.hi k → ⊥) → kept (Some box) ks ≡ []
kept_none box ks h = none_passed (is_in_box box.lo box.hi) ks
    (λ k m. elim (cases_Bool (is_in_box box.lo box.hi k)) [
      | inl e ↦ absurd (h k m ((in_box_exactly box.lo box.hi k).0 e))
      | inr e ↦ e
    ])
