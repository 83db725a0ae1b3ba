-- The first voxel of a walk that stops a cast precedes all others that do.
use Rattle.std.proofs.Common.{◌≡◌, ◌≢◌, ℕ, zero, suc, ◌<◌, Bool, true, false, cond, List, [], ◌∷◌}
use Rattle.std.proofs.Common.{length, slice_index_or, Option, Some, None, Contains, refl, sym, ap}
use Rattle.std.proofs.Common.{subst, ◌∙◌, arith, inl, inr}
use Rattle.std.specs.List.{find}
use Rattle.std.proofs.lemmas.Bool.{false≢true, cases_lt, cases_eq}
use Rattle.oct_key.specs.Voxel.{Voxel}
use Rattle.oct_key.specs.declared.point.Point.{Point}
use Rattle.oct_odds.specs.declared.event.Class.{Class}
use Rattle.oct_odds.specs.declared.event.Class.TheVariants as class
use Rattle.oct_values.specs.Classes.{Classes}
use Rattle.oct_ray.specs.Segment.{IsWalkAlong, Meets, Precedes}
use Rattle.oct_ray.specs.Met.{met_by}
use Rattle.oct_cast.specs.declared.outcome.Cast.{Cast}
use Rattle.oct_cast.specs.Cast.{stops, stopped_at, answer_for, cast_through, cast_along, Stops}
use Rattle.oct_cast.specs.Cast.{StopsFirst, IsRight}

-- the first voxel of a list that passes a test, and where it stands
record IsFirst (p : Voxel → Bool) (ks : List Voxel) (k : Voxel) : Type 0 where
  pub place : ℕ
  pub within : place < length ks
  pub is : (d : Voxel) → slice_index_or ks place d ≡ k
  pub passes : p k ≡ true
  pub before : (j : ℕ) (d : Voxel) → j < place → p (slice_index_or ks j d) ≡ false

some_is : (a b : Voxel) → ◌≡◌ {A = Option Voxel} (Some a) (Some b) → a ≡ b
some_is a b e = cc

first_is : (p : Voxel → Bool) (x : Voxel) (xs : List Voxel) (k : Voxel) → p x ≡ true → x ≡ k
    → IsFirst p (x ∷ xs) k
first_is p x xs k passes is = record {
  place = 0;
  within = omega arith;
  is = λ d. is;
  passes = ap p (sym is) ∙ passes;
  before = λ j d l. absurd (omega arith);
}

first_later : (p : Voxel → Bool) (x : Voxel) (xs : List Voxel) (k : Voxel) → p x ≡ false
    → IsFirst p xs k → IsFirst p (x ∷ xs) k
first_later p x xs k fails f = record {
  place = suc f.place;
  within = let l = f.within in omega arith;
  is = λ d. f.is d;
  passes = f.passes;
  before = before;
}
  where
    before : (j : ℕ) (d : Voxel) → j < suc f.place → p (slice_index_or (x ∷ xs) j d) ≡ false
    before zero d l = fails
    before (suc j) d l = f.before j d (omega arith)

found_first : (p : Voxel → Bool) (ks : List Voxel) (k : Voxel) → find p ks ≡ Some k → IsFirst p ks k
found_first p [] k e = cc
found_first p (x ∷ xs) k e = by_test (found_first p xs k) (p x) refl
  where
    by_test : (find p xs ≡ Some k → IsFirst p xs k) → (b : Bool) → p x ≡ b → IsFirst p (x ∷ xs) k
    by_test later true h = first_is p x xs k h
        (some_is x k (sym (ap (λ t. cond t (Some x) (find p xs)) h) ∙ e))
    by_test later false h = first_later p x xs k h
        (later (sym (ap (λ t. cond t (Some x) (find p xs)) h) ∙ e))

some_none : (a : Voxel) → ◌≡◌ {A = Option Voxel} (Some a) None → ⊥
some_none a e = cc

none_found : (p : Voxel → Bool) (ks : List Voxel) (k : Voxel) → find p ks ≡ None → Contains ks k
    → p k ≡ false
none_found p [] k e (i, l, is) = absurd (omega arith)
none_found p (x ∷ xs) k e (i, l, is) = by_test (none_found p xs k) (p x) refl i l is
  where
    by_place : (Contains xs k → p k ≡ false) → p x ≡ false → (i : ℕ) → i < length (x ∷ xs)
        → slice_index_or (x ∷ xs) i k ≡ k → p k ≡ false
    by_place later h zero l is = ap p (sym is) ∙ h
    by_place later h (suc i) l is = later (i, omega arith, is)

    by_test : (find p xs ≡ None → Contains xs k → p k ≡ false) → (b : Bool) → p x ≡ b → (i : ℕ)
        → i < length (x ∷ xs) → slice_index_or (x ∷ xs) i k ≡ k → p k ≡ false
    by_test later true h i l is = absurd
        (some_none x (sym (ap (λ t. cond t (Some x) (find p xs)) h) ∙ e))
    by_test later false h i l is = by_place (later (sym (ap (λ t. cond t (Some x) (find p xs)) h)
        ∙ e)) h i l is

-- of a walk along a segment the first voxel that stops the cast precedes all others that do
stops_first : (edge : ℕ) (o e : Point) (ignore : Bool) (classes : Classes) (ks : List Voxel)
    (k : Voxel) → IsWalkAlong edge o e ks
    → IsFirst (λ k. stops ignore (classes k)) ks k → StopsFirst edge o e ignore classes k
stops_first edge o e ignore classes ks k w f = record {
  stops = record {
    met = subst (Meets edge o e) (f.is k) (w.met f.place k f.within);
    class =
        f.passes;
  };
  first = λ l s other. (let (j, bound, is) = w.listed l s.met in after l s other j bound is);
}
  where
    after : (l : Voxel) → Stops edge o e ignore classes l → l ≢ k → (j : ℕ) → j < length ks
        → slice_index_or ks j l ≡ l → Precedes edge o e k l
    after l s other j bound is = elim (cases_lt j f.place) [
      | inl early ↦ absurd (false≢true (sym (ap (λ q. stops ignore (classes q)) (sym is)
          ∙ f.before j l early) ∙ s.class))
      | inr late ↦ elim (cases_eq j f.place) [
        | inl same ↦ absurd (other (sym is ∙ ap (λ n. slice_index_or ks n l) same ∙ f.is l))
        | inr differ ↦ subst (λ q. Precedes edge o e q l) (f.is l)
            (subst (Precedes edge o e (slice_index_or ks f.place l)) is
            (w.in_order f.place j l (omega arith) bound))
      ]
    ]

-- so the answer over a walk is right
pub right_answer : (edge : ℕ) (o e : Point) (ignore : Bool) (classes : Classes) (ks : List Voxel)
    → IsWalkAlong edge o e ks
    → IsRight edge o e ignore classes (cast_through ignore classes ks)
right_answer edge o e ignore classes ks w = by_found (find (λ k. stops ignore (classes k)) ks) refl
  where
    by_class : (k : Voxel) → StopsFirst edge o e ignore classes k → (c : Class) → classes k ≡ c
        → IsRight edge o e ignore classes (stopped_at c k)
    by_class k s class.Occupied is = (s, is)
    by_class k s class.Unknown is = (s, is)
    by_class k s class.Free is = absurd (false≢true (sym (ap (stops ignore) is) ∙ s.stops.class))

    by_found : (found : Option Voxel) → find (λ k. stops ignore (classes k)) ks ≡ found
        → IsRight edge o e ignore classes (answer_for classes found)
    by_found None h = λ k s. false≢true
        (sym (none_found (λ k. stops ignore (classes k)) ks k h (w.listed k s.met)) ∙ s.class)
    by_found (Some k) h = by_class k (stops_first edge o e ignore classes ks k w
        (found_first (λ k. stops ignore (classes k)) ks k h)) (classes k) refl

-- and so is the answer along the segment
pub right_along : (edge res : ℕ) (o e : Point) (ignore : Bool) (classes : Classes)
    (ks : List Voxel) (answer : Cast) → edge ≡ res → IsWalkAlong edge o e ks
    → ks ≡ met_by edge o e → answer ≡ cast_along res o e ignore classes
    → IsRight res o e ignore classes answer
right_along edge res o e ignore classes ks answer same w computed is =
    subst (IsRight res o e ignore classes) (sym (is
    ∙ ap (λ n. cast_along n o e ignore classes) (sym same)))
    (subst (λ n. IsRight n o e ignore classes (cast_along edge o e ignore classes)) same
    (subst (λ l. IsRight edge o e ignore classes (cast_through ignore classes l)) computed
    (right_answer edge o e ignore classes ks w)))

pub exact_along : (edge res : ℕ) (o e : Point) (ignore : Bool) (classes : Classes)
    (ks : List Voxel) (answer : Cast) → edge ≡ res → ks ≡ met_by edge o e
    → answer ≡ cast_through ignore classes ks → answer ≡ cast_along res o e ignore classes
exact_along edge res o e ignore classes ks answer same computed is =
    is ∙ ap (cast_through ignore classes) computed ∙ ap (λ n. cast_along n o e ignore classes) same
