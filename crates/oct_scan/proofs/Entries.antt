-- What is left of a way where it comes to a box keeps all voxels of the box.
use Rattle.std.proofs.Common.{◌≡◌, ◌≢◌, ℕ, false, inl, inr, List, [], ◌∷◌, ◌++◌, refl, sym}
use Rattle.std.proofs.Common.{subst, ◌∙◌, ap, arith}
use Rattle.std.specs.Prelude.{min, max}
use Rattle.std.specs.List.{Contains}
use Rattle.std.proofs.lemmas.Bool.{cases_Bool}
use Rattle.std.proofs.lemmas.List.Elements.{All-contains}
use Rattle.oct_key.specs.Voxel.{Voxel}
use Rattle.oct_key.specs.Boxes.{Window, IsBetween, IsInBox, is_in_box}
use Rattle.oct_key.proofs.Boxes.{in_box_exactly}
use Rattle.oct_brick.proofs.Lists.{contains_here, contains_later, pairs_head, pairs_tail}
use Rattle.oct_ray.specs.Given.{IsRestOf}
use Rattle.oct_scan.specs.Entry.{IsBefore, IsWay, IsWalkTo}
use Rattle.oct_scan.specs.Gathered.{IsSpanned}
use Rattle.oct_scan.proofs.Ends.{end_later}
use Rattle.oct_scan.proofs.Kept.{kept_without}

-- the whole way
pub whole_way : (box : Window) (start end : Voxel) (way walk : List Voxel) → walk ≡ way
    → IsWay start end way → IsWalkTo box start end way walk
whole_way box start end way walk is h =
    subst (λ ks. IsWalkTo box start end way ks) (sym is) (record { is_way = h; same = refl })

-- a voxel that comes before another lies between that and the start
pub comes_before : (start end k l : Voxel) → IsSpanned start end k → IsSpanned k end l
    → IsSpanned start l k
comes_before start end k l first later = record {
  x = on_axis start.x end.x k.x l.x first.x later.x;
  y = on_axis start.y end.y k.y l.y first.y later.y;
  z = on_axis start.z end.z k.z l.z first.z later.z;
}
  where
    on_axis : (s e k l : ℕ) → IsBetween (min s e) (max s e) k → IsBetween (min k e) (max k e) l
        → IsBetween (min s l) (max s l) k
    on_axis s e k l (a, b) (c, d) = (omega (arith, a, b, c, d), omega (arith, a, b, c, d))

some_left : (before ks : List Voxel) (l : Voxel) → before ++ l ∷ ks ≢ []
some_left [] ks l e = cc
some_left (k ∷ before) ks l e = cc

is_left : (before ks : List Voxel) (l : Voxel) → Contains (before ++ l ∷ ks) l
is_left [] ks l = contains_here l ks
is_left (k ∷ before) ks l = contains_later k l (before ++ l ∷ ks) (is_left before ks l)

-- what comes before the first voxel that is left lies outside the box
entered : (box : Window) (start end l : Voxel) (before ks : List Voxel)
    → ((k : Voxel) → IsSpanned start l k → IsInBox box.lo box.hi k → ⊥)
    → IsWay start end (before ++ l ∷ ks) → IsWalkTo box start end (before ++ l ∷ ks) (l ∷ ks)
entered box start end l [] ks apart h = record { is_way = h; same = refl }
entered box start end l (k ∷ before) ks apart h =
    let later = before ++ l ∷ ks in
    let onward = pairs_tail (λ k l. IsSpanned k end l) k later h.onward in
    let rest = entered box start end l before ks apart (record {
      ends = (end_later end k later (some_left before ks l) h.ends).1;
      between = λ j there. h.between j (contains_later k j later there);
      onward = onward;
    }) in
    let first = h.between k (contains_here k later) in
    let next = All-contains (λ l. IsSpanned k end l) later l
    (pairs_head (λ k l. IsSpanned k end l) k later h.onward) (is_left before ks l) in
    let outside : is_in_box box.lo box.hi k ≡ false =
    elim (cases_Bool (is_in_box box.lo box.hi k)) [
      | inl e ↦ absurd (apart k (comes_before start end k l first next)
          ((in_box_exactly box.lo box.hi k).0 e))
      | inr e ↦ e
    ] in
    record {
      is_way = rest.is_way;
      same = rest.same ∙ sym (kept_without box k later outside);
    }

pub rest_of_way : (box : Window) (start end : Voxel) (way walk : List Voxel) → IsRestOf way walk
    → IsBefore box start walk → IsWay start end way → IsWalkTo box start end way walk
rest_of_way box start end way walk rest begins h =
    let same : way ≡ rest.before ++ begins.first ∷ begins.rest = rest.parted
    ∙ ap (λ ks. rest.before ++ ks) begins.begun in
    subst (λ ks. IsWalkTo box start end way ks) (sym begins.begun)
    (subst (λ ks. IsWalkTo box start end ks (begins.first ∷ begins.rest)) (sym same)
    (entered box start end begins.first rest.before begins.rest begins.apart
    (subst (λ ks. IsWay start end ks) same h)))
