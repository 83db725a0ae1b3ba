-- The list of the voxels from the origin on is the walk along the segment.
use Rattle.std.proofs.Common.{◌≡◌, ◌≢◌, ℕ, List, [], ◌∷◌, refl, arith, sym, ap, subst}
use Rattle.std.proofs.Common.{slice_index_or, AllPairs}
use Rattle.oct_ray.specs.Segment.{IsPlaceOf, Precedes, IsWalkAlong}
use Rattle.oct_ray.specs.Axis.{HasRoom}
use Rattle.oct_ray.specs.Axis.{axis_keys}
use Rattle.oct_ray.specs.declared.axis.Axis.{Axis}
use Rattle.oct_key.specs.Voxel.{Voxel}
use Rattle.oct_key.specs.declared.point.Point.{Point}
use Rattle.oct_ray.proofs.Moments.{Moment}
use Rattle.oct_ray.proofs.Crossings.{crossings_left}
use Rattle.oct_ray.proofs.Visits.{IsAt, IsReady, VisitAt, InTurnBy, keys_visited, visits_listed}
use Rattle.oct_ray.proofs.Visits.{keys_in_turn, voxel_after, same_key}
use Rattle.std.proofs.lemmas.List.Kept.{AllPairs-cons}
use Rattle.oct_ray.proofs.KeyLists.{listed_at, contains_listed}
use Rattle.oct_ray.proofs.Faces.{IsLaid, laid_timed, place, within_at, at_within}

-- the three axes of the segment from o to e, at o
pub record IsSet (edge : ℕ) (o e : Point) (x y z : Axis) : Type 0 where
  pub is_x : HasRoom x
  pub is_y : HasRoom y
  pub is_z : HasRoom z
  pub laid_x : IsLaid edge o.x e.x x
  pub laid_y : IsLaid edge o.y e.y y
  pub laid_z : IsLaid edge o.z e.z z

pub set_ready : (edge : ℕ) (o e : Point) (x y z : Axis) → IsSet edge o e x y z
    → IsReady x y z (place 0 1)
set_ready edge o e x y z l = record {
  is_x = l.is_x;
  is_y = l.is_y;
  is_z = l.is_z;
  timed_x = laid_timed edge o.x e.x x l.laid_x;
  timed_y = laid_timed edge o.y e.y y l.laid_y;
  timed_z = laid_timed edge o.z e.z z l.laid_z;
  moment = (omega arith, omega arith);
  ends = omega arith;
}

place_equal : (edge : ℕ) (o e : Point) (k l : Voxel) (p q : ℕ) → k ≡ l → IsPlaceOf edge o e k p q
    → IsPlaceOf edge o e l p q
place_equal edge o e k l p q h w = subst (λ (n : Voxel). IsPlaceOf edge o e n p q) h w

moment_place : (m : Moment) → m.late ≡ 0 → m ≡ place m.numerator m.denominator
moment_place m h =
    ap (λ (n : ℕ). let w : Moment = record {
      numerator = m.numerator;
      denominator = m.denominator;
      late = n;
    } in w) h

at_place : (a : Axis) (j : ℕ) (m : Moment) → m.late ≡ 0 → IsAt a j m
    → IsAt a j (place m.numerator m.denominator)
at_place a j m h i = subst (λ (w : Moment). IsAt a j w) (moment_place m h) i

-- a visit is a place
visit_place : (edge : ℕ) (o e : Point) (x y z : Axis) → IsSet edge o e x y z
    → (k : Voxel) (m : Moment) → VisitAt x y z (place 0 1) k m
    → IsPlaceOf edge o e k m.numerator m.denominator
visit_place edge o e x y z l k m v =
    place_equal edge o e (voxel_after x y z v.i v.j v.h) k m.numerator m.denominator (sym v.key_is)
    (record {
      positive = v.positive;
      within = v.within;
      x =
          at_within edge o.x e.x x l.is_x l.laid_x v.i m.numerator m.denominator v.positive v.within
          (at_place x v.i m v.prompt v.at_x);
      y =
          at_within edge o.y e.y y l.is_y l.laid_y v.j m.numerator m.denominator v.positive v.within
          (at_place y v.j m v.prompt v.at_y);
      z =
          at_within edge o.z e.z z l.is_z l.laid_z v.h m.numerator m.denominator v.positive v.within
          (at_place z v.h m v.prompt v.at_z);
    })

-- and a place is a visit
pub place_visit : (edge : ℕ) (o e : Point) (x y z : Axis) → IsSet edge o e x y z
    → (k : Voxel) (p q : ℕ) → IsPlaceOf edge o e k p q → VisitAt x y z (place 0 1) k (place p q)
place_visit edge o e x y z l k p q w =
    let ax = within_at edge o.x e.x x l.laid_x k.x p q w.positive w.within w.x in
    let ay = within_at edge o.y e.y y l.laid_y k.y p q w.positive w.within w.y in
    let az = within_at edge o.z e.z z l.laid_z k.z p q w.positive w.within w.z in
    record {
      positive = w.positive;
      prompt = refl;
      within = w.within;
      from = omega arith;
      i = ax.0;
      j = ay.0;
      h = az.0;
      at_x = ax.1;
      at_y = ay.1;
      at_z = az.1;
      key_is = same_key _ _ _ _ _ _ ax.2 ay.2 az.2;
    }

-- a list in the order of its visits is one in the order of their places
turn_from : (edge : ℕ) (o e : Point) (ks : List Voxel)
    → InTurnBy (λ k m. IsPlaceOf edge o e k m.numerator m.denominator) ks
    → AllPairs (Precedes edge o e) ks
turn_from edge o e [] t = λ i j d h l. absurd (omega arith)
turn_from edge o e (k ∷ ks) t =
    AllPairs-cons (Precedes edge o e) k ks
    (λ i d h. let w = t.0 (slice_index_or ks i d) (listed_at ks i d h) in
    record {
      p = w.first.numerator;
      q = w.first.denominator;
      p' = w.second.numerator;
      q' = w.second.denominator;
      place =
          w.is_first;
      place' = w.is_second;
      less = w.less;
    })
    (turn_from edge o e ks t.1)

-- and no voxel stands in it twice
once_from : (P : Voxel → Moment → Type 0) (ks : List Voxel) → InTurnBy P ks
    → AllPairs (λ k l. k ≢ l) ks
once_from P [] t = λ i j d h l. absurd (omega arith)
once_from P (k ∷ ks) t =
    AllPairs-cons (λ k l. k ≢ l) k ks
    (λ i d h. (t.0 (slice_index_or ks i d) (listed_at ks i d h)).differ)
    (once_from P ks t.1)

-- the voxels from the origin on are the walk along the segment
pub keys_walk : (edge : ℕ) (o e : Point) (x y z : Axis) → IsSet edge o e x y z
    → IsWalkAlong edge o e (axis_keys (crossings_left x y z) x y z)
keys_walk edge o e x y z l =
    let r = set_ready edge o e x y z l in
    let ks = axis_keys (crossings_left x y z) x y z in
    let P : Voxel → Moment → Type 0 = λ k m. IsPlaceOf edge o e k m.numerator m.denominator in
    let turns : InTurnBy P ks =
    keys_in_turn (crossings_left x y z) x y z (place 0 1) P r
    (λ k m v. visit_place edge o e x y z l k m v) in
    record {
      met = λ i d h.
          let k = slice_index_or ks i d in
          let v = keys_visited (crossings_left x y z) x y z (place 0 1) r k (listed_at ks i d h) in
          record {
            p = v.place.numerator;
            q = v.place.denominator;
            place = visit_place edge o e x y z l k v.place v.visit;
          };
      listed =
          λ k w. contains_listed ks k
          (visits_listed (crossings_left x y z) x y z (place 0 1) r (omega arith) k
          (place w.p w.q) (place_visit edge o e x y z l k w.p w.q w.place));
      once = once_from P ks turns;
      in_order = turn_from edge o e ks turns;
    }
