-- A walk begins at the voxel of the origin and stops at that of the end.
use Rattle.std.proofs.Common.{◌≡◌, ℕ, zero, suc, ◌+◌, ◌-◌, ◌*◌, ◌<◌, ◌≤◌, Bool, true, false, List}
use Rattle.std.proofs.Common.{[], ◌∷◌, ◌++◌, refl, arith, inl, inr, sym, ◌∙◌, ap, length}
use Rattle.std.proofs.Common.{length-append, eqb, ℤ, Option, Some, None, IsSome, slice_get}
use Rattle.std.proofs.lemmas.Bool.{cases_lt}
use Rattle.std.proofs.lemmas.Int.{ints}
use Rattle.std.proofs.Math.Nat.{mul-le-mul_right}
use Rattle.oct_key.specs.Voxel.{Voxel, HoldsOnAxis, Holds, key_at}
use Rattle.oct_key.specs.declared.point.Point.{Point}
use Rattle.oct_key.proofs.Faces.{Holds-key_at}
use Rattle.oct_ray.specs.Segment.{IsBetweenFaces, IsPlaceOf}
use Rattle.oct_ray.specs.Axis.{HasRoom, axis_after, axis_keys, crosses, axis_voxel}
use Rattle.oct_ray.specs.Track.{AreTracks, keys_left}
use Rattle.oct_ray.specs.declared.axis.Axis.{Axis}
use Rattle.oct_ray.specs.declared.track.Track.{Track}
use Rattle.oct_ray.proofs.Moments.{Moment, NotAfter, IsMoment}
use Rattle.oct_ray.proofs.Moments.{moment_lt_le}
use Rattle.oct_ray.proofs.Crossings.{crossings_left, crosses-crossings, axis_after-HasRoom}
use Rattle.oct_ray.proofs.Crossings.{crossing, lateness-le, crossings_left-fall}
use Rattle.oct_ray.proofs.KeyLists.{zero_is, keys_end, keys_suc, zero_from}
use Rattle.oct_ray.proofs.Tracks.{keys_are, make_walk}
use Rattle.oct_ray.proofs.Visits.{IsAt, IsDueAfter, IsReady, VisitAt, at_start, key_after}
use Rattle.oct_ray.proofs.Visits.{key_after-axis_after, key_after-zero, same_key, voxel_after}
use Rattle.oct_ray.proofs.Faces.{place}
use Rattle.oct_ray.proofs.Segments.{IsSet, place_visit, set_ready}

-- a later crossing of an axis comes no earlier
crossing_order : (a : Axis) (i j : ℕ) → i ≤ j → NotAfter (crossing a i) (crossing a j)
crossing_order a i j h =
    let edges : i * a.edge ≤ j * a.edge = mul-le-mul_right a.edge h in
    let spans : (a.distance + i * a.edge) * a.span ≤ (a.distance + j * a.edge) * a.span =
    mul-le-mul_right a.span (omega arith) in
    omega arith

-- an axis isn't fewer and more crossings on at one moment
at_two : (a : Axis) (i j : ℕ) (m : Moment) → HasRoom a → IsMoment m → IsAt a i m → IsAt a j m
    → i < j → ⊥
at_two a i j m ia im at_i at_j h =
    let is : IsMoment (crossing a i) = (ia.spans, lateness-le a) in
    let js : IsMoment (crossing a (j - 1)) = (ia.spans, lateness-le a) in
    let before =
    moment_lt_le m (crossing a i) (crossing a (j - 1)) im is js
    (at_i.still (omega (arith, at_j.within))) (crossing_order a i (j - 1) (omega arith)) in
    let past = at_j.past (j - 1) (omega arith) in
    absurd (omega arith)

-- at a moment an axis is this many crossings on, and no other number
at_once : (a : Axis) (i j : ℕ) (m : Moment) → HasRoom a → IsMoment m → IsAt a i m → IsAt a j m
    → i ≡ j
at_once a i j m ia im at_i at_j = elim (cases_lt i j) [
  | inl less ↦ absurd (at_two a i j m ia im at_i at_j less)
  | inr not_less ↦ elim (cases_lt j i) [
    | inl more ↦ absurd (at_two a j i m ia im at_j at_i more)
    | inr not_more ↦ omega arith
  ]
]

-- at a place only one voxel is visited
visit_once : (x y z : Axis) (s : Moment) (k l : Voxel) (m : Moment) → IsReady x y z s
    → VisitAt x y z s k m → VisitAt x y z s l m → k ≡ l
visit_once x y z s k l m r v w =
    let im : IsMoment m = (v.positive, omega (arith, v.prompt)) in
    v.key_is ∙ same_key _ _ _ _ _ _
    (ap (key_after x) (at_once x v.i w.i m r.is_x im v.at_x w.at_x))
    (ap (key_after y) (at_once y v.j w.j m r.is_y im v.at_y w.at_y))
    (ap (key_after z) (at_once z v.h w.h m r.is_z im v.at_z w.at_z)) ∙ sym w.key_is

-- at the origin the axes stand where they begin
first_visit : (x y z : Axis) → IsReady x y z (place 0 1)
    → VisitAt x y z (place 0 1) (axis_voxel x y z) (place 0 1)
first_visit x y z r = record {
  positive = omega arith;
  prompt = refl;
  within = omega arith;
  from = omega arith;
  i = 0;
  j = 0;
  h = 0;
  at_x = at_start x (place 0 1) r.timed_x.after;
  at_y = at_start y (place 0 1) r.timed_y.after;
  at_z = at_start z (place 0 1) r.timed_z.after;
  key_is = sym (same_key _ _ _ _ _ _ (key_after-zero x) (key_after-zero y) (key_after-zero z));
}

-- at the end an axis has no crossing left
no_crossing_left : (a : Axis) (s : Moment) → IsDueAfter a s → IsAt a a.crossings (place 1 1)
no_crossing_left a s d = record {
  within = omega arith;
  past = λ i e. d.ends i (omega arith);
  still = λ h. absurd (omega arith);
}

-- the voxel where three axes have no crossing left
abbrev pub last_voxel : Axis → Axis → Axis → Voxel
last_voxel x y z = voxel_after x y z x.crossings y.crossings z.crossings

last_visit : (x y z : Axis) → IsReady x y z (place 0 1)
    → VisitAt x y z (place 0 1) (last_voxel x y z) (place 1 1)
last_visit x y z r = record {
  positive = omega arith;
  prompt = refl;
  within = omega arith;
  from = omega arith;
  i = x.crossings;
  j = y.crossings;
  h = z.crossings;
  at_x = no_crossing_left x (place 0 1) r.timed_x;
  at_y = no_crossing_left y (place 0 1) r.timed_y;
  at_z = no_crossing_left z (place 0 1) r.timed_z;
  key_is = refl;
}

-- what holds the origin has it as the place 0/1, and what holds the end has it as the place 1/1
first_between : (edge : ℕ) (o e : ℤ) (key : ℕ) → HoldsOnAxis edge key o
    → IsBetweenFaces edge o e key 0 1
first_between edge o e key h = record { lower = omega (arith, ints); upper = omega (arith, ints) }

last_between : (edge : ℕ) (o e : ℤ) (key : ℕ) → HoldsOnAxis edge key e
    → IsBetweenFaces edge o e key 1 1
last_between edge o e key h = record { lower = omega (arith, ints); upper = omega (arith, ints) }

first_place : (edge : ℕ) (o e : Point) (k : Voxel) → Holds edge k o → IsPlaceOf edge o e k 0 1
first_place edge o e k h = record {
  positive = omega arith;
  within = omega arith;
  x = first_between edge o.x e.x k.x h.x;
  y = first_between edge o.y e.y k.y h.y;
  z = first_between edge o.z e.z k.z h.z;
}

last_place : (edge : ℕ) (o e : Point) (k : Voxel) → Holds edge k e → IsPlaceOf edge o e k 1 1
last_place edge o e k h = record {
  positive = omega arith;
  within = omega arith;
  x = last_between edge o.x e.x k.x h.x;
  y = last_between edge o.y e.y k.y h.y;
  z = last_between edge o.z e.z k.z h.z;
}

-- the list of the axes begins where they stand
axis_keys_first : (f : ℕ) (x y z : Axis) → slice_get (axis_keys f x y z) 0 ≡ Some (axis_voxel x y z)
unfolding axis_keys
axis_keys_first zero x y z = refl
axis_keys_first (suc f) x y z = refl

-- an axis that takes a crossing goes on to the same last number
last_key : (t : Bool) (a : Axis) → (t ≡ true → 0 < a.crossings)
    → key_after (axis_after t a) (axis_after t a).crossings ≡ key_after a a.crossings
last_key true a h =
    let n : a.crossings ≡ (a.crossings - 1) + 1 = omega (arith, h refl) in
    key_after-axis_after true a (a.crossings - 1) ∙ ap (key_after a) (sym n)
last_key false a h = refl

key_at_rest : (a : Axis) → a.crossings ≡ 0 → a.key ≡ key_after a a.crossings
key_at_rest a h = sym (ap (key_after a) h ∙ key_after-zero a)

-- a list that ends with a voxel
pub record EndsWith (ks : List Voxel) (k : Voxel) : Type 0 where
  pub earlier : List Voxel
  pub is : ks ≡ earlier ++ k ∷ []

ends_alone : (ks : List Voxel) (l k : Voxel) → ks ≡ l ∷ [] → l ≡ k → EndsWith ks k
ends_alone ks l k h e = record { earlier = []; is = h ∙ ap (λ m. m ∷ []) e }

ends_later : (ks ls : List Voxel) (l m k : Voxel) → ks ≡ l ∷ ls → EndsWith ls m → m ≡ k
    → EndsWith ks k
ends_later ks ls l m k h w e = record {
  earlier = l ∷ w.earlier;
  is = h ∙ ap (λ ms. l ∷ ms) (w.is ∙ ap (λ n. w.earlier ++ n ∷ []) e);
}

-- the list of the axes ends where none has a crossing left
axis_keys_last : (f : ℕ) (x y z : Axis) → HasRoom x → HasRoom y → HasRoom z
    → crossings_left x y z ≤ f → EndsWith (axis_keys f x y z) (last_voxel x y z)
axis_keys_last zero x y z ix iy iz h =
    ends_alone _ (axis_voxel x y z) _
    (keys_end zero x y z (zero_is (crossings_left x y z) (omega arith)))
    (same_key _ _ _ _ _ _ (key_at_rest x (omega arith)) (key_at_rest y (omega arith))
    (key_at_rest z (omega arith)))
axis_keys_last (suc f) x y z ix iy iz h =
    elim (eqb (crossings_left x y z) 0) as
    (λ b. eqb (crossings_left x y z) 0 ≡ b
    → EndsWith (axis_keys (suc f) x y z) (last_voxel x y z)) [
      | true ↦ λ e.
          let none = zero_from (crossings_left x y z) e in
          ends_alone _ (axis_voxel x y z) _ (keys_end (suc f) x y z e)
          (same_key _ _ _ _ _ _ (key_at_rest x (omega arith)) (key_at_rest y (omega arith))
          (key_at_rest z (omega arith)))
      | false ↦ λ e.
          let fall = crossings_left-fall x y z ix iy iz e in
          ends_later _ _ (axis_voxel x y z) _ _ (keys_suc f x y z e)
          (axis_keys_last f (axis_after (crosses x y z) x) (axis_after (crosses y z x) y)
          (axis_after (crosses z x y) z)
          (axis_after-HasRoom (crosses x y z) x (crosses-crossings x y z) ix)
          (axis_after-HasRoom (crosses y z x) y (crosses-crossings y z x) iy)
          (axis_after-HasRoom (crosses z x y) z (crosses-crossings z x y) iz)
          (omega arith))
          (same_key _ _ _ _ _ _
          (last_key (crosses x y z) x (crosses-crossings x y z))
          (last_key (crosses y z x) y (crosses-crossings y z x))
          (last_key (crosses z x y) z (crosses-crossings z x y)))
    ] refl

-- the last element of a list that ends with a voxel
slice_get-end : (ks : List Voxel) (k : Voxel) → slice_get (ks ++ k ∷ []) (length ks) ≡ Some k
slice_get-end [] k = refl
slice_get-end (l ∷ ks) k = slice_get-end ks k

length-end : (ks : List Voxel) (k : Voxel) → length (ks ++ k ∷ []) - 1 ≡ length ks
length-end ks k = omega (arith, length-append ks (k ∷ []))

last_element : (ks : List Voxel) (k : Voxel) → EndsWith ks k → slice_get ks (length ks - 1) ≡ Some k
last_element ks k w =
    rw w.is
    (ap (slice_get (w.earlier ++ k ∷ [])) (length-end w.earlier k) ∙ slice_get-end w.earlier k)

same_some : (k l : Voxel) → Some k ≡ Some l → k ≡ l
same_some k l e = cc

-- the last voxel of three tracks is where their axes have no crossing left
pub last_of_tracks : (x y z : Track) (r : AreTracks x y z) (k : Voxel)
    → slice_get (keys_left x y z) (length (keys_left x y z) - 1) ≡ Some k
    → k ≡ last_voxel r.a r.b r.c
last_of_tracks x y z r k h =
    let keys = keys_are (make_walk x y z true) r refl in
    same_some k (last_voxel r.a r.b r.c)
    (sym h ∙ ap (λ ks. slice_get ks (length ks - 1)) keys
    ∙ last_element _ _ (axis_keys_last (crossings_left r.a r.b r.c) r.a r.b r.c r.is_a r.is_b r.is_c
    (omega arith)))

-- the list begins with the voxel that holds the origin
first_key : (edge : ℕ) (o e : Point) (x y z : Axis) (k : Voxel) (f : ℕ) → 1 ≤ edge
    → IsSet edge o e x y z → key_at edge o ≡ Some k
    → slice_get (axis_keys f x y z) 0 ≡ key_at edge o
first_key edge o e x y z k f positive l h =
    let v =
    place_visit edge o e x y z l k 0 1
    (first_place edge o e k (Holds-key_at edge o k positive h)) in
    axis_keys_first f x y z
    ∙ ap Some (visit_once x y z (place 0 1) (axis_voxel x y z) k (place 0 1)
    (set_ready edge o e x y z l) (first_visit x y z (set_ready edge o e x y z l)) v)
    ∙ sym h

-- and ends with the voxel that holds the end
last_of_keys : (edge : ℕ) (o e : Point) (x y z : Axis) (k : Voxel) (f : ℕ) → 1 ≤ edge
    → crossings_left x y z ≤ f → IsSet edge o e x y z → key_at edge e ≡ Some k
    → slice_get (axis_keys f x y z) (length (axis_keys f x y z) - 1) ≡ key_at edge e
last_of_keys edge o e x y z k f positive enough l h =
    let v =
    place_visit edge o e x y z l k 1 1
    (last_place edge o e k (Holds-key_at edge e k positive h)) in
    last_element _ _ (axis_keys_last f x y z l.is_x l.is_y l.is_z enough)
    ∙ ap Some (visit_once x y z (place 0 1) (last_voxel x y z) k (place 1 1)
    (set_ready edge o e x y z l) (last_visit x y z (set_ready edge o e x y z l)) v)
    ∙ sym h

-- for any answer that there is
pub first_is_origin : (edge : ℕ) (o e : Point) (x y z : Axis) (r : Option Voxel) (f : ℕ) → 1 ≤ edge
    → IsSet edge o e x y z → key_at edge o ≡ r → IsSome r
    → slice_get (axis_keys f x y z) 0 ≡ key_at edge o
first_is_origin edge o e x y z (Some k) f positive l h s = first_key edge o e x y z k f positive l h
first_is_origin edge o e x y z None f positive l h s = cc

pub last_is_end : (edge : ℕ) (o e : Point) (x y z : Axis) (r : Option Voxel) (f : ℕ) → 1 ≤ edge
    → crossings_left x y z ≤ f → IsSet edge o e x y z → key_at edge e ≡ r → IsSome r
    → slice_get (axis_keys f x y z) (length (axis_keys f x y z) - 1) ≡ key_at edge e
last_is_end edge o e x y z (Some k) f positive enough l h s =
    last_of_keys edge o e x y z k f positive enough l h
last_is_end edge o e x y z None f positive enough l h s = cc
